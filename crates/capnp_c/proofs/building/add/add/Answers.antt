-- The object is measured, and then appended where there is room for it.
use Rattle.std.proofs.Common.{◌+◌, ◌*◌, ℕ, drop, refl, sym, subst, arith, length-drop}
use Rattle.capnp_orphans.specs.Regions.{IsUsed, AppendsInRegion}
use Rattle.capnp_c.proofs.ObjectAddedToMessageLemmas.{never_ok, same_words, no_builder_adds, unwritten_adds, too_long_adds, full_region_adds, object_added}
use Rattle.capnp_c.proofs.building.add.add.Goals as goal

pub append_after_table-requires-clause-table : goal.append_after_table-requires-clause-table
append_after_table-requires-clause-table g c =
    let is = c.in-Some.ensures.0 in
    omega (arith, is.1.within, is.1.rooted, length-drop 8 c.args.region.now)

pub append_after_table-requires-clause-used : goal.append_after_table-requires-clause-used
append_after_table-requires-clause-used g c = subst (λ (n : ℕ). IsUsed (drop 8 c.args.region.now) n) (sym c.in-Some.ensures.1) c.in-Some.ensures.0.1

pub append_after_table-requires-clause-room : goal.append_after_table-requires-clause-room
append_after_table-requires-clause-room g c =
    let is = c.in-Some.ensures.0 in
    omega (arith, c.if-end-region.false, is.0, c.in-Some.ensures.1, length-drop 8 c.args.region.now)

pub returns-in_default : goal.returns-in_default
returns-in_default g c =
    no_builder_adds (g.O.Object.takes c.args.object.now) (g.O.Object.fails c.args.object.now) (g.O.Object.holds c.args.object.now) c.args.builder.now c.args.region.now c.in_default.ensures

pub returns-in-Err : goal.returns-in-Err
returns-in-Err g c =
    rw c.number.ensures (unwritten_adds (g.O.Object.takes c.args.object.now) (g.O.Object.fails c.args.object.now) (g.O.Object.holds c.args.object.now) c.args.builder.now c.args.region.now c.in-Err.error.kind
    c.in-Some.ensures.0 (λ words own. never_ok c.in-Err.error words (c.in-Err.ensures.found words own)) (λ kind fail. c.in-Err.ensures.exact kind fail))

pub returns-then-segment_words : goal.returns-then-segment_words
returns-then-segment_words g c =
    rw c.number-then-segment_words.ensures (too_long_adds (g.O.Object.takes c.args.object.now) (g.O.Object.fails c.args.object.now) (g.O.Object.holds c.args.object.now) c.args.builder.now c.args.region.now c.in-Ok.words
    c.in-Some.ensures.0 (λ other own. same_words c.in-Ok.words other (c.in-Ok.ensures.found other own)) (λ kind fail. c.in-Ok.ensures.exact kind fail)
    (omega (arith, c.if-segment_words.true, c.in-Some.ensures.1)))

pub returns-then-end-region : goal.returns-then-end-region
returns-then-end-region g c =
    rw c.number-then-end-region.ensures (full_region_adds (g.O.Object.takes c.args.object.now) (g.O.Object.fails c.args.object.now) (g.O.Object.holds c.args.object.now) c.args.builder.now c.args.region.now c.in-Ok.words
    c.in-Some.ensures.0 (λ other own. same_words c.in-Ok.words other (c.in-Ok.ensures.found other own)) (λ kind fail. c.in-Ok.ensures.exact kind fail)
    (λ long. absurd (omega (arith, long, c.if-segment_words.false, c.in-Some.ensures.1))) (λ room. absurd (omega (arith, room, c.if-end-region.true))))

pub returns : goal.returns
returns g c =
    object_added (g.O.Object.takes c.args.object.now) (g.O.Object.fails c.args.object.now) (g.O.Object.holds c.args.object.now) c.args.builder.now (record { used = c.args.builder.now.used + 8 * c.in-Ok.words }) c.args.region.now
    c.append_after_table.new.region c.in-Ok.words c.append_after_table.result c.in-Some.ensures.0 c.in-Ok.ensures.returned (λ kind fail. c.in-Ok.ensures.exact kind fail)
    (λ other own. same_words c.in-Ok.words other (c.in-Ok.ensures.found other own)) (λ long. absurd (omega (arith, long, c.if-segment_words.false, c.in-Some.ensures.1))) (omega (arith, c.if-end-region.false))
    (subst (λ (n : ℕ). AppendsInRegion (g.O.Object.holds c.args.object.now) c.in-Ok.words n (drop 8 c.args.region.now) (drop 8 c.append_after_table.new.region) c.append_after_table.result) c.in-Some.ensures.1
    c.append_after_table.ensures.appends) refl c.append_after_table.ensures.table c.append_after_table.ensures.len
