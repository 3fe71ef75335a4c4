-- Some bytes of the list at the root are others, and all else stays.
use Rattle.std.proofs.Common.{ℕ, ◌+◌, ◌*◌, List, length, Option, Some, ap, sym, subst, arith}
use Rattle.std.specs.Option.{option_copied}
use Rattle.capnp_layout.specs.Prelude.{numbers, none}
use Rattle.capnp_build.specs.Prelude.{Space, BuilderState, Built, HasNullRoot, IsBuilt, IsWritten, HasBytes, IsBytesSet}
use Rattle.capnp_build.specs.declared.arena.location.RootLocation.{RootLocation}
use Rattle.capnp_build.proofs.states.SegmentSizesAfterChangeLemmas.{got_low, got_none}
use Rattle.capnp_build.proofs.roots.NullRootTreeLemmas.{null_only}
use Rattle.capnp_build.proofs.writes.RootObjectWriteLemmas.{written_at, bytes_inside, bytes_room, bytes_rewritten, bytes_set, numbers_not_null}
use Rattle.capnp_build.proofs.arena.builder_arena.BuilderArena.write_bytes.Goals as goal

pub returns-in_default : goal.returns-in_default
returns-in_default g c =
    let spaces : List Space = c.self.inside.segments.spaces in
    let f = subst (λ (v : Built g.row.A.Denot). HasBytes v.spaces c.args.index (length c.args.bytes.now)) (sym c.self.view_is) c.requires in
    let r : HasNullRoot spaces = subst (λ (o : Option RootLocation). IsBuilt spaces o) c.in_default.is c.self.invariant in
    absurd (numbers_not_null f.values (null_only spaces (numbers 2 f.values) none f.traversed r f.is_at))

pub returns-in_default-get : goal.returns-in_default-get
returns-in_default-get g c =
    let spaces : List Space = c.self.inside.segments.spaces in
    let p : IsBuilt spaces (Some c.in-Some.location) = subst (λ (o : Option RootLocation). IsBuilt spaces o) c.in-Some.is c.self.invariant in
    absurd (got_none spaces c.in-Some.location.segment (option_copied c.get.result) p.2.body_is.within c.get.ensures (ap option_copied c.in_default-get.is))

pub write_at-requires-clause-room : goal.write_at-requires-clause-room
write_at-requires-clause-room g c =
    let spaces : List Space = c.self.inside.segments.spaces in
    let f = subst (λ (v : Built g.row.A.Denot). HasBytes v.spaces c.args.index (length c.args.bytes.now)) (sym c.self.view_is) c.requires in
    let p : IsBuilt spaces (Some c.in-Some.location) = subst (λ (o : Option RootLocation). IsBuilt spaces o) c.in-Some.is c.self.invariant in
    bytes_room spaces c.in-Some.location c.args.index (length c.args.bytes.now) f p

pub invariant_of-self : goal.invariant_of-self
invariant_of-self g c =
    let spaces : List Space = c.self.inside.segments.spaces in
    let location : RootLocation = c.in-Some.location in
    let w : List ℕ = c.args.bytes.now in
    let f : HasBytes spaces c.args.index (length w) = subst (λ (v : Built g.row.A.Denot). HasBytes v.spaces c.args.index (length w)) (sym c.self.view_is) c.requires in
    let p : IsBuilt spaces (Some location) = subst (λ (o : Option RootLocation). IsBuilt spaces o) c.in-Some.is c.self.invariant in
    let low = got_low spaces location.segment (option_copied c.get.result) c.in-Some-get.used.now p.2.body_is.within c.get.ensures (ap option_copied c.in-Some-get.is) c.each_is_a_byte.ensures in
    subst (λ (o : Option RootLocation). IsBuilt c.write_at.new.self.spaces o) (sym c.in-Some.is)
    (bytes_rewritten spaces c.write_at.new.self.spaces location c.args.index w f p low c.each_is_a_byte-2.ensures (ap (λ (h : BuilderState g.row.A.Denot). h.spaces) c.write_at.ensures))

pub returns : goal.returns
returns g c =
    let spaces : List Space = c.self.inside.segments.spaces in
    let location : RootLocation = c.in-Some.location in
    let w : List ℕ = c.args.bytes.now in
    let f : HasBytes spaces c.args.index (length w) = subst (λ (v : Built g.row.A.Denot). HasBytes v.spaces c.args.index (length w)) (sym c.self.view_is) c.requires in
    let p : IsBuilt spaces (Some location) = subst (λ (o : Option RootLocation). IsBuilt spaces o) c.in-Some.is c.self.invariant in
    let low = got_low spaces location.segment (option_copied c.get.result) c.in-Some-get.used.now p.2.body_is.within c.get.ensures (ap option_copied c.in-Some-get.is) c.each_is_a_byte.ensures in
    let new : Built g.row.A.Denot = record { spaces = c.write_at.new.self.spaces; location = c.self.inside.location; allocator = c.write_at.new.self.allocator } in
    record {
      set = subst (λ (v : Built g.row.A.Denot). IsBytesSet v.spaces c.write_at.new.self.spaces c.args.index w) c.self.view_is
          (bytes_set spaces c.write_at.new.self.spaces location c.args.index w f p low c.each_is_a_byte-2.ensures (ap (λ (h : BuilderState g.row.A.Denot). h.spaces) c.write_at.ensures));
      written = subst (λ (v : Built g.row.A.Denot). IsWritten v new) c.self.view_is
          (written_at c.self.inside.segments c.write_at.new.self c.self.inside.location location (8 * location.start + c.args.index) c.args.bytes.now c.in-Some.is c.write_at.ensures (omega arith)
          (bytes_inside spaces location c.args.index (length w) f p) (bytes_room spaces location c.args.index (length w) f p));
    }
