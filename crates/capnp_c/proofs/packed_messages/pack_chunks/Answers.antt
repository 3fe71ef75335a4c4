-- The table's first word, its other words, and then the segments.
use Rattle.std.proofs.Common.{◌≡◌, ◌-◌, [], ◌∷◌, length, take, drop, Ok, Err, arith}
use Rattle.std.proofs.lemmas.List.{take_all, length-drop}
use Rattle.std.proofs.lemmas.Result.{err_from_is_err_and}
use Rattle.capnp_c.proofs.PackChunkCallSequenceLemmas.{packs_one, packs_after, packs_failed}
use Rattle.capnp_c.proofs.packed_messages.pack_chunks.Goals as goal

pub returns-in_err-pack_into : goal.returns-in_err-pack_into
returns-in_err-pack_into g c =
    let p = err_from_is_err_and c.from_residual.result c.from_residual.ensures.1 in
    let W = g.W.Write in
    let table = c.args.table.now in
    let reported = c.in_err-pack_into.ensures in
    let one = packs_one {X = Unit {0}} W _ _ (take 8 table) (Err c.in_err-pack_into.field-0.0) tt reported.errors reported.failed reported.granted reported.grows in
    rw (p.1, p.2) (packs_failed {X = Unit {0}} W _ _ (take 8 table ∷ []) (drop 8 table ∷ g.S.ReaderSegments.segments c.args.segments.now) _ one)

pub returns-in_err-pack_into-2 : goal.returns-in_err-pack_into-2
returns-in_err-pack_into-2 g c =
    let p = err_from_is_err_and c.from_residual-in_err-pack_into-2.result c.from_residual-in_err-pack_into-2.ensures.1 in
    let W = g.W.Write in
    let table = c.args.table.now in
    let whole : take (length table - 8) (drop 8 table) ≡ drop 8 table = take_all (length table - 8) (drop 8 table) (omega (arith, length-drop 8 table)) in
    let first = c.in_ok-pack_into.ensures in
    let one = packs_one {X = Unit {0}} W _ _ (take 8 table) (Ok tt) first.packed tt tt first.granted first.grows in
    let reported = c.in_err-pack_into-2.ensures in
    let two = packs_one {X = Unit {0}} W _ _ (drop 8 table) (Err c.in_err-pack_into-2.field-0.0) tt (rw whole at reported.errors) reported.failed (rw whole at reported.granted) reported.grows in
    rw (p.1, p.2) (packs_failed {X = Unit {0}} W _ _ (take 8 table ∷ drop 8 table ∷ []) (g.S.ReaderSegments.segments c.args.segments.now) _
    (packs_after W g.met.W.Write.keeps _ _ _ (take 8 table ∷ []) (drop 8 table ∷ []) tt _ one two))

pub returns : goal.returns
returns g c =
    let W = g.W.Write in
    let table = c.args.table.now in
    let segments = g.S.ReaderSegments.segments c.args.segments.now in
    let whole : take (length table - 8) (drop 8 table) ≡ drop 8 table = take_all (length table - 8) (drop 8 table) (omega (arith, length-drop 8 table)) in
    let first = c.in_ok-pack_into.ensures in
    let one = packs_one {X = Unit {0}} W _ _ (take 8 table) (Ok tt) first.packed tt tt first.granted first.grows in
    let reported = c.in_ok-pack_into-2.ensures in
    let two = packs_one {X = Unit {0}} W _ _ (drop 8 table) (Ok tt) (rw whole at reported.packed) tt tt (rw whole at reported.granted) reported.grows in
    packs_after W g.met.W.Write.keeps _ _ _ (take 8 table ∷ []) (drop 8 table ∷ segments) tt c.pack_each.result one
    (packs_after W g.met.W.Write.keeps _ _ _ (drop 8 table ∷ []) segments tt c.pack_each.result two c.pack_each.ensures)
