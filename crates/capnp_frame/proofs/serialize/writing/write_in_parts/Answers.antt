-- Two chunks exactly where there is more than a word.
use Rattle.std.proofs.Common.{◌≡◌, ◌+◌, ◌-◌, ◌≤◌, [], ◌∷◌, length, take, drop, arith, Err}
use Rattle.std.proofs.lemmas.List.{take_all, length-drop, length-take-le}
use Rattle.std.proofs.lemmas.Result.{err_from_is_err_and}
use Rattle.capnp_frame.proofs.sinks.JoinedChunkListLemmas.{written_one}
use Rattle.capnp_frame.proofs.sinks.TableFilledFieldByFieldLemmas.{parts_first, parts_one, parts_two}
use Rattle.capnp_frame.proofs.sinks.GrantedChunkLemmas.{granted_join, stays_as, never_one, never_part, never_after}
use Rattle.capnp_frame.proofs.sinks.ChunkWritesUntilFailureLemmas.{writes_one, writes_after, failed_first}
use Rattle.capnp_frame.proofs.serialize.writing.write_in_parts.Goals as goal

pub returns-in_ok-write_all-2-clause-writes : goal.returns-in_ok-write_all-2-clause-writes
returns-in_ok-write_all-2-clause-writes g c =
    let W = g.W.Write in
    let table = c.args.table.now in
    let reported = c.in_ok-write_all-2.ensures in
    let whole : take (length table - 8) (drop 8 table) ≡ drop 8 table = take_all (length table - 8) (drop 8 table) (omega (arith, length-drop 8 table)) in
    let second = writes_one W _ _ (drop 8 table) _ (rw whole at reported.added) tt tt tt reported.grows in
    rw (parts_two table c.if-table-gt8.true)
    (writes_after W g.met.W.Write.keeps _ _ _ (take 8 table ∷ []) (drop 8 table ∷ []) _
    (written_one W.appends _ _ _ c.in_ok-write_all.ensures.added) c.write_all.ensures.grows second)

pub returns-in_err-write_all-clause-writes : goal.returns-in_err-write_all-clause-writes
returns-in_err-write_all-clause-writes g c =
    let p = err_from_is_err_and c.from_residual.result c.from_residual.ensures.1 in
    let reported = c.in_err-write_all.ensures in
    let (others, is) = parts_first c.args.table.now in
    rw (p.1, p.2, is) (failed_first g.W.Write _ _ _ others _ reported.left reported.errors reported.failed reported.grows)

pub returns-in_err-write_all-2-clause-writes : goal.returns-in_err-write_all-2-clause-writes
returns-in_err-write_all-2-clause-writes g c =
    let p = err_from_is_err_and c.from_residual-in_err-write_all-2.result c.from_residual-in_err-write_all-2.ensures.1 in
    let W = g.W.Write in
    let table = c.args.table.now in
    let reported = c.in_err-write_all-2.ensures in
    let whole : take (length table - 8) (drop 8 table) ≡ drop 8 table = take_all (length table - 8) (drop 8 table) (omega (arith, length-drop 8 table)) in
    let second = writes_one W _ _ (drop 8 table) (Err c.in_err-write_all-2.field-0.0) tt (rw whole at reported.left) (rw whole at reported.errors) reported.failed reported.grows in
    rw (p.1, p.2, parts_two table c.if-table-gt8.true)
    (writes_after W g.met.W.Write.keeps _ _ _ (take 8 table ∷ []) (drop 8 table ∷ []) _
    (written_one W.appends _ _ _ c.in_ok-write_all.ensures.added) c.write_all.ensures.grows second)

pub returns-else-table-gt8-clause-writes : goal.returns-else-table-gt8-clause-writes
returns-else-table-gt8-clause-writes g c =
    let reported = c.in_ok-write_all.ensures in
    rw (parts_one c.args.table.now c.if-table-gt8.false) (writes_one g.W.Write _ _ _ _ reported.added tt tt tt reported.grows)

-- what is granted is taken by each chunk

pub returns-in_err-write_all-clause-granted : goal.returns-in_err-write_all-clause-granted
returns-in_err-write_all-clause-granted g c =
    let p = err_from_is_err_and c.from_residual.result c.from_residual.ensures.1 in
    let W = g.W.Write in
    let table = c.args.table.now in
    let part : length (take 8 table) ≤ length table = omega (arith, length-take-le 8 table c.requires) in
    rw p.1 (λ more given. absurd (never_part W.grants _ (length (take 8 table)) (length table) part
    (never_one W.grants _ _ (length (take 8 table)) c.in_err-write_all.ensures.granted) more given))

pub returns-in_ok-write_all-2-clause-granted : goal.returns-in_ok-write_all-2-clause-granted
returns-in_ok-write_all-2-clause-granted g c =
    let table = c.args.table.now in
    let others = take (length table - 8) (drop 8 table) in
    let long = length-take-le (length table - 8) (drop 8 table) (omega (arith, length-drop 8 table)) in
    let total : length (take 8 table) + length others ≡ length table = omega (arith, length-take-le 8 table c.requires, long, c.requires) in
    granted_join g.W.Write.grants _ _ _ (length (take 8 table)) (length others) (length table) total
    (λ more given. (c.in_ok-write_all.ensures.granted more given).1) (λ more given. (c.in_ok-write_all-2.ensures.granted more given).1)

pub returns-in_err-write_all-2-clause-granted : goal.returns-in_err-write_all-2-clause-granted
returns-in_err-write_all-2-clause-granted g c =
    let p = err_from_is_err_and c.from_residual-in_err-write_all-2.result c.from_residual-in_err-write_all-2.ensures.1 in
    let W = g.W.Write in
    let table = c.args.table.now in
    let others = take (length table - 8) (drop 8 table) in
    let long = length-take-le (length table - 8) (drop 8 table) (omega (arith, length-drop 8 table)) in
    let total : length (take 8 table) + length others ≡ length table = omega (arith, length-take-le 8 table c.requires, long, c.requires) in
    rw p.1 (λ more given. absurd (never_after W.grants _ _ (length (take 8 table)) (length others) (length table) (omega (arith, total))
    (λ less has. (c.in_ok-write_all.ensures.granted less has).1) (never_one W.grants _ _ (length others) c.in_err-write_all-2.ensures.granted) more given))

pub returns-else-table-gt8-clause-granted : goal.returns-else-table-gt8-clause-granted
returns-else-table-gt8-clause-granted g c =
    let table = c.args.table.now in
    let total : length (take 8 table) ≡ length table = omega (arith, length-take-le 8 table c.requires, c.if-table-gt8.false) in
    stays_as g.W.Write.grants _ _ (length (take 8 table)) (length table) total (λ more given. (c.in_ok-write_all.ensures.granted more given).1)
