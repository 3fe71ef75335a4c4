-- The words after the count fit the buffer, or it is handed on with the count, and then they are.
use Rattle.std.proofs.Common.{rules, arith, ◌≡◌, ◌+◌, take, refl, subst}
use Rattle.std.proofs.lemmas.Bool.{false≢true}
use Rattle.std.specs.List.{flat_map}
use Rattle.capnp_frame.proofs.sources.JoinedRequestPartsLemmas.{Grows-join}
use Rattle.capnp_pack.proofs.packing.PackerOutcomeFromSinkCallLemmas.{hands_passed, hands_err}
use Rattle.capnp_pack.proofs.packing.HandedAndBufferedBytesJoinLemmas.{IfKnown-literal}
use Rattle.capnp_pack.proofs.packing.GrantCoversGroupAndRestLemmas.{run_granted, run_kept}
use Rattle.capnp_pack.proofs.packing.LeftAfterFailureLemmas.{left_count, left_words}
use Rattle.capnp_pack.proofs.packed_write.pack_run.Goals as goal

pub returns-clause-hands : goal.returns-clause-hands
returns-clause-hands g c =
    let words = take c.args.words c.args.others.now in
    let flat : c.as_flattened-run.result.now ≡ flat_map (λ x. x) words = search rules in
    record {
      handed = IfKnown-literal g.W.Write.appends _ _ _ _ _ words _ _ _ c.push-used.ensures.added refl flat c.in_ok-flush.ensures.hands.handed c.in_ok-write_all.ensures.added;
      left = tt;
      errors = tt;
      failed = tt;
      grows = Grows-join _ _ _ (g.met.W.Write.keeps.transitive _ _ _) c.flush.ensures.hands.grows c.write_all.ensures.grows;
    }

pub returns-in_err-flush-clause-hands : goal.returns-in_err-flush-clause-hands
returns-in_err-flush-clause-hands g c =
    hands_passed g.W.Write _ _ _ _ _ _ _ _ c.from_residual.ensures.1
    (left_count g.W.Write.appends g.W.Write.leaves _ _ _ c.args.others.now _ _ c.requires.run c.push-used.ensures.added) c.in_err-flush.ensures.hands

pub returns-in_err-write_all-clause-hands : goal.returns-in_err-write_all-clause-hands
returns-in_err-write_all-clause-hands g c =
    let reported = c.in_err-write_all.ensures in
    let flat : c.as_flattened-run.result.now ≡ flat_map (λ x. x) (take c.args.words c.args.others.now) = search rules in
    let left = left_words g.W.Write.appends g.W.Write.leaves c.args.words _ _ _ c.args.others.now _ _ _
    c.requires.run c.push-used.ensures.added flat c.in_ok-flush.ensures.hands.handed reported.left in
    hands_err g.W.Write g.met.W.Write.keeps _ _ _ _ _ _ _ _ c.from_residual-in_err-write_all.ensures.1 left reported.errors reported.failed
    c.flush.ensures.hands.grows reported.grows

pub returns-in_err-flush-clause-granted : goal.returns-in_err-flush-clause-granted
returns-in_err-flush-clause-granted g c count more run granted =
    absurd (false≢true (run_granted (g.W.Write.grants c.args.sink.now) (g.W.Write.grants c.flush.new.sink) count _ c.args.end c.push-used.result more _ c.args.others.now _
    run c.requires.run refl c.push-used.ensures.used granted c.in_err-flush.ensures.granted).0)

pub returns-in_err-write_all-clause-granted : goal.returns-in_err-write_all-clause-granted
returns-in_err-write_all-clause-granted g c count more run granted =
    let flushed = run_granted (g.W.Write.grants c.args.sink.now) (g.W.Write.grants c.flush.new.sink) count _ c.args.end c.push-used.result more c.as_flattened-run.result.now
    c.args.others.now _ run c.requires.run (search rules) c.push-used.ensures.used granted c.in_ok-flush.ensures.granted in
    absurd (false≢true (c.in_err-write_all.ensures.granted more flushed.1).0)

pub returns-clause-granted : goal.returns-clause-granted
returns-clause-granted g c count more run granted =
    let flushed = run_granted (g.W.Write.grants c.args.sink.now) (g.W.Write.grants c.flush.new.sink) count _ c.args.end c.push-used.result more c.as_flattened-run.result.now
    c.args.others.now _ run c.requires.run (search rules) c.push-used.ensures.used granted c.in_ok-flush.ensures.granted in
    let none : more ≡ 0 + more = omega arith in
    subst (g.W.Write.grants _) none (c.in_ok-write_all.ensures.granted more flushed.1).1

pub returns-then-run-used-clause-granted : goal.returns-then-run-used-clause-granted
returns-then-run-used-clause-granted g c count more run granted =
    run_kept (g.W.Write.grants c.args.sink.now) count _ c.args.end c.push-used.result c.push_run.result more c.as_flattened-run.result.now
    c.args.others.now run c.requires.run (search rules) c.push-used.ensures.used c.push_run.ensures.used granted
