-- The bytes of one more write follow the earlier bytes.
use Rattle.std.proofs.Common.{◌≡◌, ◌≤◌, ℕ, ◌-◌, [], ◌++◌, length, take, drop, sym, ap, subst, ◌∙◌, arith, length-take}
use lib.Seq.{take-add, take-take}
use Rattle.std.specs.Io.KnownBytes.{Appends}
use Rattle.std.proofs.KnownBytes.{Appends-trans}
use Rattle.capnp.proofs.DeviceCallMovesFirstBytesLemmas.{front_kept, nothing_added}
use Rattle.capnp.proofs.devices.output.OutputWrite.write_all.Goals as goal
use Rattle.capnp.proofs.devices.output.OutputWrite.write_all.Goals.{in_default-via-in-Ok+else-count-gt0, in_default-via-in_default}

pub loop-done-preserved : goal.loop-done-preserved
loop-done-preserved g c =
    let done = c.loop-done.done in
    let count = c.in-Ok.count in
    let chunk = c.args.chunk.now in
    let fits = c.in-Ok.ensures.bound in
    let most = length-take (length chunk - done) (drop done chunk) in
    let joined = ap (λ encoding. take done chunk ++ encoding) (take-take count (length chunk - done) (drop done chunk) (omega arith)) ∙ sym (take-add done count chunk) in
    (omega arith, c.loop-done.invariant.1, subst (Appends _ _) joined (Appends-trans _ _ _ _ _ c.loop-done.invariant.2 c.in-Ok.ensures.bytes))

-- a call that fails, or takes nothing, leaves what was done
pub returns-in_default-clause-left : goal.returns-in_default-clause-left
returns-in_default-clause-left g c =
    let done = c.loop-done.done in
    let chunk = c.args.chunk.now in
    elim c.in_default.branch [
      | in_default-via-in-Ok+else-count-gt0 w ↦
          let none : take w.in-Ok.count (take (length chunk - done) (drop done chunk)) ≡ [] = ap (λ k. take k (take (length chunk - done) (drop done chunk))) (no_more w.in-Ok.count w.if-count-gt0.false) in
          front_kept _ _ _ chunk done c.loop-done.invariant.2 (nothing_added _ _ _ none w.in-Ok.ensures.bytes)
      | in_default-via-in_default w ↦ front_kept _ _ _ chunk done c.loop-done.invariant.2 w.in_default.ensures.bytes
    ]
  where
    no_more : (k : ℕ) → k ≤ 0 → k ≡ 0
    no_more k less = omega arith
