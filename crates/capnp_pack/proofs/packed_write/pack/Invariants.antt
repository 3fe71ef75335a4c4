-- The groups so far are the front of the packed encoding, whose end is kept.
use Rattle.std.proofs.Common.{length, ◌≡◌, ◌+◌, ◌*◌, ◌≤◌, List, [], ℕ, take}
use Rattle.capnp_frame.specs.Prelude.{Grows}
use Rattle.capnp_pack.specs.Prelude.{PacksWords, HandsTo, GrantsTo}
use Rattle.capnp_pack.proofs.packed_write.pack.Given as goal

abbrev pub invariant-loop-left : goal.invariant-loop-left
invariant-loop-left g l = let W = g.W.Write in
    (length l.left ≤ length l.initial.left)
    × (l.used ≤ 64)
    × HandsTo W.appends l.initial.left l.left [] (take l.used l.bytes) (W.written l.initial.sink) (W.written l.sink)
    × Grows W.written W.failures W.same l.initial.sink l.sink
    × ((encoding : List ℕ) (more : ℕ) → PacksWords l.initial.left encoding → W.grants l.initial.sink (length encoding + more)
    → GrantsTo (W.grants l.sink) l.left l.used more)
    × (length l.bytes ≡ 64)

abbrev pub decreases-loop-left : goal.decreases-loop-left
decreases-loop-left g l = 65 * length l.left + l.used
