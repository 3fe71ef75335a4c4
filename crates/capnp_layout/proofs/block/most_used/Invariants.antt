-- The most words of the parts so far, and the parts that are left.
use Rattle.std.proofs.Common.{◌≡◌, ◌≤◌, ◌+◌, ◌-◌, ◌*◌, ◌/◌, max, length}
use Rattle.capnp_layout.specs.Prelude.{words_of, most_used}
use Rattle.capnp_layout.proofs.block.most_used.Given as goal

abbrev pub invariant-parts : goal.invariant-parts
invariant-parts l =
    (max l.most (most_used (words_of l.segment) l.part l.count l.step (l.parts - l._part)) ≡ most_used (words_of l.segment) l.fn.start l.count l.step l.parts)
    × (l.part + (l.parts - l._part) * l.step ≤ length l.segment / 8 + (l.step - l.count)) × (l.most ≤ l.count)
