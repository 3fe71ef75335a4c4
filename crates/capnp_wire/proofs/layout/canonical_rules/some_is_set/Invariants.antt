-- The words that have been passed are zero.
use Rattle.std.proofs.Common.{◌≡◌, ℕ, ◌+◌, ◌*◌, ◌<◌, slice_index_or}
use Rattle.capnp_layout.specs.Prelude.{words_of}
use Rattle.capnp_wire.proofs.layout.canonical_rules.some_is_set.Given as goal

abbrev pub invariant-loop-number : goal.invariant-loop-number
invariant-loop-number l = record {
  at : l.index ≡ l.first + l.number * l.apart;
  passed : (i : ℕ) → i < l.number → slice_index_or (words_of l.segment) (l.first + i * l.apart) 0 ≡ 0;
}
