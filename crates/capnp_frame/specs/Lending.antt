-- What a write through a borrow leaves.
use Rattle.std.specs.Prelude.{ℕ, List, ◌++◌, length, take, drop}
use Rattle.std.specs.List.{concat}
use Rattle.std.specs.Borrow.{Lends, MutBor, Fml, Array, u8}
use Rattle.capnp_frame.specs.Message.{lengths}
use Rattle.capnp_frame.specs.SegmentLengths.{cut}
use Rattle.capnp_frame.specs.declared.serialize.owned_segments.OwnedSegments.{OwnedSegments}
use Rattle.capnp_frame.specs.contracts.serialize.owned_segments.OwnedSegments.{the_row}

-- `w` written over the front of `old`, whose length stays
abbrev pub overwritten : List ℕ → List ℕ → List ℕ
overwritten old w = take (length old) (w ++ drop (length w) old)

-- Once the borrow `r` of all bytes ends, each segment has the length that it had, and the bytes that `r` left in its
-- place.
abbrev pub LendsBytes : MutBor OwnedSegments → MutBor (List ℕ) → Fml
LendsBytes s r = Lends the_row (Array u8 0) s r (λ w. cut (lengths s.now) (overwritten (concat s.now) w))
