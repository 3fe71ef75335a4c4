-- Slices of bytes as segments (src/message/segments.rt).
use Rattle.std.specs.Prelude.{ℕ, List}
use denote.Ref.{Bor}

-- the bytes that a slice refers to
abbrev pub shown : Bor (List ℕ) → List ℕ
shown slice = slice.now

-- a buffer, and the segments that are seen in it
pub record SeenBuffer (T : Type 0) : Type 0 where
  pub buffer : T
  pub segments : List (List ℕ)
