-- Bytes that are replaced.
use Rattle.std.specs.Prelude.{◌≡◌, ℕ, ◌+◌, Bool, List, ◌++◌, length, take, drop, replicate, All}

-- the bytes, with others in their place from this index on
abbrev pub written : List ℕ → ℕ → List ℕ → List ℕ
written bytes start w = take start bytes ++ (w ++ drop (start + length w) bytes)

-- all bytes from an index on are zero
abbrev pub ZeroFrom : ℕ → List ℕ → Type 0
ZeroFrom start bytes = All (λ b. b ≡ 0) (drop start bytes)

-- what is seen of a segment of an arena: its used bytes, its length in bytes, and whether it is
-- caller-provided
pub record Space : Type 0 where
  pub used : List ℕ
  pub size : ℕ
  pub is_provided : Bool

-- the same with this many more bytes used, which are zero
abbrev pub with_block : Space → ℕ → Space
with_block space n = record { used = space.used ++ replicate n 0; size = space.size; is_provided = space.is_provided }

-- the same with other bytes from this index on
abbrev pub with_bytes : Space → ℕ → List ℕ → Space
with_bytes space at w = record { used = written space.used at w; size = space.size; is_provided = space.is_provided }

-- Bytes of a segment are replaced from this index on, and it is caller-provided or not as before;
-- `content` is its bytes.
pub record IsOverwritten {S : Type 0} (content : S → List ℕ) (is_provided : S → Bool) (start : ℕ) (block : List ℕ) (old new : S) : Type 0 where
  pub bytes : content new ≡ written (content old) start block
  pub provided : is_provided new ≡ is_provided old
