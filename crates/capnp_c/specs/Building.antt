-- What the exports that build a message return and write (src/building). Whatever the bytes of a region are,
-- those that a builder says to be used are a segment, so no clause has a premise that other calls made them.
use Rattle.std.specs.Prelude.{◌≡◌, ℕ, ◌+◌, ◌-◌, ◌*◌, ◌/◌, ◌^◌, ◌<◌, ◌≤◌, List, [], ◌∷◌, Some, length, take, drop, replicate}
use Rattle.capnp_frame.specs.declared.error.ErrorKind.{ErrorKind}
use Rattle.capnp_frame.specs.declared.serialize.segment_table.Padding.TheVariants.{Zero}
use Rattle.capnp_frame.specs.Prelude.{kind_number, IsFrame}
use Rattle.capnp_orphans.specs.Segments.{Segment, body_of, Appends}
use Rattle.capnp_orphans.specs.Adding.{Keeps, SetsRootOrphan}
use Rattle.capnp_orphans.specs.Regions.{segment_in, IsUsed}
use Rattle.capnp_c.specs.declared.building.builder.LinsjoarBuilder.{LinsjoarBuilder}

-- a message can be built in these bytes that has as many of them as the builder says: its table, and after it a segment
abbrev pub IsBuilder : LinsjoarBuilder → List ℕ → Type 0
IsBuilder builder region = (16 ≤ builder.used) × IsUsed (drop 8 region) (builder.used - 8)

-- that segment
abbrev pub segment_of : LinsjoarBuilder → List ℕ → Segment
segment_of builder region = segment_in (drop 8 region) (builder.used - 8)

-- with as many words more it would have too many for a segment
abbrev pub IsTooLong : LinsjoarBuilder → ℕ → Type 0
IsTooLong builder words = 2 ^ 29 ≤ (builder.used - 8) / 8 + words

-- the region has room for as many words more
abbrev pub HasRoomFor : LinsjoarBuilder → List ℕ → ℕ → Type 0
HasRoomFor builder region words = builder.used + 8 * words ≤ length region

-- An object is added to the message. `takes` says how many words it has, `fails` with which errors it can't be
-- written, and `holds` what its orphan is, given the segment's body before and after that.
pub record Adds (takes : ℕ → Type 0) (fails : ErrorKind → Type 0) (holds : List ℕ → List ℕ → ℕ → Type 0)
    (old new : LinsjoarBuilder) (before after : List ℕ) (orphan result : ℕ) : Type 0 where
  pub no_builder : (IsBuilder old before → ⊥) → result ≡ 27
  -- where 0 is returned: the builder is one of the region, and what the orphan is
  pub builds : result ≡ 0 → IsBuilder old before × IsBuilder new after
  pub orphan_is : result ≡ 0 → holds (body_of (segment_of old before)) (body_of (segment_of new after)) orphan
  -- exactly the object's words are appended, and no other word of the segment changes
  pub appended : result ≡ 0 → (words : ℕ) × takes words × Appends words (segment_of old before) (segment_of new after)
      × (new.used ≡ old.used + 8 * words)
  -- all orphans keep their trees, also where it fails
  pub keeps : Keeps (segment_of old before) (segment_of new after)
  -- 0 exactly where there is room for the object; 15 where no segment has, 2 where the region has not
  pub accepted : IsBuilder old before → (words : ℕ) → takes words → (IsTooLong old words → ⊥) → HasRoomFor old before words → result ≡ 0
  pub long : IsBuilder old before → (words : ℕ) → takes words → IsTooLong old words → result ≡ 15
  pub full : IsBuilder old before → (words : ℕ) → takes words → (IsTooLong old words → ⊥) → (HasRoomFor old before words → ⊥) → result ≡ 2
  pub errors : IsBuilder old before → (kind : ErrorKind) → fails kind → result ≡ kind_number kind
  -- the table stays, so that a finished message does
  pub table : take 8 after ≡ take 8 before
  pub len : length after ≡ length before
  -- where it fails nothing changes
  pub stays : 0 < result → (new ≡ old) × (after ≡ before) × (orphan ≡ 0)

-- It is added where the arguments fit; else nothing is.
pub record AddsWhere (fits : Type 0) (takes : ℕ → Type 0) (fails : ErrorKind → Type 0) (holds : List ℕ → List ℕ → ℕ → Type 0)
    (old new : LinsjoarBuilder) (before after : List ℕ) (orphan result : ℕ) : Type 0 where
  pub adds : fits → Adds takes fails holds old new before after orphan result
  pub other : (fits → ⊥) → (result ≡ 27) × (new ≡ old) × (after ≡ before) × (orphan ≡ 0)

-- A message is begun, whose root is null.
pub record Begins (new : LinsjoarBuilder) (before after : List ℕ) (result : ℕ) : Type 0 where
  pub builds : result ≡ 0 → IsBuilder new after
  pub empty : result ≡ 0 → segment_of new after ≡ record { bytes = replicate 8 0; most = Some (length before - 8); capacity = length before - 8 }
  pub accepted : 16 ≤ length before → result ≡ 0
  pub short : length before < 16 → result ≡ 2
  pub len : length after ≡ length before
  pub stays : 0 < result → (new.used ≡ 0) × (after ≡ before)

-- The root is set to an orphan.
pub record SetsRoot (builder : LinsjoarBuilder) (before after : List ℕ) (orphan result : ℕ) : Type 0 where
  pub no_builder : (IsBuilder builder before → ⊥) → result ≡ 27
  pub accepted : IsBuilder builder before → result ≡ 0
  pub root_is : result ≡ 0 → IsBuilder builder after × SetsRootOrphan orphan (segment_of builder before) (segment_of builder after)
  -- the table stays
  pub table : take 8 after ≡ take 8 before
  pub len : length after ≡ length before
  pub stays : 0 < result → after ≡ before

-- The message is finished: the first bytes are its framed encoding.
pub record Finishes (builder : LinsjoarBuilder) (before after : List ℕ) (message_len result : ℕ) : Type 0 where
  pub no_builder : (IsBuilder builder before → ⊥) → result ≡ 27
  pub accepted : IsBuilder builder before → result ≡ 0
  pub framed : result ≡ 0 → IsFrame Zero (take message_len after) ((segment_of builder before).bytes ∷ [])
  pub message_is : result ≡ 0 → message_len ≡ builder.used
  -- no byte of the segment changes, and none after it
  pub kept : drop 8 after ≡ drop 8 before
  pub len : length after ≡ length before
  pub stays : 0 < result → (message_len ≡ 0) × (after ≡ before)
