-- What a pointer points to, through its landing pads (src/landing_pad.rt).
use Rattle.std.specs.Prelude.{◌≡◌, ◌⊎◌, ℕ, ◌^◌, ◌<◌, ◌≤◌, List, Some, MatchOption, slice_get}
use Rattle.capnp_frame.specs.declared.error.ErrorKind.{ErrorKind}
use Rattle.capnp_frame.specs.declared.error.ErrorKind.TheVariants.{PointerOutOfBounds, CapabilityRefused}
use Rattle.capnp_layout.specs.Pointer.{words_of, pointer_kind}
use Rattle.capnp_layout.specs.Object.{word_at, landing_pad, landing_pad_tag, IsFar, IsStart, Lands, Target}
use Rattle.capnp_layout.specs.PointerWord.{IsLocalShape}
use Rattle.capnp_layout.specs.declared.place.Place.{Place}
use Rattle.capnp_layout.specs.declared.landing_pad.Landing.{Landing as ReadLanding}

-- a far pointer has a landing pad of these two words
pub record HasWideLandingPad (m : List (List ℕ)) (word first tag : ℕ) : Type 0 where
  pub wide : IsFar word 1
  pub first_there : word_at m (landing_pad word) ≡ Some first
  pub tag_there : word_at m (landing_pad_tag word) ≡ Some tag

-- the pointer at a place points there, through its landing pads
pub record IsLanding (m : List (List ℕ)) (place : Place) (read : ReadLanding) : Type 0 where
  pub landing : Target
  pub lands : Lands m place landing
  pub number : landing.segment ≡ read.number
  pub content : slice_get m landing.segment ≡ Some (words_of read.segment.now)
  pub shape : IsLocalShape landing.tag read.shape
  pub start : MatchOption read.start ((start : ℕ) → IsStart landing.origin landing.tag start → ⊥)
      (λ start. IsStart landing.origin landing.tag start)
  pub landing_pads : landing.landing_pads ≡ read.landing_pads
  pub few_landing_pads : landing.landing_pads ≤ 2
  pub small : landing.tag < 2 ^ 64

-- a word is no struct or list pointer, and this is the error
abbrev pub NotLocal : ℕ → ErrorKind → Type 0
NotLocal word kind =
    ((pointer_kind word ≡ 2) × (kind ≡ PointerOutOfBounds)) ⊎ ((pointer_kind word ≡ 3) × (kind ≡ CapabilityRefused))
