-- The error of a message that has no canonical form is never `DeviceFailed`.
use Rattle.std.proofs.Common.{◌≡◌, ◌⊎◌, ℕ, List, Option, inl, inr}
use Rattle.capnp_frame.specs.declared.error.ErrorKind.{ErrorKind}
use Rattle.capnp_frame.specs.declared.error.ErrorKind.TheVariants.{DeviceFailed, OutOfMemory}
use Rattle.capnp_layout.specs.Prelude.{NoWord, no_segment, past_segment, BadLandingPad, no_landing_pad, far_again, landing_pad_capability, no_tag, not_far, no_content, far_tag, capability_tag, SizeError, struct_outside, list_outside, structs_outside, odd_tag, many_elements, PointerError, no_word, capability, bad_landing_pad, too_deep, no_start, misfits, WalkError, at_pointer, over_limit, inside, later}
use Rattle.capnp_wire.specs.Prelude.{Pointer}
use Rattle.capnp_layout.specs.declared.place.Place.{Place}
use Rattle.capnp_message.specs.Canonical.{CanonicalFormError}

word_blames_none : (m : List (List ℕ)) (place : Place) (kind : ErrorKind) → NoWord m place kind → kind ≡ DeviceFailed → ⊥
word_blames_none m place _ (no_segment _) is = cc
word_blames_none m place _ (past_segment _ _) is = cc

landing_pad_blames_none : (m : List (List ℕ)) (word : ℕ) (kind : ErrorKind) → BadLandingPad m word kind → kind ≡ DeviceFailed → ⊥
landing_pad_blames_none m word kind (no_landing_pad none) is = word_blames_none m _ kind none is
landing_pad_blames_none m word _ (far_again _ _ _) is = cc
landing_pad_blames_none m word _ (landing_pad_capability _ _ _) is = cc
landing_pad_blames_none m word _ (no_tag _ _ _) is = cc
landing_pad_blames_none m word _ (not_far _ _ _ _) is = cc
landing_pad_blames_none m word _ (no_content _ _ _ _ _) is = cc
landing_pad_blames_none m word _ (far_tag _ _ _ _ _ _) is = cc
landing_pad_blames_none m word _ (capability_tag _ _ _ _ _ _) is = cc

misfit_blames_none : (words : List ℕ) (start tag : ℕ) (kind : ErrorKind) → SizeError words start tag kind → kind ≡ DeviceFailed → ⊥
misfit_blames_none words start tag _ (struct_outside _ _) is = cc
misfit_blames_none words start tag _ (list_outside _ _ _) is = cc
misfit_blames_none words start tag _ (structs_outside _ _ _) is = cc
misfit_blames_none words start tag _ (odd_tag _ _ _ _ _) is = cc
misfit_blames_none words start tag _ (many_elements _ _ _ _ _ _) is = cc

pointer_blames_none : (m : List (List ℕ)) (place : Place) (nesting : ℕ) (kind : ErrorKind) → PointerError m place nesting kind → kind ≡ DeviceFailed → ⊥
pointer_blames_none m place nesting kind (no_word none) is = word_blames_none m place kind none is
pointer_blames_none m place nesting _ (capability _ _) is = cc
pointer_blames_none m place nesting kind (bad_landing_pad _ _ bad) is = landing_pad_blames_none m _ kind bad is
pointer_blames_none m place nesting _ (too_deep _ _) is = cc
pointer_blames_none m place nesting _ (no_start _ _ _) is = cc
pointer_blames_none m place nesting kind (misfits _ _ _ _ misfit) is = misfit_blames_none _ _ _ kind misfit is

walk_blames_none : (m : List (List ℕ)) (places : List Place) (nesting : ℕ) (limit : Option ℕ) (kind : ErrorKind) → WalkError m places nesting limit kind → kind ≡ DeviceFailed → ⊥
walk_blames_none m _ nesting limit kind (at_pointer error) is = pointer_blames_none m _ nesting kind error is
walk_blames_none m _ nesting _ _ (over_limit _ _ _) is = cc
walk_blames_none m _ nesting limit kind (inside _ _ _ fails) is = walk_blames_none m _ _ _ kind fails is
walk_blames_none m _ nesting limit kind (later _ _ fails) is = walk_blames_none m _ nesting _ kind fails is

pub form_blames_none : (pointer : Pointer) (kind : ErrorKind) → CanonicalFormError pointer kind → kind ≡ DeviceFailed → ⊥
form_blames_none pointer kind (inl (place, there, fails)) is = walk_blames_none _ _ _ _ kind fails is
form_blames_none pointer kind (inr large) is = cc

pub result_blames_none : (pointer : Pointer) (kind : ErrorKind) → CanonicalFormError pointer kind ⊎ (kind ≡ OutOfMemory) → kind ≡ DeviceFailed → ⊥
result_blames_none pointer kind (inl form_error) is = form_blames_none pointer kind form_error is
result_blames_none pointer kind (inr memory) is = cc
