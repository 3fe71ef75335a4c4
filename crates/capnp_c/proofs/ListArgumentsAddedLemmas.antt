-- Lists that are added where their arguments fit: the object is of these arguments, and else nothing is added.
use Rattle.std.proofs.Common.{◌≡◌, ℕ, false, List, refl, subst}
use Rattle.capnp_frame.specs.declared.error.ErrorKind.{ErrorKind}
use Rattle.capnp_layout.specs.declared.pointer.StructSize.{StructSize}
use Rattle.capnp_wire.specs.Prelude.{HasWords}
use Rattle.capnp_values.specs.NumberLists.{IsNumberList, ManyNumbers}
use Rattle.capnp_orphans.specs.Holds.{HoldsValue, HoldsStructs, TakesStructsWords, ManyStructs}
use Rattle.capnp_orphans.specs.Sized.{numbers_in_bytes, drafts_in}
use Rattle.capnp_c.specs.declared.building.builder.LinsjoarBuilder.{LinsjoarBuilder}
use Rattle.capnp_c.specs.Building.{Adds, AddsWhere}

pub nothing_adds : (fits : Type 0) (takes : ℕ → Type 0) (fails : ErrorKind → Type 0) (holds : List ℕ → List ℕ → ℕ → Type 0) (builder : LinsjoarBuilder) (region : List ℕ) → (fits → ⊥)
    → AddsWhere fits takes fails holds builder builder region region 0 27
nothing_adds fits takes fails holds builder region denied = record { adds = λ there. absurd (denied there); other = λ never. (refl, refl, refl, refl) }

pub fitting_adds : (fits : Type 0) (takes : ℕ → Type 0) (fails : ErrorKind → Type 0) (holds : List ℕ → List ℕ → ℕ → Type 0) (old new : LinsjoarBuilder) (before after : List ℕ) (orphan result : ℕ) → fits
    → Adds takes fails holds old new before after orphan result → AddsWhere fits takes fails holds old new before after orphan result
fitting_adds fits takes fails holds old new before after orphan result there adds = record { adds = λ same. adds; other = λ denied. absurd (denied there) }

-- numbers of this code that are in these bytes are added
abbrev pub AddsNumbers : ℕ → ℕ → List ℕ → LinsjoarBuilder → LinsjoarBuilder → List ℕ → List ℕ → ℕ → ℕ → Type 0
AddsNumbers code count bytes old new before after orphan result =
    Adds (HasWords (IsNumberList code (numbers_in_bytes code count bytes)) false) (ManyNumbers count)
    (λ first last word. HoldsValue (IsNumberList code (numbers_in_bytes code count bytes)) last word) old new before after orphan result

pub same_numbers : (code other count many : ℕ) (bytes same : List ℕ) (old new : LinsjoarBuilder) (before after : List ℕ) (orphan result : ℕ) → other ≡ code → many ≡ count → same ≡ bytes
    → AddsNumbers other many same old new before after orphan result → AddsNumbers code count bytes old new before after orphan result
same_numbers code other count many bytes same old new before after orphan result code_is count_is bytes_are adds =
    subst (λ (l : List ℕ). AddsNumbers code count l old new before after orphan result) bytes_are
    (subst (λ (n : ℕ). AddsNumbers code n same old new before after orphan result) count_is
    (subst (λ (n : ℕ). AddsNumbers n many same old new before after orphan result) code_is adds))

-- structs of this size that are in these words are added
abbrev pub AddsStructs : ℕ → ℕ → ℕ → List ℕ → LinsjoarBuilder → LinsjoarBuilder → List ℕ → List ℕ → ℕ → ℕ → Type 0
AddsStructs d p count words old new before after orphan result =
    Adds (TakesStructsWords d p count) (ManyStructs d p count) (λ first last word. HoldsStructs first (drafts_in d p count words) last word) old new before after orphan result

pub same_structs : (size other : StructSize) (count many : ℕ) (words same : List ℕ) (old new : LinsjoarBuilder) (before after : List ℕ) (orphan result : ℕ) → other ≡ size → many ≡ count → same ≡ words
    → AddsStructs other.data_words other.pointers many same old new before after orphan result → AddsStructs size.data_words size.pointers count words old new before after orphan result
same_structs size other count many words same old new before after orphan result size_is count_is words_are adds =
    subst (λ (l : List ℕ). AddsStructs size.data_words size.pointers count l old new before after orphan result) words_are
    (subst (λ (n : ℕ). AddsStructs size.data_words size.pointers n same old new before after orphan result) count_is
    (subst (λ (s : StructSize). AddsStructs s.data_words s.pointers many same old new before after orphan result) size_is adds))
