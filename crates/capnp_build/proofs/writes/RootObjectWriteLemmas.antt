-- What a write into the object at the root keeps, and what it sets: a data word, a number of a list of words, or
-- some bytes.
use Rattle.std.proofs.Common.{refl, ◌≡◌, inl, inr, sym, subst, MatchOption, ℕ, ◌+◌, ◌*◌, ◌^◌, ◌<◌, ◌≤◌, List, length, Option, Some, slice_set, w64, ap, arith, ◌∙◌, slice_index_or, length-set}
use Rattle.std.specs.Prelude.{⊤}
use Rattle.std.specs.Int.{to_le_bytes}
use Rattle.capnp_layout.specs.Prelude.{null, numbers, none, struct}
use Rattle.capnp_build.proofs.writes.RootDataWordLemmas.{field_laid, same_fields}
use Rattle.capnp_build.proofs.states.OutSegmentListChangesLemmas.{pairs_set}
use Rattle.capnp_build.proofs.states.StayingBytesLemmas.{kept_outside}
use Rattle.capnp_build.proofs.layouts.LaidTreeReadAtRootLemmas.{laid_as, laid_root}
use Rattle.capnp_build.proofs.roots.RootObjectFromBodyBytesLemmas.{number_laid, same_numbers}
use Rattle.capnp_build.proofs.writes.RewrittenRootBodyTreeLemmas.{bytes_laid}
use Rattle.capnp_build.proofs.states.SegmentSizesAfterChangeLemmas.{size_set}
use Rattle.capnp_build.proofs.words.UsedBytesThenZerosLemmas.{written_length}
use Rattle.capnp_build.specs.Prelude.{Built, IsLaid, IsBuilt, LiesOutside, size_in_words, IsWritten, HasField, IsFieldSet, HasNumber, IsNumberSet, HasBytes, IsBytesSet, Space, written, with_bytes, BuilderState, space_at, with_space, pairs}
use Rattle.capnp_build.specs.declared.arena.location.RootLocation.{RootLocation}

-- bytes of the root's body are written
pub written_at : {A : Type 0} (state last : BuilderState A) (place : Option RootLocation) (location : RootLocation) (at : ℕ) (w : List ℕ) → place ≡ Some location
    → last ≡ with_space state location.segment (with_bytes (space_at state.spaces location.segment) at w) → 8 * location.start ≤ at
    → at + length w ≤ 8 * location.start + 8 * location.words → at + length w ≤ length (space_at state.spaces location.segment).used
    → IsWritten (record { spaces = state.spaces; location = place; allocator = state.allocator }) (record { spaces = last.spaces; location = place; allocator = last.allocator })
written_at {A = A} state last place location at w is e following within room =
    let i : ℕ = location.segment in
    let s : Space = with_bytes (space_at state.spaces i) at w in
    let long : length s.used ≡ length (space_at state.spaces i).used = written_length at (space_at state.spaces i).used w room in
    record {
      location = refl;
      count = ap (λ (h : BuilderState A). length h.spaces) e ∙ length-set state.spaces i s;
      size = ap (λ (h : BuilderState A). size_in_words h.spaces) e ∙ size_set state.spaces i s long;
      outside = λ j from n lies inside.
          kept_outside state.spaces last.spaces i at j from n w (ap (λ (h : BuilderState A). h.spaces) e)
          (λ same. elim (subst (λ (o : Option RootLocation). MatchOption o ⊤ (LiesOutside j from n)) is lies (sym same)) [
            | inl before ↦ inl (omega (arith, before, following))
            | inr past ↦ inr (omega (arith, past, within))
          ]) (omega (arith, room)) inside;
      allocator = ap (λ (h : BuilderState A). h.allocator) e;
      pairs = λ others. ap (λ (h : BuilderState A). pairs h.spaces others) e ∙ pairs_set state.spaces i s others refl;
    }

pub unwritten : {A : Type 0} (old : Built A) → IsWritten old old
unwritten old = record { location = refl; count = refl; size = refl; outside = λ i from n lies fits. refl; allocator = refl; pairs = λ others. refl }

-- a data word of the struct at the root
pub field_known : (spaces : List Space) (location : RootLocation) (index : ℕ) (f : HasField spaces index) → IsBuilt spaces (Some location) → IsLaid spaces location (struct f.words) f.children
field_known spaces location index f p = laid_as spaces location p.0 (struct f.words) p.1 f.children f.traversed p.2 f.is_at

pub field_room : (spaces : List Space) (location : RootLocation) (index n : ℕ) (f : HasField spaces index) → IsBuilt spaces (Some location) → n ≡ 8
    → 8 * (location.start + index) + n ≤ length (space_at spaces location.segment).used
field_room spaces location index n f p eight = let r = field_known spaces location index f p in omega (arith, eight, r.body_is.room, r.body_is.size, f.within)

pub field_inside : (spaces : List Space) (location : RootLocation) (index n : ℕ) (f : HasField spaces index) → IsBuilt spaces (Some location) → n ≡ 8
    → 8 * (location.start + index) + n ≤ 8 * location.start + 8 * location.words
field_inside spaces location index n f p eight = let r = field_known spaces location index f p in omega (arith, eight, r.body_is.size, f.within)

pub root_field_set : (spaces last : List Space) (location : RootLocation) (index x : ℕ) (w : List ℕ) (f : HasField spaces index) → IsBuilt spaces (Some location) → x < 2 ^ 64 → w ≡ to_le_bytes w64 x → length w ≡ 8
    → last ≡ slice_set spaces location.segment (with_bytes (space_at spaces location.segment) (8 * (location.start + index)) w) → IsFieldSet spaces last index x
root_field_set spaces last location index x w f p small is eight e words children traversed there =
    let r = laid_as spaces location p.0 (struct words) p.1 children traversed p.2 there in
    let s = laid_as spaces location p.0 (struct f.words) p.1 f.children f.traversed p.2 f.is_at in
    let long : length words ≡ length f.words = same_fields spaces words f.words children f.children traversed f.traversed there f.is_at in
    laid_root last location (struct (slice_set words index x)) children (field_laid spaces last location words children index x w r (omega (arith, long, f.within)) small is eight e)

pub no_struct : (words : List ℕ) → struct words ≡ null → ⊥
no_struct words e = cc

-- a number of the list of words at the root
pub number_known : (spaces : List Space) (location : RootLocation) (index : ℕ) (f : HasNumber spaces index) → IsBuilt spaces (Some location) → IsLaid spaces location (numbers 5 f.values) none
number_known spaces location index f p = laid_as spaces location p.0 (numbers 5 f.values) p.1 none f.traversed p.2 f.is_at

pub number_room : (spaces : List Space) (location : RootLocation) (index n : ℕ) (f : HasNumber spaces index) → IsBuilt spaces (Some location) → n ≡ 8
    → 8 * location.start + 8 * index + n ≤ length (space_at spaces location.segment).used
number_room spaces location index n f p eight = let r = number_known spaces location index f p in omega (arith, eight, r.body_is.room, r.body_is.size, f.within)

pub number_inside : (spaces : List Space) (location : RootLocation) (index n : ℕ) (f : HasNumber spaces index) → IsBuilt spaces (Some location) → n ≡ 8
    → 8 * location.start + 8 * index + n ≤ 8 * location.start + 8 * location.words
number_inside spaces location index n f p eight = let r = number_known spaces location index f p in omega (arith, eight, r.body_is.size, f.within)

pub number_set : (spaces last : List Space) (location : RootLocation) (index x : ℕ) (w : List ℕ) (f : HasNumber spaces index) → IsBuilt spaces (Some location) → x < 2 ^ 64 → w ≡ to_le_bytes w64 x → length w ≡ 8
    → last ≡ slice_set spaces location.segment (with_bytes (space_at spaces location.segment) (8 * location.start + 8 * index) w) → IsNumberSet spaces last index x
number_set spaces last location index x w f p small is eight e values traversed there =
    let r = laid_as spaces location p.0 (numbers 5 values) p.1 none traversed p.2 there in
    let long : length values ≡ length f.values = same_numbers spaces 5 values f.values traversed f.traversed there f.is_at in
    laid_root last location (numbers 5 (slice_set values index x)) none (number_laid spaces last location values index x w r (omega (arith, long, f.within)) small is eight e)

pub no_list : (values : List ℕ) → numbers 5 values ≡ null → ⊥
no_list values e = cc

-- bytes of the list of bytes at the root
pub bytes_known : (spaces : List Space) (location : RootLocation) (index n : ℕ) (f : HasBytes spaces index n) → IsBuilt spaces (Some location) → IsLaid spaces location (numbers 2 f.values) none
bytes_known spaces location index n f p = laid_as spaces location p.0 (numbers 2 f.values) p.1 none f.traversed p.2 f.is_at

pub bytes_room : (spaces : List Space) (location : RootLocation) (index n : ℕ) (f : HasBytes spaces index n) → IsBuilt spaces (Some location)
    → 8 * location.start + index + n ≤ length (space_at spaces location.segment).used
bytes_room spaces location index n f p = let r = bytes_known spaces location index n f p in omega (arith, r.body_is.room, r.body_is.size, f.within)

pub bytes_inside : (spaces : List Space) (location : RootLocation) (index n : ℕ) (f : HasBytes spaces index n) → IsBuilt spaces (Some location)
    → 8 * location.start + index + n ≤ 8 * location.start + 8 * location.words
bytes_inside spaces location index n f p = let r = bytes_known spaces location index n f p in omega (arith, r.body_is.size, f.within)

pub numbers_not_null : (values : List ℕ) → numbers 2 values ≡ null → ⊥
numbers_not_null values e = cc

pub bytes_rewritten : (spaces last : List Space) (location : RootLocation) (index : ℕ) (w : List ℕ) (f : HasBytes spaces index (length w)) → IsBuilt spaces (Some location)
    → ((j : ℕ) → slice_index_or (space_at spaces location.segment).used j 0 < 256) → ((j : ℕ) → slice_index_or w j 0 < 256)
    → last ≡ slice_set spaces location.segment (with_bytes (space_at spaces location.segment) (8 * location.start + index) w) → IsBuilt last (Some location)
bytes_rewritten spaces last location index w f p low small e =
    (numbers 2 (written f.values index w), none, bytes_laid spaces last location f.values index w (bytes_known spaces location index (length w) f p) low small f.within e)

pub bytes_set : (spaces last : List Space) (location : RootLocation) (index : ℕ) (w : List ℕ) (f : HasBytes spaces index (length w)) → IsBuilt spaces (Some location)
    → ((j : ℕ) → slice_index_or (space_at spaces location.segment).used j 0 < 256) → ((j : ℕ) → slice_index_or w j 0 < 256)
    → last ≡ slice_set spaces location.segment (with_bytes (space_at spaces location.segment) (8 * location.start + index) w) → IsBytesSet spaces last index w
bytes_set spaces last location index w f p low small e values traversed there =
    let r = laid_as spaces location p.0 (numbers 2 values) p.1 none traversed p.2 there in
    let long : length values ≡ length f.values = same_numbers spaces 2 values f.values traversed f.traversed there f.is_at in
    laid_root last location (numbers 2 (written values index w)) none (bytes_laid spaces last location values index w r low small (omega (arith, long, f.within)) e)
