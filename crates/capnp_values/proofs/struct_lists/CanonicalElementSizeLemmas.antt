-- Lists of structs: the data words and pointers that each element has in canonical form, as many as the largest
-- one needs.
use Rattle.std.proofs.Common.{◌≡◌, ℕ, ◌+◌, ◌<◌, ◌≤◌, true, max, List, ◌∷◌, length, map, drop, ◌∙◌, ap, subst, arith, get_or}
use Rattle.capnp_layout.specs.Prelude.{Trees, count, cut_zeros, least_data, least_pointers, trim}
use Rattle.capnp_values.specs.Fields.{IsSettled, kept_fields}
use Rattle.capnp_values.specs.StructLists.{AreElements}
use Rattle.capnp_values.proofs.lists.ItemMeasureLemmas.{from_here, no_item_left}
use Rattle.capnp_values.proofs.struct_lists.ElementTreesOutputWordsLemmas.{pointers_front}

-- The first i structs need a number of data words and of pointers. All structs need as much as these or the
-- ones after them do.
pub record NeededSoFar {V : Type 0} (w : V → List ℕ) (h : V → Trees → Type 0) (p : ℕ) (items : List V) (i data_words pointers : ℕ) : Type 0 where
  pub least_is : least_data (map w items) ≡ max data_words (least_data (map w (drop i items)))
  pub left : (children : Trees) → AreElements h items children
      → (rest : Trees) × AreElements h (drop i items) rest × (least_pointers p (map w items) (trim children) ≡ max pointers (least_pointers p (map w (drop i items)) (trim rest)))

pub needing_begins : {V : Type 0} (w : V → List ℕ) (h : V → Trees → Type 0) (p : ℕ) (items : List V) → NeededSoFar w h p items 0 0 0
needing_begins w h p items = record { least_is = omega arith; left = λ children is. (children, is, omega arith) }

pub needing_goes_on : {V : Type 0} (w : V → List ℕ) (h : V → Trees → Type 0) (p : ℕ) → ((v : V) (t : Trees) → h v t → IsSettled p t) → (items : List V) (i data_words pointers more_data more_pointers used kept : ℕ)
    (v : V) → i < length items → v ≡ get_or items i v → used ≡ length (cut_zeros (w v)) → ((t : Trees) → h v t → kept ≡ count (kept_fields true t)) → more_data ≡ max data_words used
    → more_pointers ≡ max pointers kept → NeededSoFar w h p items i data_words pointers → NeededSoFar w h p items (i + 1) more_data more_pointers
needing_goes_on {V = V} w h p s items i data_words pointers more_data more_pointers used kept v within is used_is kept_is data_is pointers_are so_far =
    let here = from_here items i v within is in
    let data_here : least_data (map w (drop i items)) ≡ max (length (cut_zeros (w v))) (least_data (map w (drop (i + 1) items))) = ap (λ (l : List V). least_data (map w l)) here in
    record {
      least_is = omega (arith, so_far.least_is, data_here, used_is, data_is);
      left = λ children there.
          let l = so_far.left children there in
          let front : AreElements h (v ∷ drop (i + 1) items) l.0 = subst (λ (x : List V). AreElements h x l.0) here l.1 in
          let many = (s v front.fields front.fields_is).many in
          let pointers_here : least_pointers p (map w (drop i items)) (trim l.0) ≡ max (count (kept_fields true front.fields)) (least_pointers p (map w (drop (i + 1) items)) (trim front.rest)) =
          ap (λ (x : List V). least_pointers p (map w x) (trim l.0)) here ∙ pointers_front true p (w v) (map w (drop (i + 1) items)) front.fields front.rest l.0 front.whole many in
          (front.rest, front.others, omega (arith, l.2, pointers_here, kept_is front.fields front.fields_is, pointers_are));
    }

pub needing_ends : {V : Type 0} (w : V → List ℕ) (h : V → Trees → Type 0) (p : ℕ) (items : List V) (i data_words pointers : ℕ) → length items ≤ i → NeededSoFar w h p items i data_words pointers
    → (children : Trees) → AreElements h items children → (data_words ≡ least_data (map w items)) × (pointers ≡ least_pointers p (map w items) (trim children))
needing_ends {V = V} w h p items i data_words pointers past so_far children is =
    let l = so_far.left children is in
    let empty = no_item_left items i past in (
      omega (arith, so_far.least_is, ap (λ (x : List V). least_data (map w x)) empty),
      omega (arith, l.2, ap (λ (x : List V). least_pointers p (map w x) (trim l.0)) empty),
    )
