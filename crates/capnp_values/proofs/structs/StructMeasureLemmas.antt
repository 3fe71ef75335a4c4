-- Structs as values: their words, what is measured of them, and why measuring fails; then their room in a block
-- and what is written.
use Rattle.std.proofs.Common.{◌≡◌, ℕ, ◌+◌, ◌≤◌, ◌<◌, ◌^◌, Bool, true, false, List, length, take, Result, Ok, Err, inl, inr, refl, sym, ◌∙◌, ap, subst, arith}
use Rattle.std.specs.Prelude.{All, IsTrue, min, ◌↔◌, ◌==◌, if◌then◌else◌, ◌⊎◌}
use Rattle.std.proofs.lemmas.Bool.{cases_lt}
use Rattle.std.proofs.lemmas.List.{take_all}
use Rattle.capnp_frame.specs.declared.error.Error.{Error}
use Rattle.capnp_frame.specs.declared.error.ErrorKind.{ErrorKind}
use Rattle.capnp_frame.specs.declared.error.ErrorKind.TheVariants.{AllocationTooLarge}
use Rattle.capnp_layout.specs.Prelude.{struct, Trees, none, tree, count, total_words, first, trim, struct_pointer, minus_one, run, output, AllHaveRoom, put, fill}
use Rattle.capnp_wire.specs.Prelude.{IsCopied, HasRoomAt}
use Rattle.capnp_layout.proofs.trees.TrimCommutesWithPartsLemmas.{first_cut, cut_front}
use Rattle.capnp_layout.proofs.trees.PointerNarrowingIdempotenceLemmas.{first_all}
use Rattle.capnp_layout.proofs.trees.TrimIdempotenceAndSizeLemmas.{count-trim, room_trim}
use Rattle.capnp_layout.proofs.trees.TreeSizeUntrimmedAndTrimmedLemmas.{total_cut}
use Rattle.capnp_wire.proofs.views.ValueAsPartTwoMeasuresLemmas.{same_tree_words}
use Rattle.capnp_layout.proofs.trees.TreePartsSizeAndPropertiesLemmas.{count-cut}
use Rattle.capnp_wire.proofs.layouts.CopyPlanFillsLayoutLemmas.{room_output}
use Rattle.capnp_values.specs.Measured.{tree_words, MeasuresValue}
use Rattle.capnp_values.specs.Fields.{IsSettled, kept_fields, CanWriteFields}
use Rattle.capnp_values.specs.Structs.{IsStructTree, StructError, kept_words}
use Rattle.capnp_wire.specs.declared.traits.TreeWords.{TreeWords}
use Rattle.capnp_values.proofs.values.MeasureOutcomeIsUniqueLemmas.{ok_not_err, same_words}
use Rattle.capnp_values.proofs.layouts.ObjectFillLemmas.{struct_filled}

pub kept_first : (c : Bool) (t : Trees) → first (count (kept_fields c t)) (output c t) ≡ kept_fields c t
kept_first true t = first_cut (trim t)
kept_first false t = first_all (count t) t refl

pub kept_within : (c : Bool) (t : Trees) → count (kept_fields c t) ≤ count t
kept_within true t = omega (arith, count-cut (trim t), count-trim t)
kept_within false t = omega arith

pub kept_front : (c : Bool) (words : List ℕ) → take (length (kept_words c words)) words ≡ kept_words c words
kept_front true words = cut_front words
kept_front false words = take_all (length words) words (omega arith)

-- a struct in the form that is written
pub struct_output : (c : Bool) (words : List ℕ) (children : Trees) → output c (tree (struct words) children none) ≡ tree (struct (kept_words c words)) (kept_fields c children) none
struct_output true words children = refl
struct_output false words children = refl

pub struct_value_total : (c : Bool) (words : List ℕ) (children : Trees)
    → total_words (output c (tree (struct words) children none)) ≡ length (kept_words c words) + count (kept_fields c children) + total_words (kept_fields c children)
struct_value_total true words children = omega arith
struct_value_total false words children = omega arith

-- fields have the words of the pointers that are kept of them
fields_total : (c : Bool) (fields : Trees) → AllHaveRoom fields → total_words (kept_fields c fields) ≡ total_words (output c fields)
fields_total true fields rooms = total_cut (trim fields) (room_trim fields rooms)
fields_total false fields rooms = refl

-- what is measured of it
struct_words : (c : Bool) (words : List ℕ) (size : ℕ) (children trees : Trees) (fields : TreeWords) (kept untrimmed output_words : ℕ) → trees ≡ tree (struct words) children none → IsSettled size children
    → fields ≡ tree_words c children → kept ≡ count (kept_fields c children) → untrimmed ≡ length words + size + fields.untrimmed → output_words ≡ length (kept_words c words) + kept + fields.output
    → record { untrimmed = untrimmed; output = output_words } ≡ tree_words c trees
struct_words c words size children trees fields kept untrimmed output_words whole s fields_is kept_is untrimmed_same output_is =
    let a : fields.untrimmed ≡ total_words children = ap (λ (w : TreeWords). w.untrimmed) fields_is in
    let b : fields.output ≡ total_words (output c children) = ap (λ (w : TreeWords). w.output) fields_is in
    same_tree_words (record { untrimmed = untrimmed; output = output_words }) (tree_words c (tree (struct words) children none)) (omega (arith, untrimmed_same, a, s.many))
    (omega (arith, output_is, b, kept_is, fields_total c children s.rooms, struct_value_total c words children)) ∙ sym (ap (tree_words c) whole)

allocation_too_large : (d p : ℕ) → d < 2 ^ 16 → p < 2 ^ 16 → (2 ^ 16 ≤ d ⊎ 2 ^ 16 ≤ p) → ⊥
allocation_too_large d p a b (inl many) = omega (arith, a, many)
allocation_too_large d p a b (inr many) = omega (arith, b, many)

pub struct_value_measured : (c : Bool) (words : List ℕ) (size : ℕ) (hs : Trees → Type 0) (rs : ErrorKind → Type 0) (returned : Result TreeWords Error) (fields : TreeWords) (kept untrimmed output_words : ℕ)
    → ((t : Trees) → hs t → IsSettled size t) → returned ≡ Ok fields → MeasuresValue hs rs c returned → ((t : Trees) → hs t → kept ≡ count (kept_fields c t)) → length words < 2 ^ 16 → size < 2 ^ 16
    → All (λ w. w < 2 ^ 64) words → untrimmed ≡ length words + size + fields.untrimmed → output_words ≡ length (kept_words c words) + kept + fields.output
    → MeasuresValue (λ t. IsStructTree words size hs t) (λ k. StructError (length words) size rs k) c (Ok (record { untrimmed = untrimmed; output = output_words }))
struct_value_measured c words size hs rs returned fields kept untrimmed output_words settled was m kept_is few_words few_pointers small untrimmed_same output_is =
    let a = (subst (λ (x : Result TreeWords Error). MeasuresValue hs rs c x) was m).returned in
    let s = settled a.0 a.1 in
    record {
      returned = (
        tree (struct words) a.0 none,
        record { children = a.0; children_is = a.1; few_words = few_words; few_pointers = few_pointers; whole = refl },
        ((few_words, omega (arith, s.many, few_pointers), small), s.rooms, tt),
        struct_words c words size a.0 (tree (struct words) a.0 none) fields kept untrimmed output_words refl s a.3 (kept_is a.0 a.1) untrimmed_same output_is,
      );
      found = λ trees is.
          let same : fields ≡ tree_words c is.children = same_words returned fields (tree_words c is.children) was (m.found is.children is.children_is) in
          ap (λ (w : TreeWords). Ok w)
          (struct_words c words size is.children trees fields kept untrimmed output_words is.whole (settled is.children is.children_is) same (kept_is is.children is.children_is) untrimmed_same output_is);
      exact = λ kind errors. elim errors [
        | inl many ↦ absurd (allocation_too_large (length words) size few_words few_pointers many.0)
        | inr others ↦ absurd (ok_not_err returned fields (λ e. e.kind ≡ kind) was (m.exact kind others.2))
      ];
    }

-- it fails: a pointer can't declare its size, or its fields fail
pub struct_too_large : (c : Bool) (words : List ℕ) (size : ℕ) (hs : Trees → Type 0) (rs : ErrorKind → Type 0) (error : Error) → (2 ^ 16 ≤ length words ⊎ 2 ^ 16 ≤ size)
    → error.kind ≡ AllocationTooLarge (2 ^ 16) → MeasuresValue (λ t. IsStructTree words size hs t) (λ k. StructError (length words) size rs k) c (Err error)
struct_too_large c words size hs rs error many is = record {
  returned = inl (many, is);
  found = λ trees there. absurd (allocation_too_large (length words) size there.few_words there.few_pointers many);
  exact = λ kind errors. elim errors [
    | inl there ↦ (is ∙ sym there.1)
    | inr others ↦ absurd (allocation_too_large (length words) size others.0 others.1 many)
  ];
}

pub struct_error : (c : Bool) (words : List ℕ) (size : ℕ) (hs : Trees → Type 0) (rs : ErrorKind → Type 0) (returned : Result TreeWords Error) (error : Error) → returned ≡ Err error
    → MeasuresValue hs rs c returned → length words < 2 ^ 16 → size < 2 ^ 16 → MeasuresValue (λ t. IsStructTree words size hs t) (λ k. StructError (length words) size rs k) c (Err error)
struct_error c words size hs rs returned error was m few_words few_pointers =
    let m_err : MeasuresValue hs rs c (Err error) = subst (λ (x : Result TreeWords Error). MeasuresValue hs rs c x) was m in
    record {
      returned = inr (few_words, few_pointers, m_err.returned);
      found = λ trees is. let ok : Err error ≡ Ok (tree_words c is.children) = m_err.found is.children is.children_is in absurd (cc);
      exact = λ kind there. elim there [
        | inl many ↦ absurd (allocation_too_large (length words) size few_words few_pointers many.0)
        | inr others ↦ m_err.exact kind others.2
      ];
    }

-- a pointer can't declare a size for which it fails
pub not_fitting : (a b size : ℕ) (fits : Bool) → (IsTrue fits ↔ ((a < 2 ^ 16) × (b < 2 ^ 16))) → fits ≡ false → b ≡ min size (2 ^ 16) → (2 ^ 16 ≤ a ⊎ 2 ^ 16 ≤ size)
not_fitting a b size fits told unfit b_is = elim (cases_lt a (2 ^ 16)) [
  | inl few ↦ (elim (cases_lt size (2 ^ 16)) [
    | inl small ↦ (let yes : fits ≡ true = told.1 (few, omega (arith, small, b_is)) in absurd (cc))
    | inr many ↦ inr many
  ])
  | inr many ↦ inl many
]

-- a struct that is one tree has room
pub struct_rooms : (words : List ℕ) (size : ℕ) (hs : Trees → Type 0) (trees : Trees) → ((t : Trees) → hs t → IsSettled size t) → IsStructTree words size hs trees → All (λ w. w < 2 ^ 64) words
    → AllHaveRoom trees
struct_rooms words size hs trees settled is small =
    let s = settled is.children is.children_is in
    subst AllHaveRoom (sym is.whole) ((is.few_words, omega (arith, s.many, is.few_pointers), small), s.rooms, tt)

pub struct_small : (words : List ℕ) (size : ℕ) (hs : Trees → Type 0) (trees : Trees) → IsStructTree words size hs trees → AllHaveRoom trees → All (λ w. w < 2 ^ 64) words
struct_small words size hs trees is rooms = (subst AllHaveRoom is.whole rooms).0.2

-- what is kept of it has room in a block
pub record StructPlace (hs : Trees → Type 0) (c : Bool) (next d n room : ℕ) (children : Trees) : Type 0 where
  pub can : CanWriteFields hs c n (next + d + n) room
  pub first_fits : next + d + n + total_words (first n (output c children)) ≤ room

pub struct_place : (c : Bool) (words : List ℕ) (size : ℕ) (hs : Trees → Type 0) (next d n room : ℕ) → (w : HasRoomAt (λ t. IsStructTree words size hs t) c next room) → d ≡ length (kept_words c words)
    → ((children : Trees) → hs children → n ≡ count (kept_fields c children)) → StructPlace hs c next d n room w.tree_is.children
struct_place c words size hs next d n room w d_is kept_is =
    let children : Trees = w.tree_is.children in
    let n_is : n ≡ count (kept_fields c w.tree_is.children) = kept_is w.tree_is.children w.tree_is.children_is in
    let fields_there : total_words (first n (output c w.tree_is.children)) ≡ total_words (kept_fields c w.tree_is.children) =
    ap total_words (ap (λ (k : ℕ). first k (output c children)) n_is ∙ kept_first c children) in
    let total : total_words (output c w.trees) ≡ length (kept_words c words) + count (kept_fields c w.tree_is.children) + total_words (kept_fields c w.tree_is.children) =
    ap (λ (t : Trees). total_words (output c t)) w.tree_is.whole ∙ struct_value_total c words children in
    record {
      can = record { trees = children; trees_are = w.tree_is.children_is; some = omega (arith, n_is, kept_within c children); fits = omega (arith, w.fits, total, fields_there, d_is, n_is) };
      first_fits = omega (arith, w.fits, total, fields_there, d_is, n_is);
    }

-- what is written of it
pub struct_copied : (c : Bool) (words : List ℕ) (children trees : Trees) (gap next d n free tag : ℕ) (old new : List ℕ) → trees ≡ tree (struct words) children none → d ≡ length (kept_words c words)
    → n ≡ count (kept_fields c children) → AllHaveRoom trees → tag ≡ struct_pointer (if d + n == 0 then minus_one else gap) d n → free ≤ length old
    → new ≡ fill (run (next + d) n) (next + d + n) (first n (output c children)) (put next (take d words) old)
    → free ≡ next + d + n + total_words (first n (output c children)) → IsCopied (output c trees) gap next old new (record { pointer = tag; next = free })
struct_copied c words children trees gap next d n free tag old new whole d_is n_is rooms tag_is fits new_is free_is =
    let ws : List ℕ = kept_words c words in
    let fields : Trees = kept_fields c children in
    let form_is : output c trees ≡ tree (struct (kept_words c words)) (kept_fields c children) none = ap (output c) whole ∙ struct_output c words children in
    let all : AllHaveRoom (tree (struct (kept_words c words)) (kept_fields c children) none) = subst AllHaveRoom form_is (room_output c trees rooms) in
    let words_there : take d words ≡ kept_words c words = ap (λ (k : ℕ). take k words) d_is ∙ kept_front c words in
    let fields_there : first n (output c children) ≡ kept_fields c children = ap (λ (k : ℕ). first k (output c children)) n_is ∙ kept_first c children in
    let on : next + d + count (kept_fields c children) ≡ next + (length (kept_words c words) + count (kept_fields c children)) = omega (arith, d_is) in
    let tag_of : ℕ → ℕ → ℕ = λ e k. struct_pointer (if e + k == 0 then minus_one else gap) e k in
    let filled = struct_filled next ws fields old all.0 all.1 (omega (arith, fits, free_is, ap total_words fields_there, d_is, n_is)) in
    subst (λ (t : Trees). IsCopied t gap next old new (record { pointer = tag; next = free })) (sym form_is) (record {
      words_are = new_is
          ∙ ap (λ (l : List ℕ). fill (run (next + d) n) (next + d + n) (first n (output c children)) (put next l old)) words_there
          ∙ ap (λ (t : Trees). fill (run (next + d) n) (next + d + n) t (put next ws old)) fields_there
          ∙ ap (λ (k : ℕ). fill (run (next + d) k) (next + d + k) fields (put next ws old)) n_is
          ∙ ap (λ (k : ℕ). fill (run (next + k) (count fields)) (next + d + count fields) fields (put next ws old)) d_is
          ∙ ap (λ (k : ℕ). fill (run (next + length ws) (count fields)) k fields (put next ws old)) on
          ∙ filled;
      pointer_is = tag_is ∙ ap (λ (k : ℕ). tag_of k n) d_is ∙ ap (λ (k : ℕ). tag_of (length ws) k) n_is;
      next_is = omega (arith, free_is, ap total_words fields_there, d_is, n_is);
    })
