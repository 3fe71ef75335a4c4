-- Lists of structs: what is written of their elements.
use Rattle.std.proofs.Common.{◌≡◌, ℕ, ◌+◌, ◌*◌, ◌<◌, ◌≤◌, Bool, true, false, List, ◌∷◌, length, map, take, drop, refl, sym, ◌∙◌, ap, subst, arith, get_or, length-take}
use Rattle.std.proofs.Math.Nat.{mul-le-mul_left}
use Rattle.capnp_layout.specs.Prelude.{words_of, Trees, count, total_words, first, following, before, trim, run, output, put, fill}
use Rattle.capnp_wire.specs.Prelude.{IsFreeFrom}
use Rattle.capnp_layout.proofs.trees.TreePartsSizeAndPropertiesLemmas.{count-first, total-before, least_pointers_within}
use Rattle.capnp_layout.proofs.trees.PointerNarrowingIdempotenceLemmas.{first-before, following-before}
use Rattle.capnp_values.specs.Fields.{IsSettled, AreFieldsWritten}
use Rattle.capnp_values.specs.StructLists.{AreElements, element_pointers, output_children, fill_elements, HasRoomForElements}
use Rattle.capnp_values.specs.StructListPlaces.{ElementPlace}
use Rattle.capnp_values.proofs.lists.PointerListMeasureLemmas.{count_output}
use Rattle.capnp_values.proofs.lists.ItemMeasureLemmas.{from_here, no_item_left}
use Rattle.capnp_values.proofs.struct_lists.ElementTreesOutputWordsLemmas.{shown_front}

shown_total : (c : Bool) (m p : ℕ) (words : List ℕ) (elements : List (List ℕ)) (fields rest children : Trees) → children ≡ before fields rest → count fields ≡ p
    → total_words (output_children c m p (words ∷ elements) children) ≡ total_words (first m (output c fields)) + total_words (output_children c m p elements rest)
shown_total c m p words elements fields rest children whole many =
    ap total_words (shown_front c m p words elements fields rest children whole many) ∙ total-before (first m (output c fields)) (output_children c m p elements rest)

-- no more pointers are kept than there are
pub pointers_within : (c : Bool) (p : ℕ) (elements : List (List ℕ)) (children : Trees) → element_pointers c p elements children ≤ p
pointers_within true p elements children = least_pointers_within p elements (trim children)
pointers_within false p elements children = omega arith

-- the words and the pointers of one element, put into a block in front of other elements
elements_next : (c : Bool) (d m p at free : ℕ) (words : List ℕ) (elements : List (List ℕ)) (fields rest children : Trees) (block : List ℕ) → children ≡ before fields rest → count fields ≡ p → m ≤ p → d ≤ length words
    → fill_elements m at (map (take d) (words ∷ elements)) free (output_children c m p (words ∷ elements) children) block
    ≡ fill_elements m (at + (d + m)) (map (take d) elements) (free + total_words (first m (output c fields))) (output_children c m p elements rest)
    (fill (run (at + d) m) free (first m (output c fields)) (put at (take d words) block))
elements_next c d m p at free words elements fields rest children block whole many le within =
    let a : Trees = first m (output c fields) in
    let b : Trees = output_children c m p elements rest in
    let some : count (first m (output c fields)) ≡ m = count-first m (output c fields) (omega (arith, count_output c fields, many, le)) in
    let long : length (take d words) ≡ d = omega (arith, length-take d words, within) in
    let own_is : first m (before (first m (output c fields)) (output_children c m p elements rest)) ≡ first m (output c fields) = first-before m a b some in
    let rest_is : following m (before (first m (output c fields)) (output_children c m p elements rest)) ≡ output_children c m p elements rest = following-before m a b some in
    let on : at + d + m ≡ at + (d + m) = omega arith in
    let next : Trees → Trees → ℕ → ℕ → List ℕ =
    λ x y k e. fill_elements m e (map (take d) elements) (free + total_words x) y (fill (run (at + k) m) free x (put at (take d words) block)) in
    ap (λ (t : Trees). fill_elements m at (map (take d) (words ∷ elements)) free t block) (shown_front c m p words elements fields rest children whole many)
    ∙ ap (λ (t : Trees). next t (following m (before a b)) (length (take d words)) (at + length (take d words) + m)) own_is
    ∙ ap (λ (t : Trees). next a t (length (take d words)) (at + length (take d words) + m)) rest_is
    ∙ ap (λ (k : ℕ). next a b k (at + k + m)) long
    ∙ ap (λ (e : ℕ). next a b d e) on

-- The first i structs are written: what is left to be put into the block so that all are written, and the
-- room for it.
pub record StructsLeft {V : Type 0} (w : V → List ℕ) (h : V → Trees → Type 0) (c : Bool) (d m p : ℕ) (items : List V) (start begin i at free : ℕ) (old block : List ℕ) (children : Trees) : Type 0 where
  pub rest : Trees
  pub rest_is : AreElements h (drop i items) rest
  pub fills : fill_elements m start (map (take d) (map w items)) begin (output_children c m p (map w items) children) old
      ≡ fill_elements m at (map (take d) (map w (drop i items))) free (output_children c m p (map w (drop i items)) rest) block
  pub totals : begin + total_words (output_children c m p (map w items) children) ≡ free + total_words (output_children c m p (map w (drop i items)) rest)

pub record ElementsWritten {V : Type 0} (w : V → List ℕ) (h : V → Trees → Type 0) (c : Bool) (d m p : ℕ) (items : List V) (start begin i at free : ℕ) (old block : List ℕ) : Type 0 where
  pub long : length block ≡ length old
  pub same : length (words_of block) ≡ length (words_of old)
  pub at_is : at ≡ start + i * (d + m)
  pub after : start + length items * (d + m) ≤ free
  pub free_from : IsFreeFrom free block
  pub room : (children : Trees) × AreElements h (drop i items) children × (free + total_words (output_children c m p (map w (drop i items)) children) ≤ length (words_of block))
  pub left : (children : Trees) → AreElements h items children → StructsLeft w h c d m p items start begin i at free (words_of old) (words_of block) children

pub structs_writing_begins : {V : Type 0} (w : V → List ℕ) (h : V → Trees → Type 0) (c : Bool) (d m e p : ℕ) (items : List V) (start begin : ℕ) (block : List ℕ)
    → HasRoomForElements w h c d m e p items begin (length (words_of block)) → begin ≡ start + length items * (d + m) → IsFreeFrom begin block
    → ElementsWritten w h c d m p items start begin 0 start begin block block
structs_writing_begins w h c d m e p items start begin block r begin_is f = record {
  long = refl;
  same = refl;
  at_is = omega arith;
  after = omega (arith, begin_is);
  free_from = f;
  room = (r.children, r.children_is, r.fits);
  left = λ children is. record { rest = children; rest_is = is; fills = refl; totals = refl };
}

-- where an element is in the block
spread : (n i w : ℕ) → i < n → i * w + w ≤ n * w
spread n i w within =
    let area : w * (i + 1) ≤ w * n = mul-le-mul_left w (omega (arith, within)) in
    omega (arith, area)

-- the next struct has room
pub next_struct_room : {V : Type 0} (w : V → List ℕ) (h : V → Trees → Type 0) (c : Bool) (d m most p : ℕ) → ((v : V) (t : Trees) → h v t → IsSettled p t) → (items : List V) (start begin i at free room : ℕ) (v : V)
    (old block : List ℕ) → HasRoomForElements w h c d m most p items begin room → i < length items → v ≡ get_or items i v → ElementsWritten w h c d m p items start begin i at free old block
    → ElementPlace (h v) c d m at free (length (words_of block))
next_struct_room {V = V} w h c d m most p s items start begin i at free room v old block has within is so_far =
    let le : m ≤ p = omega (arith, has.pointers_are, pointers_within c p (map w items) has.children) in
    let here = from_here items i v within is in
    let r = subst (λ (l : List V). (children : Trees) × AreElements h l children × (free + total_words (output_children c m p (map w l) children) ≤ length (words_of block))) here so_far.room in
    let f = r.1 in
    let settled = s v f.fields f.fields_is in
    record {
      can = record {
        trees = f.fields;
        trees_are = f.fields_is;
        some = omega (arith, le, settled.many);
        fits = omega (arith, r.2, shown_total c m p (w v) (map w (drop (i + 1) items)) f.fields f.rest r.0 f.whole settled.many);
      };
      before_it = omega (arith, so_far.at_is, so_far.after, spread (length items) i (d + m) within);
    }

-- one more struct is written
pub structs_writing_goes_on : {V : Type 0} (w : V → List ℕ) (h : V → Trees → Type 0) (c : Bool) (d m most p : ℕ) → ((v : V) (t : Trees) → h v t → IsSettled p t) → (items : List V)
    (start begin i at free next room : ℕ) (v : V) (old block new : List ℕ) → HasRoomForElements w h c d m most p items begin room → d ≤ length (w v) → i < length items → v ≡ get_or items i v → length new ≡ length block
    → length (words_of new) ≡ length (words_of block) → IsFreeFrom next new
    → AreFieldsWritten (h v) c (at + d) m free (put at (take d (w v)) (words_of block)) (words_of new) next → ElementsWritten w h c d m p items start begin i at free old block
    → ElementsWritten w h c d m p items start begin (i + 1) (at + (d + m)) next old new
structs_writing_goes_on {V = V} w h c d m most p s items start begin i at free next room v old block new has wide within is long same free_from written so_far =
    let le : m ≤ p = omega (arith, has.pointers_are, pointers_within c p (map w items) has.children) in
    let here = from_here items i v within is in
    let r = subst (λ (l : List V). (children : Trees) × AreElements h l children × (free + total_words (output_children c m p (map w l) children) ≤ length (words_of block))) here so_far.room in
    let f = r.1 in
    let next_is = written.next_is f.fields f.fields_is in
    record {
      long = long ∙ so_far.long;
      same = same ∙ so_far.same;
      at_is = omega (arith, so_far.at_is);
      after = omega (arith, so_far.after, next_is);
      free_from = free_from;
      room = (
        f.rest,
        f.others,
        omega (arith, r.2, same, next_is, shown_total c m p (w v) (map w (drop (i + 1) items)) f.fields f.rest r.0 f.whole (s v f.fields f.fields_is).many),
      );
      left = λ children there.
          let l = so_far.left children there in
          let front : AreElements h (v ∷ drop (i + 1) items) l.rest = subst (λ (x : List V). AreElements h x l.rest) here l.rest_is in
          let many = (s v front.fields front.fields_is).many in
          let others : List (List ℕ) = map w (drop (i + 1) items) in
          let on = written.next_is front.fields front.fields_is in
          let all : List V → List ℕ = λ x. fill_elements m at (map (take d) (map w x)) free (output_children c m p (map w x) l.rest) (words_of block) in
          record {
            rest = front.rest;
            rest_is = front.others;
            fills = l.fills ∙ ap all here
                ∙ elements_next c d m p at free (w v) others front.fields front.rest l.rest (words_of block) front.whole many le wide
                ∙ ap (λ (x : List ℕ). fill_elements m (at + (d + m)) (map (take d) others) (free + total_words (first m (output c front.fields))) (output_children c m p others front.rest) x) (sym (written.words_are front.fields front.fields_is))
                ∙ ap (λ (k : ℕ). fill_elements m (at + (d + m)) (map (take d) others) k (output_children c m p others front.rest) (words_of new)) (sym on);
            totals = l.totals ∙ ap (λ (x : List V). free + total_words (output_children c m p (map w x) l.rest)) here
                ∙ omega (arith, on, shown_total c m p (w v) others front.fields front.rest l.rest front.whole many);
          };
    }

-- all are written
pub record AllWritten {V : Type 0} (w : V → List ℕ) (c : Bool) (d m p : ℕ) (items : List V) (start begin free : ℕ) (children : Trees) (old new : List ℕ) : Type 0 where
  pub words_are : new ≡ fill_elements m start (map (take d) (map w items)) begin (output_children c m p (map w items) children) old
  pub next_is : free ≡ begin + total_words (output_children c m p (map w items) children)

pub structs_writing_ends : {V : Type 0} (w : V → List ℕ) (h : V → Trees → Type 0) (c : Bool) (d m p : ℕ) (items : List V) (start begin i at free : ℕ) (old block : List ℕ) → length items ≤ i
    → ElementsWritten w h c d m p items start begin i at free old block → (children : Trees) → AreElements h items children → AllWritten w c d m p items start begin free children (words_of old) (words_of block)
structs_writing_ends {V = V} w h c d m p items start begin i at free old block past so_far children is =
    let l = so_far.left children is in
    let empty = no_item_left items i past in
    record {
      words_are = sym (l.fills ∙ ap (λ (x : List V). fill_elements m at (map (take d) (map w x)) free (output_children c m p (map w x) l.rest) (words_of block)) empty);
      next_is = omega (arith, l.totals, ap (λ (x : List V). total_words (output_children c m p (map w x) l.rest)) empty);
    }
