-- What is written of consecutive values of one type.
use Rattle.std.proofs.Common.{◌≡◌, ℕ, suc, ◌+◌, ◌-◌, ◌/◌, ◌<◌, ◌≤◌, Bool, List, [], ◌∷◌, length, drop, refl, sym, ◌∙◌, ap, subst, arith, get_or}
use Rattle.capnp_layout.specs.Prelude.{words_of, Form, Trees, none, tree, total_words, pointer_to, run, body, output, put, fill}
use Rattle.capnp_wire.specs.Prelude.{IsCopied, HasRoomAt, IsFreeFrom}
use Rattle.capnp_wire.specs.declared.layout.copy.Copied.{Copied}
use Rattle.capnp_layout.proofs.words.WordsOfBytesLemmas.{length-words_of}
use Rattle.capnp_layout.proofs.layouts.PutWordsCombinedLemmas.{length-put}
use Rattle.capnp_wire.proofs.layouts.TreeCopySequenceLemmas.{fill_step, none_output}
use Rattle.capnp_wire.proofs.layouts.ZeroFreePartLemmas.{free_after, free_copied}
use Rattle.capnp_wire.proofs.layouts.CopyPlanFillsLayoutLemmas.{room_output}
use Rattle.capnp_values.specs.Lists.{AreItems, HasRoomForItems, AreItemsWritten}
use Rattle.capnp_values.proofs.values.ValueAsPartWordsLemmas.{part_total, more_total}
use Rattle.capnp_values.proofs.lists.ItemMeasureLemmas.{from_here, no_item_left}

-- The first i values are written: what is left to be put into the block so that all are written, and the
-- room for it.
pub record ItemsLeft {V : Type 0} (h : V → Trees → Type 0) (c : Bool) (items : List V) (first i free : ℕ) (old block : List ℕ) (trees : Trees) : Type 0 where
  pub rest : Trees
  pub rest_is : AreItems h (drop i items) rest
  pub fills : fill (run first (length items)) (first + length items) (output c trees) old ≡ fill (run (first + i) (length items - i)) free (output c rest) block
  pub totals : first + length items + total_words (output c trees) ≡ free + total_words (output c rest)

pub record ItemsWritten {V : Type 0} (h : V → Trees → Type 0) (c : Bool) (items : List V) (first i free : ℕ) (old block : List ℕ) : Type 0 where
  pub long : length block ≡ length old
  pub same : length (words_of block) ≡ length (words_of old)
  pub after : first + length items ≤ free
  pub free_from : IsFreeFrom free block
  pub room : (trees : Trees) × AreItems h (drop i items) trees × (free + total_words (output c trees) ≤ length (words_of block))
  pub left : (trees : Trees) → AreItems h items trees → ItemsLeft h c items first i free (words_of old) (words_of block) trees

pub writing_begins : {V : Type 0} (h : V → Trees → Type 0) (c : Bool) (items : List V) (first : ℕ) (block : List ℕ)
    → HasRoomForItems (λ t. AreItems h items t) c (first + length items) (length (words_of block)) → IsFreeFrom (first + length items) block
    → ItemsWritten h c items first 0 (first + length items) block block
writing_begins h c items first block r f = record {
  long = refl;
  same = refl;
  after = omega arith;
  free_from = f;
  room = (r.trees, r.trees_are, r.fits);
  left = λ trees is.
      let start : first ≡ first + 0 = omega arith in
      let all : length items ≡ length items - 0 = omega arith in
      record {
        rest = trees;
        rest_is = is;
        fills = ap (λ (k : ℕ). fill (run k (length items)) (first + length items) (output c trees) (words_of block)) start
            ∙ ap (λ (k : ℕ). fill (run (first + 0) k) (first + length items) (output c trees) (words_of block)) all;
        totals = refl;
      };
}

-- the next value has room
pub item_room : {V : Type 0} (h : V → Trees → Type 0) (c : Bool) (items : List V) (first i free : ℕ) (v : V) (old block : List ℕ) → i < length items → v ≡ get_or items i v
    → ItemsWritten h c items first i free old block → HasRoomAt (h v) c free (length (words_of block))
item_room {V = V} h c items first i free v old block within is w =
    let r = w.room in
    let front : AreItems h (v ∷ drop (i + 1) items) r.0 = subst (λ (l : List V). AreItems h l r.0) (from_here items i v within is) r.1 in
    record {
      trees = tree front.form front.children none;
      tree_is = front.part.tree_is;
      rooms = front.part.rooms;
      fits = omega (arith, r.2, ap (λ (t : Trees). total_words (output c t)) front.whole, more_total c front.form front.children front.rest);
    }

-- one more value is written
pub record PutNext (c : Bool) (slot free : ℕ) (trees : Trees) (block mid new : List ℕ) (copied : Copied) : Type 0 where
  pub mid_long : length mid ≡ length block
  pub new_long : length new ≡ length mid
  pub own : IsCopied (output c trees) (free - (slot + 1)) free (words_of block) (words_of mid) copied
  pub put_is : words_of new ≡ put slot (copied.pointer ∷ []) (words_of mid)

fill_next : (c : Bool) (form : Form) (children rest trees : Trees) (slot k n free : ℕ) (now mid new : List ℕ) (copied : Copied) → trees ≡ tree form children rest → n ≡ suc k
    → IsCopied (output c (tree form children none)) (free - (slot + 1)) free now mid copied → new ≡ put slot (copied.pointer ∷ []) mid
    → fill (run slot n) free (output c trees) now ≡ fill (run (slot + 1) k) copied.next (output c rest) new
fill_next c form children rest trees slot k n free now mid new copied whole n_is own put_is =
    let words_are : mid ≡ put free (body (output c (tree form children none))) now = own.words_are in
    let pointer_is : copied.pointer ≡ pointer_to (output c (tree form children none)) (free - (slot + 1)) = own.pointer_is in
    let next_is : copied.next ≡ free + total_words (output c (tree form children none)) = own.next_is in
    ap (λ (t : Trees). fill (run slot n) free (output c t) now) whole
    ∙ ap (λ (m : ℕ). fill (run slot m) free (output c (tree form children rest)) now) n_is
    ∙ fill_step c slot (run (slot + 1) k) free form children rest now
    ∙ rw (put_is, words_are, pointer_is, next_is) refl

left_next : {V : Type 0} (h : V → Trees → Type 0) (c : Bool) (items : List V) (first i free : ℕ) (v : V) (old block mid new : List ℕ) (copied : Copied) (trees : Trees) → i < length items
    → v ≡ get_or items i v → ((t : Trees) → h v t → PutNext c (first + i) free t block mid new copied) → (l : ItemsLeft h c items first i free (words_of old) (words_of block) trees)
    → ItemsLeft h c items first (i + 1) copied.next (words_of old) (words_of new) trees
left_next {V = V} h c items first i free v old block mid new copied trees within is put l =
    let front : AreItems h (v ∷ drop (i + 1) items) l.rest = subst (λ (x : List V). AreItems h x l.rest) (from_here items i v within is) l.rest_is in
    let p = put (tree front.form front.children none) front.part.tree_is in
    let count : length items - i ≡ suc (length items - (i + 1)) = omega (arith, within) in
    let slot : first + i + 1 ≡ first + (i + 1) = omega arith in
    record {
      rest = front.rest;
      rest_is = front.others;
      fills = l.fills
          ∙ fill_next c front.form front.children front.rest l.rest (first + i) (length items - (i + 1)) (length items - i) free (words_of block) (words_of mid) (words_of new) copied front.whole count p.own p.put_is
          ∙ ap (λ (k : ℕ). fill (run k (length items - (i + 1))) copied.next (output c front.rest) (words_of new)) slot;
      totals = omega (arith, l.totals, p.own.next_is, ap (λ (t : Trees). total_words (output c t)) front.whole, more_total c front.form front.children front.rest);
    }

pub writing_goes_on : {V : Type 0} (h : V → Trees → Type 0) (c : Bool) (items : List V) (first i free : ℕ) (v : V) (old block mid new : List ℕ) (copied : Copied) → i < length items
    → v ≡ get_or items i v → ((t : Trees) → h v t → PutNext c (first + i) free t block mid new copied) → ItemsWritten h c items first i free old block
    → ItemsWritten h c items first (i + 1) copied.next old new
writing_goes_on {V = V} h c items first i free v old block mid new copied within is put w =
    let r = w.room in
    let front : AreItems h (v ∷ drop (i + 1) items) r.0 = subst (λ (x : List V). AreItems h x r.0) (from_here items i v within is) r.1 in
    let t : Trees = tree front.form front.children none in
    let p = put (tree front.form front.children none) front.part.tree_is in
    let total : total_words (output c r.0) ≡ part_total c front.form front.children + total_words (output c front.rest) =
    ap (λ (x : Trees). total_words (output c x)) front.whole ∙ more_total c front.form front.children front.rest in
    let rooms = room_output c t front.part.rooms in
    let fits : free + part_total c front.form front.children ≤ length (words_of block) = omega (arith, r.2, total) in
    let mid_same : length (words_of mid) ≡ length (words_of block) = omega (arith, ap (λ (n : ℕ). n / 8) p.mid_long, length-words_of mid, length-words_of block) in
    let before : first + i + 1 ≤ copied.next = omega (arith, within, w.after, p.own.next_is) in
    let new_same : length (words_of new) ≡ length (words_of mid) = ap length p.put_is ∙ length-put (first + i) (copied.pointer ∷ []) (words_of mid) (omega (arith, before, fits, mid_same, p.own.next_is)) in
    let mid_free = free_copied (output c t) (free - (first + i + 1)) free block mid copied p.own rooms p.mid_long fits w.free_from in
    record {
      long = p.new_long ∙ p.mid_long ∙ w.long;
      same = new_same ∙ mid_same ∙ w.same;
      after = omega (arith, w.after, p.own.next_is);
      free_from = free_after (first + i) copied.next copied.next (copied.pointer ∷ []) mid new p.put_is p.new_long before (omega arith) (omega (arith, before, fits, mid_same, p.own.next_is)) mid_free;
      room = (front.rest, front.others, omega (arith, r.2, total, p.own.next_is, new_same, mid_same));
      left = λ trees there. left_next h c items first i free v old block mid new copied trees within is put (w.left trees there);
    }

-- all are written
no_items : {V : Type 0} (h : V → Trees → Type 0) (items : List V) (n : ℕ) (t : Trees) → length items ≤ n → AreItems h (drop n items) t → t ≡ none
no_items {V = V} h items n t past is = subst (λ (l : List V). AreItems h l t) (no_item_left items n past) is

pub writing_ends : {V : Type 0} (h : V → Trees → Type 0) (c : Bool) (items : List V) (first i free : ℕ) (old block : List ℕ) → length items ≤ i → ItemsWritten h c items first i free old block
    → AreItemsWritten (λ t. AreItems h items t) c first (length items) (words_of old) (words_of block) free
writing_ends h c items first i free old block past w = record {
  words_are = λ trees is.
      let l = w.left trees is in
      let nothing : output c l.rest ≡ none = ap (output c) (no_items h items i l.rest past l.rest_is) ∙ none_output c in
      sym (l.fills ∙ ap (λ (t : Trees). fill (run (first + i) (length items - i)) free t (words_of block)) nothing);
  next_is = λ trees is.
      let l = w.left trees is in
      let nothing : total_words (output c l.rest) ≡ 0 = ap total_words (ap (output c) (no_items h items i l.rest past l.rest_is) ∙ none_output c) in
      omega (arith, l.totals, nothing);
}
