-- Fields that are written: the first value, and the fields after it.
use Rattle.std.proofs.Common.{◌≡◌, ℕ, suc, ◌+◌, ◌-◌, ◌/◌, ◌<◌, ◌≤◌, Bool, true, false, List, [], ◌∷◌, length, sym, ◌∙◌, ap, arith}
use Rattle.capnp_layout.specs.Prelude.{words_of, Form, Trees, none, tree, count, total_words, first, trim, trim_form, trim_children, pointer_to, run, body, output, put, fill}
use Rattle.capnp_wire.specs.Prelude.{IsCopied, HasRoomAt, IsFreeFrom}
use Rattle.capnp_wire.specs.declared.layout.copy.Copied.{Copied}
use Rattle.capnp_layout.proofs.words.WordsOfBytesLemmas.{length-words_of}
use Rattle.capnp_wire.proofs.layouts.TreeCopySequenceLemmas.{fill_step}
use Rattle.capnp_wire.proofs.layouts.ZeroFreePartLemmas.{free_after, free_copied}
use Rattle.capnp_wire.proofs.layouts.CopyPlanFillsLayoutLemmas.{room_output}
use Rattle.capnp_values.specs.Fields.{IsPart, IsValueInFront, CanWriteFields, AreFieldsWritten}
use Rattle.capnp_values.proofs.values.ValueAsPartWordsLemmas.{part_total}

-- fields that are written: the first value, and the fields after it
pub record FieldsSplit (h hs : Trees → Type 0) (c : Bool) (n next room : ℕ) : Type 0 where
  pub form : Form
  pub children : Trees
  pub rest : Trees
  pub part : IsPart h form children
  pub others : hs rest
  pub some : n ≤ count rest
  pub fits : next + part_total c form children + total_words (first n (output c rest)) ≤ room

pub first_total : (c : Bool) (form : Form) (children rest trees : Trees) (n m : ℕ) → trees ≡ tree form children rest → n ≡ suc m
    → total_words (first n (output c trees)) ≡ part_total c form children + total_words (first m (output c rest))
first_total true form children rest trees n m whole is =
    let all : total_words (first n (trim trees)) ≡ total_words (first (suc m) (trim (tree form children rest))) =
    ap (λ (k : ℕ). total_words (first k (trim trees))) is ∙ ap (λ (t : Trees). total_words (first (suc m) (trim t))) whole in
    omega (arith, all)
first_total false form children rest trees n m whole is =
    let all : total_words (first n trees) ≡ total_words (first (suc m) (tree form children rest)) =
    ap (λ (k : ℕ). total_words (first k trees)) is ∙ ap (λ (t : Trees). total_words (first (suc m) t)) whole in
    omega (arith, all)

split_at : (h hs : Trees → Type 0) (c : Bool) (n m next room : ℕ) (trees : Trees) (is : IsValueInFront h hs trees) → n ≡ suc m → n ≤ count trees → next + total_words (first n (output c trees)) ≤ room
    → FieldsSplit h hs c m next room
split_at h hs c n m next room trees is n_is some fits = record {
  form = is.form;
  children = is.children;
  rest = is.rest;
  part = is.part;
  others = is.others;
  some = omega (arith, some, n_is, ap count is.whole);
  fits = omega (arith, fits, first_total c is.form is.children is.rest trees n m is.whole n_is);
}

pub fields_split : (h hs : Trees → Type 0) (c : Bool) (n m next room : ℕ) → n ≡ suc m → CanWriteFields (λ t. IsValueInFront h hs t) c n next room → FieldsSplit h hs c m next room
fields_split h hs c n m next room n_is r = split_at h hs c n m next room r.trees r.trees_are n_is r.some r.fits

-- the first value has room
pub first_room : (h hs : Trees → Type 0) (c : Bool) (n m next room : ℕ) → n ≡ suc m → CanWriteFields (λ t. IsValueInFront h hs t) c n next room → HasRoomAt h c next room
first_room h hs c n m next room n_is r =
    let s = fields_split h hs c n m next room n_is r in
    record { trees = tree s.form s.children none; tree_is = s.part.tree_is; rooms = s.part.rooms; fits = omega (arith, s.fits) }

-- what is left once the first value is written, and its pointer put
pub record FieldsStep (hs : Trees → Type 0) (c : Bool) (slot m : ℕ) (old mid : List ℕ) (copied : Copied) : Type 0 where
  pub put_room : slot < length (words_of mid)
  pub before_it : slot + 1 + m ≤ copied.next
  pub can : (new : List ℕ) → length new ≡ length mid → CanWriteFields hs c m copied.next (length (words_of new))
  pub free_from : (new : List ℕ) → words_of new ≡ put slot (copied.pointer ∷ []) (words_of mid) → length new ≡ length mid → IsFreeFrom copied.next new

pub fields_step : (h hs : Trees → Type 0) (c : Bool) (slot n m next : ℕ) (old mid : List ℕ) (copied : Copied) → n ≡ suc m → CanWriteFields (λ t. IsValueInFront h hs t) c n next (length (words_of old)) → IsFreeFrom next old
    → slot + n ≤ next → ((t : Trees) → h t → IsCopied (output c t) (next - (slot + 1)) next (words_of old) (words_of mid) copied) → length mid ≡ length old → FieldsStep hs c slot m old mid copied
fields_step h hs c slot n m next old mid copied n_is r f before_it own long =
    let s = fields_split h hs c n m next (length (words_of old)) n_is r in
    let t : Trees = tree s.form s.children none in
    let d = own (tree s.form s.children none) s.part.tree_is in
    let same : length (words_of mid) ≡ length (words_of old) = omega (arith, ap (λ (k : ℕ). k / 8) long, length-words_of mid, length-words_of old) in
    let fits : next + part_total c s.form s.children ≤ length (words_of old) = omega (arith, s.fits) in
    let after : slot + 1 ≤ copied.next = omega (arith, before_it, n_is, d.next_is) in
    let room : slot + 1 ≤ length (words_of mid) = omega (arith, before_it, n_is, fits, same) in
    let mid_free = free_copied (output c t) (next - (slot + 1)) next old mid copied d (room_output c t s.part.rooms) long fits f in
    record {
      put_room = omega (arith, room);
      before_it = omega (arith, before_it, n_is, d.next_is);
      can = λ new new_long. record {
        trees = s.rest;
        trees_are = s.others;
        some = s.some;
        fits = omega (arith, s.fits, d.next_is, same, ap (λ (k : ℕ). k / 8) new_long, length-words_of new, length-words_of mid);
      };
      free_from = λ new put_is new_long. free_after slot copied.next copied.next (copied.pointer ∷ []) mid new put_is new_long after (omega arith) room mid_free;
    }

-- the first pointer, with what it points to, and the pointers after it
fill_first : (c : Bool) (slot m next : ℕ) (form : Form) (children rest : Trees) (block : List ℕ)
    → fill (run slot (suc m)) next (first (suc m) (output c (tree form children rest))) block
    ≡ fill (run (slot + 1) m) (next + part_total c form children) (first m (output c rest))
    (put slot (pointer_to (output c (tree form children none)) (next - (slot + 1)) ∷ []) (put next (body (output c (tree form children none))) block))
fill_first true slot m next form children rest block = fill_step false slot (run (slot + 1) m) next (trim_form form (trim children)) (trim_children form (trim children)) (first m (trim rest)) block
fill_first false slot m next form children rest block = fill_step false slot (run (slot + 1) m) next form children (first m rest) block

-- fields are written where the first value is, and the fields after it
pub fields_written : (h hs : Trees → Type 0) (c : Bool) (slot n m next free : ℕ) (old mid new last : List ℕ) (copied : Copied) → n ≡ suc m
    → ((t : Trees) → h t → IsCopied (output c t) (next - (slot + 1)) next old mid copied) → new ≡ put slot (copied.pointer ∷ []) mid
    → AreFieldsWritten hs c (slot + 1) m copied.next new last free → AreFieldsWritten (λ t. IsValueInFront h hs t) c slot n next old last free
fields_written h hs c slot n m next free old mid new last copied n_is own new_is others = record {
  words_are = λ t is.
      let d = own (tree is.form is.children none) is.part.tree_is in
      let words_are : mid ≡ put next (body (output c (tree is.form is.children none))) old = d.words_are in
      let pointer_is : copied.pointer ≡ pointer_to (output c (tree is.form is.children none)) (next - (slot + 1)) = d.pointer_is in
      let next_is : copied.next ≡ next + part_total c is.form is.children = d.next_is in
      let filled : fill (run (slot + 1) m) copied.next (first m (output c is.rest)) new ≡ fill (run slot (suc m)) next (first (suc m) (output c (tree is.form is.children is.rest))) old =
      rw (new_is, words_are, pointer_is, next_is) (sym (fill_first c slot m next is.form is.children is.rest old)) in
      others.words_are is.rest is.others ∙ filled
      ∙ ap (λ (x : Trees). fill (run slot (suc m)) next (first (suc m) (output c x)) old) (sym is.whole)
      ∙ ap (λ (k : ℕ). fill (run slot k) next (first k (output c t)) old) (sym n_is);
  next_is = λ t is.
      let d = own (tree is.form is.children none) is.part.tree_is in
      omega (arith, others.next_is is.rest is.others, d.next_is, first_total c is.form is.children is.rest t n m is.whole n_is);
}

-- no pointers point to nothing
pub none_fields_written : (h : Trees → Type 0) (c : Bool) (slot n next : ℕ) (block : List ℕ) → n ≡ 0 → AreFieldsWritten h c slot n next block block next
none_fields_written h c slot n next block n_is =
    let none_there : (t : Trees) → first n (output c t) ≡ none = λ t. ap (λ (k : ℕ). first k (output c t)) n_is in
    record {
      words_are = λ t is. sym (ap (λ (x : Trees). fill (run slot n) next x block) (none_there t));
      next_is = λ t is. omega (arith, ap total_words (none_there t));
    }
