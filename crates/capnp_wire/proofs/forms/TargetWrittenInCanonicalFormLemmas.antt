-- The tree that a pointer points to is measured, and what is written of it is its canonical form. Two of these are
-- equal exactly where their trimmed trees are.
use Rattle.std.proofs.Common.{◌≡◌, ℕ, ◌+◌, ◌-◌, ◌*◌, ◌<◌, ◌≤◌, ◌^◌, ◌↔◌, Bool, true, false, List, [], ◌∷◌, ◌++◌, length, take, drop, set, length-take, length-drop}
use Rattle.std.proofs.Common.{length-append, Option, Some, None, MatchOption, Result, Ok, Err, MatchResult, inl, inr, refl, sym, ◌∙◌, ap, subst, arith}
use Rattle.std.proofs.Math.Seq.{drop-append_seam}
use Rattle.std.proofs.lemmas.List.{append-nil, drop_all}
use Rattle.std.specs.Int.{to_le_bytes}
use Rattle.std.proofs.Common.{w64}
use Rattle.capnp_frame.specs.Prelude.{bytes_of}
use Rattle.capnp_frame.specs.declared.error.Error.{Error}
use Rattle.capnp_frame.specs.declared.words.Word.{Word}
use Rattle.capnp_layout.specs.Prelude.{number_of, words_of, Form, null, Trees, none, tree, total_words, trim, trim_form, trim_children, At, nowhere, at, root, body, layout, canon, output, AllHaveRoom, AllReach, word_numbers}
use Rattle.capnp_wire.specs.Prelude.{IsCanonical, Pointer, IsCopied, TreeAt, Measured, TreeSizeError, HasWords, WordsError, PointsToTree, WalkErrorFrom, IsCanonicalForm}
use Rattle.capnp_wire.specs.declared.layout.copy.Copied.{Copied}
use Rattle.capnp_layout.specs.declared.place.Place.{Place}
use Rattle.capnp_wire.proofs.forms.LayoutDeterminesTreeLemmas.{root_of_canon, canon_tells}
use Rattle.capnp_wire.proofs.layouts.LayoutReadBackLemmas.{small_reaches}
use Rattle.capnp_layout.proofs.trees.TrimIdempotenceAndSizeLemmas.{trim_twice}
use Rattle.capnp_layout.proofs.layouts.LayoutSizeLemmas.{length-body}
use Rattle.capnp_wire.proofs.layouts.CopyPlanFillsLayoutLemmas.{room_output}
use Rattle.capnp_wire.proofs.layouts.NullAndNumbersWrittenLemmas.{whole_written}
use Rattle.capnp_layout.proofs.objects.NumberAsOneWordStructLemmas.{one_word}
use Rattle.capnp_layout.proofs.words.WordsOfBytesLemmas.{length-words_of}
use Rattle.capnp_layout.proofs.words.PutBytesAsWordsLemmas.{words_split, length-word_numbers}
use Rattle.capnp_wire.proofs.views.WalkCountIsMeasureLemmas.{drop_past}

to_tree : (p : Pointer) (place : Place) (trees : Trees) → p.place ≡ Some place → TreeAt p.message place p.nesting p.limit trees → PointsToTree p trees
to_tree p place trees e t =
    subst (λ (o : Option Place). MatchOption o (trees ≡ tree null none none) (λ there. TreeAt p.message there p.nesting p.limit trees)) (sym e) t

pub from_tree : (p : Pointer) (place : Place) (trees : Trees) → p.place ≡ Some place → PointsToTree p trees → TreeAt p.message place p.nesting p.limit trees
from_tree p place trees e t = subst (λ (o : Option Place). MatchOption o (trees ≡ tree null none none) (λ there. TreeAt p.message there p.nesting p.limit trees)) e t

pub null_words : (c : Bool) → 0 ≡ total_words (output c (tree null none none))
null_words true = refl
null_words false = refl

pub none_has_words : (p : Pointer) (c : Bool) → p.place ≡ None → HasWords (PointsToTree p) c 0
none_has_words p c e = record {
  trees = tree null none none;
  tree_is = subst (λ (o : Option Place). MatchOption o (tree null none none ≡ tree null none none) (λ there. TreeAt p.message there p.nesting p.limit (tree null none none))) (sym e) refl;
  rooms = (refl, tt, tt);
  words_are = null_words c;
  few = omega arith;
}

pub measured_value : (p : Pointer) (place : Place) (c : Bool) (r : Result ℕ Error) → p.place ≡ Some place
    → MatchResult r (λ words. Measured p.message place p.nesting p.limit c words) (λ error. TreeSizeError p.message place p.nesting p.limit c error.kind)
    → MatchResult r (λ words. HasWords (PointsToTree p) c words) (λ error. WordsError (PointsToTree p) (WalkErrorFrom p) c error.kind)
measured_value p place c (Ok words) e m = record { trees = m.trees; tree_is = to_tree p place m.trees e m.tree_is; rooms = m.rooms; words_are = m.words_are; few = m.few }
measured_value p place c (Err error) e (inl walk_error) = inl (place, e, walk_error)
measured_value p place c (Err error) e (inr many) = inr (many.0, to_tree p place many.0 e many.1, many.2, many.3)

-- a block after the eight bytes of its pointer
after_eight : (old block : List ℕ) → 8 ≤ length old → length block ≡ length old - 8 → drop 8 (take 8 old ++ (block ++ drop (length old - 8) (drop 8 old))) ≡ block
after_eight old block some long =
    let eight : length (take 8 old) ≡ 8 = omega (arith, length-take 8 old) in
    let none : drop (length old - 8) (drop 8 old) ≡ [] = drop_past (length old - 8) (drop 8 old) (omega (arith, length-drop 8 old)) in
    ap (λ (n : ℕ). drop n (take 8 old ++ (block ++ drop (length old - 8) (drop 8 old)))) (sym eight) ∙ drop-append_seam (take 8 old) (block ++ drop (length old - 8) (drop 8 old))
    ∙ ap (λ (l : List ℕ). block ++ l) none ∙ append-nil block

size_of : (trees : Trees) → AllHaveRoom trees → length (body (output true trees)) ≡ total_words (output true trees)
size_of trees rooms = length-body (output true trees) (room_output true trees rooms)

pub whole_form : (p : Pointer) (copied : Copied) (front old children block : List ℕ) → front ≡ to_le_bytes w64 copied.pointer → copied.pointer < 2 ^ 64
    → length front ≡ length (take 8 (take 8 old ++ (block ++ drop (length old - 8) (drop 8 old)))) → (w : (following : ℕ) × HasWords (PointsToTree p) true following × (length old ≡ 8 * (following + 1)))
    → length block ≡ length old - 8 → length children ≡ length old - 8
    → ((trees : Trees) → PointsToTree p trees → IsCopied (output true trees) (0 - 0) 0 (words_of children) (words_of block) copied)
    → IsCanonicalForm p (words_of (front ++ drop 8 (take 8 old ++ (block ++ drop (length old - 8) (drop 8 old)))))
whole_form p copied front old children block front_is small room w long children_long written =
    let h = w.1 in
    let eight : length front ≡ 8 =
    omega (
      arith,
      room,
      length-take 8 (take 8 old ++ (block ++ drop (length old - 8) (drop 8 old))),
      length-append (take 8 old) (block ++ drop (length old - 8) (drop 8 old)),
      length-take 8 old,
      w.2,
    ) in
    let rest = after_eight old block (omega (arith, w.2)) long in
    let parts : words_of (front ++ block) ≡ words_of front ++ words_of block = words_split 1 front block eight in
    let head : words_of front ≡ copied.pointer ∷ [] = one_word front copied.pointer small front_is in
    let total : total_words (output true h.trees) ≡ length (words_of children) = omega (arith, h.words_are, w.2, children_long, length-words_of children) in
    record {
      trees = h.trees;
      tree_is = h.tree_is;
      rooms = h.rooms;
      few = omega (arith, h.words_are, h.few);
      words_are = ap (λ (l : List ℕ). words_of (front ++ l)) rest ∙ parts ∙ ap (λ (l : List ℕ). l ++ words_of block) head
          ∙ whole_written (output true h.trees) (words_of children) (words_of block) copied (size_of h.trees h.rooms ∙ total) (written h.trees h.tree_is);
    }

-- the same in words
pub words_form : (p : Pointer) (copied : Copied) (word : Word) (old children block : List Word) → number_of 256 (bytes_of word) ≡ copied.pointer
    → (w : (following : ℕ) × HasWords (PointsToTree p) true following × (length old ≡ following + 1)) → length children ≡ length old - 1
    → ((trees : Trees) → PointsToTree p trees → IsCopied (output true trees) (0 - 0) 0 (word_numbers children) (word_numbers block) copied)
    → IsCanonicalForm p (word_numbers (set (take 1 old ++ (block ++ drop (length old - 1) (drop 1 old))) 0 word))
words_form p copied word [] children block word_is w long written = absurd (omega (arith, w.2))
words_form p copied word (x ∷ xs) children block word_is w long written =
    let h = w.1 in
    let none : drop (length (x ∷ xs) - 1) xs ≡ [] = drop_all (length (x ∷ xs) - 1) xs (omega arith) in
    let whole : block ++ drop (length (x ∷ xs) - 1) xs ≡ block = ap (λ (l : List Word). block ++ l) none ∙ append-nil block in
    let total : total_words (output true h.trees) ≡ length (word_numbers children) = omega (arith, h.words_are, w.2, long, length-word_numbers children) in
    record {
      trees = h.trees;
      tree_is = h.tree_is;
      rooms = h.rooms;
      few = omega (arith, h.words_are, h.few);
      words_are = ap (λ (l : List Word). word_numbers (word ∷ l)) whole ∙ ap (λ (n : ℕ). n ∷ word_numbers block) word_is
          ∙ whole_written (output true h.trees) (word_numbers children) (word_numbers block) copied (size_of h.trees h.rooms ∙ total) (written h.trees h.tree_is);
    }

one_root : (m : List (List ℕ)) (place : Place) (trees : Trees) (traversed : ℕ) → At m (place ∷ []) trees traversed → (f : Form) × (h : Trees) × (trees ≡ tree f h none)
one_root m place trees traversed (at {shape = s} {children = h} object inner nowhere) = (s.form, h, refl)

one_root_at : (o : Option Place) (m : List (List ℕ)) (nesting : ℕ) (limit : Option ℕ) (trees : Trees) → MatchOption o (trees ≡ tree null none none) (λ place. TreeAt m place nesting limit trees)
    → (f : Form) × (h : Trees) × (trees ≡ tree f h none)
one_root_at None m nesting limit trees t = (null, none, t)
one_root_at (Some place) m nesting limit trees t = one_root m place trees t.traversed t.are_at

-- canonical forms are equal exactly where their trees are, trimmed
pub forms_tell : (p q : Pointer) (words others : List ℕ) (a : IsCanonicalForm p words) (b : IsCanonicalForm q others) → (words ≡ others) ↔ (trim a.trees ≡ trim b.trees)
forms_tell p q words others a b =
    let x = one_root_at p.place p.message p.nesting p.limit a.trees a.tree_is in
    let y = one_root_at q.place q.message q.nesting q.limit b.trees b.tree_is in (
      λ same.
          let canons : canon (tree x.0 x.1 none) ≡ canon (tree y.0 y.1 none) = ap canon (sym x.2) ∙ sym a.words_are ∙ same ∙ b.words_are ∙ ap canon y.2 in
          ap trim x.2
          ∙ canon_tells x.0 y.0 x.1 y.1 (subst AllHaveRoom x.2 a.rooms) (subst (λ (t : Trees). total_words (trim t) < 2 ^ 29) x.2 a.few)
          (subst AllHaveRoom y.2 b.rooms) (subst (λ (t : Trees). total_words (trim t) < 2 ^ 29) y.2 b.few) canons
          ∙ sym (ap trim y.2),
      λ same. a.words_are ∙ ap layout same ∙ sym b.words_are,
    )

-- and each, as the one segment of a message, is canonical
pub form_is_canonical : (p : Pointer) (words : List ℕ) → IsCanonicalForm p words → IsCanonical (words ∷ [])
form_is_canonical p words a =
    let x = one_root_at p.place p.message p.nesting p.limit a.trees a.tree_is in
    let rooms : AllHaveRoom (tree x.0 x.1 none) = subst AllHaveRoom x.2 a.rooms in
    let few : total_words (trim (tree x.0 x.1 none)) < 2 ^ 29 = subst (λ (t : Trees). total_words (trim t) < 2 ^ 29) x.2 a.few in
    let is : words ≡ canon (tree x.0 x.1 none) = a.words_are ∙ ap canon x.2 in
    let there = root_of_canon x.0 x.1 rooms few in
    let twice : trim (trim (tree x.0 x.1 none)) ≡ trim (tree x.0 x.1 none) = trim_twice (tree x.0 x.1 none) rooms in (
      words,
      refl,
      trim_form x.0 (trim x.1),
      trim_children x.0 (trim x.1),
      there.0,
      subst (λ (l : List ℕ). At (l ∷ []) (root ∷ []) (trim (tree x.0 x.1 none)) there.0) (sym is) there.1,
      (
        is ∙ ap layout (sym twice),
        subst (λ (t : Trees). AllReach (0 ∷ []) 1 t) (sym twice) (small_reaches (trim_form x.0 (trim x.1)) (trim_children x.0 (trim x.1)) few),
      ),
    )
