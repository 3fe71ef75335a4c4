-- Copies of pointers that a reader shows (src/copied.rt): how many words one or several of them append, why a copy
-- fails, and that null is copied as null.
use Rattle.std.proofs.Common.{◌≡◌, ℕ, zero, suc, ◌+◌, ◌*◌, ◌/◌, ◌^◌, ◌<◌, ◌≤◌, ◌⊎◌, inl, inr, length, take, List, [], ◌∷◌, ◌++◌, Option, Some, MatchOption, Result, refl, sym, ◌∙◌, ap, subst, arith, append_assoc, length-append}
use Rattle.std.specs.Prelude.{slice_set, slice_index, replicate, true, false, ◌-◌, ◌%◌, ◌==◌, if◌then◌else◌}
use Rattle.std.specs.Result.{IsErrAnd}
use Rattle.std.proofs.lemmas.Bool.{cases_lt}
use Rattle.std.proofs.lemmas.List.{append-nil, take_more, take_more_set, length-replicate}
use Rattle.capnp_frame.specs.declared.error.Error.{Error}
use Rattle.capnp_frame.specs.declared.error.ErrorKind.{ErrorKind}
use Rattle.capnp_frame.specs.declared.error.ErrorKind.TheVariants.{AllocationTooLarge}
use Rattle.capnp_layout.specs.Prelude.{words_of, Form, Trees, none, tree, total_words, Shape, PointsTo, word_at, is_object, is_null as null_there, nothing, At, at, output}
use Rattle.capnp_layout.specs.Tree.{is_null}
use Rattle.capnp_layout.specs.declared.place.Place.{Place}
use Rattle.capnp_wire.specs.Prelude.{PointsToTree, starts_with_null, Struct, Pointer, Denotes, pointer_in}
use Rattle.capnp_layout.proofs.pointers.ErrorExcludesObjectLemmas.{not_null}
use Rattle.capnp_layout.proofs.layouts.LayoutReadBackLemmas.{if_positive}
use Rattle.capnp_wire.proofs.views.UniqueValueTreeAndMeasureLemmas.{one_of_pointer}
use Rattle.capnp_wire.proofs.views.ValueAsPartTwoMeasuresLemmas.{null_reported}
use Rattle.capnp_layout.proofs.words.PutBytesAsWordsLemmas.{words_split}
use Rattle.capnp_orphans.specs.Orphans.{link, IsOrphan}
use Rattle.capnp_orphans.specs.Segments.{Segment, body_of, Appends, IsPastMost}
use Rattle.capnp_orphans.specs.Holds.{HoldsValue}
use Rattle.capnp_orphans.specs.Adding.{FailsToAdd}
use Rattle.capnp_orphans.specs.Copied.{TakesCopy, CopyError, TakesCopies}

-- a word among words that are filled up with zeros
zero_word : (count i : ℕ) → slice_index (replicate count 0) i ≡ 0
zero_word zero i = refl
zero_word (suc count) zero = refl
zero_word (suc count) (suc i) = zero_word count i

filled_word : (words : List ℕ) (count i : ℕ) → slice_index (words ++ replicate count 0) i ≡ slice_index words i
filled_word [] count i = zero_word count i
filled_word (w ∷ words) count zero = refl
filled_word (w ∷ words) count (suc i) = filled_word words count i

-- one more data word
pub next_word : (shown words : List ℕ) (count i v : ℕ) → i < length words → i < count → take i words ≡ take i (shown ++ replicate count 0) → v ≡ slice_index shown i
    → take (i + 1) (slice_set words i v) ≡ take (i + 1) (shown ++ replicate count 0)
next_word shown words count i v within few is same =
    let there : i < length (shown ++ replicate count 0) = omega (arith, few, length-append shown (replicate count 0), length-replicate {A = ℕ} count 0) in
    take_more_set words i v within ∙ ap (λ (l : List ℕ). l ++ v ∷ []) is
    ∙ ap (λ (w : ℕ). take i (shown ++ replicate count 0) ++ w ∷ []) (same ∙ sym (filled_word shown count i))
    ∙ sym (take_more (shown ++ replicate count 0) i 0 there)

-- a copy has only one number of words, and so have several copies
pub one_copy : (pointer : Pointer) (a b : ℕ) → TakesCopy pointer a → TakesCopy pointer b → a ≡ b
one_copy pointer a b x y =
    x.words_are ∙ ap (λ (t : Trees). total_words t) (ap (λ (t : Trees). output false t) ((one_of_pointer pointer).same_tree x.trees y.trees x.tree_is y.tree_is)) ∙ sym y.words_are

pub same_copies : (fields : Struct) (count a b : ℕ) → TakesCopies fields count a → TakesCopies fields count b → a ≡ b
same_copies fields zero a b x y = x ∙ sym y
same_copies fields (suc count) a b x y =
    let front : x.0 ≡ y.0 = same_copies fields count x.0 y.0 x.2 y.2 in
    let last : x.1 ≡ y.1 = one_copy (pointer_in fields count) x.1 y.1 x.3 y.3 in
    omega (arith, front, last, x.4, y.4)

-- one copy among others
pub record IsCopyAt (fields : Struct) (index words : ℕ) : Type 0 where
  pub before : ℕ
  pub last : ℕ
  pub taken : TakesCopies fields index before
  pub one : TakesCopy (pointer_in fields index) last
  pub fits : before + last ≤ words

pub copy_at : (fields : Struct) (count index words : ℕ) → index < count → TakesCopies fields count words → IsCopyAt fields index words
copy_at fields zero index words within takes = absurd (omega (arith, within))
copy_at fields (suc count) index words within takes = elim (cases_lt index count) [
  | inl less ↦ (let c = copy_at fields count index takes.0 less takes.2 in
      record { before = c.before; last = c.last; taken = c.taken; one = c.one; fits = omega (arith, c.fits, takes.4) })
  | inr more ↦ (let same : count ≡ index = omega (arith, within, more) in record {
    before = takes.0;
    last = takes.1;
    taken = subst (λ (n : ℕ). TakesCopies fields n takes.0) same takes.2;
    one = subst (λ (n : ℕ). TakesCopy (pointer_in fields n) takes.1) same takes.3;
    fits = omega (arith, takes.4);
  })
]

-- nothing is appended, or one block after another
pub appends_none : (segment : Segment) → Appends 0 segment segment
appends_none segment = record { block = []; len = refl; bytes_are = sym (append-nil segment.bytes); body_is = sym (append-nil (body_of segment)) }

pub appends_both : (a b : ℕ) (old between new : Segment) → Appends a old between → Appends b between new → Appends (a + b) old new
appends_both a b old between new x y = record {
  block = x.block ++ y.block;
  len = omega (arith, length-append x.block y.block, x.len, y.len);
  bytes_are = y.bytes_are ∙ ap (λ (l : List ℕ). l ++ y.block) x.bytes_are ∙ append_assoc old.bytes x.block y.block;
  body_is = y.body_is ∙ ap (λ (l : List ℕ). l ++ words_of y.block) x.body_is ∙ append_assoc (body_of old) (words_of x.block) (words_of y.block)
      ∙ sym (ap (λ (l : List ℕ). body_of old ++ l) (words_split a x.block y.block x.len));
}

pub length-appended : (words : ℕ) (old new : Segment) → Appends words old new → length new.bytes ≡ length old.bytes + 8 * words
length-appended words old new appends =
    ap (λ (l : List ℕ). length l) appends.bytes_are ∙ length-append old.bytes appends.block ∙ ap (λ (n : ℕ). length old.bytes + n) appends.len

-- a pointer that can't be copied after some words, with this error
abbrev pub PointerCopyError : Pointer → ℕ → Segment → ErrorKind → Type 0
PointerCopyError pointer before segment kind = CopyError pointer kind
    ⊎ ((words : ℕ) × TakesCopy pointer words × (kind ≡ AllocationTooLarge words)
    × ((2 ^ 29 ≤ length segment.bytes / 8 + before + words) ⊎ IsPastMost (before + words) segment))

-- copying it fails
pub copy_fails : {T : Type 0} (pointer : Pointer) (before : ℕ) (kind : ErrorKind) (old between : Segment) (result : Result T Error) → Appends before old between → between.most ≡ old.most
    → FailsToAdd (TakesCopy pointer) (CopyError pointer) between result → PointerCopyError pointer before old kind → IsErrAnd result (λ error. error.kind ≡ kind)
copy_fails pointer before kind old between result appends most fails (inl errors) = fails.exact kind errors
copy_fails pointer before kind old between result appends most fails (inr (words, takes, is, inl long)) =
    subst (λ (k : ErrorKind). IsErrAnd result (λ error. error.kind ≡ k)) (sym is) (fails.long words takes (omega (arith, length-appended before old between appends, long)))
copy_fails pointer before kind old between result appends most fails (inr (words, takes, is, inr full)) =
    let grown : length old.bytes + 8 * (before + words) ≡ length between.bytes + 8 * words = omega (arith, length-appended before old between appends) in
    let there : IsPastMost words between = subst (λ (n : ℕ). MatchOption between.most ⊥ (λ most. most < n)) grown
    (subst (λ (o : Option ℕ). MatchOption o ⊥ (λ most. most < length old.bytes + 8 * (before + words))) (sym most) full) in
    subst (λ (k : ErrorKind). IsErrAnd result (λ error. error.kind ≡ k)) (sym is) (fails.full words takes there)

-- the orphan of null is null
zero_there : (m : List (List ℕ)) (place : Place) (shape : Shape) → PointsTo m place shape → is_null shape.form ≡ true → word_at m place ≡ Some 0
zero_there m place shape (null_there e) is = e
zero_there m place shape (is_object {shape = s} lands e begins is_at) is = let some = not_null _ _ _ s is_at in absurd (cc)

zero_is_at : (m : List (List ℕ)) (place : Place) (trees : Trees) (traversed : ℕ) → At m (place ∷ []) trees traversed → starts_with_null trees ≡ true → word_at m place ≡ Some 0
zero_is_at m place trees traversed (at {shape = s} object inner more) is = zero_there m place s object is

some_zero : (a : ℕ) → Some a ≡ Some 0 → a ≡ 0
some_zero a same = cc

no_link : (word : ℕ) → link word 0 ≡ 0 → word ≡ 0
no_link word is =
    elim (cases_lt 0 (word % 4 + word / 2 ^ 32)) [
      | inl some ↦ (let there : link word 0 ≡ 2 ^ 32 * (word / 2 ^ 32) + (word % 2 ^ 32 + 2 ^ 32 - 4 * (0 + 1)) % 2 ^ 32 =
          if_positive (word % 4 + word / 2 ^ 32) word (2 ^ 32 * (word / 2 ^ 32) + (word % 2 ^ 32 + 2 ^ 32 - 4 * (0 + 1)) % 2 ^ 32) some in
          omega (arith, there, is, some))
      | inr none_there ↦ (let none_at : word % 4 + word / 2 ^ 32 ≡ 0 = omega (arith, none_there) in
          let there : link word 0 ≡ word = subst (λ (n : ℕ). (if n == 0 then word else 2 ^ 32 * (word / 2 ^ 32) + (word % 2 ^ 32 + 2 ^ 32 - 4 * (0 + 1)) % 2 ^ 32) ≡ word) (sym none_at) refl in
          sym there ∙ is)
    ]

null_word : (body : List ℕ) (word : ℕ) (form : Form) (children : Trees) → IsOrphan body word form children → is_null form ≡ true → word ≡ 0
null_word body word form children is null_is =
    let there = is.points_to (link word 0) [] 0 (omega arith) refl in
    no_link word (some_zero (link word 0) (zero_is_at ((link word 0 ∷ (body ++ [])) ∷ []) (record { segment = 0; word = 0 }) (tree form children none) there.0 there.1 null_is))

pub null_is_word_zero : (pointer : Pointer) (body : List ℕ) (word : ℕ) → Denotes pointer nothing → HoldsValue (PointsToTree pointer) body word → word ≡ 0
null_is_word_zero pointer body word null_is holds =
    null_word body word holds.0 holds.1 holds.3 (sym (null_reported pointer (tree holds.0 holds.1 none) true ((λ yes. null_is), (λ there. refl)) holds.2))
