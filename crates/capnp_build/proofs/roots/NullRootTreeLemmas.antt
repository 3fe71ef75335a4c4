-- The null root: its tree is null and no other one, and making the root's word zero leaves it. Where there is a
-- root there is a segment.
use Rattle.std.proofs.Common.{◌≡◌, inl, inr, ℕ, ◌+◌, ◌<◌, ◌≤◌, List, [], ◌∷◌, length, Some, slice_get, refl, ap, sym, ◌∙◌, arith, max, replicate, slice_set, length-set}
use Rattle.capnp_layout.specs.Prelude.{number_of, words_of, Form, null, none, Trees, tree, places, word_at, Target, Lands, local, far, Shape, PointsTo, is_null, is_object, double_far, At, at, nowhere, root, Root}
use Rattle.capnp_layout.specs.declared.place.Place.{Place}
use Rattle.capnp_layout.proofs.words.WordsOfBytesLemmas.{length-words_of}
use Rattle.capnp_layout.proofs.objects.UniqueObjectLemmas.{one_tree}
use Rattle.capnp_build.specs.Prelude.{Space, written, with_bytes, space_at, message, HasNullRoot, size_in_words}
use Rattle.capnp_build.proofs.states.SegmentSizesAfterChangeLemmas.{size_set, set_room}
use Rattle.capnp_build.proofs.words.UsedBytesThenZerosLemmas.{written_length}
use Rattle.capnp_build.proofs.words.SegmentWriteKeepsEarlierWordsLemmas.{used_word_there, eight_here}

-- a tree of one object
abbrev pub IsTree : List (List ℕ) → Form → Type 0
IsTree m form = (traversed : ℕ) × Root m form none traversed

pub null_tree : (spaces : List Space) → 0 < length spaces → HasNullRoot spaces → IsTree (message spaces) null
null_tree spaces there r = elim r [
  | inl empty ↦ (let l : length spaces ≡ 0 = ap length empty in absurd (omega (arith, l, there)))
  | inr word ↦ (0 + 0 + 0, at (is_null word) nowhere nowhere)
]

no_word : (place : Place) (x : ℕ) → word_at [] place ≡ Some x → ⊥
no_word place x e = cc

lands_there : (spaces : List Space) (place : Place) (landing : Target) → Lands (message spaces) place landing → 0 < length spaces
lands_there [] place landing (local e positive low) = absurd (no_word place _ e)
lands_there [] place landing (far e is_far inner low) = absurd (no_word place _ e)
lands_there [] place landing (double_far e is_far inner wide last words low) = absurd (no_word place _ e)
lands_there (s ∷ spaces) place landing l = omega arith

object_there : (spaces : List Space) (place : Place) (shape : Shape) → PointsTo (message spaces) place shape → 0 < length spaces
object_there [] place shape (is_null e) = absurd (no_word place 0 e)
object_there [] place shape (is_object {landing = l} lands content begins is_at) = lands_there [] place l lands
object_there (s ∷ spaces) place shape o = omega arith

pub root_there : (spaces : List Space) (places : List Place) (trees : Trees) (traversed : ℕ) → places ≡ root ∷ [] → At (message spaces) places trees traversed → 0 < length spaces
root_there spaces places trees traversed e nowhere = cc
root_there spaces places trees traversed e (at {place = p} {shape = s} object inner rest) = object_there spaces p s object

-- where there is a word for the root, the first segment has it
some_word : (xs : List ℕ) (x : ℕ) → slice_get xs 0 ≡ Some x → 0 < length xs
some_word [] x e = cc
some_word (y ∷ xs) x e = omega arith

pub root_is_there : (spaces : List Space) (x : ℕ) → word_at (message spaces) root ≡ Some x → (0 < length spaces) × (8 ≤ length (space_at spaces 0).used)
root_is_there [] x e = cc
root_is_there (s ∷ spaces) x e =
    let some : 0 < length (words_of s.used) = some_word (words_of s.used) x e in
    (omega arith, omega (arith, some, length-words_of s.used))

pub root_room : (spaces : List Space) → 0 < length spaces → HasNullRoot spaces → 8 ≤ length (space_at spaces 0).used
root_room spaces there r = elim r [
  | inl empty ↦ (let l : length spaces ≡ 0 = ap length empty in absurd (omega (arith, l, there)))
  | inr word ↦ (root_is_there spaces 0 word).1
]

-- the root's word made zero
pub cleared : (spaces : List Space) → 0 < length spaces → 8 ≤ length (space_at spaces 0).used
    → word_at (message (slice_set spaces 0 (with_bytes (space_at spaces 0) 0 (replicate 8 0)))) root ≡ Some 0
cleared [] there room = absurd (omega (arith, there))
cleared (s ∷ spaces) there room =
    let eight : length {A = ℕ} (replicate 8 0) ≡ 8 = refl in
    let long : length (written s.used 0 (replicate 8 0)) ≡ length s.used = written_length 0 s.used (replicate 8 0) (omega (arith, room)) in
    used_word_there (with_bytes s 0 (replicate 8 0) ∷ spaces) root (omega arith) (omega (arith, long, room))
    ∙ ap (λ (b : List ℕ). Some (number_of 256 b)) (eight_here 0 s.used (replicate 8 0) (omega arith) eight)

pub size_least : (spaces : List Space) → 0 < length spaces → 8 ≤ length (space_at spaces 0).used → 1 ≤ size_in_words spaces
size_least [] there room = absurd (omega (arith, there))
size_least (s ∷ spaces) there room = omega (arith, room)

-- the object made zero, and the root's word after it
pub old_cleared : (spaces : List Space) (i from : ℕ) (zs : List ℕ) (x : ℕ) → word_at (message spaces) root ≡ Some x → from + length zs ≤ length (space_at spaces i).used
    → (let wiped : List Space = slice_set spaces i (with_bytes (space_at spaces i) from zs) in
    word_at (message (slice_set wiped 0 (with_bytes (space_at wiped 0) 0 (replicate 8 0)))) root ≡ Some 0)
old_cleared spaces i from zs x word room =
    let s : Space = with_bytes (space_at spaces i) from zs in
    let root_at = root_is_there spaces x word in
    let long : length s.used ≡ length (space_at spaces i).used = written_length from (space_at spaces i).used zs room in
    let count : length (slice_set spaces i s) ≡ length spaces = length-set spaces i s in
    let first : length (space_at (slice_set spaces i s) 0).used ≡ length (space_at spaces 0).used = set_room spaces i 0 s long in
    cleared (slice_set spaces i s) (omega (arith, count, root_at.0)) (omega (arith, first, root_at.1))

pub old_size : (spaces : List Space) (i from : ℕ) (zs : List ℕ) (x : ℕ) → word_at (message spaces) root ≡ Some x → from + length zs ≤ length (space_at spaces i).used
    → (let wiped : List Space = slice_set spaces i (with_bytes (space_at spaces i) from zs) in
    size_in_words (slice_set wiped 0 (with_bytes (space_at wiped 0) 0 (replicate 8 0))) ≡ max 1 (size_in_words spaces))
old_size spaces i from zs x word room =
    let s : Space = with_bytes (space_at spaces i) from zs in
    let root_at = root_is_there spaces x word in
    let long : length s.used ≡ length (space_at spaces i).used = written_length from (space_at spaces i).used zs room in
    let first : length (space_at (slice_set spaces i s) 0).used ≡ length (space_at spaces 0).used = set_room spaces i 0 s long in
    let eight : length {A = ℕ} (replicate 8 0) ≡ 8 = refl in
    let two : size_in_words (slice_set (slice_set spaces i s) 0 (with_bytes (space_at (slice_set spaces i s) 0) 0 (replicate 8 0))) ≡ size_in_words (slice_set spaces i s) =
    size_set (slice_set spaces i s) 0 (with_bytes (space_at (slice_set spaces i s) 0) 0 (replicate 8 0)) (written_length 0 (space_at (slice_set spaces i s) 0).used (replicate 8 0) (omega
    (arith, first, root_at.1))) in
    let one : size_in_words (slice_set spaces i s) ≡ size_in_words spaces = size_set spaces i s long in
    omega (arith, two, one, size_least spaces root_at.0 root_at.1)

pub first_cleared : (spaces : List Space) → 0 < length spaces → HasNullRoot spaces → HasNullRoot (slice_set spaces 0 (with_bytes (space_at spaces 0) 0 (replicate 8 0)))
first_cleared spaces there r = inr (cleared spaces there (root_room spaces there r))

pub first_size : (spaces : List Space) → 0 < length spaces → HasNullRoot spaces → size_in_words (slice_set spaces 0 (with_bytes (space_at spaces 0) 0 (replicate 8 0))) ≡ max 1 (size_in_words spaces)
first_size spaces there r =
    let room = root_room spaces there r in
    let one : size_in_words (slice_set spaces 0 (with_bytes (space_at spaces 0) 0 (replicate 8 0))) ≡ size_in_words spaces =
    size_set spaces 0 (with_bytes (space_at spaces 0) 0 (replicate 8 0)) (written_length 0 (space_at spaces 0).used (replicate 8 0) (omega (arith, room))) in
    omega (arith, one, size_least spaces there room)

pub null_root : (spaces : List Space) → 0 < length spaces → HasNullRoot spaces → (traversed : ℕ) × At (message spaces) (root ∷ []) (tree null none none) traversed
null_root spaces there r = null_tree spaces there r

-- of a null root there is no tree but null
pub null_tree_only : (spaces : List Space) (f : Form) (h : Trees) (traversed : ℕ) → HasNullRoot spaces → At (message spaces) (root ∷ []) (tree f h none) traversed → tree null none none ≡ tree f h none
null_tree_only spaces f h traversed r there =
    let some : 0 < length spaces = root_there spaces (root ∷ []) (tree f h none) traversed refl there in
    let t = null_tree spaces some r in
    (one_tree (message spaces) (root ∷ []) (tree null none none) (tree f h none) t.0 traversed t.1 there).0

pub null_only : (spaces : List Space) (f : Form) (h : Trees) (traversed : ℕ) → HasNullRoot spaces → At (message spaces) (root ∷ []) (tree f h none) traversed → f ≡ null
null_only spaces f h traversed r there =
    let same : tree null none none ≡ tree f h none = null_tree_only spaces f h traversed r there in
    let forms : null ≡ f = cc in sym forms
