-- What callers may conclude about orphans, in proofs of their own.
use Rattle.std.specs.Prelude.{◌≡◌, ℕ, ◌+◌, ◌<◌, List, [], ◌∷◌, ◌++◌, length, take, map, slice_index_or, Result, Ok, Err, IfOk, refl}
use Rattle.std.proofs.Common.{sym, ◌∙◌, ap, subst, append_assoc, slice_get, Some}
use Rattle.std.proofs.lemmas.List.{map-append, take_more}
use Rattle.capnp_frame.specs.declared.error.Error.{Error}
use Rattle.capnp_layout.specs.Prelude.{Form, struct, structs, pointers, Trees, none, tree, message_of, At, root}
use Rattle.capnp_orphans.specs.declared.draft.StructDraft.{StructDraft}
use Rattle.capnp_orphans.specs.Orphans.{link, TreeIsAt, IsOrphan, AreOrphans}
use Rattle.capnp_orphans.specs.Segments.{Segment, body_of}
use Rattle.capnp_orphans.specs.Holds.{HoldsValue, HoldsStruct, HoldsPointers, HoldsStructs, words_of_each, adopted_by, AreValues, AreTrees}
use Rattle.capnp_orphans.specs.Adding.{Keeps, SetsRootOrphan}

-- an orphan still has the same tree when words are appended
pub still_orphan : (body more : List ℕ) (word : ℕ) (form : Form) (children : Trees) → IsOrphan body word form children → IsOrphan (body ++ more) word form children
still_orphan body more word form children h = record {
  points_to = λ first others place low link_is_at.
      let same : first ∷ ((body ++ more) ++ others) ≡ first ∷ (body ++ (more ++ others)) = ap (λ (l : List ℕ). first ∷ l) (append_assoc body more others) in
      let there : slice_get (first ∷ (body ++ (more ++ others))) place ≡ Some (link word place) =
      subst (λ (l : List ℕ). slice_get l place ≡ Some (link word place)) same link_is_at in
      subst (λ (l : List ℕ). TreeIsAt l place form children) (sym same) (h.points_to first (more ++ others) place low there);
}

-- two steps, one after the other
pub keeps_on : (first second third : Segment) → Keeps first second → Keeps second third → Keeps first third
keeps_on first second third one two = λ word form children h. two word form children (one word form children h)

-- orphans in order keep their trees, where each orphan keeps its tree
pub kept_orphans : (old new : Segment) (words : List ℕ) (trees : Trees) → Keeps old new → AreOrphans (body_of old) words trees → AreOrphans (body_of new) words trees
kept_orphans old new [] trees keeps is = is
kept_orphans old new (word ∷ words) none keeps is = is
kept_orphans old new (word ∷ words) (tree form children rest) keeps is = (keeps word form children is.0, kept_orphans old new words rest keeps is.1)

pub kept_value : (has_tree : Trees → Type 0) (old new : Segment) (word : ℕ) → Keeps old new → HoldsValue has_tree (body_of old) word → HoldsValue has_tree (body_of new) word
kept_value has_tree old new word keeps is = (is.0, is.1, is.2, keeps word is.0 is.1 is.3)

pub kept_values : {A : Type 0} (has_tree : A → Trees → Type 0) (old new : Segment) (values : List A) (words : List ℕ) → Keeps old new → AreValues has_tree (body_of old) values words
    → AreValues has_tree (body_of new) values words
kept_values has_tree old new [] [] keeps are = are
kept_values has_tree old new [] (word ∷ words) keeps are = absurd are
kept_values has_tree old new (value ∷ values) [] keeps are = absurd are
kept_values has_tree old new (value ∷ values) (word ∷ words) keeps are =
    (kept_value (has_tree value) old new word keeps are.0, kept_values has_tree old new values words keeps are.1)

-- orphans of one more value
pub one_more : {A : Type 0} (has_tree : A → Trees → Type 0) (body : List ℕ) (values : List A) (words : List ℕ) (value : A) (word : ℕ) → AreValues has_tree body values words
    → HoldsValue (has_tree value) body word → AreValues has_tree body (values ++ value ∷ []) (words ++ word ∷ [])
one_more has_tree body [] [] value word are is = (is, tt)
one_more has_tree body [] (w ∷ words) value word are is = absurd are
one_more has_tree body (y ∷ values) [] value word are is = absurd are
one_more has_tree body (y ∷ values) (w ∷ words) value word are is = (are.0, one_more has_tree body values words value word are.1 is)

pub one_value_more : {A : Type 0} (has_tree : A → Trees → Type 0) (old new : Segment) (values : List A) (words : List ℕ) (value : A) (word : ℕ) → Keeps old new
    → AreValues has_tree (body_of old) values words → HoldsValue (has_tree value) (body_of new) word → AreValues has_tree (body_of new) (values ++ value ∷ []) (words ++ word ∷ [])
one_value_more has_tree old new values words value word keeps are is =
    one_more has_tree (body_of new) values words value word (kept_values has_tree old new values words keeps are) is

-- The orphan of a list's next value is pushed: the step of a loop.
pub pushed_value : {A B : Type 0} (has_tree : A → Trees → Type 0) (old new : Segment) (values : List A) (i : ℕ) (d : A) (word : B → ℕ) (items pushed : List B) (object : B) → i < length values
    → Keeps old new → pushed ≡ items ++ object ∷ [] → AreValues has_tree (body_of old) (take i values) (map word items) → HoldsValue (has_tree (slice_index_or values i d)) (body_of new) (word object)
    → AreValues has_tree (body_of new) (take (i + 1) values) (map word pushed)
pushed_value {A} {B} has_tree old new values i d word items pushed object within keeps is are one =
    let words_are : map word pushed ≡ map word items ++ word object ∷ [] = ap (λ (l : List B). map word l) is ∙ map-append word items (object ∷ []) in
    let more : AreValues has_tree (body_of new) (take i values ++ slice_index_or values i d ∷ []) (map word items ++ word object ∷ []) =
    one_more has_tree (body_of new) (take i values) (map word items) (slice_index_or values i d) (word object) (kept_values has_tree old new (take i values) (map word items) keeps are) one in
    subst (λ (l : List A). AreValues has_tree (body_of new) l (map word pushed)) (sym (take_more values i d within))
    (subst (λ (l : List ℕ). AreValues has_tree (body_of new) (take i values ++ slice_index_or values i d ∷ []) l) (sym words_are) more)

-- the trees of values
pub their_trees : {A : Type 0} (has_tree : A → Trees → Type 0) (body : List ℕ) (values : List A) (words : List ℕ) → AreValues has_tree body values words
    → (children : Trees) × AreOrphans body words children × AreTrees has_tree values children
their_trees has_tree body [] [] are = (none, refl, refl)
their_trees has_tree body [] (word ∷ words) are = absurd are
their_trees has_tree body (value ∷ values) [] are = absurd are
their_trees has_tree body (value ∷ values) (word ∷ words) are =
    let r = their_trees has_tree body values words are.1 in
    (tree are.0.0 are.0.1 r.0, (are.0.3, r.1), (are.0.2, r.2))

-- what is added is a value, once the trees of the orphans that it has adopted are known: a struct, a list of
-- pointers, a list of structs
pub struct_value : {T : Type 0} (old new words adopted : List ℕ) (children : Trees) (has_tree : Trees → Type 0) (word : T → ℕ) (result : Result T Error) → AreOrphans old adopted children
    → has_tree (tree (struct words) children none) → IfOk result (λ object. HoldsStruct old words adopted new (word object)) → IfOk result (λ object. HoldsValue has_tree new (word object))
struct_value old new words adopted children has_tree word (Ok object) are is h = (struct words, children, is, h.tree_is children are)
struct_value old new words adopted children has_tree word (Err error) are is h = tt

pub pointers_value : {T : Type 0} (old new adopted : List ℕ) (children : Trees) (has_tree : Trees → Type 0) (word : T → ℕ) (result : Result T Error) → AreOrphans old adopted children
    → has_tree (tree pointers children none) → IfOk result (λ object. HoldsPointers old adopted new (word object)) → IfOk result (λ object. HoldsValue has_tree new (word object))
pointers_value old new adopted children has_tree word (Ok object) are is h = (pointers, children, is, h.tree_is children are)
pointers_value old new adopted children has_tree word (Err error) are is h = tt

pub structs_value : {T S : Type 0} {D P : ℕ} (old new : List ℕ) (drafts : List (StructDraft S D P)) (children : Trees) (has_tree : Trees → Type 0) (word : T → ℕ) (result : Result T Error)
    → AreOrphans old (adopted_by drafts) children → has_tree (tree (structs D P (words_of_each drafts)) children none) → IfOk result (λ object. HoldsStructs old drafts new (word object))
    → IfOk result (λ object. HoldsValue has_tree new (word object))
structs_value {D = D} {P = P} old new drafts children has_tree word (Ok object) are is h = (structs D P (words_of_each drafts), children, is, h.tree_is children are)
structs_value old new drafts children has_tree word (Err error) are is h = tt

-- the root is the value that it is set to
pub root_of_value : (has_tree : Trees → Type 0) (word : ℕ) (old new : Segment) → HoldsValue has_tree (body_of old) word → SetsRootOrphan word old new
    → (trees : Trees) × has_tree trees × ((traversed : ℕ) × At (message_of (new.bytes ∷ [])) (root ∷ []) trees traversed)
root_of_value has_tree word old new is sets = (tree is.0 is.1 none, is.2, sets.root_is is.0 is.1 is.3)
