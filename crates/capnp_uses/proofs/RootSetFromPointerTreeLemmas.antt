-- A root that is set to what a pointer points to has the one tree of this pointer, also in canonical form, or but
-- for the first data word where that is set.
use Rattle.std.proofs.Common.{◌≡◌, ◌⊎◌, inl, inr, ℕ, List, [], ◌∷◌, ◌++◌, false, true, refl, ◌∙◌, ap, subst, ◌<◌, ◌≤◌, length, arith}
use Rattle.capnp_frame.specs.declared.error.Error.{Error}
use Rattle.capnp_frame.specs.declared.error.ErrorKind.{ErrorKind}
use Rattle.capnp_frame.specs.declared.error.ErrorKind.TheVariants.{DeviceFailed, OutOfMemory}
use Rattle.capnp_frame.specs.Prelude.{Fails, SegmentCountError, Adds, ByKind}
use Rattle.capnp_wire.specs.Prelude.{Form, null, struct, numbers, pointers, structs, Trees, none, tree, At, at, root, Root, canon, Pointer, HasData, TakesStruct, StructFormError, PointsToTree}
use Rattle.capnp_wire.specs.Reached.{nowhere}
use Rattle.capnp_layout.proofs.pointers.ErrorExcludesObjectLemmas.{word_of_object}
use Rattle.capnp_wire.proofs.views.UniqueValueTreeAndMeasureLemmas.{one_there}
use Rattle.capnp_build.specs.Prelude.{Space, Built, message, IsSet, IsWhole, RootFormError, IsFieldSet, FirstSegmentError}
use Rattle.capnp_build.specs.declared.allocator.Allocator.{Ghosts}
use Rattle.capnp.proofs.MemoryWriteErrorLemmas.{framed_memory}
use Rattle.capnp.specs.Prelude.{IsFrameEncoding, WriterError}
use Rattle.capnp_uses.specs.Roots.{IsSetWithWord}

points_one : (p : Pointer) (a b : Trees) → PointsToTree p a → PointsToTree p b → a ≡ b
points_one p a b x y = one_there p.place p.message p.nesting p.limit a b x y

pub set_as : (p : Pointer) (spaces : List Space) (form : Form) (children : Trees) → PointsToTree p (tree form children none) → IsSet (PointsToTree p) false spaces
    → (traversed : ℕ) × Root (message spaces) form children traversed
set_as p spaces form children is s =
    let same : s.trees ≡ tree form children none = points_one p s.trees (tree form children none) s.tree_is is in
    (s.traversed, subst (λ (t : Trees). At (message spaces) (root ∷ []) t s.traversed) same s.is_at)

pub canonical_as : (p : Pointer) (spaces : List Space) (trees : Trees) → PointsToTree p trees → IsWhole (PointsToTree p) true spaces → message spaces ≡ canon trees ∷ []
canonical_as p spaces trees is s = s.words_are ∙ ap (λ (t : Trees). canon t ∷ []) (points_one p s.trees trees s.tree_is is)

-- where there is a tree at the root, there is a segment
pub root_has_segment : (spaces : List Space) (form : Form) (children : Trees) (traversed : ℕ) → Root (message spaces) form children traversed → 0 < length spaces
root_has_segment [] form children traversed (at {shape = shape} points inside others) = absurd (word_of_object [] root shape refl points)
root_has_segment (space ∷ spaces) form children traversed is_at = omega arith

-- what was set has a form
form_there : (p : Pointer) (spaces : List Space) (trees : Trees) (traversed : ℕ) → PointsToTree p trees → At (message spaces) (root ∷ []) trees traversed
    → (form : Form) × (children : Trees) × (counted : ℕ) × PointsToTree p (tree form children none) × Root (message spaces) form children counted
form_there p spaces trees traversed points_to (at points inside nowhere) = (_, _, _, points_to, at points inside nowhere)

pub set_form : (p : Pointer) (spaces : List Space) → IsSet (PointsToTree p) false spaces
    → (form : Form) × (children : Trees) × (counted : ℕ) × PointsToTree p (tree form children none) × Root (message spaces) form children counted
set_form p spaces set = form_there p spaces set.trees set.traversed set.tree_is set.is_at

-- its first data word is set, where it has n of them
pub word_set : (p : Pointer) (word n : ℕ) (spaces last : List Space) (form : Form) (children : Trees) (traversed : ℕ) → PointsToTree p (tree form children none)
    → Root (message spaces) form children traversed → TakesStruct form → ((words : List ℕ) → HasData form words → n ≡ length words) → 0 < n → IsFieldSet spaces last 0 word
    → IsSetWithWord (PointsToTree p) word last
word_set p word n spaces last null children traversed points_to there taken counted some set = absurd (omega (arith, counted [] refl, some))
word_set p word n spaces last (struct words) children traversed points_to there taken counted some set =
    let after = set words children traversed there in
    record { form = struct words; children = children; tree_is = points_to; taken = taken; traversed = after.0; is_at = after.1 }
word_set p word n spaces last (numbers code values) children traversed points_to there taken counted some set = absurd taken
word_set p word n spaces last pointers children traversed points_to there taken counted some set = absurd taken
word_set p word n spaces last (structs d m elements) children traversed points_to there taken counted some set = absurd taken

-- and where it has none there is none to set
pub set_word_kept : (p : Pointer) (word n : ℕ) (spaces : List Space) (form : Form) (children : Trees) (traversed : ℕ) → PointsToTree p (tree form children none)
    → Root (message spaces) form children traversed → TakesStruct form → ((words : List ℕ) → HasData form words → n ≡ length words) → n ≤ 0
    → IsSetWithWord (PointsToTree p) word spaces
set_word_kept p word n spaces null children traversed points_to there taken counted gone =
    record { form = null; children = children; tree_is = points_to; taken = taken; traversed = traversed; is_at = there }
set_word_kept p word n spaces (struct []) children traversed points_to there taken counted gone =
    record { form = struct []; children = children; tree_is = points_to; taken = taken; traversed = traversed; is_at = there }
set_word_kept p word n spaces (struct (first ∷ words)) children traversed points_to there taken counted gone = absurd (omega (arith, counted (first ∷ words) refl, gone))
set_word_kept p word n spaces (numbers code values) children traversed points_to there taken counted gone = absurd taken
set_word_kept p word n spaces pointers children traversed points_to there taken counted gone = absurd taken
set_word_kept p word n spaces (structs d m elements) children traversed points_to there taken counted gone = absurd taken

-- a type that rejects the root rejects the tree that was set
form_error_at : {A S : Type 0} (alloc : Ghosts A S) (p : Pointer) (old : Built A) (spaces : List Space) (kind : ErrorKind) (trees : Trees) (traversed : ℕ) → PointsToTree p trees → At (message spaces) (root ∷ []) trees traversed
    → old.spaces ≡ spaces → FirstSegmentError alloc old kind ⊎ RootFormError StructFormError spaces kind → (form : Form) × (children : Trees) × PointsToTree p (tree form children none) × StructFormError form kind
form_error_at alloc p old [] kind trees traversed points_to (at {shape = shape} points inside others) same form_errors = absurd (word_of_object [] root shape refl points)
form_error_at alloc p old (space ∷ spaces) kind trees traversed points_to (at points inside nowhere) same (inl first_error) = absurd (omega (arith, ap length same, first_error.0))
form_error_at alloc p old (space ∷ spaces) kind trees traversed points_to (at points inside nowhere) same (inr form_errors) = (_, _, points_to, form_errors _ _ _ (at points inside nowhere))

pub form_error_tree : {A S : Type 0} (alloc : Ghosts A S) (p : Pointer) (old : Built A) (kind : ErrorKind) → IsSet (PointsToTree p) false old.spaces
    → FirstSegmentError alloc old kind ⊎ RootFormError StructFormError old.spaces kind
    → (form : Form) × (children : Trees) × PointsToTree p (tree form children none) × StructFormError form kind
form_error_tree alloc p old kind set form_errors = form_error_at alloc p old old.spaces kind set.trees set.traversed set.tree_is set.is_at refl form_errors

-- why what was set is not written to memory
pub not_written : (message : List (List ℕ)) (error : Error) → WriterError (ByKind OutOfMemory) message error.kind → (error.kind ≡ DeviceFailed → Fails 0 0)
    → SegmentCountError message error.kind ⊎ (error.kind ≡ OutOfMemory)
not_written message error errors failed = framed_memory message error.kind errors failed

-- what is added to nothing
pub added_frame : (segments : List (List ℕ)) (old new : List ℕ) → old ≡ [] → Adds (IsFrameEncoding segments) old new → IsFrameEncoding segments new
added_frame segments old new empty (encoding, is, spelled) = spelled ∙ ap (λ l. l ++ encoding) empty ∙ is
