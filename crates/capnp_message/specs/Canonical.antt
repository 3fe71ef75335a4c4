-- The canonical form of a message that is read (src/reader.rt).
use Rattle.std.specs.Prelude.{◌≡◌, ◌⊎◌, ℕ, ◌≤◌, ◌+◌, ◌^◌, true, List, Result, IfErr, MatchResult}
use Rattle.std.specs.Result.{IsErrAnd}
use Rattle.capnp_frame.specs.declared.error.Error.{Error}
use Rattle.capnp_frame.specs.declared.error.ErrorKind.{ErrorKind}
use Rattle.capnp_frame.specs.declared.error.ErrorKind.TheVariants.{OutOfMemory}
use Rattle.capnp_layout.specs.Prelude.{Trees, total_words, trim}
use Rattle.capnp_wire.specs.Prelude.{Pointer, WordsError, PointsToTree, WalkErrorFrom, IsCanonicalForm}

-- A message has a canonical form: there is a tree at its root, within the nesting depth left and
-- the limit, and the form has at most 2 ^ 29 words with its root pointer.
pub record HasForm (pointer : Pointer) : Type 0 where
  pub trees : Trees
  pub tree_is : PointsToTree pointer trees
  pub few : 1 + total_words (trim trees) ≤ 2 ^ 29

-- It has no canonical form: a walk over its root tree stops with this error, or the form has more words.
abbrev pub CanonicalFormError : Pointer → ErrorKind → Type 0
CanonicalFormError pointer kind = WordsError (PointsToTree pointer) (WalkErrorFrom pointer) true kind

-- What a call that returns the canonical form does; `words` is how contracts see the words of the form. The
-- form is returned, or the call fails with the one error that says why there is no form, or when out of
-- memory.
pub record ReturnsForm {T : Type 0} (pointer : Pointer) (words : T → List ℕ) (result : Result T Error) : Type 0 where
  pub returned : MatchResult result (λ form. IsCanonicalForm pointer (words form))
      (λ error. CanonicalFormError pointer error.kind ⊎ (error.kind ≡ OutOfMemory))
  pub found : HasForm pointer → IfErr result (λ error. error.kind ≡ OutOfMemory)
  pub exact : (kind : ErrorKind) → CanonicalFormError pointer kind → IsErrAnd result (λ error. error.kind ≡ kind)
