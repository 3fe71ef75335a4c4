-- The words that are measured of trees (src/measured.rt).
use Rattle.std.specs.Prelude.{◌≡◌, ◌+◌, Bool, Result, Ok, MatchResult}
use Rattle.std.specs.Result.{IsErrAnd}
use Rattle.capnp_frame.specs.declared.error.Error.{Error}
use Rattle.capnp_frame.specs.declared.error.ErrorKind.{ErrorKind}
use Rattle.capnp_layout.specs.Prelude.{Trees, total_words, output, AllHaveRoom}
use Rattle.capnp_wire.specs.declared.traits.TreeWords.{TreeWords}

-- the words of some trees, untrimmed and in the form that is written
abbrev pub tree_words : Bool → Trees → TreeWords
tree_words canonical trees = record { untrimmed = total_words trees; output = total_words (output canonical trees) }

-- and the words of some trees and others together
abbrev pub both_words : TreeWords → TreeWords → TreeWords
both_words a b = record { untrimmed = a.untrimmed + b.untrimmed; output = a.output + b.output }

-- what is measured of trees that have room, of any number of words, or why there are no trees
pub record MeasuresValue (has_trees : Trees → Type 0) (fails : ErrorKind → Type 0) (canonical : Bool) (result : Result TreeWords Error) : Type 0 where
  -- the words of the value's tree, or the error that it has
  pub returned : MatchResult result (λ words. (trees : Trees) × has_trees trees × AllHaveRoom trees × (words ≡ tree_words canonical trees)) (λ error. fails error.kind)
  -- a value that has a tree is measured
  pub found : (trees : Trees) → has_trees trees → result ≡ Ok (tree_words canonical trees)
  -- one that fails with a kind of error returns it
  pub exact : (kind : ErrorKind) → fails kind → IsErrAnd result (λ error. error.kind ≡ kind)
