-- A struct counts against the traversal limit and its words are counted; where its pointers are
-- null, nothing is below it.
use Rattle.std.proofs.Common.{◌+◌, ◌∙◌, refl, arith}
use Rattle.capnp_layout.specs.Prelude.{words_of}
use Rattle.capnp_layout.proofs.words.WordsOfBytesLemmas.{length-words_of}
use Rattle.capnp_wire.proofs.walks.WalkEntersLocalObjectLemmas.{struct_enters}
use Rattle.capnp_wire.proofs.walks.NullPointersWalkAndCopyLemmas.{nulls_walked}
use Rattle.capnp_frame.proofs.sources.JoinedCallsAdvanceSourceLemmas.{passed_on}
use Rattle.capnp_wire.proofs.walks.WalkErrorExcludesTreesLemmas.{past_limit_error}
use Rattle.capnp_wire.proofs.walks.WalkProgressLemmas.{entered, walk_over}
use Rattle.capnp_wire.proofs.layout.walk.Walk.visit_struct.Goals as goal

pub returns-in_err-count_traversed-clause-errors : goal.returns-in_err-count_traversed-clause-errors
returns-in_err-count_traversed-clause-errors c m place nesting is deep =
    let errors = rw c.words.ensures at c.in_err-count_traversed.ensures.errors in
    passed_on _ _ c.from_residual.ensures.1 (past_limit_error m place _ nesting _ _ is.object deep errors.0 errors.1)

pub returns-clause-found : goal.returns-clause-found
returns-clause-found c m place nesting is deep =
    let found = c.args.found.now in
    let enters = struct_enters is deep c.words.ensures c.words-2.ensures c.output.ensures.body c.in_ok-count_traversed.ensures.within (c.count.ensures.left ∙ c.in_ok-count_traversed.ensures.left)
    (rw c.in_ok-count_traversed.ensures.words at c.count.ensures.words) in (
      enters,
      λ alone. walk_over (entered enters) refl
          (nulls_walked found.start.segment (words_of found.segment.now) (found.start.word + found.size.data_words) found.size.pointers is.content (omega (arith, is.room, length-words_of found.segment.now))
          (c.holds_nulls.ensures.0 alone)),
    )
