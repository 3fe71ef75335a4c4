-- The elements of a list of structs are after its tag.
use Rattle.std.proofs.Common.{◌+◌, ◌*◌, ◌<◌, ◌≤◌, arith}
use Rattle.std.proofs.lemmas.Result.{err_from_is_err_and}
use Rattle.capnp_layout.proofs.pointers.ObjectFitOrErrorLemmas.{structs_misfit, no_tag_misfits, odd_tag_misfits, many_elements_misfit, structs_are_at}
use Rattle.capnp_layout.proofs.object.structs.Goals as goal

pub returns-in_err-expect_room-clause-errors : goal.returns-in_err-expect_room-clause-errors
returns-in_err-expect_room-clause-errors c =
    let p = err_from_is_err_and c.from_residual.result c.from_residual.ensures.1 in
    rw (p.1, p.2) (λ tag (list, seven, size). structs_misfit _ c.args.start tag c.args.words _ list seven size c.in_err-expect_room.ensures.0 c.in_err-expect_room.ensures.1)

pub returns-in_err-tag-clause-errors : goal.returns-in_err-tag-clause-errors
returns-in_err-tag-clause-errors c =
    absurd (no_tag_misfits c.args.segment.now c.args.start c.args.words c.in_ok-expect_room.ensures c.in_err-tag.ensures.0)

pub returns-in_default-clause-errors : goal.returns-in_default-clause-errors
returns-in_default-clause-errors c = λ tag (list, seven, size).
    odd_tag_misfits c.args.segment.now c.args.start tag c.in_ok-tag.tag c.args.words _ list seven size c.in_ok-expect_room.ensures c.in_ok-tag.ensures.0 c.in_default.ensures c.from_kind.ensures

pub returns-then-words-clause-errors : goal.returns-then-words-clause-errors
returns-then-words-clause-errors c = λ tag (list, seven, size).
    let e = c.in-Some.elements in
    let found = c.in-Some.ensures in
    let many : c.args.words < e.count * (e.size.data_words + e.size.pointers) = omega (arith, c.words.ensures.words, c.if-words.true) in
    many_elements_misfit c.args.segment.now c.args.start tag c.in_ok-tag.tag e.size.data_words e.size.pointers e.count c.args.words _ list seven size
    c.in_ok-expect_room.ensures c.in_ok-tag.ensures.0 found.struct_kind found.count_is found.data_is found.pointers_are many c.from_kind-then-words.ensures

pub returns-clause-found : goal.returns-clause-found
returns-clause-found c = λ tag number (list, seven, size).
    let e = c.in-Some.elements in
    let found = c.in-Some.ensures in
    let few : e.count * (e.size.data_words + e.size.pointers) ≤ c.args.words = omega (arith, c.words.ensures.words, c.if-words.false) in
    structs_are_at c.args.segment.now (record { segment = number; word = c.args.start }) tag c.in_ok-tag.tag e.size.data_words e.size.pointers e.count c.args.words list seven size
    c.in_ok-tag.ensures.0 found.struct_kind found.count_is found.data_is found.pointers_are c.in_ok-expect_room.ensures few
