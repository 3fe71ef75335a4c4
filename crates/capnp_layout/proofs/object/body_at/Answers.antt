-- Each kind of object is there where the segment has room for it.
use Rattle.std.proofs.Common.{◌+◌, ◌/◌, ◌<◌, ◌≤◌, length, arith}
use Rattle.std.proofs.lemmas.Result.{err_from_is_err_and}
use Rattle.capnp_layout.specs.Prelude.{code, code_of, width, words_for}
use Rattle.capnp_layout.proofs.pointers.ObjectFitOrErrorLemmas.{struct_is_at, numbers_are_at, pointers_are_at, struct_misfits, list_misfits, pointers_misfit}
use Rattle.capnp_layout.proofs.object.body_at.Goals as goal

pub returns-in_err-expect_room-in-Struct-clause-errors : goal.returns-in_err-expect_room-in-Struct-clause-errors
returns-in_err-expect_room-in-Struct-clause-errors c =
    let p = err_from_is_err_and c.from_residual.result c.from_residual.ensures.1 in
    let size = c.in-Struct.size in
    let past : length c.args.segment.now / 8 < c.args.start + (size.data_words + size.pointers) = omega (arith, c.words.ensures, c.in_err-expect_room-in-Struct.ensures.0) in
    rw (p.1, p.2) (λ tag shape. let s = rw c.in-Struct.is at shape in
    struct_misfits _ c.args.start tag size.data_words size.pointers _ s.0 s.1 s.2 past c.in_err-expect_room-in-Struct.ensures.1)

pub returns-in_err-expect_room-in-Numbers-clause-errors : goal.returns-in_err-expect_room-in-Numbers-clause-errors
returns-in_err-expect_room-in-Numbers-clause-errors c =
    let p = err_from_is_err_and c.from_residual-in_err-expect_room-in-Numbers.result c.from_residual-in_err-expect_room-in-Numbers.ensures.1 in
    rw (p.1, p.2) (λ tag shape. let s = rw c.in-Numbers.is at shape in
    let few : code tag < 7 = omega (arith, s.1) in
    list_misfits _ c.args.start tag (code_of c.in-Numbers.elements) c.in-Numbers.count c.words_of_list.result _ s.0 few s.2 s.3 c.words_of_list.ensures
    c.in_err-expect_room-in-Numbers.ensures.0 c.in_err-expect_room-in-Numbers.ensures.1)

pub returns-in_err-expect_room-in-Pointers-clause-errors : goal.returns-in_err-expect_room-in-Pointers-clause-errors
returns-in_err-expect_room-in-Pointers-clause-errors c =
    let p = err_from_is_err_and c.from_residual-in_err-expect_room-in-Pointers.result c.from_residual-in_err-expect_room-in-Pointers.ensures.1 in
    rw (p.1, p.2) (λ tag shape. let s = rw c.in-Pointers.is at shape in
    pointers_misfit _ c.args.start tag c.in-Pointers.count _ s.0 s.1 s.2 c.in_err-expect_room-in-Pointers.ensures.0 c.in_err-expect_room-in-Pointers.ensures.1)

pub returns-in_ok-expect_room-in-Struct-clause-found : goal.returns-in_ok-expect_room-in-Struct-clause-found
returns-in_ok-expect_room-in-Struct-clause-found c = λ tag number shape.
    let s = rw c.in-Struct.is at shape in
    let size = c.in-Struct.size in
    let room : c.args.start + (size.data_words + size.pointers) ≤ length c.args.segment.now / 8 = omega (arith, c.words.ensures, c.in_ok-expect_room-in-Struct.ensures) in
    struct_is_at c.args.segment.now (record { segment = number; word = c.args.start }) tag size.data_words size.pointers s.0 s.1 s.2 room

pub returns-in_ok-expect_room-in-Numbers-clause-found : goal.returns-in_ok-expect_room-in-Numbers-clause-found
returns-in_ok-expect_room-in-Numbers-clause-found c = λ tag number shape.
    let s = rw c.in-Numbers.is at shape in
    let room : c.args.start + words_for c.in-Numbers.count (width (code_of c.in-Numbers.elements)) ≤ length c.args.segment.now / 8 =
    rw (← c.words_of_list.ensures) c.in_ok-expect_room-in-Numbers.ensures in
    numbers_are_at c.args.segment.now (record { segment = number; word = c.args.start }) tag (code_of c.in-Numbers.elements) c.in-Numbers.count s.0 s.1 s.2 s.3 room

pub returns-in_ok-expect_room-in-Pointers-clause-found : goal.returns-in_ok-expect_room-in-Pointers-clause-found
returns-in_ok-expect_room-in-Pointers-clause-found c = λ tag number shape.
    let s = rw c.in-Pointers.is at shape in
    pointers_are_at c.args.segment.now (record { segment = number; word = c.args.start }) tag c.in-Pointers.count s.0 s.1 s.2 c.in_ok-expect_room-in-Pointers.ensures
