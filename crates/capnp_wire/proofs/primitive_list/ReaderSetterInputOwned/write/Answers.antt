-- The numbers of a list are its copy, whatever the form.
use Rattle.std.proofs.Common.{ℕ, ap, arith}
use Rattle.capnp_layout.specs.Prelude.{words_of, width, words_for}
use Rattle.capnp_wire.specs.Prelude.{numbers_of, IsNumbersTree}
use Rattle.capnp_wire.proofs.layouts.NullAndNumbersWrittenLemmas.{tree_body_long, numbers_total}
use Rattle.capnp_wire.proofs.views.NumberListMeasureLemmas.{one_of_numbers, numbers_long}
use Rattle.capnp_wire.proofs.primitive_list.ReaderSetterInputOwned.write.Goals as goal

pub write_numbers-requires-clause-few : goal.write_numbers-requires-clause-few
write_numbers-requires-clause-few g c =
    let list = c.args.self.now in
    omega (arith, c.requires.value.tree_is.0, c.as_value.ensures.count, numbers_long (words_of list.bytes.now) 0 g.T.PrimitiveElement.code list.count)

pub write_numbers-requires-clause-room : goal.write_numbers-requires-clause-room
write_numbers-requires-clause-room g c =
    let list = c.args.self.now in
    let code : ℕ = g.T.PrimitiveElement.code in
    let w = c.requires.value in
    let long = numbers_long (words_of list.bytes.now) 0 code list.count in
    rw (c.as_value.ensures.count, c.as_value.ensures.size)
    (omega (arith, w.fits, numbers_total c.args._canonical code (numbers_of code list) w.trees w.tree_is.1, ap (λ (k : ℕ). words_for k (width code)) long))

pub returns-clause-long : goal.returns-clause-long
returns-clause-long g c trees is =
    let code : ℕ = g.T.PrimitiveElement.code in
    let values = numbers_of code c.args.self.now in
    tree_body_long (IsNumbersTree code values) c.args._canonical c.args.next _ (one_of_numbers code values).same_tree c.requires.value trees is
