-- The count of a list of numbers determines its words.
use Rattle.std.proofs.Common.{ℕ, MatchResult, subst}
use Rattle.capnp_layout.specs.Prelude.{words_of, elements}
use Rattle.capnp_wire.specs.Prelude.{numbers_of, HasWords, WordsError, IsNumbersTree, TooManyNumbers}
use Rattle.capnp_wire.proofs.views.UniqueValueTreeAndMeasureLemmas.{measured_found, measured_exactly}
use Rattle.capnp_wire.proofs.views.NumberListMeasureLemmas.{one_of_numbers, numbers_measured}
use Rattle.capnp_wire.proofs.primitive_list.ReaderSetterInputOwned.measure.Goals as goal

pub returns : goal.returns
returns g c =
    let list = c.args.self.now in
    let code : ℕ = g.T.PrimitiveElement.code in
    let values = numbers_of code list in
    let words = words_of list.bytes.now in
    let measured = numbers_measured c.size.result words list.count c.args._canonical c.measure_numbers.result c.measure_numbers.ensures in
    let returned = subst (λ (k : ℕ). let values = elements words 0 k list.count in
    MatchResult c.measure_numbers.result (λ number. HasWords (IsNumbersTree k values) c.args._canonical number)
    (λ error. WordsError (IsNumbersTree k values) (TooManyNumbers k values) c.args._canonical error.kind)) c.size.ensures measured in
    record {
      returned = returned;
      found = measured_found (IsNumbersTree code values) (TooManyNumbers code values) (one_of_numbers code values) c.args._canonical c.measure_numbers.result returned;
      exact = measured_exactly (IsNumbersTree code values) (TooManyNumbers code values) (one_of_numbers code values) c.args._canonical c.measure_numbers.result returned;
    }
