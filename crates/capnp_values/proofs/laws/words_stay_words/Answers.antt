-- The law, as DataFieldSetLemmas proves it.
use Rattle.capnp_values.proofs.numbers.DataFieldSetLemmas.{length-with_field, with_field_below}
use Rattle.capnp_values.proofs.laws.words_stay_words.Goals as goal

pub returns : goal.returns
returns c = λ words width offset bits. (length-with_field words width offset bits, with_field_below words width offset bits)
