-- A list has as many words as its numbers fill.
use Rattle.capnp_layout.specs.Prelude.{code_of}
use Rattle.capnp_orphans.proofs.NumbersInBytesAsOrphanLemmas.{known_code, narrow_code, numbers_measured, numbers_found}
use Rattle.capnp_orphans.proofs.objects.byte_numbers.ByteNumbersObject.measure.Goals as goal

pub returns-clause-returned : goal.returns-clause-returned
returns-clause-returned c =
    let list = c.args.self.now in
    numbers_measured (code_of c.args.self.now.size) c.args.self.now.count c.args.self.now.bytes.now c.words_of_numbers.result (known_code c.args.self.now.size) (narrow_code c.args.self.now.size) c.words_of_numbers.ensures

pub returns-clause-found : goal.returns-clause-found
returns-clause-found c words has =
    numbers_found (code_of c.args.self.now.size) c.args.self.now.count words c.args.self.now.bytes.now c.words_of_numbers.result c.words_of_numbers.ensures has
