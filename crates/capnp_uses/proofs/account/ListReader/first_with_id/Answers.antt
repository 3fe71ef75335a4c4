-- The first account of a number is what `find` gives over the elements.
use Rattle.std.proofs.Common.{◌==◌, length, slice_index, rules, tests}
use Rattle.std.proofs.lemmas.Iterator.Consumers.{YieldsList-from_first}
use Rattle.std.proofs.lemmas.Iterator.Search.{find_from_yields_List}
use Rattle.capnp_wire.specs.Prelude.{all_structs, elements_left, struct_of, struct_list_of, element_of}
use Rattle.capnp_uses.proofs.account.ListReader.first_with_id.Goals as goal

pub returns : goal.returns
returns g c =
    let segments = g.S.ReaderSegments.segments in
    let list = struct_list_of segments c.args.self.now.accounts in
    find_from_yields_List (λ account. slice_index account.words 0 == c.args.id) c.find.new.self _ c.find.result c.find.ensures.ran
    (YieldsList-from_first (λ account. struct_of segments account.fields)
    (elements_left (λ list. length (struct_list_of segments list.accounts).elements) (λ list. element_of (struct_list_of segments list.accounts)))
    {s = c.iter.result} (all_structs list) (search rules))
    (λ x b q k. search (rules, tests))
