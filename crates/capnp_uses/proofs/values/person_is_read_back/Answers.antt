-- A person fails as is said of its tree.
use Rattle.capnp_uses.proofs.UniqueContactTreeLemmas.{person_is}
use Rattle.capnp_uses.proofs.ContactErrorIsTooLargeLemmas.{back_as, person_fails}
use Rattle.capnp_uses.proofs.values.person_is_read_back.Goals as goal

pub returns-clause-errors : goal.returns-clause-errors
returns-clause-errors g c =
    let v = c.person-value.result in
    let e = c.person-value.ensures in
    let a = c.args in
    back_as g.A.Allocator _ _ _ _
    (λ trees is. person_is v.words a.id v.fields.value.now v.fields.rest.value.words v.fields.rest.value.fields.value.now a.name.now a.city.now trees e.id e.name e.address e.city is)
    (person_fails v.words a.id v.fields.value.now v.fields.rest.value.words v.fields.rest.value.fields.value.now a.name.now a.city.now e.id e.name e.address e.city)
    a.options.traversal_limit_in_words _ _ c.set_and_read_back.result c.set_and_read_back.ensures.errors
