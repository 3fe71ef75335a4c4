-- The tree that is read is the contact's, and a contact fails as is said of its tree.
use Rattle.capnp_uses.proofs.UniqueContactTreeLemmas.{contact_is, one_root}
use Rattle.capnp_uses.proofs.ContactErrorIsTooLargeLemmas.{back_as, contact_fails}
use Rattle.capnp_uses.proofs.values.contact_is_read_back.Goals as goal

pub returns : goal.returns
returns g c =
    let v = c.contact-value.result in
    let e = c.contact-value.ensures in
    let a = c.args in
    record {
      back = one_root c.set_and_read_back.result (λ reader. reader.segments) _ _
          (λ trees is. contact_is (λ p. p.words) (λ p. p.fields.value.now) v.fields.rest.rest.value.items.now a.phones.now v.words a.id v.fields.value.now v.fields.rest.value.now
          a.name.now a.mail.now trees e.id e.name e.mail e.phones is)
          c.set_and_read_back.ensures.tree;
      written = c.set_and_read_back.ensures.back;
      options = c.set_and_read_back.ensures.options;
      errors = back_as g.A.Allocator _ _ _ _
          (λ trees is. contact_is (λ p. p.words) (λ p. p.fields.value.now) v.fields.rest.rest.value.items.now a.phones.now v.words a.id v.fields.value.now v.fields.rest.value.now
          a.name.now a.mail.now trees e.id e.name e.mail e.phones is)
          (contact_fails (λ p. p.words) (λ p. p.fields.value.now) v.fields.rest.rest.value.items.now a.phones.now v.words a.id v.fields.value.now v.fields.rest.value.now
          a.name.now a.mail.now e.id e.name e.mail e.phones)
          a.options.traversal_limit_in_words _ _ c.set_and_read_back.result c.set_and_read_back.ensures.errors;
    }
