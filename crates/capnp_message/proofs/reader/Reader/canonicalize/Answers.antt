-- The canonical form of the root, or the reason why there is none.
use Rattle.capnp_message.proofs.CanonicalFormOrErrorLemmas.{no_root_no_form, root_form}
use Rattle.capnp_message.proofs.reader.Reader.canonicalize.Goals as goal

pub returns-in_err-root : goal.returns-in_err-root
returns-in_err-root g c =
    no_root_no_form g.S.ReaderSegments.segments _ c.args.self.now _ c.from_residual.result c.self.view_is c.from_residual.ensures.1 c.in_err-root.ensures.returned

pub returns : goal.returns
returns g c =
    root_form g.S.ReaderSegments.segments _ c.args.self.now _ _ c.canonical_words.result c.self.view_is c.in_ok-root.ensures.returned c.canonical_words.ensures.returned c.canonical_words.ensures.exact
