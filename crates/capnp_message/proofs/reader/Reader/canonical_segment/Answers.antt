-- The canonical form of the root, or the reason why there is none.
use Rattle.capnp_layout.specs.Prelude.{words_of}
use Rattle.capnp_message.specs.Canonical.{ReturnsForm}
use Rattle.capnp_message.specs.Seen.{root_of}
use Rattle.capnp_message.proofs.CanonicalFormOrErrorLemmas.{no_root_no_form, root_form}
use Rattle.capnp_message.proofs.reader.Reader.canonical_segment.Given as given
use Rattle.capnp_message.proofs.reader.Reader.canonical_segment.Goals as goal

errors : (g : given.Over) (c : goal.After-from_residual g) → ReturnsForm (root_of g.S.ReaderSegments.segments c.args.self.now) (λ bytes. words_of bytes.items) c.from_residual.result
errors g c = no_root_no_form g.S.ReaderSegments.segments _ c.args.self.now _ c.from_residual.result c.self.view_is c.from_residual.ensures.1 c.in_err-root.ensures.returned

form : (g : given.Over) (c : goal.After-canonical_bytes g) → ReturnsForm (root_of g.S.ReaderSegments.segments c.args.self.now) (λ bytes. words_of bytes.items) c.canonical_bytes.result
form g c =
    root_form g.S.ReaderSegments.segments _ c.args.self.now _ _ c.canonical_bytes.result c.self.view_is c.in_ok-root.ensures.returned c.canonical_bytes.ensures.returned c.canonical_bytes.ensures.exact

pub returns-in_err-root-clause-returned : goal.returns-in_err-root-clause-returned
returns-in_err-root-clause-returned g c = (errors g c).returned

pub returns-in_err-root-clause-found : goal.returns-in_err-root-clause-found
returns-in_err-root-clause-found g c = (errors g c).found

pub returns-in_err-root-clause-exact : goal.returns-in_err-root-clause-exact
returns-in_err-root-clause-exact g c = (errors g c).exact

pub returns-clause-found : goal.returns-clause-found
returns-clause-found g c = (form g c).found

pub returns-clause-exact : goal.returns-clause-exact
returns-clause-exact g c = (form g c).exact
