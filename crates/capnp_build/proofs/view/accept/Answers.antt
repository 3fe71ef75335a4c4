-- A failure rejects the root.
use Rattle.capnp_build.proofs.roots.NoSegmentRootLemmas.{form_error_there}
use Rattle.capnp_build.proofs.view.accept.Goals as goal

pub returns-clause-kind : goal.returns-clause-kind
returns-clause-kind g c =
    form_error_there _ _ c.root_kind.result c.root_bytes.result.now c.accept.result
    c.root_kind.ensures.form c.root_kind.ensures.is_kind c.root_bytes.ensures.form c.accept.ensures.form_errors
