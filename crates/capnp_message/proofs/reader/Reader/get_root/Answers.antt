-- The root's word fails with only one error.
use Rattle.capnp_message.proofs.MissingRootWordErrorLemmas.{root_nowhere, root_read}
use Rattle.capnp_message.proofs.reader.Reader.get_root.Goals as goal

pub returns-in_err-get_root : goal.returns-in_err-get_root
returns-in_err-get_root g c =
    let T = g.T.FromPointerReader in
    root_nowhere g.S.ReaderSegments.segments _ c.args.self.now T.shows T.accepts T.fails T.form_error c.from_residual.result c.self.view_is c.from_residual.ensures.1 c.in_err-get_root.ensures.returned

pub returns : goal.returns
returns g c =
    let T = g.T.FromPointerReader in
    let told = c.get_as.ensures in
    root_read g.S.ReaderSegments.segments _ c.args.self.now _ T.shows T.accepts T.fails T.form_error c.get_as.result c.self.view_is c.in_ok-get_root.ensures.returned c.in_ok-get_root.ensures.has_word
    (record { returned = told.returned; found = told.found; unlimited = told.unlimited; exact = told.exact; form_errors = told.form_errors })
