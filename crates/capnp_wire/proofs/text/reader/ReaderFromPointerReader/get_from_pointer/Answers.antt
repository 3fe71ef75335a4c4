-- `Text` is a view that decides which objects it accepts.
use Rattle.capnp_wire.specs.Prelude.{TextFormError, TakesText, pointer_of}
use Rattle.capnp_wire.proofs.views.RejectedExcludesAcceptedLemmas.{is_view_of, text_decides, text_accepted}
use Rattle.capnp_wire.proofs.text.reader.ReaderFromPointerReader.get_from_pointer.Goals as goal

pub returns : goal.returns
returns g c =
    let p = pointer_of g.S.ReaderSegments.segments c.args.reader in
    is_view_of p TakesText TextFormError _ text_decides (λ view shown. text_accepted p view.bytes.now shown) c.read.result c.read.ensures
