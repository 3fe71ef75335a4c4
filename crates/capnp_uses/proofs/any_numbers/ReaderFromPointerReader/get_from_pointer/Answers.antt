-- A list of numbers of any width is a view that decides which objects it takes.
use Rattle.capnp_wire.specs.Prelude.{pointer_of}
use Rattle.capnp_wire.proofs.views.RejectedExcludesAcceptedLemmas.{is_view_of}
use Rattle.capnp_uses.specs.AnyNumbers.{any_numbers_of, TakesAnyNumbers, AnyNumbersFormError}
use Rattle.capnp_uses.proofs.AnyNumbersShownOrRejectedLemmas.{any_numbers_decide, any_numbers_accepted}
use Rattle.capnp_uses.proofs.any_numbers.ReaderFromPointerReader.get_from_pointer.Goals as goal

pub returns : goal.returns
returns g c =
    let p = pointer_of g.S.ReaderSegments.segments c.args.reader in
    is_view_of p TakesAnyNumbers AnyNumbersFormError _ any_numbers_decide (λ view shown. any_numbers_accepted p (any_numbers_of view) shown) c.read.result c.read.ensures
