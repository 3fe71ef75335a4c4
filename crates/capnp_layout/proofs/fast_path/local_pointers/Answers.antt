-- A pointer points to a list of pointers in its segment where there is room for the list.
use Rattle.std.proofs.Common.{◌+◌, ◌/◌, ◌≤◌, length, sym, arith}
use Rattle.capnp_layout.specs.Prelude.{words_of}
use Rattle.capnp_layout.proofs.pointers.LocalObjectIsAtLemmas.{word_there, pointer_list_is_at}
use Rattle.capnp_layout.proofs.fast_path.local_pointers.Goals as goal

pub returns : goal.returns
returns c m there =
    let word = word_there m c.args.place (words_of c.args.segment.now) c.in_ok-pointer.pointer there (sym c.in_ok-pointer.ensures.value) in
    let local_is = c.in-Local.ensures in
    let list = rw c.in-Pointers.is at local_is.shape_is in
    let points_to = rw (c.in_ok-start.was, local_is.offset_is) at c.resolve_local-landing.ensures.start in
    let room : c.in_ok-start.start + c.in-Pointers.count ≤ length c.args.segment.now / 8 = omega (arith, c.fits.ensures.0 c.if-not-fits.false) in (
      pointer_list_is_at m c.args.place c.in_ok-pointer.pointer c.args.segment c.in_ok-start.start c.in-Pointers.count word local_is.small there points_to list c.words_fit.ensures.words room,
      omega arith,
    )
