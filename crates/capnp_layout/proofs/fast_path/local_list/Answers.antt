-- A pointer points to a list of numbers in its segment where there is room for the list.
use Rattle.std.proofs.Common.{◌+◌, ◌/◌, ◌≤◌, length, refl, sym, arith}
use Rattle.capnp_layout.specs.Prelude.{words_of, code_of, width, words_for}
use Rattle.capnp_layout.proofs.pointers.LocalObjectIsAtLemmas.{word_there, number_list_is_at}
use Rattle.capnp_layout.proofs.fast_path.local_list.Goals as goal

pub returns : goal.returns
returns c m there =
    let word = word_there m c.args.place (words_of c.args.segment.now) c.in_ok-pointer.pointer there (sym c.in_ok-pointer.ensures.value) in
    let local_is = c.in-Local.ensures in
    let list = rw c.in-Numbers.is at local_is.shape_is in
    let points_to = rw (c.in_ok-start.was, local_is.offset_is) at c.resolve_local-landing.ensures.start in
    let room : c.in_ok-start.start + words_for c.in-Numbers.count (width (code_of c.in-Numbers.size)) ≤ length c.args.segment.now / 8 =
    rw (← c.bits_of_list-bits.ensures.bits) (omega (arith, c.div_ceil.ensures, c.fits.ensures.0 c.if-not-fits.false)) in (
      number_list_is_at m c.args.place c.in_ok-pointer.pointer c.args.segment c.in_ok-start.start c.in-Numbers.size c.in-Numbers.count _
          word local_is.small there points_to list refl c.words_fit.ensures.words room,
      omega arith,
    )
