-- A pointer points to a struct in its segment where there is room for the struct.
use Rattle.std.proofs.Common.{◌+◌, ◌/◌, ◌≤◌, length, sym, arith}
use Rattle.capnp_layout.specs.Prelude.{words_of}
use Rattle.capnp_layout.proofs.pointers.LocalObjectIsAtLemmas.{word_there, struct_is_at_local}
use Rattle.capnp_layout.proofs.fast_path.local_struct.Goals as goal

pub returns : goal.returns
returns c m there =
    let word = word_there m c.args.place (words_of c.args.segment.now) c.in_ok-pointer.pointer there (sym c.in_ok-pointer.ensures.value) in
    let local_is = c.in-Local.ensures in
    let is = rw c.in-Struct.is at local_is.shape_is in
    let points_to = rw (c.in_ok-start.was, local_is.offset_is) at c.resolve_local-landing.ensures.start in
    let room : c.in_ok-start.start + (c.in-Struct.size.data_words + c.in-Struct.size.pointers) ≤ length c.args.segment.now / 8 =
    omega (arith, c.words.ensures, c.fits.ensures.0 c.if-not-fits.false) in (
      struct_is_at_local m c.args.place c.in_ok-pointer.pointer c.args.segment c.in_ok-start.start c.in-Struct.size
          word (omega arith) local_is.small there points_to is c.words_fit.ensures.words room,
      omega arith,
    )
