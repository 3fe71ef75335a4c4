-- A pointer points to a list of structs in its segment where there is room for its words, and for its elements in these.
use Rattle.std.proofs.Common.{◌+◌, ◌*◌, ◌/◌, ◌≤◌, length, sym, arith}
use Rattle.capnp_layout.specs.Prelude.{words_of}
use Rattle.capnp_layout.proofs.pointers.LocalObjectIsAtLemmas.{word_there, struct_list_is_at}
use Rattle.capnp_layout.proofs.fast_path.local_structs.Goals as goal

pub returns : goal.returns
returns c m there =
    let word = word_there m c.args.place (words_of c.args.segment.now) c.in_ok-pointer.pointer there (sym c.in_ok-pointer.ensures.value) in
    let local_is = c.in-Local.ensures in
    let list = rw c.in-Structs.is at local_is.shape_is in
    let points_to = rw (c.in_ok-start.was, local_is.offset_is) at c.resolve_local-landing.ensures.start in
    let e = c.in_ok-elements.elements in
    let room : c.in_ok-start.start + (1 + c.in-Structs.words) ≤ length c.args.segment.now / 8 = omega (arith, c.fits.ensures.0 c.if-not-fits.false) in
    let few : e.count * (e.size.data_words + e.size.pointers) ≤ c.in-Structs.words = omega (arith, c.words.ensures.words, c.if-words.false) in (
      struct_list_is_at m c.args.place c.in_ok-pointer.pointer c.in_ok-tag.tag c.args.segment c.in_ok-start.start e c.in-Structs.words
          word local_is.small there points_to list (sym c.in_ok-tag.ensures.value) c.in_ok-elements.ensures c.words_fit.ensures.words room few,
      omega arith,
    )
