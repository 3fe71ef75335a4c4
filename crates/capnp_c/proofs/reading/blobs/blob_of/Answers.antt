-- The bytes are the elements of the list.
use Rattle.std.proofs.Common.{◌≡◌, refl, ap, arith}
use Rattle.capnp_layout.specs.Prelude.{room_of, words_for}
use Rattle.capnp_c.proofs.in_place.EnteredObjectReadLemmas.{bytes_form}
use Rattle.capnp_c.proofs.reading.blobs.blob_of.Goals as goal

pub returns-in-Some : goal.returns-in-Some
returns-in-Some c =
    let entered = c.args.entered.now in
    let room : room_of entered.object.body ≡ words_for c.in-Some.count 8 = ap room_of c.in-Some.ensures in (
      bytes_form c.requires.0 c.args.bytes.now entered c.in-Some.count c.requires.1 c.in-Some.ensures (λ i. omega (arith, c.type_inv.bytes i)),
      omega (arith, room, c.requires.1.within),
      refl,
    )
