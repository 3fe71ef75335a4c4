-- The lanes are the first bytes.
use Rattle.std.proofs.Common.{arith, ◌≡◌, length, take}
use Rattle.std.proofs.lemmas.List.{length-take-le}
use Rattle.std.proofs.lemmas.Simd.{take_more_put_chunk}
use Rattle.capnp_pack.proofs.copies.move_front.Goals as goal

pub returns : goal.returns
returns g c =
    let lanes = take g.row.N c.args.bytes.now in
    let long : length lanes ≡ g.row.N = length-take-le g.row.N c.args.bytes.now c.requires.bytes in
    take_more_put_chunk 0 c.args.buffer.now lanes g.row.N (omega (arith, long)) c.requires.room
