-- The two moves meet.
use Rattle.std.proofs.Common.{rules, arith, ◌-◌, ◌≡◌, ◌∙◌, ap, length, take, drop, length-drop}
use Rattle.std.proofs.lemmas.List.{take_all}
use Rattle.capnp_pack.proofs.unpacking.ShownGroupsUnpackToBufferLemmas.{copied_ends}
use Rattle.capnp_pack.proofs.copies.copy_ends.Goals as goal

pub returns : goal.returns
returns g c =
    let bytes = c.args.bytes.now in
    let cut = c.args.count - g.row.N in
    let all : take (length bytes - cut) (drop cut bytes) ≡ drop cut bytes = take_all (length bytes - cut) (drop cut bytes) (omega (arith, length-drop cut bytes)) in
    copied_ends g.row.N c.args.count bytes c.move_front.new.buffer c.move_front-2.new.buffer c.requires.part c.requires.twice (search rules)
    c.move_front.ensures (search rules) (c.move_front-2.ensures ∙ ap (take g.row.N) all)
