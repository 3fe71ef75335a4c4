-- A word, and a run after its count.
use Rattle.std.proofs.Common.{rules, arith, ◌≡◌, ◌-◌, ◌*◌, ◌++◌, ◌∙◌, ap, refl, length, take, drop, get_or, length-drop}
use Rattle.std.proofs.lemmas.List.{take_all}
use Rattle.capnp_frame.proofs.sources.JoinedRequestPartsLemmas.{length-put_mid}
use Rattle.capnp_pack.proofs.unpacking.ShownGroupsUnpackToBufferLemmas.{literal_after}
use Rattle.capnp_frame.proofs.sources.JoinedRequestPartsLemmas.{put_mid_front}
use Rattle.capnp_pack.proofs.unpack.unpack_literal.Goals as goal

pub returns : goal.returns
returns c =
    let following = c.args.following.now in
    let run = 8 * get_or following 8 0 in
    let word = c.move_front.new.buffer in
    let part = c.copy_run.new.buffer in
    let same : length word ≡ length c.args.buffer.now = search rules in
    let rest : length part ≡ length word - 8 = search rules in
    let all : take (length following - 9) (drop 9 following) ≡ drop 9 following = take_all (length following - 9) (drop 9 following) (omega (arith, length-drop 9 following)) in
    let copied = put_mid_front 8 _ run word part (omega arith) (omega arith) ∙ ap (λ l. l ++ take run part) c.move_front.ensures
    ∙ ap (λ l. take 8 following ++ l) (c.copy_run.ensures ∙ ap (take run) all) in
    literal_after run following _ (omega arith) (search rules) refl (omega (arith, length-put_mid 8 word part (omega arith) rest)) copied
