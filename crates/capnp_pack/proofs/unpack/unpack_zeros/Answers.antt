-- The count is the length of the run.
use Rattle.std.proofs.Common.{rules, arith, ◌≡◌, ◌+◌, ◌*◌, ◌∙◌, sym, ap, take, replicate, get_or}
use Rattle.capnp_pack.proofs.unpacking.ShownGroupsUnpackToBufferLemmas.{zeros_after, short_zeros_after}
use Rattle.capnp_pack.proofs.unpack.unpack_zeros.Goals as goal

pub returns-then-filled-eq8 : goal.returns-then-filled-eq8
returns-then-filled-eq8 c =
    let one : 8 + 8 * get_or c.args.following.now 0 0 ≡ 8 = search rules in
    zeros_after (8 + 8 * get_or c.args.following.now 0 0) c.args.following.now c.clear_front.new.buffer
    (search rules) (search rules) (omega arith) (search rules) (ap (λ n. take n c.clear_front.new.buffer) one ∙ c.clear_front.ensures ∙ ap (λ n. replicate n 0) (sym one))

pub returns-then-filled-gt32 : goal.returns-then-filled-gt32
returns-then-filled-gt32 c =
    zeros_after (8 + 8 * get_or c.args.following.now 0 0) c.args.following.now c.clear_front-then-filled-gt32.new.buffer
    (search rules) (search rules) (omega arith) (search rules) c.clear_front-then-filled-gt32.ensures

pub returns : goal.returns
returns c =
    short_zeros_after (8 + 8 * get_or c.args.following.now 0 0) c.args.following.now c.clear_front-2.new.buffer c.clear_front-3.new.buffer
    (search rules) (search rules) (omega arith) (omega arith) (omega arith) (search rules) c.clear_front-2.ensures (search rules) c.clear_front-3.ensures
