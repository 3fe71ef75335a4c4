-- Groups after groups.
use Rattle.std.proofs.Common.{rules, ◌+◌, ◌∙◌}
use Rattle.capnp_frame.proofs.sources.JoinedRequestPartsLemmas.{length-put_mid}
use Rattle.capnp_pack.proofs.unpacking.SingleWordGroupsExtendUnpackedLemmas.{unpacked_on, unpacked_kept}
use Rattle.capnp_pack.proofs.unpack.unpack_groups.Goals as goal

pub loop-buffer-preserved : goal.loop-buffer-preserved
loop-buffer-preserved c =
    let single = unpacked_on c.loop-buffer.used c.loop-buffer.filled c.unpack_single_words-single.result.used c.unpack_single_words-single.result.filled
    c.args.shown.now c.loop-buffer.buffer c.unpack_single_words-single.new.buffer (search rules) c.loop-buffer.invariant.1 c.unpack_single_words-single.ensures in
    let next = unpacked_on (c.loop-buffer.used + c.unpack_single_words-single.result.used) (c.loop-buffer.filled + c.unpack_single_words-single.result.filled)
    c.in-Some.group.used c.in-Some.group.filled c.args.shown.now _ c.unpack_run.new.buffer (search rules) single.1 c.in-Some.ensures.group in
    (next.0 ∙ single.0 ∙ c.loop-buffer.invariant.0, next.1)

pub loop-buffer-preserved-then-single-gt0 : goal.loop-buffer-preserved-then-single-gt0
loop-buffer-preserved-then-single-gt0 c =
    let single = unpacked_on c.loop-buffer.used c.loop-buffer.filled c.unpack_single_words-single.result.used c.unpack_single_words-single.result.filled
    c.args.shown.now c.loop-buffer.buffer c.unpack_single_words-single.new.buffer (search rules) c.loop-buffer.invariant.1 c.unpack_single_words-single.ensures in
    let used = c.loop-buffer.used + c.unpack_single_words-single.result.used in
    let filled = c.loop-buffer.filled + c.unpack_single_words-single.result.filled in
    let kept = unpacked_kept used filled c.args.shown.now _ c.unpack_run.new.buffer (search rules) single.1 in
    (length-put_mid filled _ c.unpack_run.new.buffer single.1.filled_within (search rules) ∙ single.0 ∙ c.loop-buffer.invariant.0, kept)

pub returns-then-buffer-filled-lt8 : goal.returns-then-buffer-filled-lt8
returns-then-buffer-filled-lt8 c =
    let single = unpacked_on c.loop-buffer.used c.loop-buffer.filled c.unpack_single_words-single.result.used c.unpack_single_words-single.result.filled
    c.args.shown.now c.loop-buffer.buffer c.unpack_single_words-single.new.buffer (search rules) c.loop-buffer.invariant.1 c.unpack_single_words-single.ensures in
    single.1

pub returns-in_default : goal.returns-in_default
returns-in_default c =
    let single = unpacked_on c.loop-buffer.used c.loop-buffer.filled c.unpack_single_words-single.result.used c.unpack_single_words-single.result.filled
    c.args.shown.now c.loop-buffer.buffer c.unpack_single_words-single.new.buffer (search rules) c.loop-buffer.invariant.1 c.unpack_single_words-single.ensures in
    let used = c.loop-buffer.used + c.unpack_single_words-single.result.used in
    let filled = c.loop-buffer.filled + c.unpack_single_words-single.result.filled in
    let kept = unpacked_kept used filled c.args.shown.now _ c.unpack_run.new.buffer (search rules) single.1 in
    let last = unpacked_on used filled c.unpack_short_groups-last.result.used c.unpack_short_groups-last.result.filled
    c.args.shown.now _ c.unpack_short_groups-last.new.buffer (search rules) kept c.unpack_short_groups-last.ensures in
    last.1
