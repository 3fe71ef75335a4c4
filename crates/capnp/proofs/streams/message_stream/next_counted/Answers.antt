-- A message's bytes are counted, and no others.
use Rattle.std.proofs.Common.{rules, ◌≡◌, ◌+◌, ◌-◌, ◌*◌, ◌^◌, min}
use Rattle.capnp_frame.specs.Prelude.{serialized_words}
use Rattle.capnp.proofs.CountedSourceReadLemmas.{framed_counted}
use Rattle.capnp.proofs.streams.message_stream.next_counted.Goals as goal

pub returns-in-Some-clause-counts : goal.returns-in-Some-clause-counts
returns-in-Some-clause-counts g c =
    let added : c.saturating_add.result ≡ min (c.args.end.now + min (8 * serialized_words c.in-Some.message.segments) (2 ^ 64 - 1)) (2 ^ 64 - 1) = search rules in
    let reads = rw c.in-Some.is at c.in_ok-message-in-Framed.ensures.reads in
    framed_counted _ c.args.padding c.args.format _ _ _ _ _ c.in-Framed.is reads.found added
