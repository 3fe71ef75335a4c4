-- The log has one record more, or is cut back.
use Rattle.std.proofs.Common.{◌≡◌, length, arith}
use Rattle.capnp.proofs.MemoryWriteErrorLemmas.{packed_memory}
use Rattle.capnp.proofs.RecordLogReadBackLemmas.{appended_log, kept_back}
use Rattle.capnp.proofs.record_log.append_segments.Goals as goal

pub returns-in-Ok : goal.returns-in-Ok
returns-in-Ok g c = record {
  appended = appended_log (g.S.ReaderSegments.segments c.args.segments.now) c.args.log.now.items c.write_message_segments.new.sink.items
      c.requires c.in-Ok.ensures.count.few (c.in-Ok.ensures.encoding (λ chunk encoding same. same));
  added = c.in-Ok.ensures.encoding (λ chunk encoding same. same);
  unchanged = tt;
  count = c.in-Ok.ensures.count;
  errors = tt;
}

pub returns-in-Err : goal.returns-in-Err
returns-in-Err g c =
    let end : c.len-end.result ≡ length c.args.log.now.items = omega (arith, c.len-end.ensures, c.args.log.now.ok.0) in
    record {
      appended = λ limit records log size. tt;
      added = tt;
      unchanged = kept_back c.args.log.now.items c.write_message_segments.new.sink.items _ _ c.write_message_segments.ensures.grows.front end c.truncate.ensures.items;
      count = c.in-Err.ensures.count;
      errors = packed_memory (g.S.ReaderSegments.segments c.args.segments.now) c.in-Err.error.kind c.requires c.in-Err.ensures.errors c.in-Err.ensures.failed;
    }
