-- What is read of a log is its records.
use Rattle.std.proofs.Common.{drop}
use Rattle.capnp_frame.specs.declared.serialize.segment_table.Padding.TheVariants.{Zero}
use Rattle.capnp.specs.declared.streams.Format.TheVariants.{Packed}
use Rattle.capnp.proofs.RecordLogReadBackLemmas.{log_is_read, cut_is_reported, cut_reported}
use Rattle.capnp.proofs.SliceStreamReadToItsEndLemmas.{ends_or_memory}
use Rattle.capnp.proofs.record_log.read_log.Goals as goal

pub returns-clause-read : goal.returns-clause-read
returns-clause-read c =
    let limit = c.args.options.traversal_limit_in_words in
    let reason = c.every_message.result.error in
    let end = c.every_message.result.end in
    let read = c.every_message.ensures.read in
    let ends = ends_or_memory Zero Packed limit reason c.args.log.now (drop end c.args.log.now) read.ends in
    record {
      within = read.within;
      back = log_is_read limit _ reason c.args.log.now end read.within ends read.exact;
      cut = cut_is_reported limit _ reason c.args.log.now end read.within read.encodings ends;
      ends = ends;
      reported = cut_reported limit _ reason c.args.log.now end read.within read.encodings ends;
    }
