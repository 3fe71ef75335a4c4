-- The new end continues the running sums.
use Rattle.std.proofs.Common.{rules}
use Rattle.capnp_frame.proofs.tables.PartsCutAtRunningSumsLemmas.{AreRanges-pushed}
use Rattle.capnp_frame.proofs.serialize.segment_lengths.SegmentLengthsBuilder.try_push_segment.Goals as goal

pub invariant_of-self-2 : goal.invariant_of-self-2
invariant_of-self-2 c = AreRanges-pushed c.self.inside.segment_indices.items c.push.new.self.items
    c.self.inside.total_words c.args.length_in_words c.in-Some.end c.self.invariant (search rules) (search rules)
