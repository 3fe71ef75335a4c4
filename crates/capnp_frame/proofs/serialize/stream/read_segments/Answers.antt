-- The message that is read is the only one that is there.
use Rattle.std.proofs.Common.{rules, ◌≡◌, ◌*◌, arith, ap, length, None}
use Rattle.std.proofs.lemmas.Grind.{common_steps}
use Rattle.std.specs.Prelude.{sum}
use Rattle.capnp_frame.specs.Prelude.{cut}
use Rattle.capnp_frame.proofs.sources.JoinedReaderStepOutcomesLemmas.{asks_found, asks_failed, asks_passed}
use Rattle.capnp_frame.proofs.encodings.MessageFoundByRequestsLemmas.{lengths-cut, MessageFound-cut, IsWithin-cut, table_not_empty}
use Rattle.capnp_frame.proofs.errors.ReaderErrorLineLemmas.{reader_kind, source_kind}
use Rattle.capnp_frame.proofs.errors.ReaderErrorLineLemmas.{or_memory, table_met_growing, segments_met}
use Rattle.capnp_frame.proofs.serialize.stream.read_segments.Given as given
use Rattle.capnp_frame.proofs.serialize.stream.read_segments.Goals as goal

pub returns-in_err-indices-clause-asks : goal.returns-in_err-indices-clause-asks
returns-in_err-indices-clause-asks g c =
    asks_passed g.R.Read _ _ c.args.rules.padding _ _ _ _ _ _ c.from_residual.ensures.1
    (table_met_growing c.args.rules.padding _ _ _ _ g.R.Read.gives g.R.Read.refuses _ _ _ _) c.in_err-indices.ensures.asks

pub returns-in_err-read_chunk-clause-asks : goal.returns-in_err-read_chunk-clause-asks
returns-in_err-read_chunk-clause-asks g c =
    let table = rw c.in-Some.is at c.in_ok-indices.ensures.found in
    let accepts = rw c.in-Some.is at c.in_ok-indices.ensures.within in
    let failed = c.in_err-read_chunk.ensures.errors in
    asks_failed g.R.Read c.args.rules.padding _ _ _ _ _ _ _ (g.met.R.Read.keeps.transitive _ _ _) c.from_residual-in_err-read_chunk.ensures.1
    (or_memory (segments_met c.args.rules.padding g.met.R.Read.lawful _ c.args.rules.limit_in_words None _ _ _ _ c.in-Some.indices (length c.read_chunk.new.chunk) (λ x. x)
    table accepts c.read_chunk.ensures.asked.advances.tail (search rules) failed))
    (reader_kind c.args.rules.padding g.R.Read.refuses _ (source_kind c.args.rules.padding g.R.Read.refuses _ _ _ failed))
    (λ none. absurd (table_not_empty c.args.rules.padding g.R.Read.gives _ _ c.in-Some.indices g.met.R.Read.lawful.none_from_nothing table none))
    c.read_indices.ensures.asks.asked.advances c.in_err-read_chunk.ensures.asked

-- the segments are the parts of what is read
parts : (g : given.Over) (c : goal.After-from_parts g) → (length c.read_chunk.new.chunk ≡ 8 * sum c.in-Some.indices) × (c.from_parts.result ≡ cut c.in-Some.indices c.read_chunk.new.chunk)
parts g c = (search rules, rw c.from_parts.ensures (ap (cut c.in-Some.indices) (grind (arith, common_steps))))

pub returns-clause-found : goal.returns-clause-found
returns-clause-found g c =
    let table = rw c.in-Some.is at c.in_ok-indices.ensures.found in
    rw (parts g c).1 (MessageFound-cut c.args.rules.padding g.R.Read.gives c.in-Some.indices c.read_chunk.new.chunk _ _ _ (parts g c).0 table c.in_ok-read_chunk.ensures.given)

pub returns-clause-within : goal.returns-clause-within
returns-clause-within g c =
    let accepts = rw c.in-Some.is at c.in_ok-indices.ensures.within in
    rw (parts g c).1 (IsWithin-cut c.in-Some.indices c.read_chunk.new.chunk _ (parts g c).0 accepts)

pub returns-clause-whole : goal.returns-clause-whole
returns-clause-whole g c = rw (parts g c).1 (lengths-cut c.in-Some.indices c.read_chunk.new.chunk (parts g c).0).1

pub returns-clause-asks : goal.returns-clause-asks
returns-clause-asks g c = asks_found g.R.Read c.args.rules.padding _ _ _ _ _ _ (g.met.R.Read.keeps.transitive _ _ _)
    c.read_indices.ensures.asks.asked.advances c.read_chunk.ensures.asked.advances
