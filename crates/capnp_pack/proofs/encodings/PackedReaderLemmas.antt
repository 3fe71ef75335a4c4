-- What the readers of `capnp_frame` return or skip over a packed source, in packed encodings.
use Rattle.std.proofs.Common.{◌≡◌, ◌⊎◌, ℕ, ◌+◌, ◌*◌, ◌≤◌, ap, sym, subst, ◌∙◌, Option, Some, None, Result, Ok, Err, IfErr, List, length}
use Rattle.std.specs.Prelude.{sum}
use Rattle.std.specs.List.{concat}
use Rattle.capnp_frame.specs.declared.error.Error.{Error}
use Rattle.capnp_frame.specs.declared.error.ErrorKind.TheVariants.{DeviceFailed, OutOfMemory}
use Rattle.capnp_frame.specs.declared.serialize.segment_table.Padding.{Padding}
use Rattle.capnp_frame.specs.declared.io.Read.{Ghosts}
use Rattle.capnp_frame.specs.Prelude.{size_in_words, Outgrows, TakesForLengths, TableFound, cut, SkipsMessage, LengthsFound, IfKnown, ReadsTable, table_size, framed_rules, reusing_rules, skipping_rules, ReadsStream, ReadsStreamInto}
use Rattle.capnp_frame.proofs.encodings.MessageFoundByRequestsLemmas.{lengths-cut, MessageFound-cut}
use Rattle.capnp_frame.proofs.sources.JoinedRequestPartsLemmas.{IfKnown-join}
use Rattle.capnp_pack.specs.Prelude.{Unpacks, ChunkError, packed_rules, packed_reusing_rules, packed_skipping_rules, packed_source}
use Rattle.capnp_pack.proofs.encodings.FoundPackedEncodingLemmas.{found_packed, accepted_packed}

-- what unpacks a source: what is seen of it is what is seen of that source
abbrev pub unpacked : {S T : Type 0} → (T → S) → Ghosts S → (T → T → Type 0) → Ghosts T
unpacked following source same = record {
  unread = λ t. source.unread (following t);
  failures = λ t. source.failures (following t);
  gives = Unpacks;
  refuses = ChunkError;
  same = same;
}

-- Whatever takes memory, a reader over what unpacks a source is one of packed messages.
packed_reads_taking : {S T : Type 0} (rule : Padding) (takes : Option ℕ → List ℕ → List ℕ → Type 0) (following : T → S) (source : Ghosts S) (same : T → T → Type 0)
    (old new : T) (limit : Option ℕ) (r : Result (Option (List (List ℕ))) Error) → source.same (following old) (following new)
    → ReadsStream (unpacked following source same) old new (record (framed_rules rule Unpacks ChunkError) { takes_memory = takes }) limit r
    → ReadsStream source (following old) (following new) (record (packed_rules rule) { takes_memory = takes }) limit r
packed_reads_taking rule takes following source same old new limit r same_source reported = record {
  found = found_packed rule r _ _ reported.found;
  within = reported.within;
  whole = reported.whole;
  none = reported.none;
  accepted = accepted_packed rule limit (λ m. IfErr r (λ error. (error.kind ≡ DeviceFailed) ⊎ (error.kind ≡ OutOfMemory))) _ reported.accepted;
  end = reported.end;
  errors = reported.errors;
  exact = reported.exact;
  kinds = reported.kinds;
  failed = reported.failed;
  advances = record { tail = reported.advances.tail; counted = reported.advances.counted; same_source = same_source };
}

pub packed_reads : {S T : Type 0} (rule : Padding) (following : T → S) (source : Ghosts S) (same : T → T → Type 0) (old new : T)
    (kept : List (List ℕ)) (limit : Option ℕ) (r : Result (Option (List (List ℕ))) Error) → source.same (following old) (following new)
    → ReadsStream (unpacked following source same) old new (reusing_rules rule Unpacks ChunkError kept) limit r
    → ReadsStream source (following old) (following new) (packed_reusing_rules rule kept) limit r
packed_reads rule following source same old new kept limit r same_source reported =
    packed_reads_taking rule (Outgrows (length kept) (length (concat kept)) rule Unpacks) following source same old new limit r same_source reported

pub packed_reads_into : {S T : Type 0} (rule : Padding) (following : T → S) (source : Ghosts S) (same : T → T → Type 0) (old new : T)
    (limit : Option ℕ) (room : ℕ) (r : Result (Option (List (List ℕ))) Error) → source.same (following old) (following new)
    → ReadsStreamInto (unpacked following source same) old new (framed_rules rule Unpacks ChunkError) limit room r
    → ReadsStreamInto source (following old) (following new) (packed_rules rule) limit room r
packed_reads_into rule following source same old new limit room r same_source reported = record {
  found = found_packed rule r _ _ reported.found;
  within = reported.within;
  whole = reported.whole;
  none = reported.none;
  accepted = accepted_packed rule limit (λ m. table_size (length m) + 8 * size_in_words m ≤ room
      → IfErr r (λ error. error.kind ≡ DeviceFailed)) _ reported.accepted;
  end = reported.end;
  short = λ few. (ap following (reported.short few).0, (reported.short few).1);
  errors = reported.errors;
  exact = reported.exact;
  kinds = reported.kinds;
  failed = reported.failed;
  advances = record { tail = reported.advances.tail; counted = reported.advances.counted; same_source = same_source };
}

-- Skipping

-- a table that is read over what unpacks a source is read by packed requests of the source
pub packed_table : {S T : Type 0} (following : T → S) (source : Ghosts S) (same : T → T → Type 0) (old new : T) (rule : Padding)
    (limit : Option ℕ) (kept : ℕ) (r : Result (Option (List ℕ)) Error) → source.same (following old) (following new)
    → ReadsTable (unpacked following source same) old new rule limit kept r
    → ReadsTable (packed_source source) (following old) (following new) rule limit kept r
packed_table following source same old new rule limit kept r same_source reported = record {
  found = reported.found;
  within = reported.within;
  bound = reported.bound;
  asks = record {
    none = reported.asks.none;
    errors = reported.asks.errors;
    kinds = reported.asks.kinds;
    end = reported.asks.end;
    asked = record {
      failed = reported.asks.asked.failed;
      advances = record { tail = reported.asks.asked.advances.tail; counted = reported.asks.asked.advances.counted; same_source = same_source };
    };
  };
}

-- what skips a message by packed requests skips a packed message
pub packed_skips : {S : Type 0} (rule : Padding) (source : Ghosts S) (old new : S) (kept : ℕ) (limit : Option ℕ) (r : Result (Option (List ℕ)) Error)
    → source.same old new → SkipsMessage (ReadsStream (packed_source source) old new (skipping_rules rule Unpacks ChunkError kept) limit) r
    → SkipsMessage (ReadsStream source old new (packed_skipping_rules rule kept) limit) r
packed_skips rule source old new kept limit (Ok (Some ns)) same (message, lens, reads) =
    (message, lens, packed_reads_taking rule (λ most. TakesForLengths kept Unpacks) (λ s. s) source source.same old new limit (Ok (Some message)) same reads)
packed_skips rule source old new kept limit (Ok None) same reads =
    packed_reads_taking rule (λ most. TakesForLengths kept Unpacks) (λ s. s) source source.same old new limit (Ok None) same reads
packed_skips rule source old new kept limit (Err error) same reads =
    packed_reads_taking rule (λ most. TakesForLengths kept Unpacks) (λ s. s) source source.same old new limit (Err error) same reads

-- the segments that are skipped after a table
pub lengths_skipped : (rule : Padding) (ns : List ℕ) (n : ℕ) (a b c : Option (List ℕ)) → n ≡ 8 * sum ns → IfKnown a b (TableFound rule Unpacks ns)
    → IfKnown b c (λ raw rest. (words : List ℕ) × Unpacks raw n words rest) → IfKnown a c (LengthsFound rule Unpacks ns)
lengths_skipped rule ns n a b c all = IfKnown-join a b c (λ x y z table (words, given).
    let long : length words ≡ n = given.3 in
    let whole : length words ≡ 8 * sum ns = long ∙ all in (
      cut ns words,
      (lengths-cut ns words whole).0,
      MessageFound-cut rule Unpacks ns words (Some x) (Some y) (Some z) whole table (subst (λ k. Unpacks y k words z) (sym long) given),
    ))
