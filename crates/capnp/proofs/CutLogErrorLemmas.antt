-- A log that is cut within a record: with which kinds its reader fails.
use Rattle.std.proofs.Common.{◌≡◌, ◌⊎◌, inl, inr, ℕ, ◌+◌, ◌<◌, ◌*◌, ◌/◌, Option, Some, None, List, [], ◌++◌, length, sum, refl, sym, ap, ◌∙◌, arith, append_assoc, length-append}
use Rattle.std.proofs.lemmas.List.{append-nil, nil_from_length}
use Rattle.capnp_frame.specs.declared.serialize.segment_table.Padding.TheVariants.{Zero}
use Rattle.capnp_frame.specs.declared.error.ErrorKind.{ErrorKind}
use Rattle.capnp_frame.specs.Prelude.{KeepsLimit, lengths, Asks, LimitError, CountError, StreamError, Unless, IsTooShort, FailsLeaving, table_size, BeginsWith, IsWritable, IsWithinSegmentLimit}
use Rattle.capnp_frame.specs.declared.error.ErrorKind.TheVariants.{BufferNotLargeEnough}
use Rattle.capnp_frame.proofs.encodings.WrittenFrameSizeAndChunksLemmas.{HasTable-writable}
use Rattle.capnp_pack.specs.Prelude.{IsPackedFrame, head_encoding, Unpacks, Overruns, PackedError, ChunkError}
use Rattle.capnp_pack.proofs.encodings.FoundMessageIsPackedFrameLemmas.{packed_encoding_is}
use Rattle.capnp.specs.declared.streams.Format.TheVariants.{Packed}
use Rattle.capnp.specs.Prelude.{NextError, IsPackedEncodingOf, IsCutKind}
use Rattle.capnp.proofs.MessageWriteLemmas.{IsWithin-written}
use Rattle.capnp.proofs.RunOutputMessageByMessageLemmas.{format_parts}

-- What a request meets is the same where more bytes follow, except for an end that comes too early.

given_after : (raw more : List ℕ) (n : ℕ) (bytes rest : List ℕ) → Unpacks raw n bytes rest → Unpacks (raw ++ more) n bytes (rest ++ more)
given_after raw more n bytes rest (encoding, chunk, spelled, long) = (encoding, chunk, ap (λ l. l ++ more) spelled ∙ append_assoc encoding rest more, long)

none_before : (raw more : List ℕ) → (raw ≡ [] → ⊥) → raw ++ more ≡ [] → ⊥
none_before raw more some none = some (nil_from_length raw (omega (arith, ap length none, length-append raw more)))

overrun_after : (n : ℕ) (left more : List ℕ) → Overruns n left → Overruns n (left ++ more)
overrun_after n left more over = record {
  group = over.group;
  following = over.following ++ more;
  head = record { is = over.head.is; spelled = ap (λ l. l ++ more) over.head.spelled ∙ append_assoc (head_encoding over.group) over.following more };
  long = over.long;
}

error_after : (raw more : List ℕ) (n : ℕ) (kind : ErrorKind) → ChunkError raw n kind → IsCutKind kind ⊎ ChunkError (raw ++ more) n kind
error_after raw more n kind (inl parted) = inr (inl parted)
error_after raw more n kind (inr (whole, inl (none, (room, is)))) = inl (inl is)
error_after raw more n kind (inr (whole, inr (some, met))) = elim (met.error) [
  | inl head ↦ inl (inr head.1)
  | inr (inl over) ↦ inr (inr (
    whole,
    inr (
      none_before raw more some,
      record {
        groups = met.groups;
        each = met.each;
        left = met.left ++ more;
        spelled = ap (λ l. l ++ more) met.spelled ∙ append_assoc _ met.left more;
        fewer = met.fewer;
        error = inr (inl (overrun_after _ met.left more over.0, over.1));
      },
    ),
  ))
  | inr (inr run) ↦ inl (inl run.1)
]

asks_after : {After Later : List ℕ → List ℕ → Type 0} (kind : ErrorKind) (raw more : List ℕ) (n : ℕ)
    → ((bytes rest : List ℕ) → After bytes rest → IsCutKind kind ⊎ Later bytes (rest ++ more))
    → Asks Unpacks ChunkError kind raw n After → IsCutKind kind ⊎ Asks Unpacks ChunkError kind (raw ++ more) n Later
asks_after kind raw more n later (inl errors) = elim (error_after raw more n kind errors) [ inl cut ↦ inl cut | inr there ↦ inr (inl there) ]
asks_after kind raw more n later (inr (bytes, rest, given, after)) = elim (later bytes rest after) [
  | inl cut ↦ inl cut
  | inr there ↦ inr (inr (bytes, rest ++ more, given_after raw more n bytes rest given, there))
]

-- the last part of an error: the request of the segments
abbrev Segments : ErrorKind → List ℕ → List ℕ → List ℕ → Type 0
Segments kind left ns following = Unless (IsTooShort None (table_size (length ns) + 8 * sum ns)) (FailsLeaving BufferNotLargeEnough kind following left) (
    ChunkError following (8 * sum ns) kind)

limit_after : (limit : Option ℕ) (kind : ErrorKind) (left word others following more : List ℕ)
    → LimitError Zero limit kind (Segments kind left) left word others following
    → IsCutKind kind ⊎ LimitError Zero limit kind (Segments kind (left ++ more)) (left ++ more) word others (following ++ more)
limit_after limit kind left word others following more (ns, table, inl (large, (is, at))) = inr (ns, table, inl (large, (is, ap (λ l. l ++ more) at)))
limit_after limit kind left word others following more (ns, table, inr (small, inl (rejected, (is, at)))) = inr (ns, table, inr (small, inl (rejected, (is, ap (λ l. l ++ more) at))))
limit_after limit kind left word others following more (ns, table, inr (small, inr (padded, inl (room, failure)))) = absurd room
limit_after limit kind left word others following more (ns, table, inr (small, inr (padded, inr (room, errors)))) = elim (error_after following more (8 * sum ns) kind errors) [
  | inl cut ↦ inl cut
  | inr there ↦ inr (ns, table, inr (small, inr (padded, inr (room, there))))
]

count_after : (limit : Option ℕ) (kind : ErrorKind) (left word between more : List ℕ)
    → CountError Zero Unpacks ChunkError limit None kind (Segments kind left) left word between
    → IsCutKind kind ⊎ CountError Zero Unpacks ChunkError limit None kind (Segments kind (left ++ more)) (left ++ more) word (between ++ more)
count_after limit kind left word between more (count, declared, inl (out, (is, at))) = inr (count, declared, inl (out, (is, ap (λ l. l ++ more) at)))
count_after limit kind left word between more (count, declared, inr (within, inl (room, failure))) = absurd room
count_after limit kind left word between more (count, declared, inr (within, inr (room, asks))) =
    elim (asks_after kind between more (8 * (count / 2)) (λ others following lines. limit_after limit kind left word others following more lines) asks) [
      | inl cut ↦ inl cut
      | inr there ↦ inr (count, declared, inr (within, inr (room, there)))
    ]

stream_after : (limit : Option ℕ) (kind : ErrorKind) (raw left more : List ℕ) → NextError Zero Packed limit kind raw left
    → IsCutKind kind ⊎ NextError Zero Packed limit kind (raw ++ more) (left ++ more)
stream_after limit kind raw left more (inl (room, failure)) = absurd room
stream_after limit kind raw left more (inr (room, (some, asks))) =
    elim (asks_after kind raw more 8 (λ word between lines. count_after limit kind left word between more lines) asks) [
      | inl cut ↦ inl cut
      | inr there ↦ inr (inr (room, (none_before raw more some, there)))
    ]

-- the error for the front of a record that a reader accepts says that it ends too early
pub front_is_cut : (limit : Option ℕ) (next : List (List ℕ)) (part missing left : List ℕ) (kind : ErrorKind) → IsWritable next → IsWithinSegmentLimit next → KeepsLimit (lengths next) limit
    → IsPackedEncodingOf next (part ++ missing) → NextError Zero Packed limit kind part left → IsCutKind kind
front_is_cut limit next part missing left kind writable few size packed errors = elim (stream_after limit kind part left missing errors) [
  | inl cut ↦ cut
  | inr there ↦
      let begins : BeginsWith (IsPackedFrame Zero) limit next (part ++ missing) [] = record {
        encoding = part ++ missing;
        is_encoding = packed_encoding_is Zero (part ++ missing) next (HasTable-writable next writable) packed;
        within = IsWithin-written next limit writable few size;
        spelled = sym (append-nil (part ++ missing));
      } in
      absurd ((format_parts Zero Packed limit).ends_apart (Some kind) next (part ++ missing) [] (left ++ missing, there) begins)
]
