-- A read that takes only bytes which its source shows is a part of a plain request; and what a framed message adds to a count.
use Rattle.std.proofs.Common.{◌≡◌, ℕ, ◌+◌, ◌-◌, ◌*◌, ◌^◌, ◌<◌, ◌≤◌, min, List, [], ◌∷◌, ◌++◌, length, take, drop, Option, Some, None, IfSome, Ok, refl, ap, arith, length-append}
use Rattle.std.proofs.lemmas.List.{length-take}
use Rattle.capnp_frame.specs.declared.error.ErrorKind.TheVariants.{FailedToFillTheWholeBuffer}
use Rattle.std.specs.List.{concat}
use Rattle.capnp_frame.specs.declared.serialize.segment_table.Padding.{Padding}
use Rattle.capnp_frame.specs.Prelude.{IfKnown, IsFront, RequestError, ReturnsPart, RunsShort, Splits, lengths, serialized_words}
use Rattle.capnp_frame.proofs.sources.JoinedRequestPartsLemmas.{IfKnown-weaker}
use Rattle.capnp_frame.proofs.encodings.PlainRequestsTakeFrameLemmas.{length-table, length-segments}
use Rattle.capnp_frame.proofs.sinks.JoinedChunkListLemmas.{length-lengths}
use Rattle.capnp_pack.proofs.unpacking.LiteralRunReadLemmas.{shown_bytes_taken}
use Rattle.capnp.proofs.DeviceCallMovesFirstBytesLemmas.{part_split}
use Rattle.capnp.specs.declared.streams.Format.{Format}
use Rattle.capnp.specs.declared.streams.Format.TheVariants.{Framed, Packed}
use Rattle.capnp.specs.MessageStreams.{AddsItsBytes}
use Rattle.capnp.specs.Streams.{rules_of}

-- what is copied into the front of a buffer is such a part
pub shown_part : (count : ℕ) (shown buffer : List ℕ) (old mid new : Option (List ℕ)) → IfSome old (IsFront shown) → mid ≡ old
    → IfKnown mid new (λ raw left. left ≡ drop count raw) → count ≤ length shown → take count buffer ≡ take count shown
    → IfKnown old new (ReturnsPart Splits RunsShort (length buffer) (take count buffer))
shown_part count shown buffer old mid new front same gone within copied =
    IfKnown-weaker old new (λ raw left spelled. part_split (length buffer) (take count buffer) raw left (omega (arith, length-take count buffer)) spelled)
    (shown_bytes_taken count shown (take count buffer) old mid new front same gone within copied)

-- where nothing is shown, a request of bytes runs short
pub none_shown_short : (unread : Option (List ℕ)) (shown : List ℕ) (n : ℕ) → length shown ≡ 0 → 0 < n → (shown ≡ [] → IfSome unread (λ raw. raw ≡ []))
    → RequestError RunsShort n unread FailedToFillTheWholeBuffer
none_shown_short None shown n none room end = ([], 1, (omega arith, refl))
none_shown_short (Some raw) [] n none room end = (omega (arith, room, ap length (end refl)), refl)
none_shown_short (Some raw) (byte ∷ shown) n none room end = absurd (omega (arith, none))

-- the bytes of a framed message are its table and its segments
frame_taken : (rule : Padding) (m : List (List ℕ)) (raw rest : List ℕ) → (rules_of rule Framed).finds m raw rest → length raw ≡ 8 * serialized_words m + length rest
frame_taken rule m raw rest (encoding, frame, spelled) =
    omega (
      arith,
      ap length spelled,
      length-append encoding rest,
      ap length frame.spelled,
      length-append frame.table (concat m),
      length-table frame.table (lengths m) frame.lengths_declared,
      length-segments m frame.whole,
      length-lengths m,
    )

pub framed_counted : (lawful : Type 0) (rule : Padding) (format : Format) (old new : Option (List ℕ)) (before after : ℕ) (m : List (List ℕ)) → format ≡ Framed
    → IfKnown old new ((rules_of rule format).finds m) → after ≡ min (before + min (8 * serialized_words m) (2 ^ 64 - 1)) (2 ^ 64 - 1)
    → AddsItsBytes lawful format old new before after (Ok (Some m))
framed_counted lawful rule Packed old new before after m is is_found added = let never : Packed ≡ Framed = is in cc
framed_counted lawful rule Framed old new before after m is is_found added = record {
  counted = λ holds. IfKnown-weaker old new (λ raw rest there. record {
    bytes = 8 * serialized_words m;
    taken = frame_taken rule m raw rest there;
    counted = λ few. omega (arith, few, added);
  }) is_found;
  framed = λ framed few. omega (arith, few, added);
  kept = tt;
  kept_by_error = tt;
}
