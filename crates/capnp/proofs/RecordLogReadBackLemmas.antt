-- What is appended to a log is read back. Of a log that is cut the whole records are read, and the cut is
-- reported.
use Rattle.std.proofs.Common.{◌≡◌, ◌⊎◌, inl, inr, ℕ, ◌<◌, ◌≤◌, Option, Some, None, List, [], ◌∷◌, ◌++◌, length, take, drop, refl, sym, ap, ◌∙◌, subst, arith, append_assoc, length-append, length-drop}
use Rattle.std.proofs.Math.Seq.{take-append_seam}
use Rattle.std.proofs.lemmas.List.{append-nil, drop_at}
use Rattle.capnp_frame.specs.declared.serialize.segment_table.Padding.TheVariants.{Zero}
use Rattle.capnp_frame.specs.declared.error.Error.{Error}
use Rattle.capnp_frame.specs.declared.error.ErrorKind.{ErrorKind}
use Rattle.capnp_frame.specs.Prelude.{KeepsLimit, lengths, IfKnown, IsFront, Adds, Grammar, BeginsWith, AreEncodings, IsWritable, IsWithinSegmentLimit}
use Rattle.capnp_frame.proofs.encodings.WrittenFrameSizeAndChunksLemmas.{HasTable-writable}
use Rattle.capnp_frame.proofs.encodings.UniqueDivisionIntoEncodingsLemmas.{encodings_part}
use Rattle.capnp_pack.specs.Prelude.{IsPackedFrame, unpacking}
use Rattle.capnp_pack.proofs.words.EachElementLemmas.{AllByRecursion-append}
use Rattle.capnp_pack.proofs.encodings.FoundMessageIsPackedFrameLemmas.{packed_requests, packed_encoding_is}
use Rattle.capnp.specs.declared.streams.Format.TheVariants.{Packed}
use Rattle.capnp.specs.Prelude.{EndsBy, IsStream, IsEncodingOf, IsPackedEncodingOf, AppendsEach, kind_of, IsMemoryError, IsCut, IsCutLog, IsLog}
use Rattle.capnp.proofs.MessageSequenceReadBackLemmas.{AppendsEach-push, appended_stream}
use Rattle.capnp.proofs.RunOutputMessageByMessageLemmas.{format_parts}
use Rattle.capnp.proofs.CutLogErrorLemmas.{front_is_cut}

-- Appending

pub appended_log : (m : List (List ℕ)) (old new : List ℕ) → IsWritable m → IsWithinSegmentLimit m → IfKnown (Some old) (Some new) (Adds (IsPackedEncodingOf m))
    → (limit : Option ℕ) (records : List (List (List ℕ))) → IsLog limit records old → KeepsLimit (lengths m) limit → IsLog limit (records ++ m ∷ []) new
appended_log m old new writable few (encoding, packed, spelled) limit records log size = record {
  writable = AllByRecursion-append _ records (m ∷ []) log.writable (writable, tt);
  few = AllByRecursion-append _ records (m ∷ []) log.few (few, tt);
  size = AllByRecursion-append _ records (m ∷ []) log.size (size, tt);
  appended = subst (λ l. AppendsEach (IsEncodingOf Packed) (records ++ m ∷ []) l) (sym spelled) (AppendsEach-push (IsEncodingOf Packed) records m old encoding log.appended packed);
}

-- what is at the front is kept when the log is truncated to its length
pub kept_back : (old new kept : List ℕ) (end : ℕ) → IfKnown (Some old) (Some new) IsFront → end ≡ length old → kept ≡ take end new → kept ≡ old
kept_back old new kept end (tail, spelled) at is = is ∙ ap (λ k. take k new) at ∙ ap (λ l. take (length old) l) spelled ∙ take-append_seam old tail

-- Reading

none_of : (reason : Option Error) → kind_of reason ≡ None → reason ≡ None
none_of None none = refl
none_of (Some error) none = cc

whole_end : (limit : Option ℕ) (reason : Option Error) (log : List ℕ) (end : ℕ) → end ≤ length log → kind_of reason ≡ None → EndsBy Zero Packed limit (kind_of reason) (drop end log) → end ≡ length log
whole_end limit reason log end within none ends =
    let nothing : drop end log ≡ [] = subst (λ ending. EndsBy Zero Packed limit ending (drop end log)) none ends in
    omega (arith, ap length nothing, length-drop end log)

pub log_is_read : (limit : Option ℕ) (ms : List (List (List ℕ))) (reason : Option Error) (log : List ℕ) (end : ℕ) → end ≤ length log
    → IsMemoryError reason ⊎ EndsBy Zero Packed limit (kind_of reason) (drop end log)
    → ((messages : List (List (List ℕ))) (ending : Option ErrorKind) → IsStream Zero Packed limit messages ending log → IsMemoryError reason ⊎ (ms ≡ messages) × (kind_of reason ≡ ending))
    → (records : List (List (List ℕ))) → IsLog limit records log → IsMemoryError reason ⊎ (ms ≡ records) × (reason ≡ None) × (end ≡ length log)
log_is_read limit ms reason log end within (inl memory) exact records is = inl memory
log_is_read limit ms reason log end within (inr ends) exact records is =
    elim (exact records None (appended_stream Zero Packed limit records log is.writable is.few is.size is.appended)) [
      | inl memory ↦ inl memory
      | inr same ↦ inr (same.0, none_of reason same.1, whole_end limit reason log end within same.1 ends)
    ]

-- A log that is cut

-- encodings stay where more bytes follow
encodings_after : (IsEncoding : Grammar) (limit : Option ℕ) (ms : List (List (List ℕ))) (raw rest part : List ℕ) → AreEncodings IsEncoding limit ms raw rest → AreEncodings IsEncoding limit ms (raw ++ part) (rest ++ part)
encodings_after IsEncoding limit [] raw rest part encodings = ap (λ l. l ++ part) encodings
encodings_after IsEncoding limit (m ∷ ms) raw rest part (between, begins, encodings) = (
  between ++ part,
  record { encoding = begins.encoding; is_encoding = begins.is_encoding; within = begins.within; spelled = ap (λ l. l ++ part) begins.spelled ∙ append_assoc begins.encoding between part },
  encodings_after IsEncoding limit ms between rest part encodings,
)

-- no record is read of a part of another one
part_is_none : (limit : Option ℕ) (next other : List (List ℕ)) (part missing left : List ℕ) → IsWritable next → IsPackedEncodingOf next (part ++ missing) → 0 < length missing
    → BeginsWith (IsPackedFrame Zero) limit other part left → ⊥
part_is_none limit next other part missing left writable packed some begins =
    let whole = packed_encoding_is Zero (part ++ missing) next (HasTable-writable next writable) packed in
    let joined : begins.encoding ++ (left ++ missing) ≡ (part ++ missing) ++ [] =
    sym (append_assoc begins.encoding left missing) ∙ ap (λ l. l ++ missing) (sym begins.spelled) ∙ sym (append-nil (part ++ missing)) in
    let same = encodings_part Zero unpacking (packed_requests Zero) begins.encoding (part ++ missing) (left ++ missing) [] other next begins.is_encoding whole joined in
    omega (arith, ap length same.2, length-append left missing)

-- up to such a part there is one list of records
cut_once : (limit : Option ℕ) (ending : Option ErrorKind) (ms ns : List (List (List ℕ))) (raw rest part : List ℕ)
    → AreEncodings (IsPackedFrame Zero) limit ms raw rest → EndsBy Zero Packed limit ending rest → AreEncodings (IsPackedFrame Zero) limit ns raw part
    → ((other : List (List ℕ)) (left : List ℕ) → BeginsWith (IsPackedFrame Zero) limit other part left → ⊥) → (ms ≡ ns) × (rest ≡ part)
cut_once limit ending [] [] raw rest part encodings ends others none = (refl, encodings ∙ sym others)
cut_once limit ending [] (n ∷ ns) raw rest part encodings ends others none =
    absurd ((format_parts Zero Packed limit).ends_apart ending n raw others.0 (subst (λ l. EndsBy Zero Packed limit ending l) encodings ends) others.1)
cut_once limit ending (m ∷ ms) [] raw rest part encodings ends others none =
    absurd (none m encodings.0 (subst (λ l. BeginsWith (IsPackedFrame Zero) limit m l encodings.0) (sym others) encodings.1))
cut_once limit ending (m ∷ ms) (n ∷ ns) raw rest part encodings ends others none =
    let same = (format_parts Zero Packed limit).begins_once m n raw encodings.0 others.0 encodings.1 others.1 in
    let inner = cut_once limit ending ms ns others.0 rest part (subst (λ l. AreEncodings (IsPackedFrame Zero) limit ms l rest) same.1 encodings.2) ends others.2 none in
    (ap (λ x. x ∷ ms) same.0 ∙ ap (λ l. n ∷ l) inner.0, inner.1)

cut_end : (log whole part : List ℕ) (end : ℕ) → end ≤ length log → log ≡ whole ++ part → drop end log ≡ part → end ≡ length whole
cut_end log whole part end within is left = omega (arith, ap length is, length-append whole part, ap length left, length-drop end log)

pub cut_is_reported : (limit : Option ℕ) (ms : List (List (List ℕ))) (reason : Option Error) (log : List ℕ) (end : ℕ) → end ≤ length log
    → AreEncodings (IsPackedFrame Zero) limit ms log (drop end log) → IsMemoryError reason ⊎ EndsBy Zero Packed limit (kind_of reason) (drop end log)
    → (records : List (List (List ℕ))) (whole part missing : List ℕ) (next : List (List ℕ)) → IsLog limit records whole → IsWritable next → IsPackedEncodingOf next (part ++ missing)
    → 0 < length missing → log ≡ whole ++ part → IsMemoryError reason ⊎ (ms ≡ records) × (end ≡ length whole)
cut_is_reported limit ms reason log end within encodings (inl memory) records whole part missing next is writable packed some spelled = inl memory
cut_is_reported limit ms reason log end within encodings (inr ends) records whole part missing next is writable packed some spelled =
    let stream = appended_stream Zero Packed limit records whole is.writable is.few is.size is.appended in
    let nothing : stream.rest ≡ [] = stream.ends in
    let following = encodings_after (IsPackedFrame Zero) limit records whole stream.rest part stream.encodings in
    let there : AreEncodings (IsPackedFrame Zero) limit records log part =
    subst (λ l. AreEncodings (IsPackedFrame Zero) limit records l part) (sym spelled) (subst (λ l. AreEncodings (IsPackedFrame Zero) limit records (whole ++ part) (l ++ part)) nothing following) in
    let same = cut_once limit (kind_of reason) ms records log (drop end log) part encodings ends there (λ other left. part_is_none limit next other part missing left writable packed some) in
    inr (same.0, cut_end log whole part end within spelled same.1)

-- why it is read no further
cut_by : (limit : Option ℕ) (reason : Option Error) (next : List (List ℕ)) (part missing : List ℕ) → IsWritable next → IsWithinSegmentLimit next → KeepsLimit (lengths next) limit
    → IsPackedEncodingOf next (part ++ missing) → 0 < length part → EndsBy Zero Packed limit (kind_of reason) part → IsCut reason
cut_by limit None next part missing writable few size packed begun none = absurd (omega (arith, begun, ap length none))
cut_by limit (Some error) next part missing writable few size packed begun (left, errors) = front_is_cut limit next part missing left error.kind writable few size packed errors

pub cut_reported : (limit : Option ℕ) (ms : List (List (List ℕ))) (reason : Option Error) (log : List ℕ) (end : ℕ) → end ≤ length log
    → AreEncodings (IsPackedFrame Zero) limit ms log (drop end log) → IsMemoryError reason ⊎ EndsBy Zero Packed limit (kind_of reason) (drop end log)
    → (records : List (List (List ℕ))) (whole : List ℕ) → IsCutLog limit records whole log → IsMemoryError reason ⊎ IsCut reason
cut_reported limit ms reason log end within encodings (inl memory) records whole cut = inl memory
cut_reported limit ms reason log end within encodings (inr ends) records whole cut =
    elim (cut_is_reported limit ms reason log end within encodings (inr ends) records whole cut.part cut.missing cut.next cut.before cut.writable cut.packed cut.some cut.spelled) [
      | inl memory ↦ inl memory
      | inr same ↦
          let left : drop end log ≡ cut.part = ap (drop end) cut.spelled ∙ drop_at whole cut.part end (sym same.1) in
          inr (cut_by limit reason cut.next cut.part cut.missing cut.writable cut.few cut.size cut.packed cut.begun (subst (λ l. EndsBy Zero Packed limit (kind_of reason) l) left ends))
    ]
