-- Messages that are read or written one after another: their encodings follow one another, and what is read of
-- them is what was written.
use Rattle.std.proofs.Common.{◌≡◌, inr, ℕ, ◌+◌, ◌-◌, ◌<◌, Option, Some, None, IfSome, Err, List, [], ◌∷◌, ◌++◌, length, map, take, refl, sym, ap, ◌∙◌, subst, arith, append_assoc, zero, suc}
use Rattle.std.proofs.Math.ListN.{get_or}
use Rattle.std.proofs.lemmas.List.{map-append, take_more, append-nil}
use Rattle.std.specs.List.{AllByRecursion}
use Rattle.capnp_frame.specs.declared.serialize.segment_table.Padding.{Padding}
use Rattle.capnp_frame.specs.declared.error.Error.{Error}
use Rattle.capnp_frame.specs.declared.error.ErrorKind.{ErrorKind}
use Rattle.capnp_frame.specs.declared.error.ErrorKind.TheVariants.{OutOfMemory}
use Rattle.capnp_frame.specs.declared.io.Read.{Ghosts}
use Rattle.capnp_frame.specs.declared.message.options.ReaderOptions.{ReaderOptions}
use Rattle.capnp_frame.specs.declared.serialize.segment_table.Padding.TheVariants.{Zero}
use Rattle.capnp_frame.specs.Prelude.{Adds, IsFrame, KeepsLimit, lengths, Giving, Refusing, IfKnown, Advances, Grammar, BeginsWith, AreEncodings, IsWritable, IsWithinSegmentLimit}
use Rattle.capnp_frame.proofs.sources.JoinedRequestPartsLemmas.{IfKnown-join, Advances-join, Fails-join}
use Rattle.capnp_frame.proofs.encodings.PlainRequestsTakeFrameLemmas.{frame_bytes_are}
use Rattle.capnp_frame.proofs.encodings.WrittenFrameSizeAndChunksLemmas.{HasTable-writable}
use Rattle.capnp_frame.proofs.encodings.UniqueDivisionIntoEncodingsLemmas.{PartsStreams, AreEncodings-push}
use Rattle.capnp_layout.specs.Prelude.{Trees}
use Rattle.capnp_build.specs.Prelude.{Space, used_of}
use Rattle.capnp_pack.proofs.words.EachElementLemmas.{AllByRecursion-append}
use Rattle.capnp_pack.proofs.encodings.FoundMessageIsPackedFrameLemmas.{packed_encoding_is}
use Rattle.capnp.specs.declared.streams.Format.{Format}
use Rattle.capnp.specs.declared.streams.Format.TheVariants.{Framed, Packed}
use Rattle.capnp.specs.Prelude.{ReadsMessages, grammar_of, rules_of, FoundNext, IsStream, ExternalError, by_format, ReadsMessage, OrFailsAtEnd, HasRootTree, IsEncodingOf, AppendsEach}
use Rattle.capnp.proofs.ReaderOutcomeByFormatRulesLemmas.{or_fails_advances, or_fails_failed}
use Rattle.capnp.proofs.SourceEncodingLemmas.{or_fails_accepted, or_fails_reads}
use Rattle.capnp.proofs.RunOutputMessageByMessageLemmas.{format_parts}
use Rattle.capnp.proofs.MessageWriteLemmas.{IsWithin-written}

-- what holds of each holds with one more
pub AllByRecursion-append-one : {X : Type 0} (P : X → Type 0) (xs ys : List X) (x : X) → ys ≡ xs ++ x ∷ [] → AllByRecursion P xs → P x → AllByRecursion P ys
AllByRecursion-append-one P xs ys x e all here = subst (AllByRecursion P) (sym e) (AllByRecursion-append P xs (x ∷ []) all (here, tt))

-- one more message is read
pub encodings_next : {X : Type 0} (rule : Padding) (format : Format) (limit : Option ℕ) (segments : X → List (List ℕ)) (xs ys : List X)
    (x : X) (old mid new : Option (List ℕ)) → ys ≡ xs ++ x ∷ []
    → IfKnown old mid (AreEncodings (grammar_of rule format) limit (map segments xs))
    → IfKnown mid new (FoundNext rule format limit (segments x))
    → IfKnown old new (AreEncodings (grammar_of rule format) limit (map segments ys))
encodings_next rule format limit segments xs ys x old mid new e encodings begins =
    let both : map segments ys ≡ map segments xs ++ segments x ∷ [] = ap (map segments) e ∙ map-append segments xs (x ∷ []) in
    subst (λ ms. IfKnown old new (AreEncodings (grammar_of rule format) limit ms)) (sym both)
    (IfKnown-join old mid new (AreEncodings-push (grammar_of rule format) limit (map segments xs) (segments x)) encodings begins)

-- after fewer encodings a next one is there
encodings_further : {IsEncoding : Grammar} {rule : Padding} {gives : Giving} {refuses : Refusing} {limit : Option ℕ}
    → PartsStreams IsEncoding rule gives refuses limit
    → (ns ms : List (List (List ℕ))) (raw mid rest : List ℕ) → AreEncodings IsEncoding limit ns raw mid
    → AreEncodings IsEncoding limit ms raw rest → length ns < length ms
    → (m : List (List ℕ)) × (left : List ℕ) × BeginsWith IsEncoding limit m mid left
encodings_further parts ns [] raw mid rest had encodings few = absurd (omega arith)
encodings_further {IsEncoding} {limit = limit} parts [] (m ∷ ms) raw mid rest had encodings few = (m, encodings.0, subst (λ l. BeginsWith IsEncoding limit m l encodings.0) (sym had) encodings.1)
encodings_further {IsEncoding} {limit = limit} parts (n ∷ ns) (m ∷ ms) raw mid rest had encodings few =
    let same = parts.begins_once n m raw had.0 encodings.0 had.1 encodings.1 in
    encodings_further parts ns ms encodings.0 mid rest (subst (λ l. AreEncodings IsEncoding limit ns l mid) same.1 had.2) encodings.2 (omega arith)

-- so where there are as many as are asked for, an error is an external one
accepted_later : (rule : Padding) (format : Format) (limit : Option ℕ) (F : Type 0) (ns : List (List (List ℕ))) (count : ℕ)
    (old mid : Option (List ℕ)) → length ns < count → IfKnown old mid (AreEncodings (grammar_of rule format) limit ns)
    → IfSome mid (λ raw. (m : List (List ℕ)) (rest : List ℕ) → FoundNext rule format limit m raw rest → F)
    → IfSome old (λ raw. (ms : List (List (List ℕ))) (rest : List ℕ) → AreEncodings (grammar_of rule format) limit ms raw rest
    → length ms ≡ count → F)
accepted_later rule format limit F ns count None mid few had accepted = tt
accepted_later rule format limit F ns count (Some raw) None few had accepted = absurd had
accepted_later rule format limit F ns count (Some raw) (Some left) few had accepted = λ ms rest encodings counted.
    let next = encodings_further (format_parts rule format limit) ns ms raw left rest had encodings (omega arith) in
    accepted next.0 next.1 next.2

-- so a list ends where the reader of the next message fails
pub fails_reading : {S V X : Type 0} (source : Ghosts S) (old mid new : S) (format : Format) (options : ReaderOptions) (count : ℕ)
    (readers : V → List X) (segments : X → List (List ℕ)) (options_of : X → ReaderOptions) (ms : List (List (List ℕ))) (e : Error)
    → (source.same old mid → source.same mid new → source.same old new) → length ms < count
    → IfKnown (source.unread old) (source.unread mid) (AreEncodings (grammar_of Zero format) options.traversal_limit_in_words ms)
    → Advances source.unread source.failures source.same old mid
    → OrFailsAtEnd (ReadsMessage source mid new (by_format Zero format) options) (Err e)
    → ReadsMessages source old new format options count readers segments options_of (Err e)
fails_reading source old mid new format options count readers segments options_of ms e join fewer encodings advances next =
    let limit = options.traversal_limit_in_words in
    let reads = or_fails_reads source mid new (by_format Zero format) options e next in record {
      counted = tt;
      found = tt;
      options_are = tt;
      accepted = accepted_later Zero format limit (ExternalError e.kind) ms count (source.unread old) (source.unread mid) fewer encodings
          (or_fails_accepted source mid new (by_format Zero format) options e tt next);
      fails = inr (record { between = mid; messages = ms; fewer = fewer; encodings = encodings; next = reads });
      failed = λ device. Fails-join _ _ _ advances.counted (or_fails_failed source mid new (rules_of Zero format) limit e reads device);
      advances = Advances-join old mid new join advances (or_fails_advances source mid new (rules_of Zero format) limit e reads);
    }

-- and running out of memory is an external error
pub accepted_at_memory : (rule : Padding) (format : Format) (limit : Option ℕ) (count : ℕ) (kind : ErrorKind) (old : Option (List ℕ)) → kind ≡ OutOfMemory
    → IfSome old (λ raw. (ms : List (List (List ℕ))) (rest : List ℕ) → AreEncodings (grammar_of rule format) limit ms raw rest → length ms ≡ count → ExternalError kind)
accepted_at_memory rule format limit count kind None memory = tt
accepted_at_memory rule format limit count kind (Some raw) memory = λ ms rest encodings counted. inr memory

-- what is written of a message is an encoding of it
pub encoding_is : (rule : Padding) (format : Format) (m : List (List ℕ)) (encoding : List ℕ) → IsWritable m → IsEncodingOf format m encoding → grammar_of rule format encoding m
encoding_is rule Framed m encoding writable e = subst (λ t. IsFrame rule t m) (sym e) (frame_bytes_are rule m (HasTable-writable m writable) writable.whole)
encoding_is rule Packed m encoding writable p = packed_encoding_is rule encoding m (HasTable-writable m writable) p

-- so what is written of messages is their encodings
pub appended_encodings : (rule : Padding) (format : Format) (limit : Option ℕ) (ms : List (List (List ℕ))) (encoding : List ℕ)
    → AllByRecursion IsWritable ms → AllByRecursion IsWithinSegmentLimit ms → AllByRecursion (λ m. KeepsLimit (lengths m) limit) ms
    → AppendsEach (IsEncodingOf format) ms encoding → AreEncodings (grammar_of rule format) limit ms encoding []
appended_encodings rule format limit [] encoding writable few size all = sym all
appended_encodings rule format limit (m ∷ ms) encoding writable few size (first, others, here, more, e) = (
  others,
  record { encoding = first; is_encoding = encoding_is rule format m first writable.0 here; within = IsWithin-written m limit writable.0 few.0 size.0; spelled = e },
  appended_encodings rule format limit ms others writable.1 few.1 size.1 more,
)

pub appended_stream : (rule : Padding) (format : Format) (limit : Option ℕ) (ms : List (List (List ℕ))) (encoding : List ℕ)
    → AllByRecursion IsWritable ms → AllByRecursion IsWithinSegmentLimit ms → AllByRecursion (λ m. KeepsLimit (lengths m) limit) ms
    → AppendsEach (IsEncodingOf format) ms encoding → IsStream rule format limit ms None encoding
appended_stream rule format limit ms encoding writable few size all =
    record { rest = []; encodings = appended_encodings rule format limit ms encoding writable few size all; ends = refl }

-- one more message is written
pub AppendsEach-push : (Writes : List (List ℕ) → List ℕ → Type 0) (ms : List (List (List ℕ))) (m : List (List ℕ))
    (encoding more : List ℕ) → AppendsEach Writes ms encoding → Writes m more → AppendsEach Writes (ms ++ m ∷ []) (encoding ++ more)
AppendsEach-push Writes [] m encoding more all here = (more, [], here, refl, ap (λ l. l ++ more) all ∙ sym (append-nil more))
AppendsEach-push Writes (n ∷ ns) m encoding more (first, others, this, all, e) here =
    (first, others ++ more, this, AppendsEach-push Writes ns m others more all here, ap (λ l. l ++ more) e ∙ append_assoc first others more)

-- the messages up to the next one, with it
map-next : {S : Type 0} (segments : S → List (List ℕ)) (xs : List S) (index : ℕ) (x : S) → index < length xs → x ≡ get_or xs index x
    → map segments (take (index + 1) xs) ≡ map segments (take index xs) ++ segments x ∷ []
map-next segments xs index x here is =
    ap (map segments) (take_more xs index x here ∙ ap (λ y. take index xs ++ y ∷ []) (sym is)) ∙ map-append segments (take index xs) (x ∷ [])

pub appended_next : {S : Type 0} (segments : S → List (List ℕ)) (Writes : List (List ℕ) → List ℕ → Type 0)
    (xs : List S) (index : ℕ) (x : S) (old mid new : Option (List ℕ)) → index < length xs → x ≡ get_or xs index x
    → IfKnown old mid (Adds (AppendsEach Writes (map segments (take index xs))))
    → IfKnown mid new (Adds (Writes (segments x)))
    → IfKnown old new (Adds (AppendsEach Writes (map segments (take (index + 1) xs))))
appended_next segments Writes xs index x old mid new here is before next =
    subst (λ ms. IfKnown old new (Adds (AppendsEach Writes ms))) (sym (map-next segments xs index x here is))
    (IfKnown-join old mid new (λ a b c (encoding, all, e) (last, this, f). (encoding ++ last, AppendsEach-push Writes (map segments (take index xs)) (segments x) encoding last all this, f ∙ ap (λ l. l ++ last) e ∙ append_assoc a encoding last)) before next)

-- each of them can be written
pub writable_at : {S : Type 0} (segments : S → List (List ℕ)) (xs : List S) (index : ℕ) (x : S) → index < length xs → x ≡ get_or xs index x → AllByRecursion IsWritable (map segments xs) → IsWritable (segments x)
writable_at segments [] index x here is all = absurd (omega arith)
writable_at segments (y ∷ ys) zero x here is all = subst (λ z. IsWritable (segments z)) (sym is) all.0
writable_at segments (y ∷ ys) (suc index) x here is all = writable_at segments ys index x (omega arith) is all.1

-- none of those that were written has too many segments
pub few_next : {S : Type 0} (segments : S → List (List ℕ)) (xs : List S) (index : ℕ) (x : S) → index < length xs → x ≡ get_or xs index x
    → AllByRecursion IsWithinSegmentLimit (map segments (take index xs)) → IsWithinSegmentLimit (segments x) → AllByRecursion IsWithinSegmentLimit (map segments (take (index + 1) xs))
few_next segments xs index x here is before few = subst (AllByRecursion IsWithinSegmentLimit) (sym (map-next segments xs index x here is))
    (AllByRecursion-append IsWithinSegmentLimit (map segments (take index xs)) (segments x ∷ []) before (few, tt))

-- the encoding of a message is one whatever follows it
pub encoding_found : (rule : Padding) (format : Format) (limit : Option ℕ) (m : List (List ℕ)) (encoding rest : List ℕ) → IsWritable m → IsWithinSegmentLimit m → KeepsLimit (lengths m) limit
    → IsEncodingOf format m encoding → FoundNext rule format limit m (encoding ++ rest) rest
encoding_found rule format limit m encoding rest writable few size here =
    record { encoding = encoding; is_encoding = encoding_is rule format m encoding writable here; within = IsWithin-written m limit writable few size; spelled = refl }

-- so what is read of it is the message
pub written_is_read : (rule : Padding) (format : Format) (limit : Option ℕ) (m read : List (List ℕ)) (encoding rest left : List ℕ) → IsWritable m → IsWithinSegmentLimit m
    → KeepsLimit (lengths m) limit → IsEncodingOf format m encoding → FoundNext rule format limit read (encoding ++ rest) left → (read ≡ m) × (left ≡ rest)
written_is_read rule format limit m read encoding rest left writable few size here is_found =
    (format_parts rule format limit).begins_once read m (encoding ++ rest) left rest is_found (encoding_found rule format limit m encoding rest writable few size here)

pub appended_root_is_read : (rule : Padding) (format : Format) (limit : Option ℕ) (spaces : List Space) (trees : Trees) (encoding rest left : List ℕ) (read : List (List ℕ))
    → HasRootTree (map used_of spaces) trees → IsWritable (map used_of spaces) → IsWithinSegmentLimit (map used_of spaces)
    → KeepsLimit (lengths (map used_of spaces)) limit → IsEncodingOf format (map used_of spaces) encoding
    → FoundNext rule format limit read (encoding ++ rest) left → HasRootTree read trees × (left ≡ rest)
appended_root_is_read rule format limit spaces trees encoding rest left read root writable few size here is_found =
    let same = written_is_read rule format limit (map used_of spaces) read encoding rest left writable few size here is_found in
    (subst (λ (segments : List (List ℕ)). HasRootTree segments trees) (sym same.0) root, same.1)
