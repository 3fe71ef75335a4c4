-- Over a plain source a framed reader reads by the rules of its format. What a reader of either format finds, and
-- with which errors it fails.
use Rattle.std.proofs.Common.{◌≡◌, inl, inr, ◌⊎◌, ℕ, max, List, length, Option, Some, None, IfSome, Result, Ok, Err, IfOk, IfErr, arith}
use Rattle.std.specs.List.{concat}
use Rattle.capnp_frame.specs.declared.serialize.segment_table.Padding.{Padding}
use Rattle.capnp_frame.specs.declared.error.Error.{Error}
use Rattle.capnp_frame.specs.declared.error.ErrorKind.{ErrorKind}
use Rattle.capnp_frame.specs.declared.error.ErrorKind.TheVariants.{DeviceFailed, OutOfMemory}
use Rattle.capnp_frame.specs.declared.io.Read.{Ghosts}
use Rattle.capnp_frame.specs.Prelude.{IsWithin, Giving, Refusing, Splits, RunsShort, IfKnown, Advances, Fails, CountFound, StreamError, Outgrows, TakesMemory, TakesForLengths, IsReaderKind, MessageFound, SkipsMessage, StreamRules, framed_rules, reusing_rules, skipping_rules, ReadsStream}
use Rattle.capnp_frame.proofs.sources.JoinedRequestPartsLemmas.{IfKnown-weaker}
use Rattle.capnp_frame.proofs.errors.UniqueErrorLineLemmas.{StreamError-map}
use Rattle.capnp.specs.declared.streams.Format.{Format}
use Rattle.capnp.specs.declared.streams.Format.TheVariants.{Framed}
use Rattle.capnp.specs.Prelude.{OrFailsAtEnd, IsPlainSource, rules_of, skipping_rules_of, FoundNext, ReadingError}
use Rattle.capnp.proofs.SourceEncodingLemmas.{frames_requested}

CountFound-map : {gives others : Giving} (given : (raw : List ℕ) (n : ℕ) (bytes rest : List ℕ) → gives raw n bytes rest → others raw n bytes rest)
    (raw left : List ℕ) → CountFound gives raw left → CountFound others raw left
CountFound-map given raw left count = record {
  word = count.word;
  count = count.count;
  given = given raw 8 count.word left count.given;
  declared = count.declared;
  accepted = count.accepted;
}

TakesForLengths-map : (kept : ℕ) {gives others : Giving} (given : (raw : List ℕ) (n : ℕ) (bytes rest : List ℕ) → gives raw n bytes rest → others raw n bytes rest)
    (raw left : List ℕ) → TakesForLengths kept gives raw left → TakesForLengths kept others raw left
unfolding CountFound-map
TakesForLengths-map kept given raw left (count, more) = (CountFound-map given raw left count, more)

Outgrows-map : (segments bytes : ℕ) (rule : Padding) {gives others : Giving}
    (given : (raw : List ℕ) (n : ℕ) (bytes rest : List ℕ) → gives raw n bytes rest → others raw n bytes rest)
    (limit : Option ℕ) (raw left : List ℕ) → Outgrows segments bytes rule gives limit raw left → Outgrows segments bytes rule others limit raw left
Outgrows-map segments bytes rule given limit raw left (inl several) = inl (TakesForLengths-map (max 1 segments) given raw left several)
Outgrows-map segments bytes rule given limit raw left (inr (lengths, table, within, more)) = inr (
  lengths,
  record {
    first = table.first;
    others = table.others;
    between = table.between;
    first_given = given _ _ _ _ table.first_given;
    others_given = given _ _ _ _ table.others_given;
    table = table.table;
  },
  within,
  more,
)

-- what outgrows kept memory takes memory where none is kept
pub Outgrows-none : (segments bytes : ℕ) (rule : Padding) (gives : Giving) (limit : Option ℕ) (raw left : List ℕ)
    → Outgrows segments bytes rule gives limit raw left → TakesMemory rule gives limit raw left
Outgrows-none segments bytes rule gives limit raw left (inl (is_found, more)) = inl (is_found, omega arith)
Outgrows-none segments bytes rule gives limit raw left (inr (lengths, table, within, more)) = inr (lengths, table, within, omega arith)

kinds_of : (rule : Padding) {refuses also : Refusing} (errors : (raw : List ℕ) (n : ℕ) (kind : ErrorKind) → refuses raw n kind → also raw n kind)
    (kind : ErrorKind) → IsReaderKind rule refuses kind → IsReaderKind rule also kind
kinds_of rule errors kind (inl device) = inl device
kinds_of rule errors kind (inr (inl memory)) = inr (inl memory)
kinds_of rule errors kind (inr (inr (inl count))) = inr (inr (inl count))
kinds_of rule errors kind (inr (inr (inr (inl total)))) = inr (inr (inr (inl total)))
kinds_of rule errors kind (inr (inr (inr (inr (inl padding))))) = inr (inr (inr (inr (inl padding))))
kinds_of rule errors kind (inr (inr (inr (inr (inr (raw, n, line)))))) = inr (inr (inr (inr (inr (raw, n, errors raw n kind line)))))

-- Over a source of plain bytes what is read by its requests is read by the framed format's rules.
module _ {S : Type 0} (rule : Padding) (source : Ghosts S) (plain : IsPlainSource source.gives source.refuses) (limit : Option ℕ) where
  encodings_found : (old new : Option (List ℕ)) (r : Result (Option (List (List ℕ))) Error)
      → IfOk r (λ found. IfSome found (λ m. IfKnown old new (MessageFound rule source.gives m)))
      → IfOk r (λ found. IfSome found (λ m. IfKnown old new ((rules_of rule Framed).finds m)))
  encodings_found old new (Err e) found = tt
  encodings_found old new (Ok None) found = tt
  encodings_found old new (Ok (Some m)) found = IfKnown-weaker old new (λ raw rest. (frames_requested rule _ _ plain m raw rest).0) found

  encodings_accepted : (F : Type 0) (old : Option (List ℕ))
      → IfSome old (λ raw. (m : List (List ℕ)) (rest : List ℕ) → MessageFound rule source.gives m raw rest → IsWithin m limit → F)
      → IfSome old (λ raw. (m : List (List ℕ)) (rest : List ℕ) → (rules_of rule Framed).finds m raw rest → IsWithin m limit → F)
  encodings_accepted F None accepted = tt
  encodings_accepted F (Some raw) accepted = λ m rest is_found within. accepted m rest ((frames_requested rule _ _ plain m raw rest).1 is_found) within

  encodings_error : (takes also : List ℕ → List ℕ → Type 0) → ((raw left : List ℕ) → takes raw left → also raw left)
      → (old new : Option (List ℕ)) (r : Result (Option (List (List ℕ))) Error)
      → IfErr r (λ error. (error.kind ≡ DeviceFailed)
      ⊎ ((error.kind ≡ OutOfMemory) × IfKnown old new takes)
      ⊎ IfKnown old new (StreamError rule source.gives source.refuses limit None error.kind))
      → IfErr r (λ error. (error.kind ≡ DeviceFailed)
      ⊎ ((error.kind ≡ OutOfMemory) × IfKnown old new also)
      ⊎ IfKnown old new (StreamError rule Splits RunsShort limit None error.kind))
  encodings_error takes also wider old new (Ok found) errors = tt
  encodings_error takes also wider old new (Err e) (inl device) = inl device
  encodings_error takes also wider old new (Err e) (inr (inl (memory, taken))) = inr (inl (memory, IfKnown-weaker old new wider taken))
  encodings_error takes also wider old new (Err e) (inr (inr line)) = inr (inr (IfKnown-weaker old new
      (StreamError-map rule (λ w n b t. (plain.given w n b t).1) (λ w n k. (plain.errors w n k).1) limit None e.kind) line))

  encodings_exact : (F : ErrorKind → Type 0) (old : Option (List ℕ))
      → IfSome old (λ raw. (kind : ErrorKind) (left : List ℕ) → StreamError rule source.gives source.refuses limit None kind raw left → F kind)
      → IfSome old (λ raw. (kind : ErrorKind) (left : List ℕ) → StreamError rule Splits RunsShort limit None kind raw left → F kind)
  encodings_exact F None exact = tt
  encodings_exact F (Some raw) exact = λ kind left line. exact kind left
      (StreamError-map rule (λ w n b t. (plain.given w n b t).0) (λ w n k. (plain.errors w n k).0) limit None kind raw left line)

  encodings_kinds : (r : Result (Option (List (List ℕ))) Error) → IfErr r (λ error. IsReaderKind rule source.refuses error.kind)
      → IfErr r (λ error. IsReaderKind rule RunsShort error.kind)
  encodings_kinds (Ok found) kinds = tt
  encodings_kinds (Err e) kinds = kinds_of rule (λ w n k. (plain.errors w n k).1) e.kind kinds

  plain_reads_taking : (takes also : Option ℕ → List ℕ → List ℕ → Type 0) → ((raw left : List ℕ) → takes limit raw left → also limit raw left)
      → (old new : S) (r : Result (Option (List (List ℕ))) Error)
      → ReadsStream source old new (record (framed_rules rule source.gives source.refuses) { takes_memory = takes }) limit r
      → ReadsStream source old new (record (rules_of rule Framed) { takes_memory = also }) limit r
  plain_reads_taking takes also wider old new r reads = record {
    found = encodings_found _ _ r reads.found;
    within = reads.within;
    whole = reads.whole;
    none = reads.none;
    accepted = encodings_accepted _ _ reads.accepted;
    end = reads.end;
    errors = encodings_error (takes limit) (also limit) wider _ _ r reads.errors;
    exact = encodings_exact _ _ reads.exact;
    kinds = encodings_kinds r reads.kinds;
    failed = reads.failed;
    advances = reads.advances;
  }

  -- of a reader, also into kept memory
  pub plain_reads_reusing : (kept : List (List ℕ)) (old new : S) (r : Result (Option (List (List ℕ))) Error)
      → ReadsStream source old new (reusing_rules rule source.gives source.refuses kept) limit r
      → ReadsStream source old new (rules_of rule Framed) limit r
  plain_reads_reusing kept old new r reads = plain_reads_taking (Outgrows (length kept) (length (concat kept)) rule source.gives) (TakesMemory rule Splits)
      (λ raw left takes. Outgrows-none _ _ rule _ limit raw left (Outgrows-map _ _ rule (λ w n b t. (plain.given w n b t).1) limit raw left takes)) old new r reads

  plain_skips_each : (kept : ℕ) (old new : S) (r : Result (Option (List (List ℕ))) Error)
      → ReadsStream source old new (skipping_rules rule source.gives source.refuses kept) limit r
      → ReadsStream source old new (skipping_rules_of rule Framed kept) limit r
  plain_skips_each kept old new r reads = plain_reads_taking (λ most. TakesForLengths kept source.gives) (λ most. TakesForLengths kept Splits)
      (TakesForLengths-map kept (λ w n b t. (plain.given w n b t).1)) old new r reads

  pub plain_skips : (kept : ℕ) (old new : S) (r : Result (Option (List ℕ)) Error)
      → SkipsMessage (ReadsStream source old new (skipping_rules rule source.gives source.refuses kept) limit) r
      → SkipsMessage (ReadsStream source old new (skipping_rules_of rule Framed kept) limit) r
  plain_skips kept old new (Ok (Some ns)) (message, same, reads) = (message, same, plain_skips_each kept old new (Ok (Some message)) reads)
  plain_skips kept old new (Ok None) reads = plain_skips_each kept old new (Ok None) reads
  plain_skips kept old new (Err error) reads = plain_skips_each kept old new (Err error) reads

-- what the form that has to return a message says of the source where it fails
pub or_fails_advances : {S : Type 0} (source : Ghosts S) (old new : S) (rules : StreamRules) (limit : Option ℕ) (e : Error)
    → OrFailsAtEnd (ReadsStream source old new rules limit) (Err e) → Advances source.unread source.failures source.same old new
or_fails_advances source old new rules limit e (inl reads) = reads.advances
or_fails_advances source old new rules limit e (inr (kind, reads)) = reads.advances

pub or_fails_failed : {S : Type 0} (source : Ghosts S) (old new : S) (rules : StreamRules) (limit : Option ℕ) (e : Error)
    → OrFailsAtEnd (ReadsStream source old new rules limit) (Err e) → e.kind ≡ DeviceFailed → Fails (source.failures old) (source.failures new)
or_fails_failed source old new rules limit e (inl reads) = reads.failed
or_fails_failed source old new rules limit e (inr (kind, reads)) = λ device. cc

-- a message of a format, within the limit, is an encoding at the front
pub found_next : (rule : Padding) (format : Format) (limit : Option ℕ) (segments : List (List ℕ)) (old new : Option (List ℕ))
    → IsWithin segments limit → IfKnown old new ((rules_of rule format).finds segments)
    → IfKnown old new (FoundNext rule format limit segments)
found_next rule format limit segments old new within is_found = IfKnown-weaker old new (λ raw rest (encoding, is_encoding, spelled).
    record { encoding = encoding; is_encoding = is_encoding; within = within; spelled = spelled }) is_found

-- and a reader's failure is a cause that the run knows
pub reading_error : (rule : Padding) (format : Format) (limit : Option ℕ) (kind : ErrorKind) (old new : Option (List ℕ))
    → (kind ≡ DeviceFailed) ⊎ ((kind ≡ OutOfMemory) × IfKnown old new ((rules_of rule format).takes_memory limit))
    ⊎ IfKnown old new ((rules_of rule format).fails limit None kind) → ReadingError rule format limit kind old new
reading_error rule format limit kind old new (inl device) = inl device
reading_error rule format limit kind old new (inr (inl memory)) = inr (inl (memory.0, IfKnown-weaker old new (λ raw left takes. inr takes) memory.1))
reading_error rule format limit kind old new (inr (inr line)) = inr (inr line)

-- as is a failure of a call that skips a message, which takes memory for the lengths alone
pub skipping_error : (rule : Padding) (format : Format) (kept : ℕ) (limit : Option ℕ) (kind : ErrorKind) (old new : Option (List ℕ))
    → (kind ≡ DeviceFailed) ⊎ ((kind ≡ OutOfMemory) × IfKnown old new ((skipping_rules_of rule format kept).takes_memory limit))
    ⊎ IfKnown old new ((skipping_rules_of rule format kept).fails limit None kind) → ReadingError rule format limit kind old new
skipping_error rule format kept limit kind old new (inl device) = inl device
skipping_error rule format kept limit kind old new (inr (inl memory)) = inr (inl (memory.0, IfKnown-weaker old new (λ raw left takes. inl takes.0) memory.1))
skipping_error rule format kept limit kind old new (inr (inr line)) = inr (inr line)
