-- Where the requests of a source find a message, its encoding begins what is unread. So what a reader returns is
-- said in encodings.
use Rattle.std.proofs.Common.{◌≡◌, ◌↔◌, inl, inr, refl, ℕ, List, [], ◌++◌, Option, Some, None, IfSome, true, false, Result, Ok, Err, IfOk, lit<}
use Rattle.std.specs.Prelude.{IsSome, MatchResult}
use Rattle.capnp_frame.specs.declared.error.Error.{Error}
use Rattle.capnp_frame.specs.declared.serialize.segment_table.Padding.{Padding}
use Rattle.capnp_frame.specs.declared.io.Read.{Ghosts}
use Rattle.capnp_frame.specs.declared.message.options.ReaderOptions.{ReaderOptions}
use Rattle.capnp_frame.specs.Prelude.{IsWithin, IsFrame, Giving, Refusing, IsSource, IfKnown, MessageFound, StreamRules, next_in, ReadsStream, ReadsStreamInto, Grammar, BeginsWith, SeenBuffer}
use Rattle.capnp_frame.proofs.errors.UniqueErrorLineLemmas.{given_some}
use Rattle.capnp_frame.proofs.sources.JoinedRequestPartsLemmas.{IfKnown-weaker}
use Rattle.capnp_frame.proofs.encodings.MessageFoundByRequestsLemmas.{MessageFound-map}
use Rattle.capnp_frame.proofs.encodings.PlainRequestsTakeFrameLemmas.{plain_requests}
use Rattle.capnp_frame.proofs.encodings.UniqueDivisionIntoEncodingsLemmas.{AreRequested}
use Rattle.capnp_pack.specs.Prelude.{unpacking}
use Rattle.capnp_pack.proofs.encodings.FoundMessageIsPackedFrameLemmas.{packed_requests}
use Rattle.capnp.specs.Prelude.{IsPlainSource, ExternalError, MessageRules, framed, packed, reader_of, ReadsMessage, ReadsMessageInto, OrFailsAtEnd}

-- the requests of a plain source take just the frames
pub frames_requested : (rule : Padding) (gives : Giving) (refuses : Refusing) → IsPlainSource gives refuses → AreRequested (IsFrame rule) rule gives
frames_requested rule gives refuses plain segments raw rest = (
  λ is_found. (plain_requests rule segments raw rest).0 (MessageFound-map (λ w n b t. (plain.given w n b t).1) segments raw rest is_found),
  λ encoding. MessageFound-map (λ w n b t. (plain.given w n b t).0) segments raw rest ((plain_requests rule segments raw rest).1 encoding),
)

-- where a message is by these rules, there is an encoding of it in this grammar
abbrev pub AreEncodingsBy : Grammar → StreamRules → Type 0
AreEncodingsBy IsEncoding rules = (m : List (List ℕ)) (raw rest : List ℕ) → rules.finds m raw rest ↔ ((encoding : List ℕ) × IsEncoding encoding m × (raw ≡ encoding ++ rest))

-- so it begins the stream, within the limit
begins_next : (IsEncoding : Grammar) (rules : StreamRules) (limit : Option ℕ) (old new : Option (List ℕ)) (r : Result (Option (List (List ℕ))) Error)
    → AreEncodingsBy IsEncoding rules → IfOk r (λ found. IfSome found (λ m. IsWithin m limit))
    → IfOk r (λ found. IfSome found (λ m. IfKnown old new (rules.finds m)))
    → IfOk r (λ found. IfSome found (λ m. IfKnown old new (BeginsWith IsEncoding limit m)))
begins_next IsEncoding rules limit old new (Err e) encodings within found = tt
begins_next IsEncoding rules limit old new (Ok None) encodings within found = tt
begins_next IsEncoding rules limit old new (Ok (Some m)) encodings within found = IfKnown-weaker old new (λ raw rest is_found.
    let encoding = (encodings m raw rest).0 is_found in
    record { encoding = encoding.0; is_encoding = encoding.1; within = within; spelled = encoding.2 }) found

-- where nothing is unread, there is no message
pub nothing_found : (rule : Padding) {gives : Giving} {refuses : Refusing} → IsSource gives refuses → (m : List (List ℕ))
    (old new : Option (List ℕ)) → old ≡ Some [] → IfKnown old new (MessageFound rule gives m) → ⊥
nothing_found rule laws m None new none is_found = cc
nothing_found rule laws m (Some raw) None none is_found = is_found
nothing_found rule laws m (Some raw) (Some rest) none is_found =
    let empty : raw ≡ [] = cc in
    given_some laws raw 8 is_found.table.first is_found.table.between is_found.table.first_given (lit< tt) empty

pub nothing_begins_known : {IsEncoding : Grammar} (rule : Padding) {gives : Giving} {refuses : Refusing} → IsSource gives refuses
    → AreRequested IsEncoding rule gives → (limit : Option ℕ) (m : List (List ℕ)) (old new : Option (List ℕ)) → old ≡ Some []
    → IfKnown old new (BeginsWith IsEncoding limit m) → ⊥
nothing_begins_known rule laws encodings limit m old new none begins = nothing_found rule laws m old new none
    (IfKnown-weaker old new (λ raw rest b. (encodings m raw rest).1 (b.encoding, b.is_encoding, b.spelled)) begins)

pub nothing_begins : {IsEncoding : Grammar} (rule : Padding) {gives : Giving} {refuses : Refusing} → IsSource gives refuses
    → AreRequested IsEncoding rule gives → (limit : Option ℕ) (F : List (List ℕ) → Type 0) (old : Option (List ℕ))
    → IfSome old (λ raw. raw ≡ [])
    → IfSome old (λ raw. (m : List (List ℕ)) (rest : List ℕ) → BeginsWith IsEncoding limit m raw rest → F m)
nothing_begins rule laws encodings limit F None none = tt
nothing_begins rule laws encodings limit F (Some raw) none = λ m rest begins.
    let is_found = (encodings m raw rest).1 (begins.encoding, begins.is_encoding, begins.spelled) in
    absurd (given_some laws raw 8 is_found.table.first is_found.table.between is_found.table.first_given (lit< tt) none)

-- Where the grammar is what the stream's rules read: the rules find a message exactly where an encoding of it
-- is, and no encoding begins where nothing is unread.
abbrev pub AreRead : MessageRules → Type 0
AreRead rules = rules.plain → AreEncodingsBy rules.is_encoding rules.stream
    × ((limit : Option ℕ) (m : List (List ℕ)) (raw rest : List ℕ) → raw ≡ [] → BeginsWith rules.is_encoding limit m raw rest → ⊥)

pub are_read : {IsEncoding : Grammar} (rule : Padding) {gives : Giving} {refuses : Refusing} → IsSource gives refuses → AreRequested IsEncoding rule gives
    → (limit : Option ℕ) (m : List (List ℕ)) (raw rest : List ℕ) → raw ≡ [] → BeginsWith IsEncoding limit m raw rest → ⊥
are_read rule laws encodings limit m raw rest none begins = nothing_begins rule laws encodings limit (λ m. ⊥) (Some raw) none m rest begins

pub framed_read : {S : Type 0} (rule : Padding) (source : Ghosts S) → IsSource source.gives source.refuses → AreRead (framed rule source)
framed_read rule source laws plain =
    let encodings = frames_requested rule source.gives source.refuses plain in (encodings, are_read rule laws encodings)

pub packed_read : (rule : Padding) → AreRead (packed rule)
packed_read rule plain = (λ m raw rest. (λ x. x, λ x. x), are_read rule unpacking (packed_requests rule))

-- So what follows of a result where the rules find a message follows where its encoding is: for a message
-- always, and for none where no encoding is.
module _ (F : List (List ℕ) → Type 0) (rules : MessageRules) (limit : Option ℕ) where
  accepts : (old : Option (List ℕ)) → AreRead rules → rules.plain
      → IfSome old (λ raw. (m : List (List ℕ)) (rest : List ℕ) → rules.stream.finds m raw rest → IsWithin m limit → F m)
      → IfSome old (λ raw. (m : List (List ℕ)) (rest : List ℕ) → BeginsWith rules.is_encoding limit m raw rest → F m)
  accepts None laws plain accepted = tt
  accepts (Some raw) laws plain accepted = λ m rest begins.
      accepted m rest (((laws plain).0 m raw rest).1 (begins.encoding, begins.is_encoding, begins.spelled)) begins.within

  accepts_none : (old : Option (List ℕ)) → AreRead rules → rules.plain → IfSome old (λ raw. raw ≡ [])
      → IfSome old (λ raw. (m : List (List ℕ)) (rest : List ℕ) → BeginsWith rules.is_encoding limit m raw rest → F m)
  accepts_none None laws plain none = tt
  accepts_none (Some raw) laws plain none = λ m rest begins. absurd ((laws plain).1 limit m raw rest none begins)

  accepts_some : (old : Option (List ℕ)) → ((m : List (List ℕ)) → F m)
      → IfSome old (λ raw. (m : List (List ℕ)) (rest : List ℕ) → BeginsWith rules.is_encoding limit m raw rest → F m)
  accepts_some None holds = tt
  accepts_some (Some raw) holds = λ m rest begins. holds m

-- What a reader of segments returns by its rules, the reader of messages over it returns.
module _ {S : Type 0} (source : Ghosts S) (old new : S) (rules : MessageRules) (options : ReaderOptions) where
  begins : (r : Result (Option (List (List ℕ))) Error) → AreRead rules → rules.plain
      → IfOk r (λ found. IfSome found (λ m. IsWithin m options.traversal_limit_in_words))
      → IfOk r (λ found. IfSome found (λ m. IfKnown (source.unread old) (source.unread new) (rules.stream.finds m)))
      → IfOk r (λ found. IfSome found (λ m. IfKnown (source.unread old) (source.unread new) (BeginsWith rules.is_encoding options.traversal_limit_in_words m)))
  begins r laws plain = begins_next rules.is_encoding rules.stream options.traversal_limit_in_words (source.unread old) (source.unread new) r (laws plain).0

  pub reads_message : (next : Result (Option (List (List ℕ))) Error) → AreRead rules
      → ReadsStream source old new rules.stream options.traversal_limit_in_words next → ReadsMessage source old new rules options (reader_of options next)
  reads_message (Ok None) laws reads = record {
    encodings = λ plain. record { found = tt; accepted = accepts_none _ rules options.traversal_limit_in_words (source.unread old) laws plain reads.none };
    reads = reads;
    options_are = tt;
  }
  reads_message (Ok (Some m)) laws reads = record {
    encodings = λ plain. record {
      found = begins (Ok (Some m)) laws plain reads.within reads.found;
      accepted = accepts_some _ rules options.traversal_limit_in_words (source.unread old) (λ n. refl);
    };
    reads = reads;
    options_are = refl;
  }
  reads_message (Err e) laws reads = record {
    encodings = λ plain. record { found = tt; accepted = accepts _ rules options.traversal_limit_in_words (source.unread old) laws plain reads.accepted };
    reads = reads;
    options_are = tt;
  }

  pub reads_message_into : {B : Type 0} (room : ℕ) (next : Result (Option (SeenBuffer B)) Error) → AreRead rules
      → ReadsStreamInto source old new rules.stream options.traversal_limit_in_words room (next_in (λ message. message.segments) next)
      → ReadsMessageInto source old new rules options room (reader_of options next)
  reads_message_into room (Ok None) laws reads = record {
    encodings = λ plain. record { found = tt; accepted = accepts_none _ rules options.traversal_limit_in_words (source.unread old) laws plain reads.none };
    reads = reads;
    options_are = tt;
  }
  reads_message_into room (Ok (Some b)) laws reads = record {
    encodings = λ plain. record {
      found = begins (Ok (Some b.segments)) laws plain reads.within reads.found;
      accepted = accepts_some _ rules options.traversal_limit_in_words (source.unread old) (λ n fits. refl);
    };
    reads = reads;
    options_are = refl;
  }
  reads_message_into room (Err e) laws reads = record {
    encodings = λ plain. record { found = tt; accepted = accepts _ rules options.traversal_limit_in_words (source.unread old) laws plain reads.accepted };
    reads = reads;
    options_are = tt;
  }

-- The form that has to return a message, too, fails only by an external error where an encoding is there.
nothing_accepted : (P : List (List ℕ) → List ℕ → List ℕ → Type 0) (F : Type 0) (Q : Error → Type 0) (old : Option (List ℕ))
    → IfSome old (λ raw. (m : List (List ℕ)) (rest : List ℕ) → P m raw rest → MatchResult (Ok None) (IsSome {T = List (List ℕ)}) Q)
    → IfSome old (λ raw. (m : List (List ℕ)) (rest : List ℕ) → P m raw rest → F)
nothing_accepted P F Q None accepted = tt
nothing_accepted P F Q (Some raw) accepted = λ m rest begins. let none : false ≡ true = accepted m rest begins in cc

pub or_fails_accepted : {S : Type 0} (source : Ghosts S) (old new : S) (rules : MessageRules) (options : ReaderOptions) (e : Error) → rules.plain
    → OrFailsAtEnd (ReadsMessage source old new rules options) (Err e)
    → IfSome (source.unread old) (λ raw. (m : List (List ℕ)) (rest : List ℕ) → BeginsWith rules.is_encoding options.traversal_limit_in_words m raw rest → ExternalError e.kind)
or_fails_accepted source old new rules options e plain (inl reads) = (reads.encodings plain).accepted
or_fails_accepted source old new rules options e plain (inr (end, reads)) =
    nothing_accepted (λ m raw rest. BeginsWith rules.is_encoding options.traversal_limit_in_words m raw rest) (ExternalError e.kind) (λ error. ExternalError error.kind) (source.unread old) (reads.encodings plain).accepted

pub or_fails_reads : {S : Type 0} (source : Ghosts S) (old new : S) (rules : MessageRules) (options : ReaderOptions) (e : Error)
    → OrFailsAtEnd (ReadsMessage source old new rules options) (Err e)
    → OrFailsAtEnd (ReadsStream source old new rules.stream options.traversal_limit_in_words) (Err e)
or_fails_reads source old new rules options e (inl read) = inl read.reads
or_fails_reads source old new rules options e (inr (end, read)) = inr (end, read.reads)
