-- A stream is divided into encodings in at most one way: at most one message begins it, and up to its end there is
-- one list of messages.
use Rattle.std.proofs.Common.{◌≡◌, ℕ, ◌≤◌, Option, Some, None, List, [], ◌∷◌, ◌++◌, length, refl, sym, ap, ◌∙◌, subst, arith, lit<, length-append, ◌↔◌}
use Rattle.std.specs.List.{concat}
use Rattle.capnp_frame.specs.declared.error.ErrorKind.{ErrorKind}
use Rattle.capnp_frame.specs.declared.serialize.segment_table.Padding.{Padding}
use Rattle.capnp_frame.specs.declared.serialize.segment_table.Padding.TheVariants.{Any}
use Rattle.capnp_frame.specs.Prelude.{Giving, Refusing, IsSource, MessageFound, AppendsSame, AppendsAll, Grammar, BeginsWith, AreEncodings, EndsEncodings, IsFrame, same_front, splitting}
use Rattle.capnp_frame.proofs.encodings.PlainRequestsTakeFrameLemmas.{plain_requests, any_frame}
use Rattle.capnp_frame.proofs.encodings.MessageFoundByRequestsLemmas.{MessageFound-once}
use Rattle.capnp_frame.proofs.errors.UniqueErrorLineLemmas.{given_some, StreamError-apart, StreamError-once, StreamError-some}

-- How the encodings of a grammar and the requests of a source go together: at most one message
-- begins a stream, and none does where it ends.
pub record PartsStreams (IsEncoding : Grammar) (rule : Padding) (gives : Giving) (refuses : Refusing) (limit : Option ℕ) : Type 0 where
  pub begins_once : (m n : List (List ℕ)) (raw rest left : List ℕ) → BeginsWith IsEncoding limit m raw rest → BeginsWith IsEncoding limit n raw left → (m ≡ n) × (rest ≡ left)
  pub ends_apart : (ending : Option ErrorKind) (m : List (List ℕ)) (raw rest : List ℕ) → EndsEncodings rule gives refuses limit ending raw → BeginsWith IsEncoding limit m raw rest → ⊥

-- no further encodings follow an end
pub AreEncodings-most : {IsEncoding : Grammar} {rule : Padding} {gives : Giving} {refuses : Refusing} {limit : Option ℕ}
    (parts : PartsStreams IsEncoding rule gives refuses limit) (ending : Option ErrorKind) (ms ns : List (List (List ℕ)))
    (raw rest left : List ℕ) → AreEncodings IsEncoding limit ms raw rest → EndsEncodings rule gives refuses limit ending rest
    → AreEncodings IsEncoding limit ns raw left → length ns ≤ length ms
AreEncodings-most parts ending ms [] raw rest left encodings ends others = omega arith
AreEncodings-most {rule = rule} {gives = gives} {refuses = refuses} {limit = limit} parts ending [] (n ∷ ns) raw rest left encodings ends others =
    absurd (parts.ends_apart ending n raw others.0 (subst (λ l. EndsEncodings rule gives refuses limit ending l) encodings ends) others.1)
AreEncodings-most {IsEncoding} {limit = limit} parts ending (m ∷ ms) (n ∷ ns) raw rest left encodings ends others =
    let same = parts.begins_once n m raw others.0 encodings.0 others.1 encodings.1 in
    let inner = AreEncodings-most parts ending ms ns encodings.0 rest left encodings.2 ends (subst (λ l. AreEncodings IsEncoding limit ns l left) same.1 others.2) in
    omega arith

-- up to an end there is one list of messages
pub AreEncodings-once : {IsEncoding : Grammar} {rule : Padding} {gives : Giving} {refuses : Refusing} {limit : Option ℕ}
    (parts : PartsStreams IsEncoding rule gives refuses limit) (ending other : Option ErrorKind) (ms ns : List (List (List ℕ)))
    (raw rest left : List ℕ) → AreEncodings IsEncoding limit ms raw rest → EndsEncodings rule gives refuses limit ending rest
    → AreEncodings IsEncoding limit ns raw left → EndsEncodings rule gives refuses limit other left → (ms ≡ ns) × (rest ≡ left)
AreEncodings-once parts ending other [] [] raw rest left encodings ends others also = (refl, encodings ∙ sym others)
AreEncodings-once {rule = rule} {gives = gives} {refuses = refuses} {limit = limit} parts ending other [] (n ∷ ns) raw rest left encodings ends others also =
    absurd (parts.ends_apart ending n raw others.0 (subst (λ l. EndsEncodings rule gives refuses limit ending l) encodings ends) others.1)
AreEncodings-once {rule = rule} {gives = gives} {refuses = refuses} {limit = limit} parts ending other (m ∷ ms) [] raw rest left encodings ends others also =
    absurd (parts.ends_apart other m raw encodings.0 (subst (λ l. EndsEncodings rule gives refuses limit other l) others also) encodings.1)
AreEncodings-once {IsEncoding} {limit = limit} parts ending other (m ∷ ms) (n ∷ ns) raw rest left encodings ends others also =
    let same = parts.begins_once n m raw others.0 encodings.0 others.1 encodings.1 in
    let inner = AreEncodings-once parts ending other ms ns encodings.0 rest left encodings.2 ends (subst (λ l. AreEncodings IsEncoding limit ns l left) same.1 others.2) also in
    (ap (λ x. x ∷ ms) (sym same.0) ∙ ap (λ l. n ∷ l) inner.0, inner.1)

-- one more encoding
pub AreEncodings-push : (IsEncoding : Grammar) (limit : Option ℕ) (ms : List (List (List ℕ))) (m : List (List ℕ))
    (raw between rest : List ℕ) → AreEncodings IsEncoding limit ms raw between → BeginsWith IsEncoding limit m between rest
    → AreEncodings IsEncoding limit (ms ++ m ∷ []) raw rest
AreEncodings-push IsEncoding limit [] m raw between rest encodings begins = (rest, subst (λ l. BeginsWith IsEncoding limit m l rest) encodings begins, refl)
AreEncodings-push IsEncoding limit (n ∷ ns) m raw between rest encodings begins = (encodings.0, encodings.1, AreEncodings-push IsEncoding limit ns m encodings.0 between rest encodings.2 begins)

-- the encodings of a grammar are what three requests of a source take
abbrev pub AreRequested : Grammar → Padding → Giving → Type 0
AreRequested IsEncoding rule gives = (segments : List (List ℕ)) (raw rest : List ℕ) → MessageFound rule gives segments raw rest ↔ ((encoding : List ℕ) × IsEncoding encoding segments × (raw ≡ encoding ++ rest))

requested : {IsEncoding : Grammar} {gives : Giving} {limit : Option ℕ} (rule : Padding) (encodings : AreRequested IsEncoding rule gives)
    (m : List (List ℕ)) (raw rest : List ℕ) → BeginsWith IsEncoding limit m raw rest → MessageFound rule gives m raw rest
requested rule encodings m raw rest begins = (encodings m raw rest).1 (begins.encoding, begins.is_encoding, begins.spelled)

nothing_at_end : {IsEncoding : Grammar} {gives : Giving} {refuses : Refusing} (rule : Padding) (laws : IsSource gives refuses)
    (encodings : AreRequested IsEncoding rule gives) (limit : Option ℕ) (ending : Option ErrorKind) (m : List (List ℕ))
    (raw rest : List ℕ) → EndsEncodings rule gives refuses limit ending raw → BeginsWith IsEncoding limit m raw rest → ⊥
nothing_at_end rule laws encodings limit None m raw rest ends begins =
    let is_found = requested rule encodings m raw rest begins in
    given_some laws raw 8 is_found.table.first is_found.table.between is_found.table.first_given (lit< tt) ends
nothing_at_end rule laws encodings limit (Some kind) m raw rest ends begins =
    StreamError-apart rule laws limit None kind raw ends.0 rest m (requested rule encodings m raw rest begins) begins.within (λ x. x) ends.1

pub parts_streams : {IsEncoding : Grammar} {gives : Giving} {refuses : Refusing} (rule : Padding) (laws : IsSource gives refuses)
    (encodings : AreRequested IsEncoding rule gives) (limit : Option ℕ) → PartsStreams IsEncoding rule gives refuses limit
parts_streams {gives = gives} rule laws encodings limit = record {
  begins_once = λ m n raw rest left p q. MessageFound-once gives raw rest left m n laws.unique laws.gives_all (requested rule encodings m raw rest p) (requested rule encodings n raw left q);
  ends_apart = nothing_at_end rule laws encodings limit;
}

-- no encoding is the start of a different one
pub encodings_part : {IsEncoding : Grammar} {gives : Giving} {refuses : Refusing} (rule : Padding) (laws : IsSource gives refuses)
    (encodings : AreRequested IsEncoding rule gives) (encoding other rest left : List ℕ) (segments others : List (List ℕ))
    → IsEncoding encoding segments → IsEncoding other others → encoding ++ rest ≡ other ++ left → (encoding ≡ other) × (segments ≡ others)
    × (rest ≡ left)
encodings_part {gives = gives} rule laws encodings encoding other rest left segments others is also e =
    let same = MessageFound-once gives (encoding ++ rest) rest left segments others laws.unique laws.gives_all
    ((encodings segments (encoding ++ rest) rest).1 (encoding, is, refl))
    ((encodings others (encoding ++ rest) left).1 (other, also, e)) in
    let long : length encoding ≡ length other = omega (arith, ap length e, ap length same.1, length-append encoding rest, length-append other left) in
    ((same_front encoding other rest left long e).0, same.0, same.1)

-- no frame is the start of a different one
pub frames_part : {rule also : Padding} (encoding other rest left : List ℕ) (segments others : List (List ℕ)) → IsFrame rule encoding segments
    → IsFrame also other others → encoding ++ rest ≡ other ++ left → (encoding ≡ other) × (segments ≡ others) × (rest ≡ left)
frames_part encoding other rest left segments others is so = encodings_part Any splitting (plain_requests Any) encoding other rest left segments others (any_frame encoding segments is) (any_frame other others so)

-- chunks one after another that are added unchanged
pub chunks_joined : (chunks : List (List ℕ)) (encoding : List ℕ) → AppendsAll AppendsSame chunks encoding ↔ (encoding ≡ concat chunks)
chunks_joined [] encoding = (λ all. all, λ all. all)
chunks_joined (p ∷ ps) encoding = (
  λ (first, others, here, all, spelled). spelled ∙ ap (λ l. l ++ others) here ∙ ap (λ l. p ++ l) ((chunks_joined ps others).0 all),
  λ spelled. (p, concat ps, refl, (chunks_joined ps (concat ps)).1 refl, spelled),
)

-- a stream ends in one way
pub EndsEncodings-once : {gives : Giving} {refuses : Refusing} (rule : Padding) (laws : IsSource gives refuses) (limit : Option ℕ)
    (ending other : Option ErrorKind) (rest : List ℕ) → EndsEncodings rule gives refuses limit ending rest
    → EndsEncodings rule gives refuses limit other rest → ending ≡ other
EndsEncodings-once rule laws limit None None rest p q = refl
EndsEncodings-once {gives} {refuses} rule laws limit None (Some kind) rest p q = absurd (StreamError-some rule gives refuses limit None kind rest q.0 q.1 (λ x. x) p)
EndsEncodings-once {gives} {refuses} rule laws limit (Some kind) None rest p q = absurd (StreamError-some rule gives refuses limit None kind rest p.0 p.1 (λ x. x) q)
EndsEncodings-once rule laws limit (Some kind) (Some other) rest p q = ap Some (StreamError-once rule laws limit None kind other rest p.0 q.0 p.1 q.1)
