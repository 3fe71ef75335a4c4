-- The error table: at most one line is the first that holds, and none holds where an accepted message is.
use Rattle.std.proofs.Common.{◌≡◌, ℕ, ◌+◌, ◌*◌, ◌/◌, ◌%◌, ◌<◌, ◌≤◌, ◌^◌, Option, Some, None, inl, inr, List, [], ◌++◌, length, sym, ap, ◌∙◌, subst, arith}
use Rattle.std.specs.Prelude.{sum}
use Rattle.std.specs.List.{concat}
use Rattle.capnp_frame.specs.declared.error.ErrorKind.{ErrorKind}
use Rattle.capnp_frame.specs.declared.error.ErrorKind.TheVariants.{BufferNotLargeEnough, InvalidNumberOfSegments, MessageTooLarge, NonZeroPadding}
use Rattle.capnp_frame.specs.Prelude.{lengths, size_in_words, table_size, IsTable, KeepsLimit, AreWithin, IsWithin, Giving, Refusing, IsSource, TableFound, MessageFound, Unless, Asks, DeclaresCount, IsOutOfRange, IsTooLarge, IsTooShort, FailsLeaving, RejectsPadding, LimitError, RestError, CountError, StartError, StreamError}
use Rattle.capnp_frame.specs.declared.serialize.segment_table.Padding.{Padding}
use Rattle.capnp_frame.proofs.tables.UniqueTableLengthsLemmas.{IsTable-once, table_field-once, count_declared}

pub Unless-once : {S L A M B P : Type 0} → (L → M → P) → (A → B → P) → Unless S L A → Unless S M B → P
Unless-once line after (inl p) (inl q) = line p.1 q.1
Unless-once line after (inr p) (inr q) = after p.1 q.1
Unless-once line after (inl p) (inr q) = absurd (q.0 p.0)
Unless-once line after (inr p) (inl q) = absurd (p.0 q.0)

pub Unless-after : {S L A P : Type 0} → (S → ⊥) → (A → P) → Unless S L A → P
Unless-after never after (inl p) = absurd (never p.0)
Unless-after never after (inr p) = after p.1

Asks-once : {gives : Giving} {refuses : Refusing} (laws : IsSource gives refuses) (kind other : ErrorKind)
    (raw : List ℕ) (n : ℕ) (F G : List ℕ → List ℕ → Type 0)
    → ((bytes rest : List ℕ) → F bytes rest → G bytes rest → kind ≡ other) → Asks gives refuses kind raw n F
    → Asks gives refuses other raw n G → kind ≡ other
Asks-once laws kind other raw n F G after (inl p) (inl q) = laws.one_kind raw n kind other p q
Asks-once laws kind other raw n F G after (inl p) (inr q) = absurd (laws.apart raw n q.0 q.1 kind q.2 p)
Asks-once laws kind other raw n F G after (inr p) (inl q) = absurd (laws.apart raw n p.0 p.1 other p.2 q)
Asks-once laws kind other raw n F G after (inr p) (inr q) =
    let same = laws.unique raw n q.0 q.1 p.0 p.1 q.2 p.2 in
    after p.0 p.1 p.3 (subst (λ l. G p.0 l) same.1 (subst (λ l. G l q.1) same.0 q.3))

-- after a request that is given come the lines after it
Asks-after : {gives : Giving} {refuses : Refusing} {P : Type 0} (laws : IsSource gives refuses) (kind : ErrorKind)
    (raw : List ℕ) (n : ℕ) (bytes rest : List ℕ) (F : List ℕ → List ℕ → Type 0) → gives raw n bytes rest
    → (F bytes rest → P) → Asks gives refuses kind raw n F → P
Asks-after laws kind raw n bytes rest F given after (inl p) = absurd (laws.apart raw n bytes rest kind given p)
Asks-after laws kind raw n bytes rest F given after (inr p) =
    let same = laws.unique raw n p.0 p.1 bytes rest p.2 given in
    after (subst (λ l. F bytes l) same.1 (subst (λ l. F l p.1) same.0 p.3))

DeclaresCount-once : (word : List ℕ) (m n : ℕ) → DeclaresCount word m → DeclaresCount word n → m ≡ n
DeclaresCount-once word m n p q =
    let last : p.0 ≡ q.0 = table_field-once p.0 q.0 p.1 q.1 (p.2 ∙ sym q.2) in
    p.3 ∙ ap (λ k. (k + 1) % 2 ^ 32) last ∙ sym q.3

LimitError-once : (rule : Padding) (limit : Option ℕ) (kind other : ErrorKind) (A B : List ℕ → List ℕ → Type 0)
    (left rest word others following : List ℕ) → ((ns following : List ℕ) → A ns following → B ns following → kind ≡ other)
    → LimitError rule limit kind A left word others following → LimitError rule limit other B rest word others following
    → kind ≡ other
LimitError-once rule limit kind other A B left rest word others following after p q =
    let same = IsTable-once (word ++ others) q.0 p.0 q.1 p.1 in
    Unless-once (λ x y. x.0 ∙ sym y.0) (Unless-once (λ x y. x.0 ∙ sym y.0) (after p.0 following)) p.2
    (subst (λ l. Unless (IsTooLarge l limit) (FailsLeaving (MessageTooLarge (sum l)) other following rest)
    (Unless (RejectsPadding rule (word ++ others) l) (FailsLeaving NonZeroPadding other following rest) (B l following))) same q.2)

CountError-once : {gives : Giving} {refuses : Refusing} (rule : Padding) (laws : IsSource gives refuses) (limit room : Option ℕ)
    (kind other : ErrorKind) (A B : List ℕ → List ℕ → Type 0) (left rest word between : List ℕ)
    → ((ns following : List ℕ) → A ns following → B ns following → kind ≡ other)
    → CountError rule gives refuses limit room kind A left word between
    → CountError rule gives refuses limit room other B rest word between → kind ≡ other
CountError-once {gives} {refuses} rule laws limit room kind other A B left rest word between after p q =
    let same = DeclaresCount-once word q.0 p.0 q.1 p.1 in
    Unless-once (λ x y. x.0 ∙ sym y.0) (Unless-once (λ x y. x.0 ∙ sym y.0)
    (Asks-once laws kind other between (8 * (p.0 / 2)) (LimitError rule limit kind A left word)
    (LimitError rule limit other B rest word)
    (λ others following. LimitError-once rule limit kind other A B left rest word others following after))) p.2
    (subst (λ k. Unless (IsOutOfRange k) (FailsLeaving (InvalidNumberOfSegments k) other between rest)
    (Unless (IsTooShort room (table_size k)) (FailsLeaving BufferNotLargeEnough other between rest)
    (RestError rule gives refuses limit other B rest word k between))) same q.2)

-- one line at most is the first that holds
pub StartError-once : {gives : Giving} {refuses : Refusing} (rule : Padding) (laws : IsSource gives refuses) (limit room : Option ℕ)
    (kind other : ErrorKind) (A B : List ℕ → List ℕ → Type 0) (raw left rest : List ℕ)
    → ((ns following : List ℕ) → A ns following → B ns following → kind ≡ other)
    → StartError rule gives refuses limit room kind A raw left
    → StartError rule gives refuses limit room other B raw rest → kind ≡ other
StartError-once {gives} {refuses} rule laws limit room kind other A B raw left rest after =
    Unless-once (λ x y. x.0 ∙ sym y.0) (λ x y. Asks-once laws kind other raw 8
    (CountError rule gives refuses limit room kind A left) (CountError rule gives refuses limit room other B rest)
    (λ word between. CountError-once rule laws limit room kind other A B left rest word between after) x.1 y.1)

pub StreamError-once : {gives : Giving} {refuses : Refusing} (rule : Padding) (laws : IsSource gives refuses) (limit room : Option ℕ)
    (kind other : ErrorKind) (raw left rest : List ℕ) → StreamError rule gives refuses limit room kind raw left
    → StreamError rule gives refuses limit room other raw rest → kind ≡ other
StreamError-once rule laws limit room kind other raw left rest = StartError-once rule laws limit room kind other _ _ raw
    left rest (λ ns following. Unless-once (λ x y. x.0 ∙ sym y.0) (laws.one_kind following (8 * sum ns) kind other))

-- a table that is accepted comes to what is after it
pub few_tells : {rule : Padding} (word others ns : List ℕ) (count : ℕ) → IsTable rule (word ++ others) ns → length word ≡ 8 → length ns < 512 → DeclaresCount word count → count ≡ length ns
few_tells word others ns count table long few tells =
    let declared = count_declared word others ns tells.0 table long tells.2 tells.1 in
    tells.3 ∙ ap (λ k. k % 2 ^ 32) declared ∙ small (length ns) few
  where
    small : (k : ℕ) → k < 512 → k % 2 ^ 32 ≡ k
    small k few = omega arith

pub in_range : (count : ℕ) → 0 < count → count < 512 → IsOutOfRange count → ⊥
in_range count some few (inl none) = absurd (omega arith)
in_range count some few (inr many) = absurd (omega arith)

pub within_limit : (ns : List ℕ) (limit : Option ℕ) → KeepsLimit ns limit → IsTooLarge ns limit → ⊥
within_limit ns None keeps over = over
within_limit ns (Some most) keeps over = absurd (omega arith)

pub small_room : (room : Option ℕ) (m n : ℕ) → m ≤ n → (IsTooShort room n → ⊥) → IsTooShort room m → ⊥
small_room None m n less fits too_short = too_short
small_room (Some len) m n less fits too_short = fits (omega arith)

pub StartError-after : {gives : Giving} {refuses : Refusing} (rule : Padding) (laws : IsSource gives refuses) (P : Type 0)
    (limit room : Option ℕ) (kind : ErrorKind) (A : List ℕ → List ℕ → Type 0) (raw left ns following : List ℕ)
    → TableFound rule gives ns raw following → AreWithin ns limit → (IsTooShort room (table_size (length ns)) → ⊥)
    → (A ns following → P) → StartError rule gives refuses limit room kind A raw left → P
StartError-after {gives} {refuses} rule laws P limit room kind A raw left ns following sent accepts fits after =
    Unless-after (small_room room 8 (table_size (length ns)) (omega arith) fits)
    (λ x. Asks-after laws kind raw 8 sent.first sent.between (CountError rule gives refuses limit room kind A left)
    sent.first_given counted x.1)
  where
    long : length sent.first ≡ 8
    long = laws.gives_all raw 8 sent.first sent.between sent.first_given

    limited : LimitError rule limit kind A left sent.first sent.others following → P
    limited x =
        let same = IsTable-once (sent.first ++ sent.others) x.0 ns x.1 sent.table in
        let rest = subst (λ l. Unless (IsTooLarge l limit) (FailsLeaving (MessageTooLarge (sum l)) kind following left)
        (Unless (RejectsPadding rule (sent.first ++ sent.others) l) (FailsLeaving NonZeroPadding kind following left) (A l following))) same x.2 in
        Unless-after (within_limit ns limit accepts.size) (Unless-after (λ rejects. rejects sent.table) after) rest

    counted : CountError rule gives refuses limit room kind A left sent.first sent.between → P
    counted x =
        let same = few_tells sent.first sent.others ns x.0 sent.table long accepts.few x.1 in
        let some = accepts.some in
        let few = accepts.few in
        Unless-after (in_range x.0 (omega arith) (omega arith))
        (Unless-after (subst (λ k. IsTooShort room (table_size k) → ⊥) (sym same) fits)
        (Asks-after laws kind sent.between (8 * (x.0 / 2)) sent.others following
        (LimitError rule limit kind A left sent.first)
        (subst (λ k. gives sent.between (8 * (k / 2)) sent.others following) (sym same) sent.others_given) limited))
        x.2

-- where nothing is unread no line holds, but for a caller-provided buffer's
pub StreamError-some : (rule : Padding) (gives : Giving) (refuses : Refusing) (limit room : Option ℕ) (kind : ErrorKind)
    (raw left : List ℕ) → StreamError rule gives refuses limit room kind raw left → (IsTooShort room 8 → ⊥) → raw ≡ [] → ⊥
StreamError-some rule gives refuses limit room kind raw left errors fits none = Unless-after fits (λ x. absurd (x.0 none)) errors

-- where an accepted message is, no line holds
pub StreamError-apart : {gives : Giving} {refuses : Refusing} (rule : Padding) (laws : IsSource gives refuses) (limit room : Option ℕ)
    (kind : ErrorKind) (raw left rest : List ℕ) (segments : List (List ℕ)) → MessageFound rule gives segments raw rest
    → IsWithin segments limit → (IsTooShort room (table_size (length (lengths segments)) + 8 * size_in_words segments)
    → ⊥) → StreamError rule gives refuses limit room kind raw left → ⊥
StreamError-apart rule laws limit room kind raw left rest segments sent within fits =
    StartError-after rule laws ⊥ limit room kind _ raw left (lengths segments) sent.between sent.table within
    (small_room room (table_size (length (lengths segments))) _ (omega arith) fits)
    (Unless-after fits (laws.apart sent.between (8 * size_in_words segments) (concat segments) rest kind
    sent.given))

-- what the lines come to

Unless-map : {S L A B : Type 0} → (A → B) → Unless S L A → Unless S L B
Unless-map f (inl p) = inl p
Unless-map f (inr p) = inr (p.0, f p.1)

Asks-map : {gives others : Giving} {refuses also : Refusing}
    (given : (raw : List ℕ) (n : ℕ) (bytes rest : List ℕ) → gives raw n bytes rest → others raw n bytes rest)
    (errors : (raw : List ℕ) (n : ℕ) (kind : ErrorKind) → refuses raw n kind → also raw n kind) (kind : ErrorKind)
    (raw : List ℕ) (n : ℕ) (F G : List ℕ → List ℕ → Type 0) → ((bytes rest : List ℕ) → F bytes rest → G bytes rest)
    → Asks gives refuses kind raw n F → Asks others also kind raw n G
Asks-map given errors kind raw n F G f (inl p) = inl (errors raw n kind p)
Asks-map given errors kind raw n F G f (inr p) = inr (p.0, p.1, given raw n p.0 p.1 p.2, f p.0 p.1 p.3)

-- a line of one source is a line of another that gives the same and fails in the same way
pub StartError-map : (rule : Padding) {gives others : Giving} {refuses also : Refusing}
    (given : (raw : List ℕ) (n : ℕ) (bytes rest : List ℕ) → gives raw n bytes rest → others raw n bytes rest)
    (errors : (raw : List ℕ) (n : ℕ) (kind : ErrorKind) → refuses raw n kind → also raw n kind)
    (limit room : Option ℕ) (kind : ErrorKind) (A B : List ℕ → List ℕ → Type 0) (raw left : List ℕ)
    → ((ns following : List ℕ) → A ns following → B ns following) → StartError rule gives refuses limit room kind A raw left
    → StartError rule others also limit room kind B raw left
StartError-map rule {gives} {others} {refuses} {also} given errors limit room kind A B raw left f =
    Unless-map (λ x. (x.0, Asks-map given errors kind raw 8 (CountError rule gives refuses limit room kind A left) (CountError rule others also limit room kind B left) counted x.1))
  where
    limited : (word read following : List ℕ) → LimitError rule limit kind A left word read following → LimitError rule limit kind B left word read following
    limited word read following x = (x.0, x.1, Unless-map (Unless-map (f x.0 following)) x.2)

    counted : (word between : List ℕ) → CountError rule gives refuses limit room kind A left word between → CountError rule others also limit room kind B left word between
    counted word between x = (
      x.0,
      x.1,
      Unless-map
          (Unless-map (Asks-map given errors kind between (8 * (x.0 / 2)) (LimitError rule limit kind A left word)
          (LimitError rule limit kind B left word) (limited word))) x.2,
    )

pub StreamError-map : (rule : Padding) {gives others : Giving} {refuses also : Refusing}
    (given : (raw : List ℕ) (n : ℕ) (bytes rest : List ℕ) → gives raw n bytes rest → others raw n bytes rest)
    (errors : (raw : List ℕ) (n : ℕ) (kind : ErrorKind) → refuses raw n kind → also raw n kind)
    (limit room : Option ℕ) (kind : ErrorKind) (raw left : List ℕ)
    → StreamError rule gives refuses limit room kind raw left → StreamError rule others also limit room kind raw left
StreamError-map rule given errors limit room kind raw left = StartError-map rule given errors limit room kind _ _ raw left (λ ns following. Unless-map (errors following (8 * sum ns) kind))

pub given_some : {gives : Giving} {refuses : Refusing} (laws : IsSource gives refuses) (raw : List ℕ) (n : ℕ) (bytes rest : List ℕ) → gives raw n bytes rest → 0 < n → raw ≡ [] → ⊥
given_some {gives} laws raw n bytes rest given some none =
    let zero_len : n ≡ 0 = laws.none_from_nothing n bytes rest (subst (λ l. gives l n bytes rest) none given) in
    absurd (omega arith)
