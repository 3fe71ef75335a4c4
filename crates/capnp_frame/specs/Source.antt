-- What requests of a source take from its unread bytes (the traits Read and BufRead).
use Rattle.std.specs.Prelude.{◌≡◌, ℕ, ◌+◌, ◌-◌, ◌^◌, ◌<◌, ◌≤◌, ◌↔◌, min, List, [], ◌++◌, length, Option, Some, None, IfSome, IsSomeAnd, Result, IfOk, OnErr}
use denote.Ref.{Bor}
use Rattle.capnp_frame.specs.declared.error.Error.{Error}
use Rattle.capnp_frame.specs.declared.error.ErrorKind.{ErrorKind}
use Rattle.capnp_frame.specs.declared.error.ErrorKind.TheVariants.{FailedToFillTheWholeBuffer}

-- What a request takes, as a relation: `gives raw n bytes rest`. Of the unread bytes `raw`, a
-- request of n bytes takes `bytes` and leaves `rest`.
abbrev pub Giving : Type 1
Giving = List ℕ → ℕ → List ℕ → List ℕ → Type 0

-- With which kinds a request of n bytes fails where `raw` is unread, as a relation:
-- `refuses raw n kind`.
abbrev pub Refusing : Type 1
Refusing = List ℕ → ℕ → ErrorKind → Type 0

-- a plain request takes the first n bytes
abbrev pub Splits : Giving
Splits raw n bytes rest = (raw ≡ bytes ++ rest) × (length bytes ≡ n)

-- a plain request fails where fewer than n bytes are unread
abbrev pub RunsShort : Refusing
RunsShort raw n kind = (length raw < n) × (kind ≡ FailedToFillTheWholeBuffer)

-- whatever a plain request gives, this source gives too
abbrev pub IsPlain : Giving → Type 0
IsPlain gives = (raw : List ℕ) (n : ℕ) (bytes rest : List ℕ) → Splits raw n bytes rest → gives raw n bytes rest

-- What every source's requests keep.
pub record IsSource (gives : Giving) (refuses : Refusing) : Type 0 where
  -- a request of no bytes takes nothing
  pub takes_nothing : (raw : List ℕ) → gives raw 0 [] raw
  -- where nothing is unread, only a request of no bytes is given
  pub none_from_nothing : (n : ℕ) (bytes rest : List ℕ) → gives [] n bytes rest → n ≡ 0
  pub gives_all : (raw : List ℕ) (n : ℕ) (bytes rest : List ℕ) → gives raw n bytes rest → length bytes ≡ n
  -- there is one result at most
  pub unique : (raw : List ℕ) (n : ℕ) (bytes rest others left : List ℕ) → gives raw n bytes rest → gives raw n others left → (bytes ≡ others) × (rest ≡ left)
  -- what is given doesn't fail, and nothing fails with two kinds
  pub apart : (raw : List ℕ) (n : ℕ) (bytes rest : List ℕ) (kind : ErrorKind) → gives raw n bytes rest → refuses raw n kind → ⊥
  pub one_kind : (raw : List ℕ) (n : ℕ) (kind other : ErrorKind) → refuses raw n kind → refuses raw n other → kind ≡ other

-- `same` relates two states of one source, or of one sink: it is reflexive and transitive.
pub record IsPreorder {S : Type 0} (same : S → S → Type 0) : Type 0 where
  pub reflexive : (s : S) → same s s
  pub transitive : (s t u : S) → same s t → same t u → same s u

-- the count of failures has risen, or has reached the largest count, 2 ^ 64 - 1
abbrev pub Fails : ℕ → ℕ → Type 0
Fails old new = min (old + 1) (2 ^ 64 - 1) ≤ new

-- Where the bytes before a call are known, so are those after it, and P relates them.
abbrev pub IfKnown : Option (List ℕ) → Option (List ℕ) → (List ℕ → List ℕ → Type 0) → Type 0
IfKnown old new P = IfSome old (λ before. IsSomeAnd new (P before))

abbrev pub IsTail : List ℕ → List ℕ → Type 0
IsTail all tail = (front : List ℕ) × (all ≡ front ++ tail)

abbrev pub IsFront : List ℕ → List ℕ → Type 0
IsFront front all = (tail : List ℕ) × (all ≡ front ++ tail)

-- What each call keeps of a source: what stays unread is a tail of what was, the count of failures
-- does not fall, and it is the same source.
pub record Advances {S : Type 0} (unread : S → Option (List ℕ)) (failures : S → ℕ) (same : S → S → Type 0) (old new : S) : Type 0 where
  pub tail : IfKnown (unread old) (unread new) IsTail
  pub counted : failures old ≤ failures new
  pub same_source : same old new

-- What `fill_buf` leaves once its result is dropped.
pub record Fills {S : Type 0} (unread : S → Option (List ℕ)) (failures : S → ℕ) (same : S → S → Type 0) (shown : S → List ℕ) (result : Result (Bor (List ℕ)) Error) (old new : S) : Type 0 where
  pub kept : unread new ≡ unread old
  pub shows : IfOk result (λ bytes. shown new ≡ bytes.now)
  pub failed : OnErr result (Fails (failures old) (failures new))
  pub counted : failures old ≤ failures new
  pub same_source : same old new

-- A request of n bytes may fail with this kind; where the unread bytes aren't known, some request
-- of some bytes may.
abbrev pub RequestError : Refusing → ℕ → Option (List ℕ) → ErrorKind → Type 0
RequestError refuses n None kind = (raw : List ℕ) × (m : ℕ) × refuses raw m kind
RequestError refuses n (Some raw) kind = refuses raw n kind

-- Only `got` of a request of n bytes is given so far. The rest of it is given from `left` just as
-- the whole is given from `raw`, and fails with the same kinds.
pub record ReturnsPart (gives : Giving) (refuses : Refusing) (n : ℕ) (got raw left : List ℕ) : Type 0 where
  pub joins : (more rest : List ℕ) → gives left (n - length got) more rest → gives raw n (got ++ more) rest
  pub splits : (bytes rest : List ℕ) → gives raw n bytes rest → (more : List ℕ) × (bytes ≡ got ++ more) × gives left (n - length got) more rest
  pub same_errors : (kind : ErrorKind) → refuses left (n - length got) kind ↔ refuses raw n kind
