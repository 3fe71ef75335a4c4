-- What the bytes at the front of an input say of its format (src/detected.rt).
use Rattle.std.specs.Prelude.{◌≡◌, ◌⊎◌, ℕ, ◌<◌, ◌≤◌, List, ◌++◌, length, Option}
use Rattle.std.specs.Io.KnownBytes.{Consumes, IsAtEnd}
use Rattle.capnp.specs.Prelude.{ErrorKind, Zero}
use Rattle.capnp.specs.declared.streams.Format.{Format}
use Rattle.capnp.specs.declared.streams.Format.TheVariants.{Framed, Packed}
use Rattle.capnp_frame.specs.declared.error.ErrorKind.TheVariants.{EmptyBuffer, MessageEndsPrematurely}
use Rattle.capnp_frame.specs.Prelude.{FlatRules, no_alloc_rules, FoundBy, RulesError}
use Rattle.capnp_show.specs.declared.detected.Look.{Look}
use Rattle.capnp_show.specs.declared.detected.Look.TheVariants.{Is, More}

-- the kinds of the errors for the bytes of a framed message that end too early
abbrev pub IsPrematureEnd : ErrorKind → Type 0
IsPrematureEnd kind = (kind ≡ EmptyBuffer) ⊎ ((wanted : ℕ) × (there : ℕ) × (kind ≡ MessageEndsPrematurely wanted there))

-- how the messages that are looked for are read: framed, within the limit of words
abbrev pub framed_within : Option ℕ → FlatRules
framed_within limit = no_alloc_rules Zero limit

-- a framed message is at the front
pub record HasMessage (limit : Option ℕ) (front : List ℕ) : Type 0 where
  pub message : List (List ℕ)
  pub rest : List ℕ
  pub is_found : FoundBy (framed_within limit) message front rest

-- the bytes end within what may be a framed message
pub record EndsWithin (limit : Option ℕ) (front : List ℕ) : Type 0 where
  pub kind : ErrorKind
  pub errors : RulesError (framed_within limit) kind front
  pub cut : IsPrematureEnd kind

-- no framed message begins with these bytes
pub record Differs (limit : Option ℕ) (front : List ℕ) : Type 0 where
  pub kind : ErrorKind
  pub errors : RulesError (framed_within limit) kind front
  pub whole : IsPrematureEnd kind → ⊥

-- the bytes begin a framed message: one is at their front, or they end within one
abbrev pub Begins : Option ℕ → List ℕ → Type 0
Begins limit front = HasMessage limit front ⊎ EndsWithin limit front

-- What some bytes say; `enough` bytes are enough to tell. They are framed where a message is there or may
-- follow, and packed where no message begins with them. They say nothing yet where they are few and end
-- within what may be a message.
abbrev pub Says : ℕ → Option ℕ → List ℕ → Look → Type 0
Says enough limit front (Is Framed) = HasMessage limit front ⊎ (EndsWithin limit front × (enough ≤ length front))
Says enough limit front (Is Packed) = Differs limit front
Says enough limit front More = EndsWithin limit front × (length front < enough)

-- The bytes that are added to a front, from `old` to `new`, are the next ones of an input, where its bytes
-- are known.
pub record Takes (old new : List ℕ) (before after : Option (List ℕ)) : Type 0 where
  pub added : List ℕ
  pub front_is : new ≡ old ++ added
  pub taken : Consumes before after added

-- The format in which an input with these bytes at its front is read, and `after` follows them. It is what
-- they say, or framed where they end, with the input, within what may be a framed message.
abbrev pub TellsFormat : ℕ → Option ℕ → List ℕ → Option (List ℕ) → Format → Type 0
TellsFormat enough limit front after format = Says enough limit front (Is format) ⊎ ((format ≡ Framed) × EndsWithin limit front × IsAtEnd after)
