-- Encodings of messages one after another, as a stream has them.
use Rattle.std.specs.Prelude.{◌≡◌, ℕ, List, [], ◌∷◌, ◌++◌, Option, Some, None}
use Rattle.capnp_frame.specs.declared.error.ErrorKind.{ErrorKind}
use Rattle.capnp_frame.specs.declared.serialize.segment_table.Padding.{Padding}
use Rattle.capnp_frame.specs.Limits.{IsWithin}
use Rattle.capnp_frame.specs.Source.{Giving, Refusing}
use Rattle.capnp_frame.specs.StreamErrors.{StreamError}

-- Which bytes encode which message, as a relation: `IsEncoding encoding segments`.
abbrev pub Grammar : Type 1
Grammar = List ℕ → List (List ℕ) → Type 0

-- `raw` begins with an encoding of the message, and the message is within the limit
pub record BeginsWith (IsEncoding : Grammar) (limit : Option ℕ) (segments : List (List ℕ)) (raw rest : List ℕ) : Type 0 where
  pub encoding : List ℕ
  pub is_encoding : IsEncoding encoding segments
  pub within : IsWithin segments limit
  pub spelled : raw ≡ encoding ++ rest

-- `raw` begins with encodings of these messages, one after the other, and `rest` follows them
abbrev pub AreEncodings : Grammar → Option ℕ → List (List (List ℕ)) → List ℕ → List ℕ → Type 0
AreEncodings IsEncoding limit [] raw rest = rest ≡ raw
AreEncodings IsEncoding limit (m ∷ ms) raw rest = (between : List ℕ) × BeginsWith IsEncoding limit m raw between × AreEncodings IsEncoding limit ms between rest

-- why no message follows: nothing is left, or a reader by the rule of padding fails with this kind
abbrev pub EndsEncodings : Padding → Giving → Refusing → Option ℕ → Option ErrorKind → List ℕ → Type 0
EndsEncodings rule gives refuses limit None rest = rest ≡ []
EndsEncodings rule gives refuses limit (Some kind) rest = (left : List ℕ) × StreamError rule gives refuses limit None kind rest left
