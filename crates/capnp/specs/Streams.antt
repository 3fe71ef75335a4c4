-- Streams in either format: encodings of messages one after another.
use Rattle.std.specs.Prelude.{◌≡◌, ℕ, List, ◌++◌, Option, None, ◌↔◌}
use Rattle.capnp_frame.specs.declared.error.ErrorKind.{ErrorKind}
use Rattle.capnp_frame.specs.declared.serialize.segment_table.Padding.{Padding}
use Rattle.capnp_frame.specs.Prelude.{IsFrame, Giving, Refusing, Splits, RunsShort, Grammar, BeginsWith, AreEncodings, EndsEncodings, StreamError, TakesMemory, TakesForLengths, IsReaderKind, IsProvidedReaderKind, StreamRules}
use Rattle.capnp_pack.specs.Prelude.{IsPackedFrame, Unpacks, ChunkError}
use Rattle.capnp.specs.declared.streams.Format.{Format}
use Rattle.capnp.specs.declared.streams.Format.TheVariants.{Framed, Packed}

-- A source is plain: a request takes the first bytes, or runs short.
pub record IsPlainSource (gives : Giving) (refuses : Refusing) : Type 0 where
  pub given : (raw : List ℕ) (n : ℕ) (bytes rest : List ℕ) → Splits raw n bytes rest ↔ gives raw n bytes rest
  pub errors : (raw : List ℕ) (n : ℕ) (kind : ErrorKind) → RunsShort raw n kind ↔ refuses raw n kind

-- a framed encoding of the message is at the front, and the message is within the limit
abbrev pub BeginsFramed : Padding → Option ℕ → List (List ℕ) → List ℕ → List ℕ → Type 0
BeginsFramed rule limit message raw rest = BeginsWith (IsFrame rule) limit message raw rest

-- the same for a packed encoding
abbrev pub BeginsPacked : Padding → Option ℕ → List (List ℕ) → List ℕ → List ℕ → Type 0
BeginsPacked rule limit message raw rest = BeginsWith (IsPackedFrame rule) limit message raw rest

-- the encodings of a format, with a padding that the rule accepts
abbrev pub grammar_of : Padding → Format → Grammar
grammar_of rule Framed = IsFrame rule
grammar_of rule Packed = IsPackedFrame rule

-- what requests take of a stream in a format, and with which kinds they fail
abbrev pub gives_of : Format → Giving
gives_of Framed = Splits
gives_of Packed = Unpacks

abbrev pub refuses_of : Format → Refusing
refuses_of Framed = RunsShort
refuses_of Packed = ChunkError

-- the rules of the readers of a format, over a source of plain bytes
abbrev pub rules_of : Padding → Format → StreamRules
rules_of rule format = record {
  finds = λ message raw rest. (encoding : List ℕ) × grammar_of rule format encoding message × (raw ≡ encoding ++ rest);
  takes_memory = TakesMemory rule (gives_of format);
  fails = StreamError rule (gives_of format) (refuses_of format);
  kinds = IsReaderKind rule (refuses_of format);
  provided_kinds = IsProvidedReaderKind rule (refuses_of format);
}

-- the rules of calls that skip the segments: memory is taken for the lengths alone, where there are more than
-- `kept`
abbrev pub skipping_rules_of : Padding → Format → ℕ → StreamRules
skipping_rules_of rule format kept = record (rules_of rule format) { takes_memory = λ limit. TakesForLengths kept (gives_of format) }

-- an encoding of the message in this format is at the front, and the message is within the limit
abbrev pub FoundNext : Padding → Format → Option ℕ → List (List ℕ) → List ℕ → List ℕ → Type 0
FoundNext rule format limit message raw rest = BeginsWith (grammar_of rule format) limit message raw rest

-- the reader of this format fails there with this kind, and leaves `left` unread
abbrev pub NextError : Padding → Format → Option ℕ → ErrorKind → List ℕ → List ℕ → Type 0
NextError rule format limit kind rest left = StreamError rule (gives_of format) (refuses_of format) limit None kind rest left

-- the reader of this format takes memory for the next message of these bytes: for the lengths of more than
-- one segment, or for the segments
abbrev pub TakesForNext : Padding → Format → Option ℕ → List ℕ → Type 0
TakesForNext rule format limit rest = (left : List ℕ) × TakesMemory rule (gives_of format) limit rest left

-- why no further message is there: nothing is left, or the reader fails with this kind
abbrev pub EndsBy : Padding → Format → Option ℕ → Option ErrorKind → List ℕ → Type 0
EndsBy rule format limit ending rest = EndsEncodings rule (gives_of format) (refuses_of format) limit ending rest

-- The stream is encodings of these messages, each within the limit, and then ends in this way.
pub record IsStream (rule : Padding) (format : Format) (limit : Option ℕ) (messages : List (List (List ℕ))) (ending : Option ErrorKind) (raw : List ℕ) : Type 0 where
  pub rest : List ℕ
  pub encodings : AreEncodings (grammar_of rule format) limit messages raw rest
  pub ends : EndsBy rule format limit ending rest
