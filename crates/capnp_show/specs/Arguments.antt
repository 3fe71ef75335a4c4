-- The words that the program takes (src/arguments.rt).
use Rattle.std.specs.Prelude.{◌≡◌, ◌⊎◌, ◌<◌, ◌-◌, ◌^◌, FitsSigned, ℕ, ℤ, Bool, true, false, List, Some, None, codes}
use Rattle.std.specs.Int.{w32}
use Rattle.std.specs.Str.Parse.{IsNumeral, digits_value, signed_digits_value, without_leading_plus, without_leading_sign}
use Rattle.capnp_frame.specs.declared.message.options.ReaderOptions.{ReaderOptions}
use Rattle.capnp_frame.specs.declared.message.options.TheConstants.{DEFAULT_READER_OPTIONS}
use Rattle.capnp_show.specs.declared.settings.Reading.{Reading}
use Rattle.capnp_show.specs.declared.settings.Reading.TheVariants.{Framed, Packed, Detected}
use Rattle.capnp_show.specs.declared.settings.Form.{Form}
use Rattle.capnp_show.specs.declared.settings.Form.TheVariants.{Lines, Json, Html, Count, Converted}
use Rattle.capnp.specs.declared.transcoding.Way.TheVariants.{Pack, Unpack}
use Rattle.clap.specs.Words.{one_text}
use Rattle.clap.specs.declared.parser.matches.Found.{Found}

-- a flag of this name is given, or it is not
abbrev pub IsGiven : Found → List ℕ → Type 0
IsGiven found name = one_text found name ≡ Some (codes "true")

abbrev pub IsAbsent : Found → List ℕ → Type 0
IsAbsent found name = (one_text found name ≡ None) ⊎ (one_text found name ≡ Some (codes "false"))

-- the format of the messages: packed by --packed and --unpack, which come before --detect, and
-- framed where none is given
pub record AsksReading (found : Found) (reading : Reading) : Type 0 where
  pub packed : IsGiven found (codes "packed") → reading ≡ Packed
  pub unpacked : IsGiven found (codes "unpack") → reading ≡ Packed
  pub detected : IsAbsent found (codes "packed") → IsAbsent found (codes "unpack") → IsGiven found (codes "detect")
      → reading ≡ Detected
  pub framed : IsAbsent found (codes "packed") → IsAbsent found (codes "unpack") → IsAbsent found (codes "detect")
      → reading ≡ Framed

-- in which form they are shown: by the first of --count, --json, --html, --pack and --unpack that is given,
-- and as lines where none is
pub record AsksForm (found : Found) (form : Form) : Type 0 where
  pub count : IsGiven found (codes "count") → form ≡ Count
  pub json : IsAbsent found (codes "count") → IsGiven found (codes "json") → form ≡ Json
  pub html : IsAbsent found (codes "count") → IsAbsent found (codes "json") → IsGiven found (codes "html") → form ≡ Html
  pub packed : IsAbsent found (codes "count") → IsAbsent found (codes "json") → IsAbsent found (codes "html")
      → IsGiven found (codes "pack") → form ≡ Converted Pack
  pub unpacked : IsAbsent found (codes "count") → IsAbsent found (codes "json") → IsAbsent found (codes "html")
      → IsAbsent found (codes "pack") → IsGiven found (codes "unpack") → form ≡ Converted Unpack
  pub lines : IsAbsent found (codes "count") → IsAbsent found (codes "json") → IsAbsent found (codes "html")
      → IsAbsent found (codes "pack") → IsAbsent found (codes "unpack") → form ≡ Lines

-- A number is given for an option: a numeral below 2 ^ 64, which may have a plus in front.
pub record GivesNumber (found : Found) (name : List ℕ) (number : ℕ) : Type 0 where
  pub argument : List ℕ
  pub given : one_text found name ≡ Some argument
  pub numeral : IsNumeral 10 (without_leading_plus argument)
  pub fits : digits_value 10 (without_leading_plus argument) < 2 ^ 64
  pub value : number ≡ digits_value 10 (without_leading_plus argument)

-- A number of 32 bits is given for an option: a numeral, which may have a sign in front.
pub record GivesSigned (found : Found) (name : List ℕ) (number : ℤ) : Type 0 where
  pub argument : List ℕ
  pub given : one_text found name ≡ Some argument
  pub numeral : IsNumeral 10 (without_leading_sign argument)
  pub fits : FitsSigned w32 (signed_digits_value 10 argument)
  pub value : number ≡ signed_digits_value 10 argument

-- how many messages are shown: as many as --first says, and all where it is left out
pub record AsksFirst (found : Found) (first : ℕ) : Type 0 where
  pub given : (number : ℕ) → GivesNumber found (codes "first") number → first ≡ number
  pub absent : one_text found (codes "first") ≡ None → first ≡ 2 ^ 64 - 1

-- the limits: what --words and --nesting say, and the readers' own where they are left out
pub record AsksLimits (found : Found) (limits : ReaderOptions) : Type 0 where
  pub words : (number : ℕ) → GivesNumber found (codes "words") number → limits.traversal_limit_in_words ≡ Some number
  pub all_words : one_text found (codes "words") ≡ None
      → limits.traversal_limit_in_words ≡ DEFAULT_READER_OPTIONS.traversal_limit_in_words
  pub nesting : (number : ℤ) → GivesSigned found (codes "nesting") number → limits.nesting_limit ≡ number
  pub all_nesting : one_text found (codes "nesting") ≡ None → limits.nesting_limit ≡ DEFAULT_READER_OPTIONS.nesting_limit

-- whether a flag is given
pub record AsksFlag (found : Found) (name : List ℕ) (flag : Bool) : Type 0 where
  pub given : IsGiven found name → flag ≡ true
  pub absent : IsAbsent found name → flag ≡ false
