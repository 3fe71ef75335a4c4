-- What is shown within quotation marks, with the escapes of C (src/stringify/literals.rt).
use Rattle.std.specs.Prelude.{◌≡◌, ◌⊎◌, ℕ, ◌^◌, ◌-◌, ◌<◌, ◌≤◌, false, List, [], ◌∷◌, ◌++◌}
use Rattle.std.specs.Char.{encode_utf8}
use Rattle.std.specs.Str.{chars}
use Rattle.std.specs.Fmt.{digits, padded_integral, format_spec}
use Rattle.capnp.specs.declared.stringify.literals.Escape.{Escape}
use Rattle.capnp.specs.declared.stringify.literals.Escape.TheVariants.{Plain, Letter, Number}

-- The characters that C has a letter for, and that letter. The bell is a, a backspace b, a form feed f, a
-- line feed n, a carriage return r, a tab t, a vertical tab v. Both quotation marks and the backslash have
-- themselves.
abbrev pub HasLetter : ℕ → ℕ → Type 0
HasLetter character letter =
    ((character ≡ 7) × (letter ≡ 97)) ⊎ ((character ≡ 8) × (letter ≡ 98)) ⊎ ((character ≡ 12) × (letter ≡ 102))
    ⊎ ((character ≡ 10) × (letter ≡ 110)) ⊎ ((character ≡ 13) × (letter ≡ 114)) ⊎ ((character ≡ 9) × (letter ≡ 116))
    ⊎ ((character ≡ 11) × (letter ≡ 118)) ⊎ ((character ≡ 34) × (letter ≡ 34)) ⊎ ((character ≡ 39) × (letter ≡ 39))
    ⊎ ((character ≡ 92) × (letter ≡ 92))

abbrev pub HasNoLetter : ℕ → Type 0
HasNoLetter character = (letter : ℕ) → HasLetter character letter → ⊥

-- How a character of a text, or a byte, is shown: one way for each. The control characters of ASCII that have
-- no letter are shown by their numbers, and so are bytes past ASCII.
abbrev pub IsEscapeOf : ℕ → Escape → Type 0
IsEscapeOf character Plain = (32 ≤ character) × (character ≡ 127 → ⊥) × HasNoLetter character
IsEscapeOf character (Letter letter) = HasLetter character letter
IsEscapeOf character Number = ((character < 32) ⊎ (character ≡ 127)) × HasNoLetter character

-- a character that is shown in this way: its number in three octal digits
abbrev pub escaped : ℕ → Escape → List ℕ
escaped character Plain = encode_utf8 character
escaped character (Letter letter) = 92 ∷ encode_utf8 letter
escaped character Number = 92 ∷ padded_integral (format_spec 32 0 4 3 (2 ^ 64 - 1)) false [] (digits 8 false character)

-- How a byte of data is shown: one of ASCII as that character, and another by its number.
abbrev pub IsByteEscape : ℕ → Escape → Type 0
IsByteEscape byte escape = ((byte < 128) × IsEscapeOf byte escape) ⊎ ((128 ≤ byte) × (escape ≡ Number))

-- these characters, or bytes, are shown in these bytes: one after the other, each in the way that is its own
pub data AreEscaped (IsShownBy : ℕ → Escape → Type 0) : List ℕ → List ℕ → Type 0 where
  none_shown : AreEscaped IsShownBy [] []
  one_shown : (characters bytes : List ℕ) (character : ℕ) (escape : Escape) → AreEscaped IsShownBy characters bytes
      → IsShownBy character escape → AreEscaped IsShownBy (characters ++ character ∷ []) (bytes ++ escaped character escape)

-- data are added, within quotation marks
abbrev pub AddsData : List ℕ → List ℕ → List ℕ → Type 0
AddsData shown old new = (bytes : List ℕ) × (new ≡ old ++ (34 ∷ (bytes ++ 34 ∷ []))) × AreEscaped IsByteEscape shown bytes

-- a text is added, within quotation marks
abbrev pub AddsText : List ℕ → List ℕ → List ℕ → Type 0
AddsText shown old new = (bytes : List ℕ) × (new ≡ old ++ (34 ∷ (bytes ++ 34 ∷ []))) × AreEscaped IsEscapeOf (chars shown) bytes
