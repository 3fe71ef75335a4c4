-- Characters and strings, as they are shown (src/escapes.rt, src/markup.rt, src/listing.rt).
use Rattle.std.specs.Prelude.{◌≡◌, ◌≢◌, ◌⊎◌, ℕ, ◌-◌, ◌/◌, ◌%◌, ◌^◌, ◌≤◌, false, List, [], ◌∷◌, ◌++◌, Option, Some, None, codes, decimal}
use Rattle.std.specs.Char.{encode_utf8}
use Rattle.std.specs.Str.{chars}
use Rattle.std.specs.Fmt.{digits, padded_integral, format_spec}
use Rattle.capnp.specs.Prelude.{ErrorKind}
use Rattle.capnp_show.specs.declared.drawn.Anchor.{Anchor}
use Rattle.capnp_show.specs.declared.owners.Role.{Role}
use Rattle.capnp_show.specs.declared.owners.Role.TheVariants.{Data, Pointer as PointerRole, Tag, Landing}
use Rattle.capnp_show.specs.declared.owners.Owner.{Owner}
use Rattle.capnp_show.specs.declared.owners.Owner.TheVariants.{Free, Root, Object}
use Rattle.capnp_show.specs.declared.owners.Lead.{Lead}
use Rattle.capnp_show.specs.declared.owners.Lead.TheVariants.{Nowhere, Null, Object as LeadObject}
use Rattle.capnp_show.specs.declared.owners.Word.{Word}
use Rattle.capnp_show.specs.declared.listing.Listed.{Listed}
use Rattle.capnp_layout.specs.declared.place.Place.{Place}
use Rattle.capnp_show.specs.declared.escapes.Escape.{Escape}
use Rattle.capnp_show.specs.declared.escapes.Escape.TheVariants.{Plain, Letter, Number}
use Rattle.capnp_show.specs.declared.markup.Mark.{Mark}
use Rattle.capnp_show.specs.declared.markup.Mark.TheVariants.{Plain as PlainMark, Named, Control}
use Rattle.capnp_layout.specs.declared.element_size.ElementSize.{ElementSize}
use Rattle.capnp_layout.specs.declared.element_size.ElementSize.TheVariants.{Void, Bit, Byte, TwoBytes, FourBytes, EightBytes}
use Rattle.capnp_layout.specs.declared.object.Body.{Body}
use Rattle.capnp_layout.specs.declared.object.Body.TheVariants.{Struct, Numbers, Pointers, Structs}

-- the control characters: U+0000 to U+001F, U+007F, and U+0080 to U+009F
abbrev pub IsControl : ℕ → Type 0
IsControl character = (character ≤ 31) ⊎ ((127 ≤ character) × (character ≤ 159))

-- The characters that JSON has a letter for (RFC 8259, section 7), and that letter. The quotation mark and
-- the backslash have themselves; a line feed is n, a carriage return r, a tab t.
abbrev pub HasJsonLetter : ℕ → ℕ → Type 0
HasJsonLetter character letter =
    ((character ≡ 34) × (letter ≡ 34)) ⊎ ((character ≡ 92) × (letter ≡ 92)) ⊎ ((character ≡ 10) × (letter ≡ 110))
    ⊎ ((character ≡ 13) × (letter ≡ 114)) ⊎ ((character ≡ 9) × (letter ≡ 116))

-- How a character is shown within quotation marks: one way for each. A control character that has no letter
-- is shown by its number, and any other character as itself.
abbrev pub IsJsonEscapeOf : ℕ → Escape → Type 0
IsJsonEscapeOf character Plain = (IsControl character → ⊥) × (character ≢ 34) × (character ≢ 92)
IsJsonEscapeOf character (Letter letter) = HasJsonLetter character letter
IsJsonEscapeOf character Number = IsControl character × (character ≢ 10) × (character ≢ 13) × (character ≢ 9)

-- the characters that begin or end markup, within an attribute too, and the names that stand for them
abbrev pub HasName : ℕ → List ℕ → Type 0
HasName character name =
    ((character ≡ 38) × (name ≡ codes "&amp;")) ⊎ ((character ≡ 60) × (name ≡ codes "&lt;"))
    ⊎ ((character ≡ 62) × (name ≡ codes "&gt;")) ⊎ ((character ≡ 34) × (name ≡ codes "&quot;"))

-- how a character is written in a page
abbrev pub IsMarkOf : ℕ → Mark → Type 0
IsMarkOf character PlainMark =
    (IsControl character → ⊥) × (character ≢ 38) × (character ≢ 60) × (character ≢ 62) × (character ≢ 34)
IsMarkOf character (Named name) = HasName character name.now
IsMarkOf character Control = IsControl character

-- the name of numbers in a list
abbrev pub number_name : ElementSize → List ℕ
number_name Void = codes "void"
number_name Bit = codes "bit"
number_name Byte = codes "byte"
number_name TwoBytes = codes "2 bytes"
number_name FourBytes = codes "4 bytes"
number_name EightBytes = codes "8 bytes"

-- the name of a list's elements, and of a struct
abbrev pub element_name : Body → List ℕ
element_name (Struct size) = codes "struct"
element_name (Numbers size count) = number_name size
element_name (Pointers count) = codes "pointer"
element_name (Structs elements following) = codes "struct"

-- a character that is shown in this way: its number in four hexadecimal digits
abbrev pub json_escaped : ℕ → Escape → List ℕ
json_escaped character Plain = encode_utf8 character
json_escaped character (Letter letter) = 92 ∷ encode_utf8 letter
json_escaped character Number = codes "\\u" ++ padded_integral (format_spec 32 0 4 4 (2 ^ 64 - 1)) false [] (digits 16 false character)

-- these characters are shown in these bytes: one after the other, each in the way that is its own
pub data AreJsonEscaped : List ℕ → List ℕ → Type 0 where
  none_shown : AreJsonEscaped [] []
  one_shown : (characters bytes : List ℕ) (character : ℕ) (escape : Escape) → AreJsonEscaped characters bytes → IsJsonEscapeOf character escape
      → AreJsonEscaped (characters ++ character ∷ []) (bytes ++ json_escaped character escape)

-- a string is added, escaped, between two others
abbrev pub AddsEscaped : List ℕ → List ℕ → List ℕ → List ℕ → List ℕ → Type 0
AddsEscaped front shown end old new = (bytes : List ℕ) × (new ≡ old ++ (front ++ (bytes ++ end))) × AreJsonEscaped (chars shown) bytes

-- the bytes of a character in a page, by how it is written there
abbrev pub IsMarked : ℕ → Mark → List ℕ → Type 0
IsMarked character PlainMark bytes = bytes ≡ encode_utf8 character
IsMarked character (Named name) bytes = bytes ≡ name.now
IsMarked character Control bytes = (escape : Escape) × IsJsonEscapeOf character escape × (bytes ≡ json_escaped character escape)

-- these characters are written in a page as these bytes
pub data AreMarked : List ℕ → List ℕ → Type 0 where
  none_marked : AreMarked [] []
  one_marked : (characters bytes added : List ℕ) (character : ℕ) (mark : Mark) → AreMarked characters bytes → IsMarkOf character mark
      → IsMarked character mark added → AreMarked (characters ++ character ∷ []) (bytes ++ added)

-- a string is added to a page, between two others
abbrev pub AddsMarked : List ℕ → List ℕ → List ℕ → List ℕ → List ℕ → Type 0
AddsMarked front shown end old new = (bytes : List ℕ) × (new ≡ old ++ (front ++ (bytes ++ end))) × AreMarked (chars shown) bytes

-- a number after some words
abbrev pub with_number : List ℕ → ℕ → List ℕ
with_number words number = words ++ decimal number

-- what is listed of a message
abbrev pub listed_line : Listed → List ℕ
listed_line listed = with_number (codes "message ") listed.index ++ (with_number (codes ": offset ") listed.offset
    ++ (with_number (codes ", bytes ") listed.bytes ++ (with_number (codes ", segments ") listed.segments ++ with_number (codes ", words ") listed.words)))

-- a member of a JSON object that is a number, after the members before it
abbrev pub member : List ℕ → ℕ → List ℕ
member name number = codes ",\"" ++ (name ++ with_number (codes "\":") number)

-- the members of what is listed of a message
abbrev pub listed_members : Listed → List ℕ
listed_members listed = member (codes "index") listed.index ++ (member (codes "offset") listed.offset
    ++ (member (codes "bytes") listed.bytes ++ (member (codes "segments") listed.segments ++ member (codes "words") listed.words)))

-- the name of a message in a page, and the name of one of its words
abbrev pub message_name : Anchor → List ℕ
message_name anchor = with_number (codes "m") anchor.input ++ with_number (codes "-") anchor.message

abbrev pub word_name : Anchor → Place → List ℕ
word_name anchor place = message_name anchor ++ (with_number (codes "-") place.segment ++ with_number (codes "-") place.word)

-- the classes of an object
abbrev pub object_classes : ℕ → List ℕ
object_classes number = with_number (codes "o") number ++ with_number (codes " c") (number % 9)

-- the classes of a word in a page, by whose it is
abbrev pub role_class : Role → List ℕ
role_class Data = codes "data"
role_class PointerRole = codes "pointer"
role_class Tag = codes "tag"
role_class Landing = codes "landing"

abbrev pub owner_classes : Owner → List ℕ
owner_classes Free = codes "free"
owner_classes Root = codes "pointer root"
owner_classes (Object number role) = role_class role ++ (with_number (codes " o") number ++ with_number (codes " c") (number % 9))

-- and the class of a null pointer, and of a pointer that is not followed
abbrev pub null_class : Owner → Lead → List ℕ
null_class Root Null = codes " null"
null_class (Object number PointerRole) Null = codes " null"
null_class owner lead = []

abbrev pub error_class : Option ErrorKind → List ℕ
error_class None = []
error_class (Some kind) = codes " refused"

abbrev pub word_classes : Word → List ℕ
word_classes word = owner_classes word.owner ++ (null_class word.owner word.lead ++ error_class word.error)

-- what is said of a word whose pointer is followed: where it is, its role, and in which object
abbrev pub role_name : Role → List ℕ
role_name Data = codes "data"
role_name PointerRole = codes "pointer"
role_name Tag = codes "tag"
role_name Landing = codes "landing pad"

abbrev pub owner_name : Owner → List ℕ
owner_name Free = codes "of no object that is reached"
owner_name Root = codes "the root pointer"
owner_name (Object number role) = role_name role ++ with_number (codes " of object ") number

abbrev pub lead_name : Lead → List ℕ
lead_name Nowhere = []
lead_name Null = codes ", null"
lead_name (LeadObject number start) = with_number (codes ", to object ") number

-- the lead of a word that is drawn as a pointer
abbrev pub drawn_lead : Owner → Lead → List ℕ
drawn_lead Root lead = lead_name lead
drawn_lead (Object number PointerRole) lead = lead_name lead
drawn_lead owner lead = []

abbrev pub where_of : Place → List ℕ
where_of place = with_number (codes "word ") place.segment ++ (with_number (codes ":") place.word ++ codes ", ")

abbrev pub title_of : Place → Word → List ℕ
title_of place word = where_of place ++ (owner_name word.owner ++ drawn_lead word.owner word.lead)

-- how far the reading of an input is, in MB where its size is known
abbrev pub of_total : Option ℕ → List ℕ
of_total None = []
of_total (Some bytes) = with_number (codes " of ") (bytes / 1000000) ++ codes " MB"

abbrev pub progress_of : Option ℕ → ℕ → ℕ → List ℕ
progress_of total megabytes messages = with_number (codes ": ") megabytes ++ (codes " MB" ++ (of_total total
    ++ (with_number (codes ", ") messages ++ codes " messages\n")))
