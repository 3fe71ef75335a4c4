-- What a pointer points to. A message is a list of segments, each of them a list of words.
use Rattle.std.specs.Prelude.{◌≡◌, ℕ, zero, suc, ◌+◌, ◌*◌, ◌/◌, ◌^◌, ◌<◌, ◌≤◌, ◌==◌, if◌then◌else◌, List, [], ◌∷◌, ◌++◌, length, map, Option, Some, slice_get, option_and_then}
use Rattle.capnp_layout.specs.Pointer.{digits, number_of, words_of, words_from, pointer_kind, offset, data_words, pointer_words, code, list_count, has_wide_landing_pad, landing_pad_position, landing_pad_segment}
use Rattle.capnp_layout.specs.Element.{width, words_for}
use Rattle.capnp_layout.specs.Tree.{Form, null, struct, numbers, pointers, structs}
use Rattle.capnp_layout.specs.declared.place.Place.{Place}

-- the message in these segments of bytes: their whole words
abbrev pub message_of : List (List ℕ) → List (List ℕ)
message_of segments = map words_of segments

abbrev pub word_at : List (List ℕ) → Place → Option ℕ
word_at m place = option_and_then (λ words. slice_get words place.word) (slice_get m place.segment)

-- n consecutive places
abbrev pub places : ℕ → ℕ → ℕ → List Place
places segment start zero = []
places segment start (suc n) = record { segment = segment; word = start } ∷ places segment (start + 1) n

-- the landing pad of a far pointer, and its second word where it has two
abbrev pub landing_pad : ℕ → Place
landing_pad word = record { segment = landing_pad_segment word; word = landing_pad_position word }

abbrev pub landing_pad_tag : ℕ → Place
landing_pad_tag word = record { segment = landing_pad_segment word; word = landing_pad_position word + 1 }

-- a far pointer, 0 with a landing pad of one word, 1 with one of two
pub record IsFar (word width : ℕ) : Type 0 where
  pub far : pointer_kind word ≡ 2
  pub wide : has_wide_landing_pad word ≡ width

-- where an object begins in its segment
pub data Origin : Type 0 where
  -- where its tag says, with an offset that counts from after this word
  following : ℕ → Origin
  -- at this word, whatever its tag says
  exactly : ℕ → Origin

-- What a pointer points to: an object's segment, where the object begins there, its tag, and how many
-- words of landing pads are on the way. The tag is the struct or list pointer that gives its shape.
pub record Target : Type 0 where
  pub segment : ℕ
  pub origin : Origin
  pub tag : ℕ
  pub landing_pads : ℕ

-- the pointer at a place points there
pub data Lands (m : List (List ℕ)) (place : Place) : Target → Type 0 where
  local : {word : ℕ} → word_at m place ≡ Some word → 0 < word → pointer_kind word < 2
      → Lands m place (record { segment = place.segment; origin = following place.word; tag = word; landing_pads = 0 })
  far : {word tag : ℕ} → word_at m place ≡ Some word → IsFar word 0
      → word_at m (landing_pad word) ≡ Some tag → pointer_kind tag < 2
      → Lands m place (record { segment = landing_pad_segment word; origin = following (landing_pad_position word); tag = tag; landing_pads = 1 })
  double_far : {word inner tag : ℕ} {words : List ℕ} → word_at m place ≡ Some word → IsFar word 1
      → word_at m (landing_pad word) ≡ Some inner → IsFar inner 0 → word_at m (landing_pad_tag word) ≡ Some tag
      → slice_get m (landing_pad_segment inner) ≡ Some words → pointer_kind tag < 2
      → Lands m place (record { segment = landing_pad_segment inner; origin = exactly (landing_pad_position inner); tag = tag; landing_pads = 2 })

-- an object begins at this word, as its origin and its tag say; an offset from 2 ^ 29 on is negative
abbrev pub IsStart : Origin → ℕ → ℕ → Type 0
IsStart (following word) tag start = start + 2 ^ 30 * (offset tag / 2 ^ 29) ≡ word + 1 + offset tag
IsStart (exactly word) tag start = start ≡ word

-- a form, the places of its pointers, and the words that its object counts against the traversal limit
pub record Shape : Type 0 where
  pub form : Form
  pub children : List Place
  pub traversed : ℕ

-- the data of n consecutive structs from a word on, and the places of their pointers
abbrev pub elements_from : List ℕ → ℕ → ℕ → ℕ → ℕ → List (List ℕ)
elements_from words start d p zero = []
elements_from words start d p (suc n) = words_from words start d ∷ elements_from words (start + d + p) d p n

abbrev pub pointer_places : ℕ → ℕ → ℕ → ℕ → ℕ → List Place
pointer_places segment start d p zero = []
pointer_places segment start d p (suc n) = places segment (start + d) p ++ pointer_places segment (start + d + p) d p n

abbrev pub struct_shape : List ℕ → Place → ℕ → ℕ → Shape
struct_shape words start d p =
    record { form = struct (words_from words start.word d); children = places start.segment (start.word + d) p; traversed = d + p }

-- the elements of a list of code 0 to 5 are the digits of its words, in the base of their bits
abbrev pub elements : List ℕ → ℕ → ℕ → ℕ → List ℕ
elements words start code n = digits (2 ^ width code) n (number_of (2 ^ 64) (words_from words start (words_for n (width code))))

abbrev pub numbers_shape : List ℕ → Place → ℕ → ℕ → Shape
numbers_shape words start code n = record {
  form = numbers code (elements words start.word code n);
  children = [];
  traversed = if code == 0 then n else words_for n (width code);
}

abbrev pub pointers_shape : Place → ℕ → Shape
pointers_shape start n = record { form = pointers; children = places start.segment start.word n; traversed = n }

-- n structs of d and p words each, after their tag among these words
abbrev pub structs_shape : List ℕ → Place → ℕ → ℕ → ℕ → ℕ → Shape
structs_shape words start d p n size = record {
  form = structs d p (elements_from words (start.word + 1) d p n);
  children = pointer_places start.segment (start.word + 1) d p n;
  traversed = 1 + size + (if d + p == 0 then n else 0);
}

-- the object at a place among the words of its segment, by its pointer
pub data ShapeIsAt (words : List ℕ) (start : Place) (pointer : ℕ) : Shape → Type 0 where
  a_struct : pointer_kind pointer ≡ 0 → start.word + data_words pointer + pointer_words pointer ≤ length words
      → ShapeIsAt words start pointer (struct_shape words start (data_words pointer) (pointer_words pointer))
  some_numbers : pointer_kind pointer ≡ 1 → code pointer < 6 → start.word + words_for (list_count pointer) (width (code pointer)) ≤ length words
      → ShapeIsAt words start pointer (numbers_shape words start (code pointer) (list_count pointer))
  some_pointers : pointer_kind pointer ≡ 1 → code pointer ≡ 6 → start.word + list_count pointer ≤ length words
      → ShapeIsAt words start pointer (pointers_shape start (list_count pointer))
  some_structs : {tag : ℕ} → pointer_kind pointer ≡ 1 → code pointer ≡ 7 → start.word + 1 + list_count pointer ≤ length words
      → slice_get words start.word ≡ Some tag → pointer_kind tag ≡ 0
      → offset tag * (data_words tag + pointer_words tag) ≤ list_count pointer
      → ShapeIsAt words start pointer (structs_shape words start (data_words tag) (pointer_words tag) (offset tag) (list_count pointer))

-- a null pointer
abbrev pub nothing : Shape
nothing = record { form = null; children = []; traversed = 0 }

-- the pointer at a place is null, or points to an object
pub data PointsTo (m : List (List ℕ)) (place : Place) : Shape → Type 0 where
  is_null : word_at m place ≡ Some 0 → PointsTo m place nothing
  is_object : {landing : Target} {words : List ℕ} {start : ℕ} {shape : Shape} → Lands m place landing
      → slice_get m landing.segment ≡ Some words → IsStart landing.origin landing.tag start
      → ShapeIsAt words (record { segment = landing.segment; word = start }) landing.tag shape
      → PointsTo m place (record { form = shape.form; children = shape.children; traversed = landing.landing_pads + shape.traversed })
