-- The object that a pointer points to, as it is read: its body, and its words (src/object.rt).
use Rattle.std.specs.Prelude.{◌≡◌, ℕ, ◌+◌, ◌*◌, ◌/◌, ◌≤◌, List, length, Some, slice_get, if◌then◌else◌, ◌==◌}
use Rattle.capnp_layout.specs.Pointer.{words_of}
use Rattle.capnp_layout.specs.Element.{code_of, width, words_for}
use Rattle.capnp_layout.specs.Object.{IsStart, Lands, Target, PointsTo, Shape, struct_shape, numbers_shape, pointers_shape, structs_shape}
use Rattle.capnp_layout.specs.Layout.{HasRoom}
use Rattle.capnp_layout.specs.declared.place.Place.{Place}
use Rattle.capnp_layout.specs.declared.object.Body.{Body}
use Rattle.capnp_layout.specs.declared.object.Body.TheVariants.{Struct, Numbers, Pointers, Structs}
use Rattle.capnp_layout.specs.declared.object.Object.{Object as ReadObject}

-- the object at a place
abbrev pub shape_of : List ℕ → Place → Body → Shape
shape_of words start (Struct size) = struct_shape words start size.data_words size.pointers
shape_of words start (Numbers elements count) = numbers_shape words start (code_of elements) count
shape_of words start (Pointers count) = pointers_shape start count
shape_of words start (Structs elements following) =
    structs_shape words start elements.size.data_words elements.size.pointers elements.count following

-- the words that it takes up, and how many of them its elements need
abbrev pub room_of : Body → ℕ
room_of (Struct size) = size.data_words + size.pointers
room_of (Numbers elements count) = words_for count (width (code_of elements))
room_of (Pointers count) = count
room_of (Structs elements following) = 1 + following

abbrev pub words_in : Body → ℕ
words_in (Struct size) = size.data_words + size.pointers
words_in (Numbers elements count) = words_for count (width (code_of elements))
words_in (Pointers count) = count
words_in (Structs elements following) = 1 + elements.count * (elements.size.data_words + elements.size.pointers)

-- the words that it counts against the traversal limit, without landing pads
abbrev pub traversed_of : Body → ℕ
traversed_of (Struct size) = size.data_words + size.pointers
traversed_of (Numbers elements count) = if code_of elements == 0 then count else words_for count (width (code_of elements))
traversed_of (Pointers count) = count
traversed_of (Structs elements following) =
    1 + following + (if elements.size.data_words + elements.size.pointers == 0 then elements.count else 0)

-- the object that the pointer at a place points to
pub record IsObject (m : List (List ℕ)) (place : Place) (read : ReadObject) : Type 0 where
  pub content : slice_get m read.start.segment ≡ Some (words_of read.segment.now)
  pub object : PointsTo m place (record (shape_of (words_of read.segment.now) read.start read.body) { traversed = read.traversed })
  pub landing : Target
  pub lands : Lands m place landing
  pub number : landing.segment ≡ read.start.segment
  pub begins : IsStart landing.origin landing.tag read.start.word
  pub room : read.start.word + room_of read.body ≤ length read.segment.now / 8
  pub elements : words_in read.body ≤ room_of read.body
  pub traversed : traversed_of read.body ≤ read.traversed
  pub has_room : let shape = shape_of (words_of read.segment.now) read.start read.body in HasRoom shape.form (length shape.children)
