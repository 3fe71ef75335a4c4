-- Objects that are copied, untrimmed or in canonical form (src/layout/copy.rt, pending.rt,
-- copy_pointers.rt and copy_cursor.rt).
use Rattle.std.specs.Prelude.{◌≡◌, ◌≢◌, ℕ, ◌+◌, ◌-◌, ◌/◌, ◌<◌, ◌≤◌, ◌^◌, Bool, List, [], ◌∷◌, length, Some, slice_get}
use Rattle.capnp_layout.specs.Prelude.{words_of, words_from, code_of, numbers, Trees, depth, total_words, elements as numerals, elements_from, own, body, pointer_to, AllHaveRoom, output, struct_pointer, IsObject, room_of, words_in, put, put_data_sections, fill, places, run, segment_of, section_sizes, kept_in, slots_of, places_in, slots_in, end_of, TakesSlot, At, IsNarrower}
use Rattle.capnp_layout.specs.declared.place.Place.{Place}
use Rattle.capnp_wire.specs.declared.layout.copy.Copied.{Copied}
use Rattle.capnp_wire.specs.declared.layout.copy_cursor.CopyCursor.{CopyCursor}
use Rattle.capnp_wire.specs.declared.layout.pending.PendingCopy.{PendingCopy}
use Rattle.capnp_wire.specs.declared.layout.pending.PendingPointers.{PendingPointers}
use Rattle.capnp_wire.specs.declared.layout.pending.StructCopy.{StructCopy}
use Rattle.capnp_wire.specs.declared.layout.pending.StructCopy.TheVariants.{Whole, Pending}
use Rattle.capnp_layout.specs.declared.object.Object.{Object}
use Rattle.capnp_layout.specs.declared.object.Body.{Body}
use Rattle.capnp_layout.specs.declared.object.Body.TheVariants.{Struct, Numbers, Structs}

-- Trees are at places within the nesting depth left. Every field has room, and there is room for their copies
-- from a word on.
pub record CanCopy (m : List (List ℕ)) (at : List Place) (nesting : ℕ) (canonical : Bool) (next room : ℕ) : Type 0 where
  pub trees : Trees
  pub traversed : ℕ
  pub are_at : At m at trees traversed
  pub shallow : depth trees ≤ nesting
  pub rooms : AllHaveRoom trees
  pub fits : next + total_words (output canonical trees) ≤ room

-- a copy's own words except for its pointers, put into a block; the pointers are still to be put
-- into it
abbrev pub put_own : List ℕ → ℕ → Body → Body → ℕ → List ℕ → List ℕ
put_own words start (Struct from) (Struct size) next block = put next (words_from words start size.data_words) block
put_own words start (Numbers size n) copied next block = put next (own (numbers (code_of size) (numerals words start (code_of size) n)) []) block
put_own words start (Structs from following) (Structs elements words_after) next block =
    put_data_sections (next + 1) elements.size.pointers
    (elements_from words (start + 1) elements.size.data_words (from.size.data_words + from.size.pointers - elements.size.data_words) elements.count)
    (put next (struct_pointer elements.count elements.size.data_words elements.size.pointers ∷ []) block)
put_own words start from copied next block = block

-- the number of elements in the tag of a list of structs
abbrev pub element_count : Body → ℕ
element_count (Structs elements following) = elements.count
element_count copied = 0

-- what is copied of some trees: their body, from a word of a block on, the pointer to it, and the
-- first free word after it
pub record IsCopied (trees : Trees) (gap next : ℕ) (old new : List ℕ) (copied : Copied) : Type 0 where
  pub words_are : new ≡ put next (body trees) old
  pub pointer_is : copied.pointer ≡ pointer_to trees gap
  pub next_is : copied.next ≡ next + total_words trees

-- what the pointer at a place points to is copied
pub record Copies (m : List (List ℕ)) (place : Place) (canonical : Bool) (gap next : ℕ) (old new : List ℕ) (copied : Copied) : Type 0 where
  pub is : (trees : Trees) (traversed : ℕ) → At m (place ∷ []) trees traversed → IsCopied (output canonical trees) gap next old new copied

-- what some pointers point to is copied, from a word of a block up to the first free one, and the
-- pointers to the copies are in these slots
pub record CopiesAll (m : List (List ℕ)) (at : List Place) (canonical : Bool) (slots : List ℕ) (next : ℕ) (old new : List ℕ) (free : ℕ) : Type 0 where
  pub words_are : (trees : Trees) (traversed : ℕ) → At m at trees traversed → new ≡ fill slots next (output canonical trees) old
  pub next_is : (trees : Trees) (traversed : ℕ) → At m at trees traversed → free ≡ next + total_words (output canonical trees)

-- what pointers of a segment point to can be copied from a word on, after the slots of their copies
pub record CanCopyByCursor (m : List (List ℕ)) (words : List ℕ) (cursor : CopyCursor) (nesting : ℕ) (canonical : Bool) (next room : ℕ) : Type 0 where
  pub there : CanCopy m (places_in cursor.from) nesting canonical next room
  pub content : places_in cursor.from ≢ [] → slice_get m (segment_of cursor.from) ≡ Some words
  pub as_many : length (places_in cursor.from) ≡ length (places_in cursor.to)
  pub before : end_of cursor.to ≤ next

-- The cursor pairs pointers at some places of a segment with some slots, which end before a word:
-- what the pointers point to can be copied by it, and then is copied.
pub record ArePaired (cursor : CopyCursor) (at : List Place) (segment : ℕ) (slots : List ℕ) (end : ℕ) : Type 0 where
  pub can : (m : List (List ℕ)) (words : List ℕ) (nesting : ℕ) (canonical : Bool) (next room : ℕ) → CanCopy m at nesting canonical next room
      → (at ≢ [] → slice_get m segment ≡ Some words) → end ≤ next → CanCopyByCursor m words cursor nesting canonical next room
  pub copied : (m : List (List ℕ)) (canonical : Bool) (next : ℕ) (old new : List ℕ) (free : ℕ)
      → CopiesAll m (places_in cursor.from) canonical (slots_in cursor.to) next old new free → CopiesAll m at canonical slots next old new free

-- the first of the pointers that are left is taken, with its slot
pub record TakesPair (old new : CopyCursor) (place : Place) (slot : ℕ) : Type 0 where
  pub from : TakesSlot old.from new.from place
  pub slots_are : slots_in old.to ≡ slot ∷ slots_in new.to
  pub as_many : length (places_in old.to) ≡ length (places_in new.to) + 1
  pub before : slot < end_of old.to
  pub same_end : end_of new.to ≡ end_of old.to
  pub in_segment : place.segment ≡ segment_of old.from
  pub same_segment : segment_of new.from ≡ segment_of old.from

-- some pointer that can be copied points to this object
pub record IsCopyable (object : Object) (canonical : Bool) (next room : ℕ) : Type 0 where
  pub m : List (List ℕ)
  pub place : Place
  pub nesting : ℕ
  pub can : CanCopy m (place ∷ []) nesting canonical next room
  pub is : IsObject m place object

-- A copy is in progress: what the object's own pointers point to can still be copied, and then the
-- copy is complete.
pub record BeginsCopy (m : List (List ℕ)) (place : Place) (at : List Place) (slots : List ℕ) (nesting : ℕ) (canonical : Bool) (gap next following : ℕ)
    (old mid : List ℕ) (pointer : ℕ) : Type 0 where
  pub there : CanCopy m at (nesting - 1) canonical following (length mid)
  pub ends : (new : List ℕ) (free : ℕ) → CopiesAll m at canonical slots following mid new free
      → Copies m place canonical gap next old new (record { pointer = pointer; next = free })

-- The copy of an object is in progress, and its pointers are left.
pub record BeginsObject (m : List (List ℕ)) (place : Place) (nesting : ℕ) (canonical : Bool) (gap next : ℕ) (old mid : List ℕ) (begun : PendingCopy) : Type 0 where
  pub begins : BeginsCopy m place (kept_in begun.object.start begun.object.body (section_sizes begun.body).pointers) (slots_of next begun.body) nesting canonical gap next
      (next + words_in begun.body) old mid begun.pointer
  pub content : slice_get m begun.object.start.segment ≡ Some (words_of begun.object.segment.now)
  pub narrower : IsNarrower begun.object.body begun.body
  pub room : begun.object.start.word + room_of begun.object.body ≤ length begun.object.segment.now / 8
  pub elements : words_in begun.object.body ≤ room_of begun.object.body
  pub deep : 0 < nesting

-- The copy of an object whose pointers are consecutive, in the object and in the copy, is in
-- progress.
pub record BeginsRun (m : List (List ℕ)) (place : Place) (words : List ℕ) (nesting : ℕ) (canonical : Bool) (gap next : ℕ) (old mid : List ℕ) (left : PendingPointers) : Type 0 where
  pub begins : BeginsCopy m place (places left.first.segment left.first.word left.count) (run left.slot left.count) nesting canonical gap next left.next old mid left.pointer
  pub content : slice_get m left.first.segment ≡ Some words
  pub bound : left.first.word + left.count < 2 ^ 61
  pub before : left.slot + left.count ≤ left.next

-- a struct is copied, or its copy is in progress
abbrev pub BeginsStruct : List (List ℕ) → Place → List ℕ → ℕ → Bool → ℕ → ℕ → List ℕ → List ℕ → StructCopy → Type 0
BeginsStruct m place words nesting canonical gap next old new (Whole copied) = Copies m place canonical gap next old new copied
BeginsStruct m place words nesting canonical gap next old new (Pending left) = BeginsRun m place words nesting canonical gap next old new left
