-- The pointers of an object, section by section: each pointer section comes after its data section
-- (src/pointer_slots.rt).
use Rattle.std.specs.Prelude.{◌≡◌, ℕ, zero, suc, ◌+◌, ◌*◌, List, [], ◌∷◌, ◌++◌}
use Rattle.capnp_layout.specs.Object.{places, pointer_places}
use Rattle.capnp_layout.specs.Layout.{run}
use Rattle.capnp_layout.specs.declared.place.Place.{Place}
use Rattle.capnp_layout.specs.declared.pointer_slots.PointerSlots.{PointerSlots}
use Rattle.capnp_layout.specs.declared.pointer_slots.SectionSizes.{SectionSizes}
use Rattle.capnp_layout.specs.declared.object.Body.{Body}
use Rattle.capnp_layout.specs.declared.object.Body.TheVariants.{Struct, Numbers, Pointers, Structs}

-- the words of each data section and pointer section of an object, how many pointer sections it has, and
-- the word of its first section
abbrev pub section_sizes : Body → SectionSizes
section_sizes (Struct size) = record { data_words = size.data_words; pointers = size.pointers }
section_sizes (Numbers size n) = record { data_words = 0; pointers = 0 }
section_sizes (Pointers n) = record { data_words = 0; pointers = n }
section_sizes (Structs elements following) = record { data_words = elements.size.data_words; pointers = elements.size.pointers }

abbrev pub section_count : Body → ℕ
section_count (Struct size) = 1
section_count (Numbers size n) = 0
section_count (Pointers n) = 1
section_count (Structs elements following) = elements.count

abbrev pub first_section : Body → ℕ → ℕ
first_section (Struct size) start = start
first_section (Numbers size n) start = start
first_section (Pointers n) start = start
first_section (Structs elements following) start = start + 1

-- the places of the first q of p pointers in each of n sections
abbrev pub kept_places : ℕ → ℕ → ℕ → ℕ → ℕ → ℕ → List Place
kept_places segment start d p q zero = []
kept_places segment start d p q (suc n) = places segment (start + d) q ++ kept_places segment (start + d + p) d p q n

-- the words of all p pointers in each of n sections
abbrev pub section_slots : ℕ → ℕ → ℕ → ℕ → List ℕ
section_slots slot d p zero = []
section_slots slot d p (suc n) = run (slot + d) p ++ section_slots (slot + d + p) d p n

-- the first q pointers in each pointer section of an object that begins at a place
abbrev pub kept_in : Place → Body → ℕ → List Place
kept_in start body q =
    kept_places start.segment (first_section body start.word) (section_sizes body).data_words (section_sizes body).pointers q (section_count body)

-- where the pointers of an object are in a block, if it begins at this word of the block
abbrev pub slots_of : ℕ → Body → List ℕ
slots_of start body = section_slots (first_section body start) (section_sizes body).data_words (section_sizes body).pointers (section_count body)

-- the segment of the pointers that are left, their places, their words, and the word after the last one
abbrev pub segment_of : PointerSlots → ℕ
segment_of slots = slots.next.segment

abbrev pub places_in : PointerSlots → List Place
places_in slots =
    places slots.next.segment slots.next.word slots.here
    ++ pointer_places slots.next.segment (slots.next.word + slots.here) slots.gap slots.pointers slots.more

abbrev pub slots_in : PointerSlots → List ℕ
slots_in slots = run slots.next.word slots.here ++ section_slots (slots.next.word + slots.here) slots.gap slots.pointers slots.more

abbrev pub end_of : PointerSlots → ℕ
end_of slots = slots.next.word + slots.here + slots.more * (slots.gap + slots.pointers)

-- the first of the pointers that are left is taken
pub record TakesSlot (old new : PointerSlots) (place : Place) : Type 0 where
  pub places_are : places_in old ≡ place ∷ places_in new
  pub slots_are : slots_in old ≡ place.word ∷ slots_in new
  pub same_end : end_of new ≡ end_of old
