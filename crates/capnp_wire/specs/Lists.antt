-- What iterators over lists that are read return (src/list_iter.rt).
use Rattle.std.specs.Prelude.{◌≡◌, ℕ, ◌-◌, ◌<◌, ◌≤◌, ◌^◌, List, Option, None, MatchOption, IsSomeAnd, length, map}
use Rattle.std.specs.List.{range_with_len}
use Rattle.capnp_wire.specs.Views.{Struct}
use Rattle.capnp_wire.specs.ListViews.{StructList, element_of}
use Rattle.capnp_wire.specs.declared.list_into_iter.ListIntoIter.{ListIntoIter}
use Rattle.capnp_wire.specs.declared.list_iter.ListIter.{ListIter}

-- an iterator over a list, which begins with the first element
abbrev pub IsIterator : {L : Type 0} → L → ListIter L → Type 0
IsIterator list elements = (elements.list.now ≡ list) × (elements.index ≡ 0)

-- the same, and how many elements the list has fits its `len`, a `u32`: so an index of them, and a count, can't overflow
abbrev pub IteratesOver : {L : Type 0} → ℕ → L → ListIter L → Type 0
IteratesOver size list elements = IsIterator list elements × (size < 2 ^ 32)

-- the elements that an iterator has left: those from the next index on
abbrev pub elements_left : {L E : Type 0} → (L → ℕ) → (L → ℕ → E) → ListIter L → List E
elements_left size element elements =
    map (element elements.list.now) (range_with_len elements.index (size elements.list.now - elements.index))

-- an iterator that owns its list begins with the first element, and how many the list has fits its `len`
abbrev pub IsIntoIter : {L : Type 0} → ℕ → L → ListIntoIter L → Type 0
IsIntoIter size list elements = (elements.list ≡ list) × (elements.index ≡ 0) × (size < 2 ^ 32)

-- the elements that it has left: from the next index on
abbrev pub owned_left : {L E : Type 0} → (L → ℕ) → (L → ℕ → E) → ListIntoIter L → List E
owned_left size element elements =
    map (element elements.list) (range_with_len elements.index (size elements.list - elements.index))

-- the elements of a list of structs, from the first to the last
abbrev pub all_structs : StructList → List Struct
all_structs list = map (element_of list) (range_with_len 0 (length list.elements))

-- the element at an index is found, where a list of this size has one there
abbrev pub FindsElement : {A : Type 0} → ℕ → ℕ → (A → Type 0) → Option A → Type 0
FindsElement size index element result = MatchOption result (size ≤ index) (λ item. (index < size) × element item)

-- the pointer at the next index is read, and a view of what it points to is returned
abbrev pub YieldsView : {I P V : Type 0} → (I → Option P → I → Type 0) → (P → V → Type 0) → I → Option V → I → Type 0
YieldsView {P = P} yields shows old result new =
    (pointer : Option P) × yields old pointer new
    × MatchOption pointer (result ≡ None) (λ reader. IsSomeAnd result (shows reader))
