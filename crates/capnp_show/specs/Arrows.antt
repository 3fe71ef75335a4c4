-- Where the cells of a drawing are, and the arrows between them, in pixels (src/arrows.rt). There are four
-- cells of 132 by 26 in a row, right of the row's number. The gaps between columns are 40 wide, the ones
-- between rows 14 high.
use Rattle.std.specs.Prelude.{◌≡◌, ◌⊎◌, ◌==◌, if◌then◌else◌, ℕ, ◌+◌, ◌-◌, ◌*◌, ◌/◌, ◌%◌, ◌^◌, min, List, [], ◌∷◌, ◌++◌, length, Vec, Some, None, slice_get, codes}
use Rattle.capnp_layout.specs.declared.place.Place.{Place}
use Rattle.capnp_show.specs.declared.arrows.Corner.{Corner}
use Rattle.capnp_show.specs.declared.arrows.Grid.{Grid}
use Rattle.capnp_show.specs.declared.owners.Owners.{Owners}
use Rattle.capnp_show.specs.declared.owners.Word.{Word}
use Rattle.capnp_show.specs.declared.owners.Lead.TheVariants.{Object}
use Rattle.capnp_show.specs.Words.{IsDrawnAsPointer, word_in}
use Rattle.capnp_show.specs.Output.{with_number}

-- the sum of two sizes, at most the largest number
abbrev pub plus : ℕ → ℕ → ℕ
plus a b = min (a + b) (2 ^ 64 - 1)

-- the height of the part of a drawing that a segment of some words has: of its heading, and of its rows
abbrev pub height_of : ℕ → ℕ
height_of words = plus (min ((words + 3) / 4 * 40) (2 ^ 64 - 1)) 48

-- the tops of the first rows of segments, one below the other, and the height of all
pub data AreTops {Z : Type 0} : List (Vec Word Z) → List ℕ → ℕ → Type 0 where
  none_drawn : AreTops [] [] 0
  one_drawn : (segments : List (Vec Word Z)) (tops : List ℕ) (height : ℕ) (words : Vec Word Z) → AreTops segments tops height
      → AreTops (segments ++ words ∷ []) (tops ++ plus height 48 ∷ []) (plus height (height_of (length words.items)))

-- the cell of the word at a place begins there
pub record IsCorner (grid : Grid) (place : Place) (corner : Corner) : Type 0 where
  pub first : ℕ
  -- the top of its segment's first row
  pub first_is : slice_get grid.tops.items place.segment ≡ Some first
  pub left : corner.left ≡ 84 + place.word % 4 * 172
  pub top : corner.top ≡ plus first (min (place.word / 4 * 40) (2 ^ 64 - 1))

-- the words of the arrow from a cell, up to where it turns
abbrev pub arrow_front : ℕ → Corner → List ℕ
arrow_front number from = with_number (codes "<path class=\"c") (number % 9)
    ++ (with_number (codes "\" d=\"M") (plus from.left 132) ++ with_number (codes " ") (plus from.top 13))

-- its turns in the gaps, where arrows next to each other are three pixels apart. In the gap after a column
-- the row where they begin chooses one of eight lanes; in the gap above a row, the column where they end
-- does.
abbrev pub turns_of : Corner → Corner → List ℕ
turns_of from to = with_number (codes "H") (plus (plus from.left 132) (4 + from.top / 40 % 8 * 3))
    ++ (with_number (codes "V") (to.top - (3 + to.left / 172 % 4 * 3)) ++ (with_number (codes "H") (to.left - 9) ++ with_number (codes "V") (plus to.top 13)))

-- and its head
abbrev pub arrow_head : Corner → List ℕ
arrow_head to = with_number (codes "H") (to.left - 2) ++ codes "m-5 -3l5 3l-5 3\"/>"

-- the turns of an arrow; an arrow to the next cell of its row has none
abbrev pub turns_between : Corner → Corner → List ℕ
turns_between from to =
    if from.top == to.top then (if to.left == plus (plus from.left 132) 40 then [] else turns_of from to) else turns_of from to

-- the arrow to the object of a number, from one cell to another
abbrev pub arrow_of : ℕ → Corner → Corner → List ℕ
arrow_of number from to = arrow_front number from ++ (turns_between from to ++ arrow_head to)

-- The arrow of the word at a place is added.
pub record AddsArrowOf (grid : Grid) (place : Place) (word : Word) (old new : List ℕ) : Type 0 where
  pub number : ℕ
  pub start : Place
  pub leads : word.lead ≡ Object number start
  pub from : Corner
  pub to : Corner
  pub from_is : IsCorner grid place from
  pub to_is : IsCorner grid start to
  pub adds : new ≡ old ++ arrow_of number from to

-- there is none: the word is not drawn as a pointer or leads to no object, or one of the two cells is not there
abbrev pub HasNoArrow : Grid → Owners → Place → Word → Type 0
HasNoArrow grid owners place word = (number : ℕ) (start : Place) → IsDrawnAsPointer word.owner → word.lead ≡ Object number start
    → (word_in owners start ≡ None) ⊎ (slice_get grid.tops.items place.segment ≡ None) ⊎ (slice_get grid.tops.items start.segment ≡ None)

-- the sizes, as the style names them
abbrev pub sizes_rule : List ℕ
sizes_rule = with_number (codes ":root { --number-width: ") 44 ++ (with_number (codes "px; --cell-width: ") 132
    ++ (with_number (codes "px; --cell-height: ") 26 ++ (with_number (codes "px; --column-gap: ") 40
    ++ (with_number (codes "px; --row-gap: ") 14 ++ (with_number (codes "px; --heading-height: ") 34
    ++ (with_number (codes "px; --drawing-width: ") 772 ++ codes "px; }\n"))))))
