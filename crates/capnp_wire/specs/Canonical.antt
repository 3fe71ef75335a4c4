-- What a walk tests of a segment that is in canonical form.
use Rattle.std.specs.Prelude.{◌≡◌, ℕ, zero, suc, Option, None, ◌+◌, ◌-◌, ◌^◌, ◌<◌, ◌↔◌, All, List, [], ◌∷◌, length, Some, slice_get}
use Rattle.capnp_layout.specs.Prelude.{digits, number_of, words_from, width, words_for, Form, null, numbers, Trees, none, tree, count, object_size, total_words, trim, Root, pointer, slots, canon, Reaches, AllReach, placed, Trimmed}
use Rattle.capnp_layout.specs.declared.place.Place.{Place}

-- the padding of a list that starts at a word is zero
abbrev pub Padded : List ℕ → ℕ → Form → Type 0
Padded segment start (numbers c values) =
    words_from segment start (words_for (length values) (width c)) ≡ digits (2 ^ 64) (words_for (length values) (width c)) (number_of (2 ^ width c) values)
Padded segment start form = Unit {0}

-- The trees at places, the first one's body at `next`: each pointer word is as in a layout, and so
-- points to the next free word.
abbrev pub IsInPreorder : List ℕ → List Place → ℕ → Trees → Type 0
IsInPreorder segment places next none = Unit {0}
IsInPreorder segment [] next (tree form children rest) = Unit {0}
IsInPreorder segment (place ∷ others) next (tree form children rest) =
    (slice_get segment place.word ≡ Some (pointer form (count children) (next - (place.word + 1)))) × Reaches form (count children) (next - (place.word + 1))
    × Padded segment next form
    × IsInPreorder segment (placed 0 next (slots form (count children))) (next + object_size form (count children)) children
    × IsInPreorder segment others (next + object_size form (count children) + total_words children) rest

-- a segment is the canonical form of a tree, where every offset has room
abbrev pub IsCanon : List ℕ → Form → Trees → Type 0
IsCanon segment form children = (segment ≡ canon (tree form children none)) × AllReach (0 ∷ []) 1 (trim (tree form children none))

-- a message is one segment, which is the canonical form of its root
abbrev pub IsCanonical : List (List ℕ) → Type 0
IsCanonical m =
    (segment : List ℕ) × (m ≡ segment ∷ []) × (form : Form) × (children : Trees) × (traversed : ℕ) × Root m form children traversed × IsCanon segment form children

-- for a message of one segment whose root can be read, the tests decide whether it is canonical
abbrev pub TestsAreExact : Type 0
TestsAreExact =
    (segment : List ℕ) (form : Form) (children : Trees) (traversed : ℕ) → All (λ w. w < 2 ^ 64) segment → Root (segment ∷ []) form children traversed
    → (IsInPreorder segment (record { segment = 0; word = 0 } ∷ []) 1 (tree form children none) × Trimmed (tree form children none) × (length segment ≡ 1 + total_words (tree form children none)))
    ↔ IsCanonical (segment ∷ [])

-- the last of some words is not zero
abbrev pub EndsFull : List ℕ → Type 0
EndsFull words = (k : ℕ) → length words ≡ k + 1 → slice_get words k ≡ Some 0 → ⊥

-- the form of the k-th of some trees; the last is not null
abbrev pub nth_form : Trees → ℕ → Option Form
nth_form none k = None
nth_form (tree form children rest) zero = Some form
nth_form (tree form children rest) (suc k) = nth_form rest k

abbrev pub EndsSome : Trees → Type 0
EndsSome trees = (k : ℕ) → count trees ≡ k + 1 → nth_form trees k ≡ Some null → ⊥
