-- Trees that are read from a message have room for their fields: sizes, counts and elements are below the bounds
-- of their bits.
use Rattle.std.proofs.lemmas.List.Elements.{All-nil, All-cons, All-take, All-drop}
use Rattle.std.proofs.lemmas.Option.{slice_get_within, get_or_from_slice_get}
use Rattle.std.proofs.lemmas.Nat.{pow_pos}
use Rattle.std.proofs.Common.{◌≡◌, ℕ, zero, suc, ◌+◌, ◌*◌, ◌/◌, ◌%◌, ◌^◌, ◌<◌, ◌≤◌, List, [], ◌∷◌, length, drop, Option, Some, None, slice_get, refl, sym, ap, subst, arith, length-take}
use Rattle.std.proofs.Common.{length-drop, length-append}
use Rattle.std.specs.Prelude.{All, option_and_then}
use Rattle.capnp_layout.specs.Prelude.{digits, number_of, words_from, offset, data_words, pointer_words, code, list_count, width, words_for, word_at, Lands, Target, local, far, double_far, landing_pad, landing_pad_tag, Shape, ShapeIsAt, elements_from, places, pointer_places, a_struct, some_numbers, some_pointers, some_structs, PointsTo, is_null, is_object, At, nowhere, at, HasRoom, AllWords, AllHaveRoom, Trees}
use Rattle.capnp_layout.specs.declared.place.Place.{Place}
use Rattle.capnp_layout.proofs.words.DigitsToNumberAndBackLemmas.{length-digits}
use Rattle.capnp_layout.proofs.objects.SectionWordByIndexLemmas.{length-places}
use Rattle.capnp_layout.proofs.trees.TraversalLimitCountLemmas.{count_at}

pub length-pointer_places : (segment start d p n : ℕ) → length (pointer_places segment start d p n) ≡ n * p
length-pointer_places segment start d p zero = omega arith
length-pointer_places segment start d p (suc n) =
    omega (arith, length-append (places segment (start + d) p) (pointer_places segment (start + d + p) d p n), length-places segment (start + d) p, length-pointer_places segment (start + d + p) d p n)

pub length-elements_from : (words : List ℕ) (start d p n : ℕ) → length (elements_from words start d p n) ≡ n
length-elements_from words start d p zero = refl
length-elements_from words start d p (suc n) = ap (λ (k : ℕ). suc k) (length-elements_from words (start + d + p) d p n)

all_get : {X : Type 0} (P : X → Type 0) (xs : List X) (i : ℕ) (x : X) → All P xs → slice_get xs i ≡ Some x → P x
all_get P xs i x all there = subst P (get_or_from_slice_get xs i x x there) (all i x (slice_get_within xs i x there))

in_segment : (segment : Option (List ℕ)) (k word : ℕ) → ((words : List ℕ) → segment ≡ Some words → All (λ w. w < 2 ^ 64) words)
    → option_and_then (λ words. slice_get words k) segment ≡ Some word → word < 2 ^ 64
in_segment None k word all there = absurd (cc)
in_segment (Some words) k word all there = all_get (λ w. w < 2 ^ 64) words k word (all words refl) there

word_below : (m : List (List ℕ)) (place : Place) (word : ℕ) → AllWords m → word_at m place ≡ Some word → word < 2 ^ 64
word_below m place word all there =
    in_segment (slice_get m place.segment) place.word word (λ words is. all_get (λ (words : List ℕ). All (λ w. w < 2 ^ 64) words) m place.segment words all is) there

pub digits_below : (base n x : ℕ) → 0 < base → All (λ d. d < base) (digits base n x)
digits_below base zero x positive = All-nil (λ d. d < base)
digits_below base (suc n) x positive = All-cons (λ d. d < base) (x % base) (digits base n (x / base)) (omega arith) (digits_below base n (x / base) positive)

pub words_from_below : (words : List ℕ) (start n : ℕ) → All (λ w. w < 2 ^ 64) words → All (λ w. w < 2 ^ 64) (words_from words start n)
words_from_below words start n all = All-take (λ w. w < 2 ^ 64) n (drop start words) (All-drop (λ w. w < 2 ^ 64) start words all)

pub elements_below : (words : List ℕ) (start d p n : ℕ) → start + n * (d + p) ≤ length words → All (λ w. w < 2 ^ 64) words
    → All (λ element. (length element ≡ d) × All (λ w. w < 2 ^ 64) element) (elements_from words start d p n)
elements_below words start d p zero room all = All-nil (λ element. (length element ≡ d) × All (λ w. w < 2 ^ 64) element)
elements_below words start d p (suc n) room all =
    let split : suc n * (d + p) ≡ (d + p) + n * (d + p) = omega arith in
    let wide : length (words_from words start d) ≡ d = omega (arith, length-take d (drop start words), length-drop start words) in
    All-cons (λ element. (length element ≡ d) × All (λ w. w < 2 ^ 64) element) (words_from words start d) (elements_from words (start + d + p) d p n) (wide, words_from_below words start d all)
    (elements_below words (start + d + p) d p n (omega arith) all)

pub room_of_shape : (words : List ℕ) (start : Place) (tag : ℕ) (shape : Shape) → tag < 2 ^ 64 → All (λ w. w < 2 ^ 64) words → ShapeIsAt words start tag shape → HasRoom shape.form (length shape.children)
room_of_shape words start tag shape small all (a_struct k room) =
    let d : ℕ = data_words tag in (
      omega (arith, length-take (data_words tag) (drop start.word words)),
      omega (
        arith,
        length-places start.segment (start.word + data_words tag)
            (pointer_words tag),
      ),
      words_from_below words start.word (data_words tag) all,
    )
room_of_shape words start tag shape small all (some_numbers k c room) = (
  c,
  omega (arith, length-digits (2 ^ width (code tag)) (list_count tag) (number_of (2 ^ 64) (words_from words start.word (words_for (list_count tag) (width (code tag)))))),
  refl,
  digits_below (2 ^ width (code tag)) (list_count tag) (number_of (2 ^ 64) (words_from words start.word (words_for (list_count tag) (width (code tag))))) (pow_pos (width (code tag))),
)
room_of_shape words start tag shape small all (some_pointers k c room) = omega (arith, length-places start.segment start.word (list_count tag))
room_of_shape words start tag shape small all (some_structs {tag = inner} k c room there l fits) =
    let below : inner < 2 ^ 64 = all_get (λ w. w < 2 ^ 64) words start.word inner all there in
    let many : length (elements_from words (start.word + 1) (data_words inner) (pointer_words inner) (offset inner)) ≡ offset inner = length-elements_from words (start.word + 1) (data_words inner)
    (pointer_words inner) (offset inner) in
    let places_many : length (pointer_places start.segment (start.word + 1) (data_words inner) (pointer_words inner) (offset inner)) ≡ offset inner * pointer_words inner =
    length-pointer_places start.segment (start.word + 1) (data_words inner) (pointer_words inner) (offset inner) in
    let few : list_count tag < 2 ^ 29 = omega arith in (
      omega arith,
      omega arith,
      rw many (omega arith),
      rw many (omega arith),
      rw many places_many,
      elements_below words (start.word + 1) (data_words inner) (pointer_words inner) (offset inner) (omega arith) all,
    )

tag_below : (m : List (List ℕ)) (place : Place) (landing : Target) → AllWords m → Lands m place landing → landing.tag < 2 ^ 64
tag_below m place landing all (local {word = w} e p k) = word_below m place w all e
tag_below m place landing all (far {word = w} {tag = tag} e f p k) = word_below m (landing_pad w) tag all p
tag_below m place landing all (double_far {word = w} {tag = tag} e f p g q there k) = word_below m (landing_pad_tag w) tag all q

pub object_room : (m : List (List ℕ)) (place : Place) (shape : Shape) → AllWords m → PointsTo m place shape → HasRoom shape.form (length shape.children)
object_room m place shape all (is_null e) = refl
object_room m place shape all (is_object {landing = l} {words = words} {start = start} {shape = s} lands e begins is_at) =
    room_of_shape words (record { segment = l.segment; word = start }) l.tag s (tag_below m place l all lands) (all_get (λ (words : List ℕ). All (λ w. w < 2 ^ 64) words) m l.segment words all e) is_at

pub read_has_room : (m : List (List ℕ)) (places : List Place) (trees : Trees) (traversed : ℕ) → AllWords m → At m places trees traversed → AllHaveRoom trees
read_has_room m places trees traversed all nowhere = tt
read_has_room m places trees traversed all (at {place = place} {others = others} {shape = s} {children = children} {rest = rest} {inside = i} {following = b} object inner after) =
    (subst (λ (n : ℕ). HasRoom s.form n) (sym (count_at m s.children children i inner)) (object_room m place s all object), read_has_room m s.children children i all inner, read_has_room m others rest b all after)

pub one_segment : (segment : List ℕ) → All (λ w. w < 2 ^ 64) segment → AllWords (segment ∷ [])
one_segment segment all = All-cons (λ (words : List ℕ). All (λ w. w < 2 ^ 64) words) segment [] all (All-nil (λ (words : List ℕ). All (λ w. w < 2 ^ 64) words))
