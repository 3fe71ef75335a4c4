-- How many words trees have, untrimmed or in canonical form: the words of each object and of its children. Null
-- trees at an end, cut or not, add none.
use Rattle.std.proofs.Common.{◌≡◌, ℕ, suc, ◌+◌, ◌*◌, ◌<◌, ◌≤◌, Bool, true, false, List, [], ◌∷◌, length, map, take, Some, slice_get, refl, sym, ◌∙◌, ap, subst, arith}
use Rattle.std.proofs.lemmas.List.{length-map}
use Rattle.capnp_layout.specs.Prelude.{words_of, words_from, Form, null, struct, numbers, pointers, structs, Trees, none, tree, count, object_size, total_words, first, following, before, keep_tree, cut_zeros, cut_nulls, least_data, least_pointers, narrowed, trim, Shape, places, pointer_places, elements_from, IsObject, shape_of, room_of, words_in, At, output, HasRoom, AllHaveRoom, most_used, output_body_of}
use Rattle.capnp_layout.specs.declared.place.Place.{Place}
use Rattle.capnp_layout.specs.declared.object.Body.{Body}
use Rattle.capnp_layout.specs.declared.object.Body.TheVariants.{Struct, Numbers, Pointers, Structs}
use Rattle.capnp_layout.specs.declared.object.Object.{Object as ReadObject}
use Rattle.capnp_layout.proofs.words.WordsOfBytesLemmas.{length-words_of}
use Rattle.capnp_layout.proofs.trees.TraversalLimitCountLemmas.{count_at}
use Rattle.capnp_layout.proofs.trees.TreePartsSizeAndPropertiesLemmas.{cut-first, count-following, total-before, total-chunks}
use Rattle.capnp_layout.proofs.trees.KeptTreesPlacedNoDeeperLemmas.{rooms_first, rooms_after, long_places}
use Rattle.capnp_layout.proofs.trees.TrimmedSectionSizeFromWordsLemmas.{used_where_some, least_data_is, least_pointers_are}
use Rattle.capnp_layout.proofs.trees.TrimCommutesWithPartsLemmas.{trim_before, count_cut_trim}
use Rattle.capnp_layout.proofs.trees.ReadTreeSizesAndWordsBoundedLemmas.{length-elements_from, length-pointer_places}
use Rattle.capnp_layout.proofs.trees.TrimIdempotenceAndSizeLemmas.{count-trim, room_trim}
use Rattle.capnp_layout.proofs.objects.ReadObjectSizeFromShapeLemmas.{own_words_are}

-- the words of an object alone: with the words of the trees below it they are the words of the whole
pub record OwnOf (m : List (List ℕ)) (c : Bool) (shape : Shape) (own : ℕ) : Type 0 where
  pub counts : (children : Trees) (inside : ℕ) → At m shape.children children inside → AllHaveRoom children → own + total_words (output c children) ≡ total_words (output c (tree shape.form children none))
  pub room : HasRoom shape.form (length shape.children)

pub none_is : (c : Bool) → total_words (output c none) ≡ 0
none_is true = refl
none_is false = refl

pub output_both : (c : Bool) (a b : Trees) → total_words (output c (before a b)) ≡ total_words (output c a) + total_words (output c b)
output_both true a b = ap total_words (trim_before a b) ∙ total-before (trim a) (trim b)
output_both false a b = total-before a b

pub rooms_both : (a b : Trees) → AllHaveRoom a → AllHaveRoom b → AllHaveRoom (before a b)
rooms_both none b p q = q
rooms_both (tree form children rest) b p q = (p.0, p.1, rooms_both rest b p.2 q)

pub null_total : (c : Bool) → total_words (output c (tree null none none)) ≡ 0
null_total true = refl
null_total false = refl

-- what is cut has no words
pub keep_total : (rest : Trees) (form : Form) (children : Trees) → HasRoom form (count children) → total_words (keep_tree rest form children) ≡ object_size form (count children) + total_words children + total_words rest
keep_total (tree f h r) form children room = refl
keep_total none null none room = refl
keep_total none null (tree f h r) room = absurd (omega (arith, room))
keep_total none (struct words) children room = refl
keep_total none (numbers c values) children room = refl
keep_total none pointers children room = refl
keep_total none (structs d p elements) children room = refl

pub total_cut : (t : Trees) → AllHaveRoom t → total_words (cut_nulls t) ≡ total_words t
total_cut none rooms = refl
total_cut (tree form children rest) rooms = keep_total (cut_nulls rest) form children rooms.0 ∙ omega (arith, total_cut rest rooms.2)

pub total_first : (q : ℕ) (t : Trees) → AllHaveRoom t → count (cut_nulls t) ≤ q → total_words (first q t) ≡ total_words t
total_first q t rooms le =
    sym (total_cut (first q t) (rooms_first q t rooms)) ∙ ap total_words (cut-first q t le) ∙ total_cut t rooms

pub total_narrowed : (q p : ℕ) (elements : List (List ℕ)) (t : Trees) → AllHaveRoom t → count t ≡ length elements * p → least_pointers p elements t ≤ q → total_words (narrowed q p elements t) ≡ total_words t
total_narrowed q p [] none rooms long le = refl
total_narrowed q p [] (tree form children rest) rooms long le = absurd (omega arith)
total_narrowed q p (element ∷ elements) t rooms long le =
    let split : suc (length elements) * p ≡ p + length elements * p = omega arith in
    let own = total_first q (first p t) (rooms_first p t rooms) (omega arith) in
    let rest = total_narrowed q p elements (following p t) (rooms_after p t rooms) (omega (arith, count-following p t (omega arith))) (omega arith) in
    omega (arith, total-before (first q (first p t)) (narrowed q p elements (following p t)), total-chunks p t, own, rest)

-- an object's own words, in each form
pub struct_total : (m : List (List ℕ)) (words : List ℕ) (segment start d p : ℕ) (children : Trees) (inside : ℕ) → (0 < p → slice_get m segment ≡ Some words)
    → At m (places segment (start + d) p) children inside → AllHaveRoom (trim children)
    → most_used words start d (d + p) 1 + most_used words (start + d) p (d + p) 1 + total_words (trim children) ≡ total_words (trim (tree (struct (words_from words start d)) children none))
struct_total m words segment start d p children inside there are_at rooms =
    let q_is : count (cut_nulls (trim children)) ≡ length (cut_zeros (words_from words (start + d) p)) = count_cut_trim children ∙ used_where_some m words segment (start + d) p children inside there are_at in
    omega (arith, q_is, total_cut (trim children) rooms)

pub structs_total : (m : List (List ℕ)) (words : List ℕ) (segment start d p n : ℕ) (children : Trees) (inside : ℕ) → (0 < p → slice_get m segment ≡ Some words) → At m (pointer_places segment start d p n) children inside
    → AllHaveRoom (trim children)
    → 1 + n * (most_used words start d (d + p) n + most_used words (start + d) p (d + p) n) + total_words (trim children) ≡ total_words (trim (tree (structs d p (elements_from words start d p n)) children none))
structs_total m words segment start d p n children inside there are_at rooms =
    let elements : List (List ℕ) = elements_from words start d p n in
    let long : length (elements_from words start d p n) ≡ n = length-elements_from words start d p n in
    let all_are_at : At m (pointer_places segment start d p (length (elements_from words start d p n))) children inside = subst (λ (k : ℕ). At m (pointer_places segment start d p k) children inside) (sym long) are_at in
    let data_is : least_data (elements_from words start d p n) ≡ most_used words start d (d + p) n = least_data_is words start d p n in
    let pointers_is : least_pointers p (elements_from words start d p n) (trim children) ≡ most_used words (start + d) p (d + p) n =
    least_pointers_are m words segment start d p (elements_from words start d p n) children inside there all_are_at ∙ ap (most_used words (start + d) p (d + p)) long in
    let elements_long : length (map (take (least_data (elements_from words start d p n))) (elements_from words start d p n)) ≡ n = length-map (elements_from words start d p n) (take (least_data
    (elements_from words start d p n))) ∙ long in
    let many : count (trim children) ≡ length (elements_from words start d p n) * p =
    count-trim children ∙ count_at m (pointer_places segment start d p n) children inside are_at ∙ length-pointer_places segment start d p n ∙ ap (λ (k : ℕ). k * p) (sym long) in
    let same = total_narrowed (least_pointers p (elements_from words start d p n) (trim children)) p (elements_from words start d p n) (trim children) rooms many (omega arith) in
    sym (ap (λ (k : ℕ). 1 + k * (least_data (elements_from words start d p n) + least_pointers p (elements_from words start d p n) (trim children)) + total_words (narrowed (least_pointers p
    (elements_from words start d p n) (trim children)) p (elements_from words start d p n) (trim children)) + 0) elements_long
    ∙ ap (λ (k : ℕ). 1 + n * (k + least_pointers p (elements_from words start d p n) (trim children)) + total_words (narrowed (least_pointers p (elements_from words start d p n) (trim children)) p
    (elements_from words start d p n) (trim children)) + 0) data_is
    ∙ ap (λ (k : ℕ). 1 + n * (most_used words start d (d + p) n + k) + total_words (narrowed (least_pointers p (elements_from words start d p n) (trim children)) p (elements_from words start d p n)
    (trim children)) + 0) pointers_is
    ∙ omega (arith, same))

body_total : (m : List (List ℕ)) (words : List ℕ) (start : Place) (there : Body) (c : Bool) (children : Trees) (inside : ℕ) → slice_get m start.segment ≡ Some words
    → start.word + room_of there ≤ length words → At m (shape_of words start there).children children inside → AllHaveRoom (trim children)
    → words_in (output_body_of c words start.word there) + total_words (output c children) ≡ total_words (output c (tree (shape_of words start there).form children none))
body_total m words start there false children inside here room are_at rooms =
    let own = own_words_are words start there room in
    let many = count_at m (shape_of words start there).children children inside are_at in
    omega (arith, own, ap (object_size (shape_of words start there).form) many)
body_total m words start (Struct size) true children inside here room are_at rooms = struct_total m words start.segment start.word size.data_words size.pointers children inside (λ some. here) are_at rooms
body_total m words start (Numbers size n) true children inside here room are_at rooms = omega (arith, own_words_are words start (Numbers size n) room)
body_total m words start (Pointers n) true children inside here room are_at rooms =
    let many : count (trim children) ≡ n = count-trim children ∙ count_at m (places start.segment start.word n) children inside are_at ∙ long_places start.segment start.word n in
    omega (arith, many)
body_total m words start (Structs elements following) true children inside here room are_at rooms =
    structs_total m words start.segment (start.word + 1) elements.size.data_words elements.size.pointers elements.count children inside (λ some. here) are_at rooms

pub own_output : (m : List (List ℕ)) (object : ReadObject) (place : Place) (c : Bool) → IsObject m place object
    → OwnOf m c (record (shape_of (words_of object.segment.now) object.start object.body) { traversed = object.traversed }) (words_in (output_body_of c
    (words_of object.segment.now) object.start.word object.body))
own_output m object place c is = record {
  counts = λ children inside are_at rooms.
      body_total m (words_of object.segment.now) object.start object.body c children inside is.content (omega (arith, is.room, length-words_of object.segment.now)) are_at (room_trim children rooms);
  room = is.has_room;
}
