-- Trimming trees a second time changes nothing. Trimmed trees are as many, have room for their fields, and have no
-- more words.
use Rattle.std.proofs.lemmas.List.Elements.{All-map, All-take}
use Rattle.std.proofs.Math.Nat.{mul-le-mul_left}
use Rattle.std.proofs.lemmas.List.{length-map}
use Rattle.std.proofs.Common.{◌≡◌, ℕ, ◌+◌, ◌*◌, ◌^◌, ◌<◌, ◌≤◌, length, map, take, refl, sym, ap, subst, arith, length-take}
use Rattle.std.specs.Prelude.{All, slice_index_or}
use Rattle.capnp_layout.specs.Prelude.{Form, null, struct, numbers, pointers, structs, Trees, none, tree, count, cut_nulls, least_data, least_pointers, narrowed, trim_form, trim_children, trim, object_size, total_words, HasRoom, AllHaveRoom, Trimmed}
use Rattle.capnp_layout.proofs.pointers.LayoutSlotPointersAndPlacesLemmas.{AllOf}
use Rattle.capnp_layout.proofs.layouts.LayoutSizeLemmas.{elements_even}
use Rattle.capnp_layout.proofs.words.TrailingZeroRemovalIdempotenceLemmas.{length-cut_zeros, all_cut, least_data_within, least_data-take, take-elements}
use Rattle.capnp_layout.proofs.words.TrailingZeroRemovalIdempotenceLemmas as words
use Rattle.capnp_layout.proofs.trees.TreePartsSizeAndPropertiesLemmas.{Each, each_cut, each_narrowed, count-cut, total-cut, count-narrowed, total-narrowed, least_pointers_within}
use Rattle.capnp_layout.proofs.trees.TreePartsSizeAndPropertiesLemmas as trees
use Rattle.capnp_layout.proofs.trees.PointerNarrowingIdempotenceLemmas.{least-narrowed, narrowed-narrowed}

abbrev TrimmedOne : Form → Trees → Type 0
TrimmedOne form children = (trim_form form children ≡ form) × (trim_children form children ≡ children) × Trimmed children

each_trimmed : (trees : Trees) → Trimmed trees → Each TrimmedOne trees
each_trimmed none t = tt
each_trimmed (tree form children rest) t = (t.0, each_trimmed rest t.1)

trimmed_each : (trees : Trees) → Each TrimmedOne trees → Trimmed trees
trimmed_each none t = tt
trimmed_each (tree form children rest) t = (t.0, trimmed_each rest t.1)

abbrev pub RoomOne : Form → Trees → Type 0
RoomOne form children = HasRoom form (count children) × AllHaveRoom children

pub each_room : (trees : Trees) → AllHaveRoom trees → Each RoomOne trees
each_room none r = tt
each_room (tree form children rest) r = ((r.0, r.1), each_room rest r.2)

pub room_each : (trees : Trees) → Each RoomOne trees → AllHaveRoom trees
room_each none r = tt
room_each (tree form children rest) r = (r.0.0, r.0.1, room_each rest r.1)

pub trim_trimmed : (trees : Trees) → Trimmed trees → trim trees ≡ trees
trim_trimmed none t = refl
trim_trimmed (tree form children rest) t =
    let inner : trim children ≡ children = trim_trimmed children t.0.2 in
    let others : trim rest ≡ rest = trim_trimmed rest t.1 in
    let one : trim_form form children ≡ form = t.0.0 in
    let two : trim_children form children ≡ children = t.0.1 in
    rw (inner, others, one, two) refl

pub count-trim : (trees : Trees) → count (trim trees) ≡ count trees
count-trim none = refl
count-trim (tree form children rest) = omega (arith, count-trim rest)

-- a tree below which the trees are trimmed already
twice : (form : Form) (children : Trees) → HasRoom form (count children)
    → (trim_form (trim_form form children) (trim_children form children) ≡ trim_form form children) × (trim_children (trim_form form children) (trim_children form children) ≡ trim_children form children)
twice null children room = (refl, refl)
twice (struct ws) children room = (ap struct (words.cut_zeros-cut_zeros ws), trees.cut_nulls-cut_nulls children)
twice (numbers c values) children room = (refl, refl)
twice pointers children room = (refl, refl)
twice (structs d p elements) children room =
    let n : ℕ = least_data elements in
    let q : ℕ = least_pointers p elements children in
    let fewer : least_pointers p elements children ≤ p = least_pointers_within p elements children in
    let datas : least_data (map (take (least_data elements)) elements) ≡ least_data elements = least_data-take (least_data elements) elements (omega arith) in
    let links : least_pointers (least_pointers p elements children) (map (take (least_data elements)) elements) (narrowed (least_pointers p elements children) p elements children) ≡ least_pointers p elements children =
    least-narrowed (take (least_data elements)) (least_pointers p elements children) p elements children fewer room.4 (omega arith) in
    let elements_same : map (take (least_data elements)) (map (take (least_data elements)) elements) ≡ map (take (least_data elements)) elements = take-elements (least_data elements) elements in
    let children_same : narrowed (least_pointers p elements children) (least_pointers p elements children) (map (take (least_data elements)) elements) (narrowed (least_pointers p elements children) p elements children) ≡ narrowed
    (least_pointers p elements children) p elements children =
    narrowed-narrowed (take (least_data elements)) (least_pointers p elements children) p elements children fewer room.4 in
    (rw (datas, links, elements_same) refl, rw (links, children_same) refl)

children_trimmed : (form : Form) (children : Trees) → Trimmed children → Trimmed (trim_children form children)
children_trimmed null children t = t
children_trimmed (struct ws) children t = trimmed_each (cut_nulls children) (each_cut TrimmedOne children (each_trimmed children t))
children_trimmed (numbers c values) children t = t
children_trimmed pointers children t = t
children_trimmed (structs d p elements) children t = trimmed_each (narrowed (least_pointers p elements children) p elements children) (each_narrowed TrimmedOne (least_pointers p elements children) p elements children (each_trimmed children t))

children_room : (form : Form) (children : Trees) → AllHaveRoom children → AllHaveRoom (trim_children form children)
children_room null children r = r
children_room (struct ws) children r = room_each (cut_nulls children) (each_cut RoomOne children (each_room children r))
children_room (numbers c values) children r = r
children_room pointers children r = r
children_room (structs d p elements) children r = room_each (narrowed (least_pointers p elements children) p elements children) (each_narrowed RoomOne (least_pointers p elements children) p elements children (each_room children r))

pub trimmed_trim : (trees : Trees) → AllHaveRoom trees → Trimmed (trim trees)
trimmed_trim none room = tt
trimmed_trim (tree form children rest) room =
    let there : HasRoom form (count (trim children)) = subst (λ (n : ℕ). HasRoom form n) (sym (count-trim children)) room.0 in
    let both = twice form (trim children) there in
    ((both.0, both.1, children_trimmed form (trim children) (trimmed_trim children room.1)), trimmed_trim rest room.2)

-- the room of one tree
area : (k n q d p : ℕ) → n ≤ d → q ≤ p → k * (n + q) ≤ k * (d + p)
area k n q d p le few = mul-le-mul_left k (omega arith)

form_room : (form : Form) (children : Trees) → HasRoom form (count children) → HasRoom (trim_form form children) (count (trim_children form children))
form_room null children room = room
form_room (struct ws) children room = (omega (arith, length-cut_zeros ws), omega (arith, count-cut children), all_cut (λ w. w < 2 ^ 64) ws room.2)
form_room (numbers c values) children room = room
form_room pointers children room = room
form_room (structs d p elements) children room =
    let even : AllOf d elements = elements_even d elements room.5 in
    let narrow : least_data elements ≤ d = least_data_within d elements even in
    let fewer : least_pointers p elements children ≤ p = least_pointers_within p elements children in
    let same : length (map (take (least_data elements)) elements) ≡ length elements = length-map elements (take (least_data elements)) in
    let small = area (length elements) (least_data elements) (least_pointers p elements children) d p narrow fewer in
    let counts = count-narrowed (least_pointers p elements children) p elements children fewer room.4 in (
      omega arith,
      omega arith,
      omega arith,
      rw same (omega arith),
      rw same counts,
      All-map (λ element. (length element ≡ least_data elements) × All (λ w. w < 2 ^ 64) element) (take (least_data elements)) elements
          (λ k e within. let one : length (slice_index_or elements k e) ≡ d = (room.5 k e within).0 in
          (omega (arith, length-take (least_data elements) (slice_index_or elements k e)), All-take (λ w. w < 2 ^ 64) (least_data elements) (slice_index_or elements k e) (room.5 k e within).1)),
    )

pub room_trim : (trees : Trees) → AllHaveRoom trees → AllHaveRoom (trim trees)
room_trim none room = tt
room_trim (tree form children rest) room =
    let there : HasRoom form (count (trim children)) = subst (λ (n : ℕ). HasRoom form n) (sym (count-trim children)) room.0 in
    (form_room form (trim children) there, children_room form (trim children) (room_trim children room.1), room_trim rest room.2)

-- the words of one tree
form_size : (form : Form) (children : Trees) → HasRoom form (count children) → object_size (trim_form form children) (count (trim_children form children)) ≤ object_size form (count children)
form_size null children room = omega arith
form_size (struct ws) children room = omega (arith, length-cut_zeros ws, count-cut children)
form_size (numbers c values) children room = omega arith
form_size pointers children room = omega arith
form_size (structs d p elements) children room =
    let even : AllOf d elements = elements_even d elements room.5 in
    let same : length (map (take (least_data elements)) elements) ≡ length elements = length-map elements (take (least_data elements)) in
    let small = area (length elements) (least_data elements) (least_pointers p elements children) d p (least_data_within d elements even) (least_pointers_within p elements children) in
    rw same (omega arith)

children_total : (form : Form) (children : Trees) → total_words (trim_children form children) ≤ total_words children
children_total null children = omega arith
children_total (struct ws) children = total-cut children
children_total (numbers c values) children = omega arith
children_total pointers children = omega arith
children_total (structs d p elements) children = total-narrowed (least_pointers p elements children) p elements children

pub total-trim : (trees : Trees) → AllHaveRoom trees → total_words (trim trees) ≤ total_words trees
total-trim none room = omega arith
total-trim (tree form children rest) room =
    let there : HasRoom form (count (trim children)) = subst (λ (n : ℕ). HasRoom form n) (sym (count-trim children)) room.0 in
    let own : object_size (trim_form form (trim children)) (count (trim_children form (trim children))) ≤ object_size form (count children) =
    subst (λ (n : ℕ). object_size (trim_form form (trim children)) (count (trim_children form (trim children))) ≤ object_size form n) (count-trim children) (form_size form (trim children) there) in
    omega (arith, children_total form (trim children), total-trim children room.1, total-trim rest room.2)

pub trim_twice : (trees : Trees) → AllHaveRoom trees → trim (trim trees) ≡ trim trees
trim_twice trees room = trim_trimmed (trim trees) (trimmed_trim trees room)
