-- Each object of a layout is read back from its pointer word and its own words: a struct, or a list of each kind.
use Rattle.std.proofs.Common.{◌≡◌, ℕ, ◌+◌, ◌*◌, ◌/◌, ◌^◌, ◌<◌, ◌≤◌, List, [], ◌∷◌, ◌++◌, length, Some, slice_get, refl, sym, ap, subst, arith, length-append}
use Rattle.std.specs.Prelude.{All}
use Rattle.capnp_layout.specs.Prelude.{digits, number_of, words_from, pointer_kind, offset, data_words, pointer_words, code, list_count, width, words_for, Form, struct, numbers, pointers, structs, Lands, local, Shape, ShapeIsAt, places, pointer_places, elements_from, struct_shape, numbers_shape, pointers_shape, structs_shape, a_struct, some_numbers, some_pointers, some_structs, PointsTo, is_object, run, element_runs, slots, woven, placed}
use Rattle.capnp_layout.specs.declared.place.Place.{Place}
use Rattle.capnp_layout.specs.Object.{following}
use Rattle.capnp_layout.proofs.words.WordRunPartsInSegmentLemmas.{Holds, holds_left, holds_right, holds_words, holds_first, holds_room}
use Rattle.capnp_layout.proofs.words.DigitsToNumberAndBackLemmas.{length-digits, numbers_back}
use Rattle.capnp_layout.proofs.pointers.PointerWordFieldLemmas.{StructFields, ListFields}
use Rattle.capnp_layout.proofs.pointers.LayoutSlotPointersAndPlacesLemmas.{Linked, linked_run, linked_elements, placed-run, placed-element_runs, elements_from_woven, AllOf}
use Rattle.capnp_layout.proofs.layouts.LayoutSizeLemmas.{length-woven}

-- an object of some form is read, and its pointers are in its slots
pub record Read (m : List (List ℕ)) (k : ℕ) (segment : List ℕ) (word start : ℕ) (form : Form) (links : List ℕ) : Type 0 where
  pub traversed : ℕ
  pub object : PointsTo m (record { segment = k; word = word }) (record { form = form; children = placed k start (slots form (length links)); traversed = traversed })
  pub linked : Linked segment start (slots form (length links)) links

-- a pointer word at a word of the segment, and the start of what it points to
pub record Points (segment : List ℕ) (word tag start : ℕ) : Type 0 where
  pub is_at : slice_get segment word ≡ Some tag
  pub positive : 0 < tag
  pub is_local : pointer_kind tag < 2
  pub target : start + 2 ^ 30 * (offset tag / 2 ^ 29) ≡ word + 1 + offset tag

-- the same object, with other names for its parts
read_as : (m : List (List ℕ)) (k : ℕ) (segment : List ℕ) (there : slice_get m k ≡ Some segment) (word start tag : ℕ) (form : Form) (children : List Place) (shape : Shape)
    → Points segment word tag start → ShapeIsAt segment (record { segment = k; word = start }) tag shape → shape.form ≡ form → shape.children ≡ children
    → PointsTo m (record { segment = k; word = word }) (record { form = form; children = children; traversed = 0 + shape.traversed })
read_as m k segment there word start tag form children shape p is_at f h =
    let same : ◌≡◌ {A = Shape} (record { form = shape.form; children = shape.children; traversed = 0 + shape.traversed }) (record { form = form; children = children; traversed = 0 + shape.traversed }) = cc in
    let lands : Lands m (record { segment = k; word = word }) (record { segment = k; origin = following word; tag = tag; landing_pads = 0 }) =
    local (rw there p.is_at) p.positive p.is_local in
    subst (λ (s : Shape). PointsTo m (record { segment = k; word = word }) s) same (is_object lands there p.target is_at)

pub read_struct : (m : List (List ℕ)) (k : ℕ) (segment : List ℕ) (there : slice_get m k ≡ Some segment) (word start tag o : ℕ) (words links : List ℕ) → Points segment word tag start
    → StructFields tag o (length words) (length links)
    → Holds segment start (words ++ links) → Read m k segment word start (struct words) links
read_struct m k segment there word start tag o words links p f h =
    let room : start + data_words tag + pointer_words tag ≤ length segment = omega (arith, holds_room segment start (words ++ links) h, length-append words links, f.data_is, f.pointers_are) in
    let is_at : ShapeIsAt segment (record { segment = k; word = start }) tag (struct_shape segment (record { segment = k; word = start }) (data_words tag)
    (pointer_words tag)) = a_struct f.kind_is room in
    let data_there : words_from segment start (length words) ≡ words = holds_words segment start (length words) words refl (holds_left segment start words links h) in
    let data_same : words_from segment start (data_words tag) ≡ words = rw f.data_is data_there in
    let run_there : placed k start (run (length words) (length links)) ≡ places k (start + length words) (length links) = placed-run k start (start + length words) (length words)
    (length links) refl in
    let children_same : places k (start + data_words tag) (pointer_words tag) ≡ placed k start (run (length words) (length links)) = rw (f.data_is, f.pointers_are) (sym run_there) in
    record {
      traversed = 0 + (data_words tag + pointer_words tag);
      object = read_as m k segment there word start tag (struct words) (placed k start (run (length words) (length links))) (struct_shape segment (record { segment = k; word = start })
          (data_words tag) (pointer_words tag)) p is_at (ap struct data_same) children_same;
      linked = linked_run segment start (start + length words) (length words) links refl (holds_right segment start (length words) words links refl h);
    }

pub read_pointers : (m : List (List ℕ)) (k : ℕ) (segment : List ℕ) (there : slice_get m k ≡ Some segment) (word start tag o : ℕ) (links : List ℕ) → Points segment word tag start
    → ListFields tag o 6 (length links)
    → Holds segment start links → Read m k segment word start pointers links
read_pointers m k segment there word start tag o links p f h =
    let room : start + list_count tag ≤ length segment = omega (arith, holds_room segment start links h, f.count_is) in
    let is_at : ShapeIsAt segment (record { segment = k; word = start }) tag (pointers_shape (record { segment = k; word = start }) (list_count tag)) = some_pointers f.kind_is f.code_is room in
    let run_there : placed k start (run 0 (length links)) ≡ places k start (length links) = placed-run k start start 0 (length links) (omega arith) in
    let children_same : places k start (list_count tag) ≡ placed k start (run 0 (length links)) = rw f.count_is (sym run_there) in
    record {
      traversed = 0 + list_count tag;
      object = read_as m k segment there word start tag pointers (placed k start (run 0 (length links))) (pointers_shape (record { segment = k; word = start })
          (list_count tag)) p is_at refl children_same;
      linked = linked_run segment start start 0 links (omega arith) h;
    }

pub read_numbers : (m : List (List ℕ)) (k : ℕ) (segment : List ℕ) (there : slice_get m k ≡ Some segment) (word start tag o c : ℕ) (values : List ℕ) → Points segment word tag start
    → ListFields tag o c (length values) → c < 6 → All (λ v. v < 2 ^ width c) values
    → Holds segment start (digits (2 ^ 64) (words_for (length values) (width c)) (number_of (2 ^ width c) values)) → Read m k segment word start (numbers c values) []
read_numbers m k segment there word start tag o c values p f small fits h =
    let long : length (digits (2 ^ 64) (words_for (length values) (width c)) (number_of (2 ^ width c) values)) ≡ words_for (length values) (width c) =
    length-digits (2 ^ 64) (words_for (length values) (width c)) (number_of (2 ^ width c) values) in
    let words_there : words_from segment start (words_for (length values) (width c)) ≡ digits (2 ^ 64) (words_for (length values) (width c)) (number_of (2 ^ width c) values) =
    holds_words segment start (words_for (length values) (width c)) (digits (2 ^ 64) (words_for (length values) (width c)) (number_of (2 ^ width c) values)) long h in
    let back = numbers_back (width c) values fits in
    let code_is : code tag ≡ c = f.code_is in
    let count_is : list_count tag ≡ length values = f.count_is in
    let room_there : start + words_for (length values) (width c) ≤ length segment =
    omega (arith, holds_room segment start (digits (2 ^ 64) (words_for (length values) (width c)) (number_of (2 ^ width c) values)) h, long) in
    let room : start + words_for (list_count tag) (width (code tag)) ≤ length segment =
    subst (λ (x : ℕ). start + words_for (list_count tag) (width x) ≤ length segment) (sym code_is) (subst (λ (x : ℕ). start + words_for x (width c) ≤ length segment) (sym count_is) room_there) in
    let is_at : ShapeIsAt segment (record { segment = k; word = start }) tag (numbers_shape segment (record { segment = k; word = start }) (code tag)
    (list_count tag)) = some_numbers f.kind_is (omega arith) room in
    let known : ShapeIsAt segment (record { segment = k; word = start }) tag (numbers_shape segment (record { segment = k; word = start }) c (length values)) =
    subst (λ (x : ℕ). ShapeIsAt segment (record { segment = k; word = start }) tag (numbers_shape segment (record { segment = k; word = start }) x (length values))) code_is
    (subst (λ (x : ℕ). ShapeIsAt segment (record { segment = k; word = start }) tag (numbers_shape segment (record { segment = k; word = start }) (code tag) x)) count_is is_at) in
    record {
      traversed = 0 + (numbers_shape segment (record { segment = k; word = start }) c (length values)).traversed;
      object = read_as m k segment there word start tag (numbers c values) [] (numbers_shape segment (record { segment = k; word = start }) c (length values)) p known (rw words_there
          (ap (numbers c) back)) refl;
      linked = refl;
    }

-- the elements after a tag word
pub read_structs : (m : List (List ℕ)) (k : ℕ) (segment : List ℕ) (there : slice_get m k ≡ Some segment) (word start tag o inner d q : ℕ) (elements : List (List ℕ)) (links : List ℕ)
    → Points segment word tag start → ListFields tag o 7 (length elements * (d + q))
    → StructFields inner (length elements) d q → AllOf d elements → length links ≡ length elements * q
    → Holds segment start (inner ∷ woven q elements links) → Read m k segment word start (structs d q elements) links
read_structs m k segment there word start tag o inner d q elements links p f g even long h =
    let following : Holds segment (start + 1) (woven q elements links) = holds_right segment start 1 (inner ∷ []) (woven q elements links) refl h in
    let structs_read : elements_from segment (start + 1) d q (length elements) ≡ elements = elements_from_woven segment (start + 1) d q elements links even long following in
    let room : start + 1 + list_count tag ≤ length segment = omega (arith, holds_room segment start (inner ∷ woven q elements links) h, length-woven d q elements links even long, f.count_is) in
    let sizes_are : data_words inner + pointer_words inner ≡ d + q = omega (arith, g.data_is, g.pointers_are) in
    let enough : offset inner * (data_words inner + pointer_words inner) ≤ list_count tag =
    rw (sizes_are, g.offset_is, f.count_is) (omega arith) in
    let is_at : ShapeIsAt segment (record { segment = k; word = start }) tag (structs_shape segment (record { segment = k; word = start }) (data_words inner) (pointer_words inner)
    (offset inner) (list_count tag)) =
    some_structs f.kind_is f.code_is room (holds_first segment start inner (woven q elements links) h) g.kind_is enough in
    let form_same : structs (data_words inner) (pointer_words inner) (elements_from segment (start + 1) (data_words inner) (pointer_words inner) (offset inner)) ≡ structs d q elements =
    rw (g.data_is, g.pointers_are, g.offset_is, structs_read) refl in
    let slots_there : placed k start (element_runs 1 d q elements) ≡ pointer_places k (start + 1) d q (length elements) = placed-element_runs k start (start + 1) 1 d q elements refl in
    let children_same : pointer_places k (start + 1) (data_words inner) (pointer_words inner) (offset inner) ≡ placed k start (element_runs 1 d q elements) =
    rw (g.data_is, g.pointers_are, g.offset_is) (sym slots_there) in
    record {
      traversed = 0 + (structs_shape segment (record { segment = k; word = start }) (data_words inner) (pointer_words inner) (offset inner) (list_count tag)).traversed;
      object = read_as m k segment there word start tag (structs d q elements) (placed k start (element_runs 1 d q elements)) (structs_shape segment (record { segment = k; word = start }) (data_words inner)
          (pointer_words inner) (offset inner) (list_count tag)) p is_at form_same children_same;
      linked = linked_elements segment start (start + 1) 1 d q elements links refl even long following;
    }
