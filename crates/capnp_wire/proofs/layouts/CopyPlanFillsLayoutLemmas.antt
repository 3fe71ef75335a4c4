-- What is planned for the copy of an object of each kind: the pointers that are copied, and that its own words
-- with these filled in are its tree's layout.
use Rattle.std.proofs.lemmas.List.{append-nil}
use Rattle.capnp_layout.proofs.pointers.LayoutSlotPointersAndPlacesLemmas.{AllOf}
use Rattle.capnp_layout.proofs.layouts.LayoutSizeLemmas.{length-woven, elements_even}
use Rattle.capnp_layout.proofs.objects.UniqueObjectLemmas.{one_object}
use Rattle.capnp_layout.proofs.trees.TrimIdempotenceAndSizeLemmas.{room_trim}
use Rattle.capnp_wire.proofs.layouts.TreeCopySequenceLemmas.{none_output, fill_nothing}
use Rattle.capnp_layout.proofs.trees.ReadTreeSizesAndWordsBoundedLemmas.{length-elements_from}
use Rattle.std.proofs.Common.{◌≡◌, ℕ, ◌+◌, ◌-◌, ◌*◌, ◌<◌, ◌≤◌, ◌^◌, ◌==◌, if◌then◌else◌, Bool, true, false, List, [], ◌∷◌, ◌++◌, length, take, drop, refl, sym, ◌∙◌, ap, subst}
use Rattle.std.proofs.Common.{arith, length-take, length-drop}
use Rattle.capnp_layout.specs.Prelude.{number_of, words_from, code_of, width, words_for, Form, struct, numbers, pointers, structs, Trees, none, tree, count, depth, object_size, total_words, Shape, PointsTo, places, elements_from, elements as numerals, words_in, At, nowhere, at, pointer, body, own, slots, run, element_runs, woven, pointer_to, output, struct_pointer, list_pointer, minus_one, AllHaveRoom, put, put_data_sections, fill, moved, list_length, pointer_of_body, section_sizes, kept_in, slots_of, kept_places, section_slots}
use Rattle.capnp_wire.specs.Prelude.{CanCopy, put_own, element_count}
use Rattle.capnp_layout.specs.declared.place.Place.{Place}
use Rattle.capnp_layout.specs.declared.element_size.ElementSize.{ElementSize}
use Rattle.capnp_layout.specs.declared.pointer.Elements.{Elements}
use Rattle.capnp_layout.specs.declared.pointer.StructSize.{StructSize}
use Rattle.capnp_layout.specs.declared.object.Body.{Body}
use Rattle.capnp_layout.specs.declared.object.Body.TheVariants.{Struct, Numbers, Pointers, Structs}
use Rattle.capnp_layout.proofs.layouts.PutWordsCombinedLemmas.{put_both, length-put, put_none}
use Rattle.capnp_wire.proofs.layouts.LayoutByFillingPointerSlotsLemmas.{fill_is}
use Rattle.capnp_layout.proofs.words.DigitsToNumberAndBackLemmas.{length-digits}
use Rattle.capnp_wire.proofs.layouts.DataWriteKeepsPointerSlotsLemmas.{moved_run, moved_elements, put_short, put_data_sections_woven}
use Rattle.capnp_layout.proofs.trees.TreeReadBackLemmas.{no_trees}

-- what an object opens to: the places of the pointers that are copied, and what is still to be put
-- into the block
pub record Opened (m : List (List ℕ)) (words : List ℕ) (start : Place) (from copied : Body) (nesting : ℕ) (c : Bool) (next room : ℕ) (trees : Trees) : Type 0 where
  pub kept : CanCopy m (kept_in start from (section_sizes copied).pointers) nesting c (next + words_in copied) room
  pub fills : (block : List ℕ) → length block ≡ room
      → fill (slots_of next copied) (next + words_in copied) (output c kept.trees) (put_own words start.word from copied next block)
      ≡ put next (body (output c trees)) block
  pub totals : words_in copied + total_words (output c kept.trees) ≡ total_words (output c trees)
  pub pointers_are : (offset : ℕ) → pointer_of_body copied offset ≡ pointer_to (output c trees) offset
  pub few : list_length copied < 2 ^ 29
  pub few_elements : element_count copied < 2 ^ 30

-- the trees of an object by the object itself
pub record Under (m : List (List ℕ)) (shape : Shape) (trees : Trees) : Type 0 where
  pub children : Trees
  pub inside : ℕ
  pub whole : trees ≡ tree shape.form children none
  pub are_at : At m shape.children children inside

pub under : (m : List (List ℕ)) (place : Place) (shape : Shape) (trees : Trees) (traversed : ℕ) → At m (place ∷ []) trees traversed → PointsTo m place shape → Under m shape trees
under m place shape trees traversed (at {shape = s} {children = h} {inside = i} object inner nowhere) there =
    let same : s ≡ shape = one_object m place s shape object there in
    record {
      children = h;
      inside = i;
      whole = ap (λ (x : Shape). tree x.form h none) same;
      are_at = subst (λ (x : Shape). At m x.children h i) same inner;
    }

-- a tree's fields have room as it is copied
pub room_output : (c : Bool) (trees : Trees) → AllHaveRoom trees → AllHaveRoom (output c trees)
room_output true trees rooms = room_trim trees rooms
room_output false trees rooms = rooms

-- a struct
pub struct_opens : (m : List (List ℕ)) (words : List ℕ) (start : Place) (d p e q nesting : ℕ) (c : Bool) (next room : ℕ) (trees kept children : Trees) (traversed : ℕ)
    → output c trees ≡ tree (struct (words_from words start.word e)) children none → output c kept ≡ children → At m (places start.segment (start.word + d) q) kept traversed
    → depth kept ≤ nesting → AllHaveRoom kept → AllHaveRoom (output c trees) → start.word + e ≤ length words → count children ≡ q → next + total_words (output c trees) ≤ room
    → Opened m words start (Struct (record { data_words = d; pointers = p })) (Struct (record { data_words = e; pointers = q })) nesting c next room trees
struct_opens m words start d p e q nesting c next room trees kept children traversed form_is kept_is are_at shallow rooms all there many fits =
    let form : Form = struct (words_from words start.word e) in
    let rooms_there : AllHaveRoom (tree form children none) = subst AllHaveRoom form_is all in
    let wide : length (words_from words start.word e) ≡ e = omega (arith, length-take e (drop start.word words), length-drop start.word words) in
    let size : object_size form (count children) ≡ e + q = omega (arith, wide, many) in
    let total_is : total_words (output c trees) ≡ object_size form (count children) + total_words children = ap total_words form_is ∙ omega arith in
    let kept_total : total_words (output c kept) ≡ total_words children = ap total_words kept_is in
    let slots_are : moved next (run (length (words_from words start.word e)) (count children)) ≡ run (next + e) q ++ [] =
    moved_run next (length (words_from words start.word e)) (count children) ∙ ap (λ (k : ℕ). run k (count children)) (omega (arith, wide)) ∙ ap (λ (k : ℕ). run (next + e) k) many
    ∙ sym (append-nil (run (next + e) q)) in
    record {
      kept = record {
        trees = kept;
        traversed = traversed;
        are_at = subst (λ (l : List Place). At m l kept traversed) (sym (append-nil (places start.segment (start.word + d) q))) are_at;
        shallow = shallow;
        rooms = rooms;
        fits = omega arith;
      };
      fills = λ block long.
          let olds : List ℕ = take q (drop (next + length (words_from words start.word e)) block) in
          let olds_long : length (take q (drop (next + length (words_from words start.word e)) block)) ≡ q = omega (
            arith,
            length-take q (drop (next + length
                (words_from words start.word e)) block),
            length-drop (next + length (words_from words start.word e)) block,
          ) in
          let done = fill_is next form children olds block rooms_there.0 rooms_there.1 (olds_long ∙ sym many) (omega arith) in
          let short : put next (words_from words start.word e) block ≡ put next (own form olds) block = put_short next q (words_from words start.word e) block (omega arith) in
          ap (λ (l : List ℕ). fill l (next + (e + q)) (output c kept) (put next (words_from words start.word e) block)) (sym slots_are)
          ∙ ap (λ (n : ℕ). fill (moved next (slots form (count children))) (next + n) (output c kept) (put next (words_from words start.word e) block)) (sym size)
          ∙ ap (λ (t : Trees). fill (moved next (slots form (count children))) (next + object_size form (count children)) t (put next (words_from words start.word e) block)) kept_is
          ∙ ap (λ (l : List ℕ). fill (moved next (slots form (count children))) (next + object_size form (count children)) children l) short
          ∙ done ∙ ap (λ (t : Trees). put next (body t) block) (sym form_is);
      totals = omega arith;
      pointers_are = λ offset.
          ap (λ (n : ℕ). struct_pointer (if n + q == 0 then minus_one else offset) n q) (sym wide)
          ∙ ap (λ (n : ℕ). struct_pointer (if length (words_from words start.word e) + n == 0 then minus_one else offset) (length (words_from words start.word e)) n) (sym many)
          ∙ ap (λ (t : Trees). pointer_to t offset) (sym form_is);
      few = omega arith;
      few_elements = omega arith;
    }

-- a list of pointers
pub pointers_open : (m : List (List ℕ)) (words : List ℕ) (start : Place) (n nesting : ℕ) (c : Bool) (next room : ℕ) (trees kept children : Trees) (traversed : ℕ)
    → output c trees ≡ tree pointers children none → output c kept ≡ children → At m (places start.segment start.word n) kept traversed
    → depth kept ≤ nesting → AllHaveRoom kept → AllHaveRoom (output c trees) → count children ≡ n → next + total_words (output c trees) ≤ room
    → Opened m words start (Pointers n) (Pointers n) nesting c next room trees
pointers_open m words start n nesting c next room trees kept children traversed form_is kept_is are_at shallow rooms all many fits =
    let rooms_there : AllHaveRoom (tree pointers children none) = subst AllHaveRoom form_is all in
    let small : count children < 2 ^ 29 = rooms_there.0 in
    let total_is : total_words (output c trees) ≡ count children + total_words children = ap total_words form_is ∙ omega arith in
    let kept_total : total_words (output c kept) ≡ total_words children = ap total_words kept_is in
    let slots_are : moved next (run 0 (count children)) ≡ run (next + 0) n ++ [] =
    moved_run next 0 (count children) ∙ ap (λ (k : ℕ). run (next + 0) k) many ∙ sym (append-nil (run (next + 0) n)) in
    let first : start.word ≡ start.word + 0 = omega arith in
    record {
      kept = record {
        trees = kept;
        traversed = traversed;
        are_at = subst (λ (l : List Place). At m l kept traversed) (ap (λ (k : ℕ). places start.segment k n) first ∙ sym (append-nil (places start.segment (start.word + 0) n))) are_at;
        shallow = shallow;
        rooms = rooms;
        fits = omega arith;
      };
      fills = λ block long.
          let olds : List ℕ = take n (drop (next + 0) block) in
          let olds_long : length (take n (drop (next + 0) block)) ≡ n = omega (arith, length-take n (drop (next + 0) block), length-drop (next + 0) block) in
          let done = fill_is next pointers children olds block rooms_there.0 rooms_there.1 (olds_long ∙ sym many) (omega arith) in
          let short : block ≡ put next olds block = sym (put_none next block) ∙ put_short next n [] block (omega arith) in
          ap (λ (l : List ℕ). fill l (next + n) (output c kept) block) (sym slots_are)
          ∙ ap (λ (k : ℕ). fill (moved next (slots pointers (count children))) (next + k) (output c kept) block) (sym many)
          ∙ ap (λ (t : Trees). fill (moved next (slots pointers (count children))) (next + count children) t block) kept_is
          ∙ ap (λ (l : List ℕ). fill (moved next (slots pointers (count children))) (next + count children) children l) short
          ∙ done ∙ ap (λ (t : Trees). put next (body t) block) (sym form_is);
      totals = omega arith;
      pointers_are = λ offset. ap (λ (k : ℕ). pointer pointers k offset) (sym many) ∙ ap (λ (t : Trees). pointer_to t offset) (sym form_is);
      few = omega arith;
      few_elements = omega arith;
    }

-- a list of numbers
pub numbers_open : (m : List (List ℕ)) (words : List ℕ) (start : Place) (n nesting : ℕ) (size : ElementSize) (c : Bool) (next room : ℕ) (trees children : Trees)
    → output c trees ≡ tree (numbers (code_of size) (numerals words start.word (code_of size) n)) children none → AllHaveRoom (output c trees) → next + total_words (output c trees) ≤ room
    → Opened m words start (Numbers size n) (Numbers size n) nesting c next room trees
numbers_open m words start n nesting size c next room trees children form_is all fits =
    let form : Form = numbers (code_of size) (numerals words start.word (code_of size) n) in
    let rooms_there : AllHaveRoom (tree form children none) = subst AllHaveRoom form_is all in
    let empty : children ≡ none = no_trees children rooms_there.0.2 in
    let long_values : length (numerals words start.word (code_of size) n) ≡ n = length-digits (2 ^ width (code_of size)) n (number_of (2 ^ 64) (words_from words start.word (words_for n (width
    (code_of size))))) in
    let own_size : object_size form (count children) ≡ words_for n (width (code_of size)) = ap (λ (k : ℕ). words_for k (width (code_of size))) long_values in
    let none_total : total_words children ≡ 0 = ap total_words empty in
    let total_is : total_words (output c trees) ≡ object_size form (count children) + total_words children = ap total_words form_is ∙ omega arith in
    let nothing_output : output c none ≡ none = none_output c in
    let nothing_total : total_words (output c none) ≡ 0 = ap total_words nothing_output in
    let small : n < 2 ^ 29 = subst (λ (k : ℕ). k < 2 ^ 29) long_values rooms_there.0.1 in
    record {
      kept = record { trees = none; traversed = 0; are_at = nowhere; shallow = omega arith; rooms = tt; fits = omega arith };
      fills = λ block long.
          let words_are : body (tree form children none) ≡ own form [] = ap (λ (t : Trees). body (tree form t none)) empty ∙ append-nil (own form [] ++ []) ∙ append-nil (own form []) in
          fill_nothing (next + words_for n (width (code_of size))) (output c none) (put next (own form []) block)
          ∙ ap (λ (l : List ℕ). put next l block) (sym words_are) ∙ ap (λ (t : Trees). put next (body t) block) (sym form_is);
      totals = omega arith;
      pointers_are = λ offset. ap (λ (k : ℕ). list_pointer offset (code_of size) k) (sym long_values) ∙ ap (λ (t : Trees). pointer_to t offset) (sym form_is);
      few = small;
      few_elements = omega arith;
    }

-- what consecutive structs from a word of a segment on open to: the pointers that are copied, in
-- elements, and what is still to be put into the block, after a tag
pub record OpenedElements (m : List (List ℕ)) (words : List ℕ) (segment begin : ℕ) (from size : StructSize) (n nesting : ℕ) (c : Bool) (next room : ℕ) (trees : Trees) : Type 0 where
  pub kept : CanCopy m (kept_places segment begin from.data_words from.pointers size.pointers n) nesting c (next + (1 + n * (size.data_words + size.pointers))) room
  pub fills : (block : List ℕ) → length block ≡ room
      → fill (section_slots (next + 1) size.data_words size.pointers n) (next + (1 + n * (size.data_words + size.pointers))) (output c kept.trees)
      (put_data_sections (next + 1) size.pointers (elements_from words begin size.data_words (from.data_words + from.pointers - size.data_words) n)
      (put next (struct_pointer n size.data_words size.pointers ∷ []) block))
      ≡ put next (body (output c trees)) block
  pub totals : 1 + n * (size.data_words + size.pointers) + total_words (output c kept.trees) ≡ total_words (output c trees)
  pub pointers_are : (offset : ℕ) → list_pointer offset 7 (n * (size.data_words + size.pointers)) ≡ pointer_to (output c trees) offset
  pub few : n * (size.data_words + size.pointers) < 2 ^ 29
  pub few_elements : n < 2 ^ 30

-- structs
pub elements_open : (m : List (List ℕ)) (words : List ℕ) (segment begin d p e q n nesting : ℕ) (c : Bool) (next room : ℕ) (trees kept children : Trees) (traversed : ℕ)
    → e ≤ d → begin + n * (d + p) ≤ length words
    → output c trees ≡ tree (structs e q (elements_from words begin e (d + p - e) n)) children none → output c kept ≡ children
    → At m (kept_places segment begin d p q n) kept traversed
    → depth kept ≤ nesting → AllHaveRoom kept → AllHaveRoom (output c trees) → next + total_words (output c trees) ≤ room
    → OpenedElements m words segment begin (record { data_words = d; pointers = p }) (record { data_words = e; pointers = q }) n nesting c next room trees
elements_open m words segment begin d p e q n nesting c next room trees kept children traversed less there form_is kept_is are_at shallow rooms all fits =
    let sections : List (List ℕ) = elements_from words begin e (d + p - e) n in
    let form : Form = structs e q (elements_from words begin e (d + p - e) n) in
    let rooms_there : AllHaveRoom (tree form children none) = subst AllHaveRoom form_is all in
    let elements_long : length (elements_from words begin e (d + p - e) n) ≡ n = length-elements_from words begin e (d + p - e) n in
    let many : count children ≡ length (elements_from words begin e (d + p - e) n) * q = rooms_there.0.4 in
    let size : object_size form (count children) ≡ 1 + n * (e + q) = ap (λ (k : ℕ). 1 + k * (e + q)) elements_long in
    let total_is : total_words (output c trees) ≡ object_size form (count children) + total_words children = ap total_words form_is ∙ omega arith in
    let kept_total : total_words (output c kept) ≡ total_words children = ap total_words kept_is in
    let wide : AllOf e (elements_from words begin e (d + p - e) n) = elements_even e (elements_from words begin e (d + p - e) n) rooms_there.0.5 in
    let tag_long : length (struct_pointer n e q ∷ []) ≡ 1 = refl in
    let slots_are : moved next (element_runs 1 e q (elements_from words begin e (d + p - e) n)) ≡ section_slots (next + 1) e q n = moved_elements next 1 e q (elements_from words begin e
    (d + p - e) n) ∙ ap (λ (k : ℕ). section_slots (next + 1) e q k) elements_long in
    let few_words : length (elements_from words begin e (d + p - e) n) * (e + q) < 2 ^ 29 = rooms_there.0.3 in
    let few_sections : length (elements_from words begin e (d + p - e) n) < 2 ^ 30 = rooms_there.0.2 in
    record {
      kept = record { trees = kept; traversed = traversed; are_at = are_at; shallow = shallow; rooms = rooms; fits = omega arith };
      fills = λ block long.
          let tagged : List ℕ = put next (struct_pointer n e q ∷ []) block in
          let tagged_long : length (put next (struct_pointer n e q ∷ []) block) ≡ length block = length-put next (struct_pointer n e q ∷ []) block (omega arith) in
          let elements_room : next + 1 + length (elements_from words begin e (d + p - e) n) * (e + q) ≤ length (put next (struct_pointer n e q ∷ []) block) = rw elements_long (omega arith) in
          let w = put_data_sections_woven (next + 1) e q (elements_from words begin e (d + p - e) n) (put next (struct_pointer n e q ∷ []) block) wide elements_room in
          let woven_size : length (woven q (elements_from words begin e (d + p - e) n) w.0) ≡ length (elements_from words begin e (d + p - e) n) * (e + q) = length-woven e q
          (elements_from words begin e (d + p - e) n) w.0 wide w.1 in
          let woven_room : next + 1 + length (woven q (elements_from words begin e (d + p - e) n) w.0) ≤ length block = rw woven_size (omega arith) in
          let done = fill_is next form children w.0 block rooms_there.0 rooms_there.1 (w.1 ∙ sym many) (omega arith) in
          let joined : put_data_sections (next + 1) q (elements_from words begin e (d + p - e) n) (put next (struct_pointer n e q ∷ []) block) ≡ put next (struct_pointer n e q ∷ woven q
          (elements_from words begin e (d + p - e) n) w.0) block =
          w.2 ∙ put_both next (struct_pointer n e q ∷ []) (woven q (elements_from words begin e (d + p - e) n) w.0) block woven_room in
          let own_is : put next (struct_pointer n e q ∷ woven q (elements_from words begin e (d + p - e) n) w.0) block ≡ put next (own form w.0) block =
          ap (λ (k : ℕ). put next (struct_pointer k e q ∷ woven q (elements_from words begin e (d + p - e) n) w.0) block) (sym elements_long) in
          ap (λ (l : List ℕ). fill l (next + (1 + n * (e + q))) (output c kept) (put_data_sections (next + 1) q (elements_from words begin e (d + p - e) n) (put next
          (struct_pointer n e q ∷ []) block))) (sym slots_are)
          ∙ ap (λ (k : ℕ). fill (moved next (slots form (count children))) (next + k) (output c kept) (put_data_sections (next + 1) q (elements_from words begin e (d + p - e) n) (put next
          (struct_pointer n e q ∷ []) block))) (sym size)
          ∙ ap (λ (t : Trees). fill (moved next (slots form (count children))) (next + object_size form (count children)) t (put_data_sections (next + 1) q (elements_from words begin e (d + p - e) n)
          (put next (struct_pointer n e q ∷ []) block))) kept_is
          ∙ ap (λ (l : List ℕ). fill (moved next (slots form (count children))) (next + object_size form (count children)) children l) (joined ∙ own_is)
          ∙ done ∙ ap (λ (t : Trees). put next (body t) block) (sym form_is);
      totals = omega arith;
      pointers_are = λ offset. ap (λ (k : ℕ). list_pointer offset 7 (k * (e + q))) (sym elements_long) ∙ ap (λ (t : Trees). pointer_to t offset) (sym form_is);
      few = subst (λ (k : ℕ). k * (e + q) < 2 ^ 29) elements_long few_words;
      few_elements = subst (λ (k : ℕ). k < 2 ^ 30) elements_long few_sections;
    }

-- the same for a list of structs, after its tag
pub structs_open : (m : List (List ℕ)) (words : List ℕ) (start : Place) (elements kept : Elements) (following words_kept nesting : ℕ) (c : Bool) (next room : ℕ) (trees : Trees)
    → kept.count ≡ elements.count
    → OpenedElements m words start.segment (start.word + 1) elements.size kept.size elements.count nesting c next room trees
    → Opened m words start (Structs elements following) (Structs kept words_kept) nesting c next room trees
structs_open m words start elements kept following words_kept nesting c next room trees same o =
    subst (λ (k : ℕ). Opened m words start (Structs elements following) (Structs (record { size = kept.size; count = k }) words_kept) nesting c next room trees) (sym same)
    (record { kept = o.kept; fills = o.fills; totals = o.totals; pointers_are = o.pointers_are; few = o.few; few_elements = o.few_elements })
