-- Each object that is read has a plan of its copy, untrimmed or trimmed: which of its sections and pointers are
-- copied, before anything is written.
use Rattle.std.proofs.Common.{◌≡◌, ℕ, ◌+◌, ◌-◌, ◌*◌, ◌<◌, ◌≤◌, Bool, true, false, if◌then◌else◌, List, [], ◌∷◌, length, map, take, Some, slice_get, refl, sym, ◌∙◌, ap, subst, arith}
use Rattle.capnp_layout.specs.Prelude.{words_from, Form, struct, structs, Trees, none, tree, count, depth, total_words, first, narrowed, cut_zeros, cut_nulls, least_data, least_pointers, trim, PointsTo, places, pointer_places, elements_from, shape_of, room_of, words_in, At, output, AllHaveRoom, most_used, least_size, output_body_of, kept_places}
use Rattle.capnp_layout.specs.Tree.{is_null}
use Rattle.capnp_wire.specs.Prelude.{CanCopy}
use Rattle.capnp_layout.specs.declared.place.Place.{Place}
use Rattle.capnp_layout.specs.declared.pointer.Elements.{Elements}
use Rattle.capnp_layout.specs.declared.pointer.StructSize.{StructSize}
use Rattle.capnp_layout.specs.declared.object.Body.{Body}
use Rattle.capnp_layout.specs.declared.object.Body.TheVariants.{Struct, Numbers, Pointers, Structs}
use Rattle.capnp_layout.proofs.trees.TraversalLimitCountLemmas.{count_at}
use Rattle.capnp_layout.proofs.trees.TrimIdempotenceAndSizeLemmas.{count-trim}
use Rattle.capnp_layout.proofs.trees.ReadTreeSizesAndWordsBoundedLemmas.{length-elements_from}
use Rattle.capnp_wire.proofs.layouts.CopyPlanFillsLayoutLemmas.{Opened, OpenedElements, under, room_output, struct_opens, pointers_open, numbers_open, elements_open, structs_open}
use Rattle.capnp_layout.proofs.pointers.KeptPointerPlacesBySectionLemmas.{kept_all}
use Rattle.capnp_layout.proofs.trees.KeptTreesPlacedNoDeeperLemmas.{front_is_at, kept_are_at, long_places, shallow_first, shallow_narrowed, rooms_first}
use Rattle.capnp_layout.proofs.trees.TrimmedSectionSizeFromWordsLemmas.{used_where_some, least_data_is, elements_take, least_pointers_are}
use Rattle.capnp_layout.proofs.trees.KeptTreesPlacedNoDeeperLemmas.{rooms_narrowed}
use Rattle.capnp_layout.proofs.trees.TrimCommutesWithPartsLemmas.{trim_first, trim_narrowed, first_cut, count_cut_trim, cut_words}
use Rattle.capnp_layout.proofs.words.TrimmedSectionBoundLemmas.{most_within_parts}

under_depth : (nesting : ℕ) (form : Form) (children trees : Trees) → trees ≡ tree form children none → is_null form ≡ false → depth trees ≤ nesting → depth children ≤ nesting - 1
under_depth nesting form children trees whole some shallow =
    let deep : depth (tree form children none) ≤ nesting = subst (λ (t : Trees). depth t ≤ nesting) whole shallow in
    let plain : (if is_null form then 0 else depth children + 1) ≡ depth children + 1 = ap (λ (b : Bool). if b then 0 else depth children + 1) some in
    omega arith

under_rooms : (form : Form) (children trees : Trees) → trees ≡ tree form children none → AllHaveRoom trees → AllHaveRoom children
under_rooms form children trees whole rooms = (subst AllHaveRoom whole rooms).1

pub struct_plain : (m : List (List ℕ)) (words : List ℕ) (start : Place) (size : StructSize) (nesting next room : ℕ) (trees children : Trees) (inside : ℕ)
    → trees ≡ tree (struct (words_from words start.word size.data_words)) children none → At m (places start.segment (start.word + size.data_words) size.pointers) children inside
    → depth children ≤ nesting → AllHaveRoom children → AllHaveRoom trees → start.word + (size.data_words + size.pointers) ≤ length words → next + total_words trees ≤ room
    → Opened m words start (Struct size) (Struct size) nesting false next room trees
struct_plain m words start size nesting next room trees children inside whole are_at shallow rooms all there fits =
    struct_opens m words start size.data_words size.pointers size.data_words size.pointers nesting false next room trees children children inside
    whole refl are_at shallow rooms all (omega arith) (count_at m (places start.segment (start.word + size.data_words) size.pointers) children inside are_at
    ∙ long_places start.segment (start.word + size.data_words) size.pointers) fits

pub struct_trimmed : (m : List (List ℕ)) (words : List ℕ) (start : Place) (size : StructSize) (nesting next room : ℕ) (trees children : Trees) (inside : ℕ)
    → (0 < size.pointers → slice_get m start.segment ≡ Some words) → trees ≡ tree (struct (words_from words start.word size.data_words)) children none
    → At m (places start.segment (start.word + size.data_words) size.pointers) children inside
    → depth children ≤ nesting → AllHaveRoom children → AllHaveRoom (trim trees) → start.word + (size.data_words + size.pointers) ≤ length words → next + total_words (trim trees) ≤ room
    → Opened m words start (Struct size) (Struct (least_size words start.word size 1)) nesting true next room trees
struct_trimmed m words start size nesting next room trees children inside here whole are_at shallow rooms all there fits =
    let d : ℕ = size.data_words in
    let p : ℕ = size.pointers in
    let e : ℕ = (least_size words start.word size 1).data_words in
    let q : ℕ = (least_size words start.word size 1).pointers in
    let e_is : (least_size words start.word size 1).data_words ≡ length (cut_zeros (words_from words start.word size.data_words)) = omega arith in
    let q_is : (least_size words start.word size 1).pointers ≡ length (cut_zeros (words_from words (start.word + size.data_words) size.pointers)) = omega arith in
    let less : (least_size words start.word size 1).data_words ≤ size.data_words = most_within_parts words start.word size.data_words (size.data_words + size.pointers) 1 in
    let fewer : (least_size words start.word size 1).pointers ≤ size.pointers = most_within_parts words (start.word + size.data_words) size.pointers (size.data_words + size.pointers) 1 in
    let used = used_where_some m words start.segment (start.word + size.data_words) size.pointers children inside here are_at in
    let cut_count : count (cut_nulls (trim children)) ≡ (least_size words start.word size 1).pointers = count_cut_trim children ∙ used ∙ sym q_is in
    let kept_is : trim (first (least_size words start.word size 1).pointers children) ≡ cut_nulls (trim children) =
    trim_first (least_size words start.word size 1).pointers children ∙ ap (λ (n : ℕ). first n (trim children)) (sym cut_count) ∙ first_cut (trim children) in
    let data_is : cut_zeros (words_from words start.word size.data_words) ≡ words_from words start.word (least_size words start.word size 1).data_words = cut_words words start.word
    size.data_words (least_size words start.word size 1).data_words e_is less in
    let form_is : trim trees ≡ tree (struct (words_from words start.word (least_size words start.word size 1).data_words)) (cut_nulls (trim children)) none =
    ap trim whole ∙ ap (λ (l : List ℕ). tree (struct l) (cut_nulls (trim children)) none) data_is in
    let s = front_is_at m start.segment (start.word + size.data_words) (least_size words start.word size 1).pointers size.pointers children inside fewer are_at in
    struct_opens m words start size.data_words size.pointers (least_size words start.word size 1).data_words (least_size words start.word size 1).pointers nesting true next room trees
    (first (least_size words start.word size 1).pointers children) (cut_nulls (trim children)) s.0
    form_is kept_is s.1 (shallow_first nesting (least_size words start.word size 1).pointers children shallow) (rooms_first (least_size words start.word size 1).pointers children rooms) all
    (omega arith) cut_count fits

pub elements_plain : (m : List (List ℕ)) (words : List ℕ) (segment begin : ℕ) (elements : Elements) (nesting next room : ℕ) (trees children : Trees) (inside : ℕ)
    → trees ≡ tree (structs elements.size.data_words elements.size.pointers (elements_from words begin elements.size.data_words elements.size.pointers elements.count)) children none
    → At m (pointer_places segment begin elements.size.data_words elements.size.pointers elements.count) children inside
    → depth children ≤ nesting → AllHaveRoom children → AllHaveRoom trees → begin + elements.count * (elements.size.data_words + elements.size.pointers) ≤ length words → next + total_words trees ≤ room
    → OpenedElements m words segment begin elements.size elements.size elements.count nesting false next room trees
elements_plain m words segment begin elements nesting next room trees children inside whole are_at shallow rooms all there fits =
    let d : ℕ = elements.size.data_words in
    let p : ℕ = elements.size.pointers in
    let skip : elements.size.pointers ≡ elements.size.data_words + elements.size.pointers - elements.size.data_words = omega arith in
    let form_is : trees ≡ tree (structs elements.size.data_words elements.size.pointers (elements_from words begin elements.size.data_words
    (elements.size.data_words + elements.size.pointers - elements.size.data_words) elements.count)) children none =
    whole ∙ ap (λ (k : ℕ). tree (structs elements.size.data_words elements.size.pointers (elements_from words begin elements.size.data_words k elements.count)) children none) skip in
    elements_open m words segment begin elements.size.data_words elements.size.pointers elements.size.data_words elements.size.pointers elements.count nesting false next room trees children children inside
    (omega arith) there form_is refl (subst (λ (l : List Place). At m l children inside) (kept_all segment
    begin elements.size.data_words elements.size.pointers elements.count) are_at) shallow rooms all fits

pub elements_trimmed : (m : List (List ℕ)) (words : List ℕ) (segment begin : ℕ) (elements : Elements) (nesting next room : ℕ) (trees children : Trees) (inside : ℕ)
    → (0 < elements.size.pointers → slice_get m segment ≡ Some words)
    → trees ≡ tree (structs elements.size.data_words elements.size.pointers (elements_from words begin elements.size.data_words elements.size.pointers elements.count)) children none
    → At m (pointer_places segment begin elements.size.data_words elements.size.pointers elements.count) children inside
    → depth children ≤ nesting → AllHaveRoom children → AllHaveRoom (trim trees) → begin + elements.count * (elements.size.data_words + elements.size.pointers) ≤ length words
    → next + total_words (trim trees) ≤ room
    → OpenedElements m words segment begin elements.size (least_size words begin elements.size elements.count) elements.count nesting true next room trees
elements_trimmed m words segment begin elements nesting next room trees children inside here whole are_at shallow rooms all there fits =
    let d : ℕ = elements.size.data_words in
    let p : ℕ = elements.size.pointers in
    let n : ℕ = elements.count in
    let least : StructSize = least_size words begin elements.size elements.count in
    let sections : List (List ℕ) = elements_from words begin elements.size.data_words elements.size.pointers elements.count in
    let long : length (elements_from words begin elements.size.data_words elements.size.pointers elements.count) ≡ elements.count = length-elements_from words
    begin elements.size.data_words elements.size.pointers elements.count in
    let less : (least_size words begin elements.size elements.count).data_words ≤ elements.size.data_words = most_within_parts words begin elements.size.data_words
    (elements.size.data_words + elements.size.pointers) elements.count in
    let fewer : (least_size words begin elements.size elements.count).pointers ≤ elements.size.pointers = most_within_parts words
    (begin + elements.size.data_words) elements.size.pointers (elements.size.data_words + elements.size.pointers) elements.count in
    let all_are_at : At m (pointer_places segment begin d p (length sections)) children inside = subst (λ (k : ℕ). At m (pointer_places segment begin d p k) children inside)
    (sym long) are_at in
    let data_is : least_data sections ≡ least.data_words = least_data_is words begin d p n in
    let pointers_is : least_pointers p sections (trim children) ≡ least.pointers =
    least_pointers_are m words segment begin d p sections children inside here all_are_at ∙ ap (most_used words (begin + d) p (d + p)) long in
    let elements_are : map (take (least_data sections)) sections ≡ elements_from words begin least.data_words (d + p - least.data_words) n =
    ap (λ (k : ℕ). map (take k) sections) data_is ∙ elements_take words begin d p least.data_words n less in
    let kept_is : trim (narrowed least.pointers p sections children) ≡ narrowed (least_pointers p sections (trim children)) p sections (trim children) =
    trim_narrowed least.pointers p sections children ∙ ap (λ (k : ℕ). narrowed k p sections (trim children)) (sym pointers_is) in
    let form_is : trim trees ≡ tree (structs least.data_words least.pointers (elements_from words begin least.data_words (d + p - least.data_words) n)) (narrowed (least_pointers p sections
    (trim children)) p sections (trim children)) none =
    ap trim whole
    ∙ ap (λ (k : ℕ). tree (structs k (least_pointers p sections (trim children)) (map (take (least_data sections)) sections)) (narrowed (least_pointers p sections (trim children)) p sections (trim children)) none) data_is
    ∙ ap (λ (k : ℕ). tree (structs least.data_words k (map (take (least_data sections)) sections)) (narrowed (least_pointers p sections (trim children)) p sections (trim children)) none) pointers_is
    ∙ ap (λ (l : List (List ℕ)). tree (structs least.data_words least.pointers l) (narrowed (least_pointers p sections (trim children)) p sections (trim children)) none) elements_are in
    let s = kept_are_at m segment begin d p least.pointers sections children inside fewer all_are_at in
    let s_there : At m (kept_places segment begin d p least.pointers n) (narrowed least.pointers p sections children) s.0 =
    subst (λ (k : ℕ). At m (kept_places segment begin d p least.pointers k) (narrowed least.pointers p sections children) s.0) long s.1 in
    elements_open m words segment begin d p least.data_words least.pointers n nesting true next room trees (narrowed least.pointers p sections children)
    (narrowed (least_pointers p sections (trim children)) p sections (trim children)) s.0 less there form_is kept_is s_there
    (shallow_narrowed nesting least.pointers p sections children shallow) (rooms_narrowed least.pointers p sections children rooms) all fits

-- an object as it is read
abbrev pub OpenedAt : List (List ℕ) → List ℕ → Place → Body → ℕ → Bool → ℕ → ℕ → Trees → Type 0
OpenedAt m words start there nesting c next room trees = Opened m words start there (output_body_of c words start.word there) nesting c next room trees

open_body : (m : List (List ℕ)) (words : List ℕ) (start : Place) (there : Body) (nesting : ℕ) (c : Bool) (next room : ℕ) (trees children : Trees) (inside : ℕ)
    → slice_get m start.segment ≡ Some words → trees ≡ tree (shape_of words start there).form children none → At m (shape_of words start there).children children inside
    → depth trees ≤ nesting → AllHaveRoom trees → start.word + room_of there ≤ length words → words_in there ≤ room_of there → next + total_words (output c trees) ≤ room
    → OpenedAt m words start there (nesting - 1) c next room trees
open_body m words start (Struct size) nesting false next room trees children inside here whole are_at shallow rooms fits_there inner fits =
    struct_plain m words start size (nesting - 1) next room trees children inside whole are_at (under_depth nesting _ children trees whole refl shallow) (under_rooms _ children trees whole rooms) rooms fits_there fits
open_body m words start (Struct size) nesting true next room trees children inside here whole are_at shallow rooms fits_there inner fits =
    struct_trimmed m words start size (nesting - 1) next room trees children inside (λ some. here) whole are_at (under_depth nesting _ children trees whole refl shallow)
    (under_rooms _ children trees whole rooms) (room_output true trees rooms) fits_there fits
open_body m words start (Numbers size n) nesting false next room trees children inside here whole are_at shallow rooms fits_there inner fits =
    numbers_open m words start n (nesting - 1) size false next room trees children whole rooms fits
open_body m words start (Numbers size n) nesting true next room trees children inside here whole are_at shallow rooms fits_there inner fits =
    numbers_open m words start n (nesting - 1) size true next room trees (trim children) (ap trim whole) (room_output true trees rooms) fits
open_body m words start (Pointers n) nesting false next room trees children inside here whole are_at shallow rooms fits_there inner fits =
    pointers_open m words start n (nesting - 1) false next room trees children children inside whole refl are_at (under_depth nesting _ children trees whole refl shallow) (under_rooms _ children trees whole rooms) rooms
    (count_at m (places start.segment start.word n) children inside are_at ∙ long_places start.segment start.word n) fits
open_body m words start (Pointers n) nesting true next room trees children inside here whole are_at shallow rooms fits_there inner fits =
    pointers_open m words start n (nesting - 1) true next room trees children (trim children) inside (ap trim whole) refl are_at (under_depth nesting _ children trees whole refl shallow)
    (under_rooms _ children trees whole rooms) (room_output true trees rooms)
    (count-trim children ∙ count_at m (places start.segment start.word n) children inside are_at ∙ long_places start.segment start.word n) fits
open_body m words start (Structs elements following) nesting false next room trees children inside here whole are_at shallow rooms fits_there inner fits =
    structs_open m words start elements elements following following (nesting - 1) false next room trees refl
    (elements_plain m words start.segment (start.word + 1) elements (nesting - 1) next room trees children inside whole are_at (under_depth nesting _ children trees whole refl shallow)
    (under_rooms _ children trees whole rooms) rooms (omega arith) fits)
open_body m words start (Structs elements following) nesting true next room trees children inside here whole are_at shallow rooms fits_there inner fits =
    structs_open m words start elements (record { size = least_size words (start.word + 1) elements.size elements.count; count = elements.count }) following following (nesting - 1) true next room trees refl
    (elements_trimmed m words start.segment (start.word + 1) elements (nesting - 1) next room trees children inside (λ some. here) whole are_at (under_depth nesting _ children trees whole refl shallow)
    (under_rooms _ children trees whole rooms) (room_output true trees rooms) (omega arith) fits)

pub opened : (m : List (List ℕ)) (words : List ℕ) (place start : Place) (there : Body) (traversed nesting : ℕ) (c : Bool) (next room : ℕ) (can : CanCopy m (place ∷ []) nesting c next room)
    → slice_get m start.segment ≡ Some words → PointsTo m place (record (shape_of words start there) { traversed = traversed })
    → start.word + room_of there ≤ length words → words_in there ≤ room_of there
    → OpenedAt m words start there (nesting - 1) c next room can.trees
opened m words place start there traversed nesting c next room can here object fits_there inner =
    let u = under m place (record (shape_of words start there) { traversed = traversed }) can.trees can.traversed can.are_at object in
    open_body m words start there nesting c next room can.trees u.children u.inside here u.whole u.are_at can.shallow can.rooms fits_there inner can.fits
