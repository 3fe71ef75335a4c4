-- Pointers to orphans: what is read through them, wherever they are.
use Rattle.std.proofs.Common.{◌≡◌, ℕ, zero, suc, ◌+◌, ◌-◌, ◌*◌, ◌/◌, ◌%◌, ◌^◌, ◌<◌, ◌≤◌, List, [], ◌∷◌, ◌++◌, length, Some, None, Option, slice_get, refl, ◌∙◌, ap, arith}
use Rattle.capnp_layout.specs.Prelude.{Form, null, struct, numbers, pointers, structs, is_null, pointer, struct_pointer, list_pointer, minus_one, own, HasRoom}
use Rattle.capnp_layout.proofs.words.WordRunPartsInSegmentLemmas.{Holds, holds_none}
use Rattle.capnp_layout.proofs.pointers.PointerWordFieldLemmas.{struct_fields, list_fields}
use Rattle.capnp_layout.proofs.layouts.LayoutReadBackLemmas.{if_positive}
use Rattle.capnp_layout.proofs.layouts.LayoutSizeLemmas.{elements_even}
use Rattle.capnp_layout.proofs.layouts.ObjectReadBackLemmas.{Read, Points, read_struct, read_pointers, read_numbers, read_structs}
use Rattle.capnp_orphans.specs.Orphans.{link, links}

-- the offset of a pointer to a given word
abbrev pub offset_to : ℕ → ℕ → ℕ
offset_to start place = (start + 2 ^ 30 - (place + 1)) % 2 ^ 30

struct_link : (start place d p : ℕ) → start < 2 ^ 29 → place < 2 ^ 29 → d < 2 ^ 16 → 0 < d + p → link (struct_pointer start d p) place ≡ struct_pointer (offset_to start place) d p
struct_link start place d p small low few some =
    let low_bits : struct_pointer start d p % 2 ^ 32 ≡ 4 * start = omega arith in
    let high_bits : struct_pointer start d p / 2 ^ 32 ≡ d + 2 ^ 16 * p = omega arith in
    if_positive (struct_pointer start d p % 4 + struct_pointer start d p / 2 ^ 32) (struct_pointer start d p)
    (2 ^ 32 * (struct_pointer start d p / 2 ^ 32) + (struct_pointer start d p % 2 ^ 32 + 2 ^ 32 - 4 * (place + 1)) % 2 ^ 32) (omega (arith, high_bits))
    ∙ omega (arith, low_bits, high_bits)

list_link : (start place c n : ℕ) → start < 2 ^ 29 → place < 2 ^ 29 → c < 8 → link (list_pointer start c n) place ≡ list_pointer (offset_to start place) c n
list_link start place c n small low few =
    let low_bits : list_pointer start c n % 2 ^ 32 ≡ 1 + 4 * start = omega arith in
    let high_bits : list_pointer start c n / 2 ^ 32 ≡ c + 8 * n = omega arith in
    if_positive (list_pointer start c n % 4 + list_pointer start c n / 2 ^ 32) (list_pointer start c n)
    (2 ^ 32 * (list_pointer start c n / 2 ^ 32) + (list_pointer start c n % 2 ^ 32 + 2 ^ 32 - 4 * (place + 1)) % 2 ^ 32) (omega arith)
    ∙ omega (arith, low_bits, high_bits)

struct_points : (segment : List ℕ) (start place d p : ℕ) → start < 2 ^ 29 → place < 2 ^ 29 → 0 < d + p → d < 2 ^ 16
    → slice_get segment place ≡ Some (link (struct_pointer start d p) place) → Points segment place (struct_pointer (offset_to start place) d p) start
struct_points segment start place d p small low some few link_is_at =
    let f = struct_fields (offset_to start place) d p (omega arith) few in
    record { is_at = link_is_at ∙ ap Some (struct_link start place d p small low few some); positive = omega (arith, some); is_local = omega (arith, f.kind_is); target = omega (arith, f.offset_is) }

list_points : (segment : List ℕ) (start place c n : ℕ) → start < 2 ^ 29 → place < 2 ^ 29 → c < 8
    → slice_get segment place ≡ Some (link (list_pointer start c n) place) → Points segment place (list_pointer (offset_to start place) c n) start
list_points segment start place c n small low few link_is_at =
    let f = list_fields (offset_to start place) c n (omega arith) few in
    record { is_at = link_is_at ∙ ap Some (list_link start place c n small low few); positive = omega arith; is_local = omega (arith, f.kind_is); target = omega (arith, f.offset_is) }

some_struct : (segment : List ℕ) (place start : ℕ) (words links : List ℕ) → place < 2 ^ 29 → start < 2 ^ 29 → 0 < length words + length links → HasRoom (struct words) (length links)
    → slice_get segment place ≡ Some (link (pointer (struct words) (length links) start) place) → Holds segment start (words ++ links) → Read (segment ∷ []) 0 segment place start (struct words) links
some_struct segment place start words links low small some room link_is_at h =
    let d : ℕ = length words in
    let p : ℕ = length links in
    let tag_is : pointer (struct words) (length links) start ≡ struct_pointer start (length words) (length links) =
    ap (λ (o : ℕ). struct_pointer o (length words) (length links)) (if_positive (length words + length links) minus_one start some) in
    let link_is_at' : slice_get segment place ≡ Some (link (struct_pointer start (length words) (length links)) place) =
    link_is_at ∙ ap (λ (w : ℕ). Some (link w place)) tag_is in
    read_struct (segment ∷ []) 0 segment refl place start (struct_pointer (offset_to start place) d p) (offset_to start place) words links
    (struct_points segment start place d p small low some room.0 link_is_at') (struct_fields (offset_to start place) d p (omega arith) room.0) h

empty_points : (segment : List ℕ) (word : ℕ) → slice_get segment word ≡ Some (struct_pointer minus_one 0 0) → Points segment word (struct_pointer minus_one 0 0) word
empty_points segment word link_is_at = record { is_at = link_is_at; positive = omega arith; is_local = omega arith; target = omega arith }

-- an object is read from its words, wherever the pointer to it is
pub read_link : (segment : List ℕ) (place start : ℕ) (form : Form) (links : List ℕ) → place < 2 ^ 29 → start < 2 ^ 29 → place ≤ length segment → HasRoom form (length links)
    → slice_get segment place ≡ Some (link (pointer form (length links) start) place) → Holds segment start (own form links) → Read (segment ∷ []) 0 segment place start form links
read_link segment place start null [] low small within room link_is_at h = record { traversed = 0; object = is_null link_is_at; linked = refl }
read_link segment place start null (x ∷ links) low small within room link_is_at h = absurd (omega (arith, room))
read_link segment place start (struct []) [] low small within room link_is_at h =
    let f = struct_fields minus_one 0 0 (omega arith) (omega arith) in
    let r = read_struct (segment ∷ []) 0 segment refl place place (struct_pointer minus_one 0 0) minus_one [] [] (empty_points segment place link_is_at) f (holds_none segment place within) in
    record { traversed = r.traversed; object = r.object; linked = refl }
read_link segment place start (struct []) (x ∷ links) low small within room link_is_at h = some_struct segment place start [] (x ∷ links) low small (omega arith) room link_is_at h
read_link segment place start (struct (w ∷ words)) links low small within room link_is_at h = some_struct segment place start (w ∷ words) links low small (omega arith) room link_is_at h
read_link segment place start (numbers c values) [] low small within room link_is_at h =
    read_numbers (segment ∷ []) 0 segment refl place start (list_pointer (offset_to start place) c (length values)) (offset_to start place) c values
    (list_points segment start place c (length values) small low (omega (arith, room.0)) link_is_at) (list_fields (offset_to start place) c (length values) (omega arith) (omega (arith, room.0))) room.0 room.3 h
read_link segment place start (numbers c values) (x ∷ links) low small within room link_is_at h = absurd (omega (arith, room.2))
read_link segment place start pointers links low small within room link_is_at h =
    read_pointers (segment ∷ []) 0 segment refl place start (list_pointer (offset_to start place) 6 (length links)) (offset_to start place) links
    (list_points segment start place 6 (length links) small low (omega arith) link_is_at) (list_fields (offset_to start place) 6 (length links) (omega arith) (omega arith)) h
read_link segment place start (structs d p elements) links low small within room link_is_at h =
    let n : ℕ = length elements * (d + p) in
    read_structs (segment ∷ []) 0 segment refl place start (list_pointer (offset_to start place) 7 (length elements * (d + p))) (offset_to start place) (struct_pointer (length elements) d p) d p elements links
    (list_points segment start place 7 (length elements * (d + p)) small low (omega arith) link_is_at) (list_fields (offset_to start place) 7 (length elements * (d + p)) (omega arith) (omega arith))
    (struct_fields (length elements) d p room.2 room.0) (elements_even d elements room.5) room.4 h

pub links_get : (words : List ℕ) (place i x : ℕ) → slice_get words i ≡ Some x → slice_get (links words place) i ≡ Some (link x (place + i))
links_get [] place i x is = absurd (let no : ◌≡◌ {A = Option ℕ} None (Some x) = is in cc)
links_get (word ∷ words) place zero x is =
    let same : word ≡ x = cc in
    ap (λ (w : ℕ). Some (link w place)) same ∙ ap (λ (n : ℕ). Some (link x n)) (omega arith)
links_get (word ∷ words) place (suc i) x is = links_get words (place + 1) i x is ∙ ap (λ (n : ℕ). Some (link x n)) (omega arith)

pub length-orphan_links : (words : List ℕ) (place : ℕ) → length (links words place) ≡ length words
length-orphan_links [] place = refl
length-orphan_links (word ∷ words) place = ap (λ (n : ℕ). suc n) (length-orphan_links words (place + 1))
