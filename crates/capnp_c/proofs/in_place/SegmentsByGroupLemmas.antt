-- Where groups of sixteen segments begin as in a framed message, the segments are the framed ones.
use Rattle.std.proofs.Common.{◌≡◌, ℕ, ◌+◌, ◌*◌, ◌/◌, ◌%◌, ◌<◌, ◌≤◌, zero, suc, Some, List, ◌∷◌, take, drop, sym, ap, ◌∙◌, refl, arith, add-one, zero-add}
use Rattle.std.proofs.lemmas.Bool.{lt-ltb, le-ltb}
use Rattle.std.proofs.lemmas.List.{drop-drop, same_lists, get_or-replicate}
use Rattle.std.proofs.lemmas.List.FromFn.{length-map-range_with_len, get_or-map-range_with_len, fill_by_all}
use Rattle.std.proofs.lemmas.Option.{get_or_from_slice_get}
use Rattle.std.specs.Prelude.{sum, slice_get, slice_index, replicate, if◌then◌else◌}
use Rattle.capnp_frame.specs.Prelude.{table_size, number, numbers, declared_lengths, declared_segments}
use Rattle.capnp_frame.proofs.encodings.DeclaredMessageIsFrontFrameLemmas.{length-declared_segments}
use Rattle.capnp_frame.proofs.tables.PartsCutAtRunningSumsLemmas.{sum_push}
use Rattle.capnp_frame.proofs.tables.SegmentRangeLemmas.{cut_at, sum-declared}
use Rattle.capnp_frame.proofs.tables.TableDeclaredByFieldsLemmas.{number_at, numbers-suc, numbers-take}
use Rattle.capnp_c.specs.Segments.{start_of, segment_from, segments_from, group_begin, group_begins}

-- one length more
pub sum-lengths : (first count : ℕ) (bytes : List ℕ)
    → sum (numbers (count + 1) (drop (4 * (first + 1)) bytes)) ≡ sum (numbers count (drop (4 * (first + 1)) bytes)) + number (drop (4 * (first + count + 1)) bytes)
sum-lengths first count bytes =
    let fields = drop (4 * (first + 1)) bytes in
    let place : 4 * (first + 1) + 4 * count ≡ 4 * (first + count + 1) = omega arith in
    ap (λ k. sum (numbers k fields)) (add-one count) ∙ ap sum (numbers-suc count fields) ∙ sum_push (numbers count fields) (number (drop (4 * count) fields))
    ∙ ap (λ l. sum (numbers count fields) + number l) (drop-drop (4 * count) (4 * (first + 1)) bytes ∙ ap (λ k. drop k bytes) place)

-- a group more
pub sum-group : (first count : ℕ) (bytes : List ℕ)
    → sum (declared_lengths (first + count) bytes) ≡ sum (declared_lengths first bytes) + sum (numbers count (drop (4 * (first + 1)) bytes))
sum-group first zero bytes =
    let none : first + 0 ≡ first = omega arith in
    omega (arith, ap (λ k. sum (declared_lengths k bytes)) none)
sum-group first (suc count) bytes =
    let fields = drop (4 * (first + 1)) bytes in
    let further : first + suc count ≡ first + count + 1 = omega arith in
    let whole = ap (λ k. sum (declared_lengths k bytes)) further in
    let part = ap (λ k. sum (numbers k fields)) (add-one count) in
    omega (arith, whole, part, sum-declared bytes (first + count), sum-lengths first count bytes, sum-group first count bytes)

-- where a group begins

group_there : (count : ℕ) (bytes : List ℕ) (group : ℕ) → group < 32 → 16 * group < count
    → slice_index (table_size count ∷ group_begins count bytes) group ≡ table_size count + 8 * sum (declared_lengths (16 * group) bytes)
group_there count bytes zero few there = omega arith
group_there count bytes (suc index) few there =
    let begin = table_size count + 8 * sum (declared_lengths (16 * (index + 1)) bytes) in
    let more : 16 * (index + 1) < count = omega (arith, there) in
    get_or-map-range_with_len (group_begin count bytes) 0 31 index index 0 (omega (arith, few)) (zero-add index)
    ∙ ap (λ b. if b then begin else 0) (lt-ltb (16 * (index + 1)) count more)
    ∙ ap (λ k. table_size count + 8 * sum (declared_lengths (16 * k) bytes)) (add-one index)

pub no_group : (count : ℕ) (bytes : List ℕ) (index : ℕ) → count ≤ 16 * (index + 1) → group_begin count bytes index ≡ 0
no_group count bytes index past =
    let begin = table_size count + 8 * sum (declared_lengths (16 * (index + 1)) bytes) in
    ap (λ b. if b then begin else 0) (le-ltb (16 * (index + 1)) count past)

pub is_group : (count : ℕ) (bytes : List ℕ) (index : ℕ) → 16 * (index + 1) < count
    → group_begin count bytes index ≡ table_size count + 8 * sum (declared_lengths (16 * (index + 1)) bytes)
is_group count bytes index there =
    let begin = table_size count + 8 * sum (declared_lengths (16 * (index + 1)) bytes) in
    ap (λ b. if b then begin else 0) (lt-ltb (16 * (index + 1)) count there)

-- few segments are one group
pub no_groups : (count : ℕ) (bytes : List ℕ) → count ≤ 16 → replicate 31 0 ≡ group_begins count bytes
no_groups count bytes few =
    fill_by_all (group_begin count bytes) (replicate 31 0) 31 0 refl (λ k less. get_or-replicate 31 k 0 0 less ∙ sym (no_group count bytes k (omega (arith, few))))

-- so each segment begins after the table and the segments before it
start_there : (count : ℕ) (bytes : List ℕ) (index : ℕ) → index < count → count < 512
    → start_of (group_begins count bytes) count bytes index ≡ table_size count + 8 * sum (declared_lengths index bytes)
start_there count bytes index less few =
    let first = 16 * (index / 16) in
    let place : first + index % 16 ≡ index = omega arith in
    let begin = group_there count bytes (index / 16) (omega (arith, less, few)) (omega (arith, less)) in
    omega (arith, begin, sum-group first (index % 16) bytes, ap (λ k. sum (declared_lengths k bytes)) place)

-- and is the framed one
declared_segment_at : (count : ℕ) (bytes : List ℕ) (id : ℕ) → id < count → slice_get (declared_segments count bytes) id
    ≡ Some (take (8 * number (drop (4 * (id + 1)) bytes)) (drop (table_size count + 8 * sum (declared_lengths id bytes)) bytes))
declared_segment_at count bytes id less =
    let ns = declared_lengths count bytes in
    let words = number (drop (4 * (id + 1)) bytes) in
    let further : 4 + 4 * id ≡ 4 * (id + 1) = omega arith in
    let number_is : number (drop (4 * id) (drop 4 bytes)) ≡ words = ap number (drop-drop (4 * id) 4 bytes ∙ ap (λ k. drop k bytes) further) in
    let here : slice_get ns id ≡ Some words = number_at id count (drop 4 bytes) less ∙ ap Some number_is in
    let before : sum (take id ns) ≡ sum (declared_lengths id bytes) = ap sum (numbers-take id count (drop 4 bytes) (omega arith)) in
    let place : table_size count + 8 * sum (take id ns) ≡ table_size count + 8 * sum (declared_lengths id bytes) = omega (arith, before) in
    cut_at ns (drop (table_size count) bytes) id words here
    ∙ ap (λ l. Some (take (8 * words) l)) (drop-drop (8 * sum (take id ns)) (table_size count) bytes ∙ ap (λ k. drop k bytes) place)

pub segments_there : (count : ℕ) (bytes : List ℕ) → count < 512 → segments_from (group_begins count bytes) count bytes ≡ declared_segments count bytes
segments_there count bytes few =
    let begins = group_begins count bytes in
    let segment = segment_from begins count bytes in
    let long = length-map-range_with_len segment 0 count in
    same_lists (segments_from begins count bytes) (declared_segments count bytes) (long ∙ sym (length-declared_segments count bytes))
    (λ k d within.
    let less : k < count = omega (arith, within, long) in
    get_or-map-range_with_len segment 0 count k k d less (zero-add k)
    ∙ ap (λ start. take (8 * number (drop (4 * (k + 1)) bytes)) (drop start bytes)) (start_there count bytes k less few)
    ∙ sym (get_or_from_slice_get (declared_segments count bytes) k _ d (declared_segment_at count bytes k less)))
