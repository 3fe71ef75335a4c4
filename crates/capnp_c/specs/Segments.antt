-- The segments of a message in some bytes (src/reading/segments.rt). `begins` says where each group of sixteen segments but the
-- first begins. A segment has the length that its field in the table spells, and what lies past the bytes is cut off.
use Rattle.std.specs.Prelude.{ℕ, ◌+◌, ◌*◌, ◌/◌, ◌%◌, if◌then◌else◌, List, ◌∷◌, drop, take, map, sum, slice_index, nat_lt}
use Rattle.std.specs.List.{range_with_len}
use Rattle.capnp_frame.specs.Prelude.{table_size, number, numbers, declared_lengths}

-- How many bytes are before the segment at an index. Its group begins after the table, or where `begins` says, and the
-- table's fields spell the lengths of the segments before it in the group.
abbrev pub start_of : List ℕ → ℕ → List ℕ → ℕ → ℕ
start_of begins count bytes index =
    slice_index (table_size count ∷ begins) (index / 16) + 8 * sum (numbers (index % 16) (drop (4 * (16 * (index / 16) + 1)) bytes))

-- the segment there has the length that its field spells, or ends where the bytes end
abbrev pub segment_from : List ℕ → ℕ → List ℕ → ℕ → List ℕ
segment_from begins count bytes index = take (8 * number (drop (4 * (index + 1)) bytes)) (drop (start_of begins count bytes index) bytes)

-- this many segments
abbrev pub segments_from : List ℕ → ℕ → List ℕ → List (List ℕ)
segments_from begins count bytes = map (segment_from begins count bytes) (range_with_len 0 count)

-- where a group begins in a framed message, by its index without the first group; 0 where there is no such group
abbrev pub group_begin : ℕ → List ℕ → ℕ → ℕ
group_begin count bytes index =
    if nat_lt (16 * (index + 1)) count then table_size count + 8 * sum (declared_lengths (16 * (index + 1)) bytes) else 0

-- where each group but the first begins
abbrev pub group_begins : ℕ → List ℕ → List ℕ
group_begins count bytes = map (group_begin count bytes) (range_with_len 0 31)
