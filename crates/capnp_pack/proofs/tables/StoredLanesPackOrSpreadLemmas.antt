-- The first eight of sixteen shuffled lanes, as they are stored: the nonzero bytes of a word, or the word of the
-- bytes that a tag marks.
use Rattle.std.proofs.Common.{◌≡◌, ℕ, ◌+◌, ◌-◌, ◌<◌, ◌≤◌, ◌++◌, ◌∷◌, [], List, length, take, drop, w8, sym, ap, ◌∙◌, arith, append-nil, length-take, length-drop}
use Rattle.std.specs.Simd.Lanes.{pick_l, put_chunk}
use Rattle.std.specs.List.{range_with_len}
use Rattle.std.proofs.lemmas.Simd.{pick_l_left, pick_l-range_with_len, length-swz_l, put_chunk_whole}
use Rattle.std.proofs.lemmas.List.{length-take-le}
use lib.Count.{ones}
use borrow.Rule.Simd.Moves.{swz_l}
use borrow.Rule.Slice.PartMut.{put_mid, mid_of}
use Rattle.capnp_frame.proofs.sources.JoinedRequestPartsLemmas.{put_mid_front}
use Rattle.capnp_pack.specs.Prelude.{IsWord, MarkedAt, tag_of, nonzero}
use Rattle.capnp_pack.proofs.tables.CompactShuffleLemmas.{mark_entry, mark_entry_len, nonzero_lanes}
use Rattle.capnp_pack.proofs.tables.ExpandShuffleLemmas.{padded, entry, entry_len, spread_word}

-- eight of sixteen lanes
abbrev pub eight_lanes : List ℕ → List ℕ
eight_lanes lanes = pick_l 0 (lanes ++ lanes) (range_with_len 0 8)

pub eight_first : (lanes : List ℕ) → length lanes ≡ 16 → eight_lanes lanes ≡ take 8 lanes
eight_first lanes long = pick_l_left 0 lanes lanes 16 (range_with_len 0 8) long tt ∙ pick_l-range_with_len 0 lanes 0 8 (omega (arith, long))

pub front_lanes : (tag : ℕ) (word places : List ℕ) → places ≡ mark_entry tag → IsWord word → tag ≡ tag_of word
    → take (ones tag) (eight_lanes (swz_l w8 16 (padded word) 0 places)) ≡ nonzero word
front_lanes tag word places entry is tagged_by =
    let lanes = swz_l w8 16 (padded word) 0 places in
    let long : length lanes ≡ 16 = length-swz_l w8 16 (padded word) 0 places ∙ ap length entry ∙ mark_entry_len tag in
    ap (take (ones tag)) (eight_first lanes long) ∙ ap (λ js. take (ones tag) (take 8 (swz_l w8 16 (padded word) 0 js))) entry ∙ nonzero_lanes tag word is tagged_by

-- the first lane of a zero word is zero
pub front_zero : (tag : ℕ) (word places : List ℕ) → places ≡ mark_entry tag → tag ≡ 0 → take 1 (eight_lanes (swz_l w8 16 (padded word) 0 places)) ≡ 0 ∷ []
front_zero tag word places entry none = ap (λ js. take 1 (eight_lanes (swz_l w8 16 (padded word) 0 js))) (entry ∙ ap mark_entry none)

-- all eight are stored, and only some of them are used
pub stored : (at count : ℕ) (bytes front : List ℕ) → length bytes ≡ 64 → length front ≡ 8 → at ≤ 56 → count ≤ 8
    → take (at + count) (put_mid at (at + 8 - at) bytes (put_chunk 0 (mid_of at (at + 8 - at) bytes) front)) ≡ take at bytes ++ take count front
stored at count bytes front long eight room few =
    let middle = mid_of at (at + 8 - at) bytes in
    let same : length middle ≡ length front = omega (arith, length-take (at + 8 - at) (drop at bytes), length-drop at bytes, long, eight) in
    ap (λ l. take (at + count) (put_mid at (at + 8 - at) bytes l)) (put_chunk_whole middle front same)
    ∙ put_mid_front at (at + 8 - at) count bytes front (omega (arith, long)) (omega (arith, eight))

pub stored_zero : (at count : ℕ) (bytes front : List ℕ) → length bytes ≡ 64 → length front ≡ 8 → at ≤ 56 → count ≡ 0 → take 1 front ≡ 0 ∷ []
    → let stores = put_mid at (at + 8 - at) bytes (put_chunk 0 (mid_of at (at + 8 - at) bytes) front) in take (at + count + 1) stores ≡ take (at + count) stores ++ 0 ∷ []
stored_zero at count bytes front long eight room none first =
    let stores = put_mid at (at + 8 - at) bytes (put_chunk 0 (mid_of at (at + 8 - at) bytes) front) in
    let one : at + count + 1 ≡ at + 1 = omega (arith, none) in
    let kept : take (at + count) stores ≡ take at bytes = ap (λ k. take (at + k) stores) none ∙ stored at 0 bytes front long eight room (omega arith) ∙ append-nil (take at bytes) in
    ap (λ k. take k stores) one ∙ stored at 1 bytes front long eight room (omega arith) ∙ ap (λ l. take at bytes ++ l) first ∙ ap (λ l. l ++ 0 ∷ []) (sym kept)

-- the bytes that a tag marks, at their places in a word
pub spread_lanes : (tag : ℕ) (encoding word places : List ℕ) → tag < 256 → 8 ≤ length encoding → IsWord word → places ≡ entry tag
    → MarkedAt tag (put_chunk 0 word (eight_lanes (swz_l w8 16 (padded encoding) 0 places))) encoding (drop (ones tag) encoding)
spread_lanes tag encoding word places low long is entry_is =
    let lanes = swz_l w8 16 (padded encoding) 0 places in
    let wide : length lanes ≡ 16 = length-swz_l w8 16 (padded encoding) 0 places ∙ ap length entry_is ∙ entry_len tag in
    let eight : length (eight_lanes lanes) ≡ 8 = ap length (eight_first lanes wide) ∙ length-take-le 8 lanes (omega (arith, wide)) in
    spread_word tag encoding _ low long (put_chunk_whole word (eight_lanes lanes) (is ∙ sym eight) ∙ eight_first lanes wide
    ∙ ap (λ js. take 8 (swz_l w8 16 (padded encoding) 0 js)) entry_is)
