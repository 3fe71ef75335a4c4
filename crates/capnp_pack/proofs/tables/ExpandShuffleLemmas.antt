-- A table has for each tag the shuffle that puts the bytes after the tag at their places in a word.
use Rattle.std.proofs.Common.{◌≡◌, ℕ, zero, suc, ◌+◌, ◌*◌, ◌/◌, ◌%◌, ◌^◌, ◌<◌, ◌≤◌, Bool, true, false, cond, List, [], ◌∷◌, ◌++◌, length}
use Rattle.std.proofs.Common.{take, drop, get_or, replicate, refl, sym, ap, ◌∙◌, subst, arith, length-append, length-drop, w8}
use Rattle.std.specs.Prelude.{◌==◌, if◌then◌else◌}
use Rattle.std.proofs.Math.Nat.{pow-suc}
use Rattle.std.proofs.lemmas.List.{take-append-drop}
use Rattle.std.proofs.Math.Seq.{take-append_seam}
use Rattle.std.proofs.lemmas.Simd.{SwzOk-from_Each1, get_or-swz_l_below}
use Rattle.std.specs.Simd.Lanes.{Each1}
use mathlib.Core.Bool.{◌||◌}
use lib.Dec.{T, ltb, lt→ltb}
use lib.Count.{ones, ones_step, ones-le}
use mir.Val.{zeroes}
use borrow.Rule.Simd.Moves.{SwzOk, swz_l}
use Rattle.capnp_pack.proofs.tables.TagTableLemmas.{entries, entry_at}
use Rattle.capnp_pack.specs.declared.expand_shuffle.TheConstants.{EXPAND_SHUFFLE}
use Rattle.capnp_pack.specs.Prelude.{marked, MarkedAt}
use Rattle.capnp_pack.proofs.words.MarkedByteReadLemmas.{byte_joins}
use Rattle.capnp_pack.proofs.unpacking.ShownGroupsUnpackToBufferLemmas.{bit_here}

-- for each of n bits its index among those that are set, counted from `rank`, or 128
abbrev pub bit_ranks : ℕ → ℕ → ℕ → List ℕ
bit_ranks zero rank tag = []
bit_ranks (suc n) rank tag = (if tag % 2 == 1 then rank else 128) ∷ bit_ranks n (rank + tag % 2) (tag / 2)

abbrev pub entry : ℕ → List ℕ
entry tag = bit_ranks 8 0 tag ++ replicate 8 128

-- the table has each tag's entry
table : EXPAND_SHUFFLE ≡ entries entry 0 256
table = refl

pub entry_of : (tag : ℕ) (none : List ℕ) → tag < 256 → get_or EXPAND_SHUFFLE tag none ≡ entry tag
entry_of tag none low = entry_at entry EXPAND_SHUFFLE tag none table low

-- each place is one of 16, or 128

abbrev pub IsPlace : ℕ → Type 0
IsPlace j = T (zeroes 16 w8 j || ltb j 16)

pub later : (a b : Bool) → T b → T (a || b)
later true b t = tt
later false b t = t

place_ok : (rank : ℕ) (set : Bool) → rank < 16 → IsPlace (if set then rank else 128)
place_ok rank true low = later (zeroes 16 w8 rank) (ltb rank 16) (lt→ltb rank 16 low)
place_ok rank false low = tt

places_ok : (n rank tag : ℕ) → rank + n ≤ 16 → Each1 IsPlace (bit_ranks n rank tag)
places_ok zero rank tag low = tt
places_ok (suc n) rank tag low = (place_ok rank (tag % 2 == 1) (omega arith), places_ok n (rank + tag % 2) (tag / 2) (omega arith))

padded_ok : (js : List ℕ) → Each1 IsPlace js → Each1 IsPlace (js ++ replicate 8 128)
padded_ok [] ok = (tt, (tt, (tt, (tt, (tt, (tt, (tt, (tt, tt))))))))
padded_ok (j ∷ js) ok = (ok.0, padded_ok js ok.1)

length-bit_ranks : (n rank tag : ℕ) → length (bit_ranks n rank tag) ≡ n
length-bit_ranks zero rank tag = refl
length-bit_ranks (suc n) rank tag = ap suc (length-bit_ranks n (rank + tag % 2) (tag / 2))

pub entry_len : (tag : ℕ) → length (entry tag) ≡ 16
entry_len tag = omega (arith, length-append (bit_ranks 8 0 tag) (replicate 8 128), length-bit_ranks 8 0 tag)

pub entry_ok : (tag : ℕ) → SwzOk w8 16 16 0 (entry tag)
entry_ok tag = SwzOk-from_Each1 w8 16 1 16 0 (entry tag) refl (omega (arith, length-append (bit_ranks 8 0 tag) (replicate 8 128), length-bit_ranks 8 0 tag))
    (padded_ok (bit_ranks 8 0 tag) (places_ok 8 0 tag (omega arith)))

-- eight bytes, and zeros after them, as a vector

abbrev pub padded : List ℕ → List ℕ
padded word = get_or word 0 0 ∷ get_or word 1 0 ∷ get_or word 2 0 ∷ get_or word 3 0 ∷ get_or word 4 0 ∷ get_or word 5 0 ∷ get_or word 6 0 ∷ get_or word 7 0 ∷ replicate 8 0

pub padded_at : (word : List ℕ) (j : ℕ) → j < 8 → get_or (padded word) j 0 ≡ get_or word j 0
padded_at word zero low = refl
padded_at word (suc zero) low = refl
padded_at word (suc (suc zero)) low = refl
padded_at word (suc (suc (suc zero))) low = refl
padded_at word (suc (suc (suc (suc zero)))) low = refl
padded_at word (suc (suc (suc (suc (suc zero))))) low = refl
padded_at word (suc (suc (suc (suc (suc (suc zero)))))) low = refl
padded_at word (suc (suc (suc (suc (suc (suc (suc zero))))))) low = refl
padded_at word (suc (suc (suc (suc (suc (suc (suc (suc j)))))))) low = absurd (omega arith)

-- a lane at a place

abbrev pub lane_at : List ℕ → ℕ → ℕ → ℕ
lane_at xs i j = cond (zeroes 16 w8 j) 0 (get_or xs (16 * (i / 16) + j) 0)

clear_lane : (xs : List ℕ) (i rank bit : ℕ) → bit ≡ 0 → lane_at xs i (if bit == 1 then rank else 128) ≡ 0
clear_lane xs i rank bit e = ap (λ b. lane_at xs i (if b == 1 then rank else 128)) e

set_lane : (encoding : List ℕ) (i rank bit : ℕ) → bit ≡ 1 → rank < 8 → i < 8 → lane_at (padded encoding) i (if bit == 1 then rank else 128) ≡ get_or encoding rank 0
set_lane encoding i rank bit e low small =
    let first : 16 * ((i + 0) / 16) + rank ≡ rank = omega arith in
    ap (λ b. lane_at (padded encoding) i (if b == 1 then rank else 128)) e
    ∙ get_or-swz_l_below w8 16 (padded encoding) i (rank ∷ []) 0 (omega arith) (omega arith)
    ∙ ap (λ k. get_or (padded encoding) k 0) first
    ∙ padded_at encoding rank low

-- the lanes at their places are a word under the tag
spread : (n rank tag i : ℕ) (encoding : List ℕ) → n + i ≤ 8 → rank ≤ i → 8 ≤ length encoding → tag < 2 ^ n →
    MarkedAt tag (swz_l w8 16 (padded encoding) i (bit_ranks n rank tag)) (drop rank encoding) (drop (rank + ones tag) encoding)
spread zero rank tag i encoding room following long low =
    let none : rank ≡ rank + ones tag = omega (arith, ones-le 0 tag low) in
    (ap (λ k. drop k encoding) none, tt)
spread (suc n) rank tag i encoding room following long low =
    let lane = lane_at (padded encoding) i (if tag % 2 == 1 then rank else 128) in
    let here = bit_here tag rank lane encoding (clear_lane (padded encoding) i rank (tag % 2)) (λ e. (omega arith, set_lane encoding i rank (tag % 2) e (omega arith) (omega arith))) in
    let others = spread n (rank + tag % 2) (tag / 2) (suc i) encoding (omega arith) (omega arith) long (omega (arith, pow-suc 2 n)) in
    let counted : rank + tag % 2 + ones (tag / 2) ≡ rank + ones tag = omega (arith, ones_step tag) in
    byte_joins tag lane (swz_l w8 16 (padded encoding) (suc i) (bit_ranks n (rank + tag % 2) (tag / 2))) (drop rank encoding) (drop (rank + tag % 2) encoding) (drop (rank + ones tag) encoding) here
    (subst (λ k. MarkedAt (tag / 2) (swz_l w8 16 (padded encoding) (suc i) (bit_ranks n (rank + tag % 2) (tag / 2))) (drop (rank + tag % 2) encoding) (drop k encoding)) counted others)

pub spread_word : (tag : ℕ) (encoding word : List ℕ) → tag < 256 → 8 ≤ length encoding → word ≡ take 8 (swz_l w8 16 (padded encoding) 0 (entry tag)) → MarkedAt tag word encoding (drop (ones tag) encoding)
spread_word tag encoding word low long is =
    let front : take 8 (swz_l w8 16 (padded encoding) 0 (entry tag)) ≡ swz_l w8 16 (padded encoding) 0 (bit_ranks 8 0 tag) = refl in
    let none : 0 + ones tag ≡ ones tag = omega arith in
    subst (λ w. MarkedAt tag w encoding (drop (ones tag) encoding)) (sym (is ∙ front))
    (subst (λ k. MarkedAt tag (swz_l w8 16 (padded encoding) 0 (bit_ranks 8 0 tag)) encoding (drop k encoding)) none (spread 8 0 tag 0 encoding (omega arith) (omega arith) long low))

-- and from bytes that have the marked bytes, and no others, in common with these
pub spread_front : (tag used : ℕ) (encoding front word : List ℕ) → used ≤ length front → take used front ≡ take used encoding →
    MarkedAt tag word front (drop used front) → MarkedAt tag word encoding (drop used encoding)
spread_front tag used encoding front word within same at =
    let counted : length (marked tag word) ≡ used = omega (arith, ap length at.0, length-append (marked tag word) (drop used front), length-drop used front) in
    let long : take used front ≡ marked tag word =
    ap (take used) at.0 ∙ ap (λ k. take k (marked tag word ++ drop used front)) (sym counted) ∙ take-append_seam (marked tag word) (drop used front) in
    (sym (take-append-drop used encoding) ∙ ap (λ l. l ++ drop used encoding) (sym same ∙ long), at.1)
