-- A table has for each tag the shuffle that moves the bytes of a word that the tag marks to the front.
use Rattle.std.proofs.Common.{◌≡◌, ℕ, zero, suc, ◌+◌, ◌-◌, ◌*◌, ◌/◌, ◌%◌, ◌^◌, ◌<◌, ◌≤◌, Bool, true, false, List, [], ◌∷◌, ◌++◌, length}
use Rattle.std.proofs.Common.{take, drop, get_or, replicate, refl, sym, ap, ◌∙◌, arith, length-append, length-drop, drop-cons, w8}
use Rattle.std.specs.Prelude.{◌==◌, if◌then◌else◌}
use Rattle.std.proofs.Math.Nat.{pow-suc}
use Rattle.std.proofs.lemmas.List.{nil_from_length}
use Rattle.std.proofs.lemmas.Simd.{SwzOk-from_Each1, get_or-swz_l_below, length-replicate}
use Rattle.std.proofs.Common.{map, cond, not, eqb}
use Rattle.std.specs.Simd.Lanes.{Each1, zip2, mask_l, top}
use lib.Dec.{ltb, lt→ltb}
use lib.Count.{ones, ones_step, ones-le}
use mir.Val.{zeroes}
use borrow.Rule.Simd.Moves.{SwzOk, swz_l}
use Rattle.capnp_pack.proofs.tables.TagTableLemmas.{entries, entry_at}
use Rattle.capnp_pack.specs.declared.compact_shuffle.TheConstants.{COMPACT_SHUFFLE}
use Rattle.capnp_pack.specs.Prelude.{IsWord, marked, tag_of, nonzero}
use Rattle.capnp_pack.proofs.words.NonzeroByteTagLemmas.{marked_tag, tag_below, top_word, tag_suc, nonzero_suc}
use Rattle.capnp_pack.proofs.tables.ExpandShuffleLemmas.{IsPlace, later, lane_at, padded, padded_at}
use Rattle.std.proofs.lemmas.List.{take-take}
use Rattle.capnp_pack.proofs.words.ZeroMaskLemmas.{marks_lanes}

-- the indices from i on of the bits that are set
abbrev pub marks : ℕ → ℕ → ℕ → List ℕ
marks zero i tag = []
marks (suc n) i tag = (if tag % 2 == 1 then i ∷ [] else []) ++ marks n (suc i) (tag / 2)

abbrev pub mark_entry : ℕ → List ℕ
mark_entry tag = marks 8 0 tag ++ replicate (16 - length (marks 8 0 tag)) 128

-- the table has each tag's entry
table : COMPACT_SHUFFLE ≡ entries mark_entry 0 256
table = refl

pub mark_entry_of : (tag : ℕ) (none : List ℕ) → tag < 256 → get_or COMPACT_SHUFFLE tag none ≡ mark_entry tag
mark_entry_of tag none low = entry_at mark_entry COMPACT_SHUFFLE tag none table low

fillers_ok : (m : ℕ) → Each1 IsPlace (replicate m 128)
fillers_ok zero = tt
fillers_ok (suc m) = (tt, fillers_ok m)

marks_ok : (n i tag m : ℕ) → i + n ≤ 16 → Each1 IsPlace (marks n i tag ++ replicate m 128)
marks_ok zero i tag m low = fillers_ok m
marks_ok (suc n) i tag m low = by_bit (tag % 2 == 1) (marks_ok n (suc i) (tag / 2) m (omega arith))
  where
    by_bit : (set : Bool) → Each1 IsPlace (marks n (suc i) (tag / 2) ++ replicate m 128) → Each1 IsPlace (((if set then i ∷ [] else []) ++ marks n (suc i) (tag / 2)) ++ replicate m 128)
    by_bit false ok = ok
    by_bit true ok = (later (zeroes 16 w8 i) (ltb i 16) (lt→ltb i 16 (omega arith)), ok)

few_marks : (n i tag : ℕ) → length (marks n i tag) ≤ n
few_marks zero i tag = omega arith
few_marks (suc n) i tag = by_bit (tag % 2 == 1) (few_marks n (suc i) (tag / 2))
  where
    by_bit : (set : Bool) → length (marks n (suc i) (tag / 2)) ≤ n → length ((if set then i ∷ [] else []) ++ marks n (suc i) (tag / 2)) ≤ suc n
    by_bit false few = omega arith
    by_bit true few = omega arith

pub mark_entry_len : (tag : ℕ) → length (mark_entry tag) ≡ 16
mark_entry_len tag =
    let m = 16 - length (marks 8 0 tag) in
    omega (arith, length-append (marks 8 0 tag) (replicate m 128), length-replicate {A = ℕ} m 128, few_marks 8 0 tag)

pub mark_entry_ok : (tag : ℕ) → SwzOk w8 16 16 0 (mark_entry tag)
mark_entry_ok tag =
    let m = 16 - length (marks 8 0 tag) in
    SwzOk-from_Each1 w8 16 1 16 0 (mark_entry tag) refl
    (omega (arith, mark_entry_len tag)) (marks_ok 8 0 tag m (omega arith))

-- the first lanes are the marked bytes
gather : (n i tag k : ℕ) (word xs filler : List ℕ) → i + n ≡ 8 → length word ≡ 8 → ((j : ℕ) → j < 8 → get_or xs j 0 ≡ get_or word j 0) → k + n ≤ 16 →
    tag < 2 ^ n → take (ones tag) (swz_l w8 16 xs k (marks n i tag ++ filler)) ≡ marked tag (drop i word)
gather zero i tag k word xs filler all is same room low =
    let none : ones tag ≡ 0 = omega (arith, ones-le 0 tag low) in
    let end : drop i word ≡ [] = nil_from_length (drop i word) (omega (arith, length-drop i word)) in
    ap (λ c. take c (swz_l w8 16 xs k filler)) none ∙ ap (marked tag) (sym end)
gather (suc n) i tag k word xs filler all is same room low =
    let front : drop i word ≡ get_or word i 0 ∷ drop (suc i) word = drop-cons word i 0 (omega arith) in
    by_bit (tag % 2) refl (λ j more. gather n (suc i) (tag / 2) j word xs filler (omega arith) is same more (omega (arith, pow-suc 2 n))) ∙ ap (marked tag) (sym front)
  where
    by_bit : (bit : ℕ) → tag % 2 ≡ bit →
        ((j : ℕ) → j + n ≤ 16 → take (ones (tag / 2)) (swz_l w8 16 xs j (marks n (suc i) (tag / 2) ++ filler)) ≡ marked (tag / 2) (drop (suc i) word)) →
        take (ones tag) (swz_l w8 16 xs k (((if tag % 2 == 1 then i ∷ [] else []) ++ marks n (suc i) (tag / 2)) ++ filler)) ≡
        (if tag % 2 == 1 then get_or word i 0 ∷ [] else []) ++ marked (tag / 2) (drop (suc i) word)
    by_bit zero e others =
        let counted : ones tag ≡ ones (tag / 2) = omega (arith, ones_step tag) in
        ap (λ b. take (ones tag) (swz_l w8 16 xs k (((if b == 1 then i ∷ [] else []) ++ marks n (suc i) (tag / 2)) ++ filler))) e
        ∙ ap (λ c. take c (swz_l w8 16 xs k (marks n (suc i) (tag / 2) ++ filler))) counted
        ∙ others k (omega arith)
        ∙ ap (λ b. (if b == 1 then get_or word i 0 ∷ [] else []) ++ marked (tag / 2) (drop (suc i) word)) (sym e)
    by_bit (suc zero) e others =
        let counted : ones tag ≡ suc (ones (tag / 2)) = omega (arith, ones_step tag) in
        let first : 16 * ((k + 0) / 16) + i ≡ i = omega arith in
        let lane : lane_at xs k i ≡ get_or word i 0 = get_or-swz_l_below w8 16 xs k (i ∷ []) 0 (omega arith) (omega arith) ∙ ap (λ p. get_or xs p 0) first ∙ same i (omega arith) in
        ap (λ b. take (ones tag) (swz_l w8 16 xs k (((if b == 1 then i ∷ [] else []) ++ marks n (suc i) (tag / 2)) ++ filler))) e
        ∙ ap (λ c. take c (lane_at xs k i ∷ swz_l w8 16 xs (suc k) (marks n (suc i) (tag / 2) ++ filler))) counted
        ∙ ap (λ b. b ∷ take (ones (tag / 2)) (swz_l w8 16 xs (suc k) (marks n (suc i) (tag / 2) ++ filler))) lane
        ∙ ap (λ l. get_or word i 0 ∷ l) (others (suc k) (omega arith))
        ∙ ap (λ b. (if b == 1 then get_or word i 0 ∷ [] else []) ++ marked (tag / 2) (drop (suc i) word)) (sym e)
    by_bit (suc (suc bit)) e others = absurd (omega arith)

pub ones_tag : (w : List ℕ) → ones (tag_of w) ≡ length (nonzero w)
ones_tag [] = omega (arith, ones-le 0 0 (omega arith))
ones_tag (zero ∷ w) = let half : (0 + 2 * tag_of w) / 2 ≡ tag_of w = omega arith in omega (arith, ones_step (0 + 2 * tag_of w), ap ones half, ones_tag w)
ones_tag (suc b ∷ w) =
    let half : (1 + 2 * tag_of w) / 2 ≡ tag_of w = omega arith in
    let more : ones (1 + 2 * tag_of w) ≡ suc (length (nonzero w)) = omega (arith, ones_step (1 + 2 * tag_of w), ap ones half, ones_tag w) in
    ap ones (tag_suc b w) ∙ more ∙ sym (ap length (nonzero_suc b w))

padded_tag : (word : List ℕ) → IsWord word → tag_of (padded word) ≡ tag_of word
padded_tag [] is = absurd (omega (arith, is))
padded_tag (a ∷ []) is = absurd (omega (arith, is))
padded_tag (a ∷ b ∷ []) is = absurd (omega (arith, is))
padded_tag (a ∷ b ∷ c ∷ []) is = absurd (omega (arith, is))
padded_tag (a ∷ b ∷ c ∷ d ∷ []) is = absurd (omega (arith, is))
padded_tag (a ∷ b ∷ c ∷ d ∷ e ∷ []) is = absurd (omega (arith, is))
padded_tag (a ∷ b ∷ c ∷ d ∷ e ∷ f ∷ []) is = absurd (omega (arith, is))
padded_tag (a ∷ b ∷ c ∷ d ∷ e ∷ f ∷ g ∷ []) is = absurd (omega (arith, is))
padded_tag (a ∷ b ∷ c ∷ d ∷ e ∷ f ∷ g ∷ h ∷ []) is = refl
padded_tag (a ∷ b ∷ c ∷ d ∷ e ∷ f ∷ g ∷ h ∷ i ∷ w) is = absurd (omega (arith, is))

-- the lanes that aren't zero
pub marks_word : (word : List ℕ) → IsWord word → mask_l (map (top 7) (zip2 (λ a b. cond (not (eqb a b)) 255 0) (padded word) (replicate 16 0))) % 2 ^ 64 ≡ tag_of word
marks_word word is = marks_lanes 16 (padded word) refl (omega arith) ∙ padded_tag word is

pub nonzero_lanes : (tag : ℕ) (word : List ℕ) → IsWord word → tag ≡ tag_of word → take (ones tag) (take 8 (swz_l w8 16 (padded word) 0 (mark_entry tag))) ≡ nonzero word
nonzero_lanes tag word is e =
    let low : tag < 2 ^ 8 = omega (arith, tag_below word, top_word word is) in
    take-take (ones tag) 8 (swz_l w8 16 (padded word) 0 (mark_entry tag)) (ones-le 8 tag low)
    ∙ gather 8 0 tag 0 word (padded word) (replicate (16 - length (marks 8 0 tag)) 128) refl is (padded_at word) (omega arith) low
    ∙ ap (λ t. marked t word) e
    ∙ marked_tag word
