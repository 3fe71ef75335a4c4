-- The group at the front of packed bytes: how many bytes it has, and how many its words have, by its head.
use Rattle.std.proofs.Common.{◌≡◌, ℕ, zero, suc, ◌+◌, ◌-◌, ◌*◌, ◌/◌, ◌%◌, ◌^◌, ◌<◌, ◌≤◌, inl, inr, lit<, List, [], ◌∷◌, ◌++◌, length, take, drop, get_or, replicate}
use Rattle.std.proofs.Common.{refl, sym, ap, ◌∙◌, subst, arith, length-append, length-drop}
use Rattle.std.specs.Prelude.{◌==◌, if◌then◌else◌}
use Rattle.std.specs.List.{concat}
use Rattle.std.proofs.Math.Nat.{pow-suc}
use Rattle.std.proofs.lemmas.Bool.{cases_lt}
use Rattle.std.proofs.lemmas.List.{at_drop_more, get_or_append_left, get_or-append_right, length-take-le, take-append-drop}
use lib.Count.{ones, ones_step, ones-le}
use Rattle.capnp_frame.specs.declared.error.ErrorKind.TheVariants.{FailedToFillTheWholeBuffer, PrematureEndOfPackedInput}
use Rattle.capnp_pack.specs.Prelude.{BeginsWithGroups, FirstGroupError, Group, IsGroup, group_encoding, length-words, literal, marked, tagged, zero_word, zeros}
use Rattle.capnp_pack.specs.PackedSource.{IsHeadCut}
use Rattle.capnp_pack.proofs.errors.GroupErrorLemmas.{literal_cut, literal_long, literal_run_cut, long_run, no_count, tagged_cut}
use Rattle.capnp_pack.proofs.unpacking.SkippedGroupSizeLemmas.{HasSize, group_passes, run_passes}
use Rattle.capnp_pack.proofs.words.MarkedByteReadLemmas.{marks_some}
use Rattle.capnp_c.specs.Parts.{IsFirstGroup, Overrun}

-- a tag marks as many bytes of a word as it has bits
one_marked : (bit byte : ℕ) (others : List ℕ) → bit < 2 → length ((if bit == 1 then byte ∷ [] else []) ++ others) ≡ bit + length others
one_marked zero byte others low = omega arith
one_marked (suc zero) byte others low = omega arith
one_marked (suc (suc bit)) byte others low = absurd (omega arith)

marked_len : (n tag : ℕ) (word : List ℕ) → length word ≡ n → tag < 2 ^ n → length (marked tag word) ≡ ones tag
marked_len zero tag [] long low = omega (arith, ones-le 0 tag low)
marked_len zero tag (byte ∷ word) long low = absurd (omega arith)
marked_len (suc n) tag [] long low = absurd (omega arith)
marked_len (suc n) tag (byte ∷ word) long low =
    let first : length (marked tag (byte ∷ word)) ≡ tag % 2 + length (marked (tag / 2) word) = one_marked (tag % 2) byte (marked (tag / 2) word) (omega arith) in
    let others = marked_len n (tag / 2) word (omega arith) (omega (arith, pow-suc 2 n)) in
    omega (arith, first, others, ones_step tag)

ones_some : (tag : ℕ) → 0 < tag → tag < 256 → 0 < ones tag
ones_some tag some low = omega (arith, marks_some 8 tag some low, marked_len 8 tag (replicate 8 0) refl low)

-- whatever follows, the first group has as many bytes at least

two_bytes : (group : Group) → IsGroup group → 2 ≤ length (group_encoding group)
two_bytes (tagged tag word) is =
    let low : tag < 256 = omega (arith, is.1) in
    omega (arith, ones_some tag is.0 low, marked_len 8 tag word is.2 low)
two_bytes (zeros further) is = omega arith
two_bytes (literal word further) is = omega (arith, is.0, length-append word (length further ∷ concat further))

tagged_least : (tag : ℕ) (following more rest : List ℕ) (group : Group) → 0 < tag → tag < 255 → IsGroup group → (tag ∷ following) ++ more ≡ group_encoding group ++ rest
    → 1 + ones tag ≤ length (group_encoding group)
tagged_least tag following more rest (tagged other word) some low is e =
    let same : tag ≡ other = cc in
    let under : other < 256 = omega (arith, is.1) in
    let long = marked_len 8 other word is.2 under in
    subst (λ k. 1 + ones k ≤ suc (length (marked other word))) (sym same) (omega (arith, long))
tagged_least tag following more rest (zeros further) some low is e = let same : tag ≡ 0 = cc in absurd (omega arith)
tagged_least tag following more rest (literal word further) some low is e = let same : tag ≡ 255 = cc in absurd (omega arith)

literal_least : (following more rest : List ℕ) (group : Group) → IsGroup group → (255 ∷ following) ++ more ≡ group_encoding group ++ rest
    → 10 ≤ length (group_encoding group)
literal_least following more rest (tagged other word) is e = let same : 255 ≡ other = cc in absurd (omega (arith, is.1))
literal_least following more rest (zeros further) is e = let same : ◌≡◌ {A = ℕ} 255 0 = cc in absurd (omega arith)
literal_least following more rest (literal word further) is e = omega (arith, is.0, length-append word (length further ∷ concat further))

run_least : (following more rest : List ℕ) (group : Group) → 9 ≤ length following → IsGroup group → (255 ∷ following) ++ more ≡ group_encoding group ++ rest
    → 10 + 8 * get_or following 8 0 ≤ length (group_encoding group)
run_least following more rest (tagged other word) long is e = let same : 255 ≡ other = cc in absurd (omega (arith, is.1))
run_least following more rest (zeros further) long is e = let same : ◌≡◌ {A = ℕ} 255 0 = cc in absurd (omega arith)
run_least following more rest (literal word further) long is e =
    let run = length further ∷ concat further in
    let after : following ++ more ≡ (word ++ run) ++ rest = cc in
    let whole = length-append word run in
    let words = length-words further is.1 in
    let count : get_or following 8 0 ≡ length further = sym (get_or_append_left following more 0 8 (omega (arith, long))) ∙ ap (λ l. get_or l 8 0) after
    ∙ get_or_append_left (word ++ run) rest 0 8 (omega (arith, whole, is.0)) ∙ get_or-append_right word run 8 8 0 is.0 (omega arith) in
    omega (arith, count, whole, words, is.0)

-- what is there of it

other_kind : PrematureEndOfPackedInput ≡ Overrun → ⊥
other_kind e = cc

pub no_group : (most : ℕ) → 8 ≤ most → IsFirstGroup [] most (record { len = 2; filled = 8 })
no_group most room =
    let some : 0 < most = omega arith in
    let error : IsHeadCut [] = record { group = zeros 0; is = lit< tt; missing = 0 ∷ 0 ∷ []; some = lit< tt; spelled = refl } in
    record {
      few = (omega arith, omega arith);
      some = lit< tt;
      whole = λ there. absurd (omega (arith, there));
      cut = λ short. (PrematureEndOfPackedInput, other_kind, (some, inl (error, refl)));
      least = λ first more rest is e. two_bytes first is;
    }

pub tagged_group : (tag most : ℕ) (shown following : List ℕ) → shown ≡ tag ∷ following → 0 < tag → tag < 255 → 8 ≤ most → get_or shown (ones tag) 0 < 256
    → IsFirstGroup shown most (record { len = 1 + ones tag; filled = 8 })
tagged_group tag most shown following at some low room byte =
    let under : tag < 256 = omega arith in
    let marked_bytes : length (marked tag zero_word) ≡ ones tag = marked_len 8 tag zero_word refl under in
    let last : (1 + ones tag) - 1 ≡ ones tag = omega arith in
    let size : HasSize tag (1 + ones tag) 0 (get_or shown ((1 + ones tag) - 1) 0) = record {
      zero = λ none. absurd (omega (arith, none));
      full = λ full. absurd (omega (arith, full));
      tagged = λ some less. refl;
      zeros = λ none. absurd (omega (arith, none));
      literal = λ full. absurd (omega (arith, full));
      one = λ some less. refl;
    } in
    record {
      few = (omega (arith, ones_some tag some under), omega (arith, ones-le 8 tag under));
      some = lit< tt;
      whole = λ there. group_passes tag (1 + ones tag) 0 most shown following size under (subst (λ k. get_or shown k 0 < 256) (sym last) byte) at there (omega arith) (omega arith);
      cut = λ short. (
        PrematureEndOfPackedInput,
        other_kind,
        subst (λ l. FirstGroupError l most PrematureEndOfPackedInput) (sym at)
            (tagged_cut tag most following (omega arith) some low (omega (arith, short, marked_bytes, ap length at))),
      );
      least = λ first more rest is e. tagged_least tag following more rest first some low is (ap (λ l. l ++ more) (sym at) ∙ e);
    }

pub zeros_cut : (most : ℕ) (following : List ℕ) → following ≡ [] → 8 ≤ most → IsFirstGroup (0 ∷ following) most (record { len = 2; filled = 8 })
zeros_cut most following none room = record {
  few = (omega arith, omega arith);
  some = lit< tt;
  whole = λ there. absurd (omega (arith, there, ap length none));
  cut = λ short. (PrematureEndOfPackedInput, other_kind, subst (λ l. FirstGroupError (0 ∷ l) most PrematureEndOfPackedInput) (sym none) (no_count most (omega arith)));
  least = λ first more rest is e. two_bytes first is;
}

pub zeros_group : (further most : ℕ) (following : List ℕ) → get_or following 0 0 ≡ further → further < 256 → 1 ≤ length following → 8 + 8 * further ≤ most
    → IsFirstGroup (0 ∷ following) most (record { len = 2; filled = 8 + 8 * further })
zeros_group further most following count low there room =
    let size : HasSize 0 2 further (get_or following 0 0) = record {
      zero = λ none. refl;
      full = λ full. absurd (omega (arith, full));
      tagged = λ some less. absurd (omega (arith, some));
      zeros = λ none. sym count;
      literal = λ full. absurd (omega (arith, full));
      one = λ some less. absurd (omega (arith, some));
    } in
    record {
      few = (omega arith, omega arith);
      some = omega arith;
      whole = λ there. group_passes 0 2 further most (0 ∷ following) following size (omega arith) (omega (arith, count)) refl there room (omega arith);
      cut = λ short. absurd (omega (arith, short));
      least = λ first more rest is e. two_bytes first is;
    }

-- after its count
parts_at : (following : List ℕ) (n : ℕ) → n < length following → take n following ++ get_or following n 0 ∷ drop (n + 1) following ≡ following
parts_at following n inside = sym (at_drop_more (λ l. take n following ++ l) following n 0 inside) ∙ take-append-drop n following

pub zeros_over : (further most : ℕ) (following : List ℕ) → get_or following 0 0 ≡ further → further < 256 → 1 ≤ length following → 8 ≤ most → most < 8 + 8 * further
    → FirstGroupError (0 ∷ following) most Overrun
zeros_over further most following count low there room long =
    let parts : further ∷ drop 1 following ≡ following = ap (λ k. k ∷ drop 1 following) (sym count) ∙ parts_at following 0 (omega arith) in
    subst (λ l. FirstGroupError (0 ∷ l) most Overrun) parts (long_run further most (drop 1 following) low (omega arith) (omega arith))

pub literal_cut_group : (most : ℕ) (following : List ℕ) → length following < 9 → 8 ≤ most → IsFirstGroup (255 ∷ following) most (record { len = 10; filled = 8 })
literal_cut_group most following short room = record {
  few = (omega arith, omega arith);
  some = lit< tt;
  whole = λ there. absurd (omega (arith, there));
  cut = λ cut. (PrematureEndOfPackedInput, other_kind, literal_cut following most (omega arith) short);
  least = λ first more rest is e. literal_least following more rest first is e;
}

literal_parts : (further : ℕ) (following : List ℕ) → get_or following 8 0 ≡ further → 9 ≤ length following → take 8 following ++ further ∷ drop 9 following ≡ following
literal_parts further following count there = ap (λ k. take 8 following ++ k ∷ drop 9 following) (sym count) ∙ parts_at following 8 (omega arith)

pub literal_group : (further most : ℕ) (following : List ℕ) → get_or following 8 0 ≡ further → further < 256 → 9 ≤ length following → 8 + 8 * further ≤ most
    → IsFirstGroup (255 ∷ following) most (record { len = 10 + 8 * further; filled = 8 + 8 * further })
literal_group further most following count low there room =
    let first : length (take 8 following) ≡ 8 = length-take-le 8 following (omega arith) in
    let size : HasSize 255 10 further (get_or following 8 0) = record {
      zero = λ none. absurd (omega (arith, none));
      full = λ full. refl;
      tagged = λ some less. absurd (omega (arith, less));
      zeros = λ none. absurd (omega (arith, none));
      literal = λ full. sym count;
      one = λ some less. absurd (omega (arith, less));
    } in
    record {
      few = (omega arith, omega arith);
      some = omega arith;
      whole = λ all. (elim (cases_lt 0 further) [
        | inl some ↦ run_passes 255 10 further most (10 + 8 * further) (255 ∷ following) following size (omega arith) (omega (arith, count)) refl all room (omega (arith, some)) refl
        | inr none ↦ (
            let alone : 0 ≡ further = omega (arith, none) in
            subst (λ k. BeginsWithGroups (255 ∷ following) most (10 + 8 * k) (8 + 8 * k)) alone
            (group_passes 255 10 0 most (255 ∷ following) following (subst (λ k. HasSize 255 10 k (get_or following 8 0)) (sym alone) size)
            (omega arith) (omega (arith, count)) refl (omega (arith, all, alone)) (omega (arith, room, alone)) (omega arith)))
      ]);
      cut = λ short. (
        FailedToFillTheWholeBuffer,
        (λ e. cc),
        subst (λ l. FirstGroupError (255 ∷ l) most FailedToFillTheWholeBuffer) (literal_parts further following count there)
            (literal_run_cut (take 8 following) (drop 9 following) further most FailedToFillTheWholeBuffer (omega arith) first low (omega arith)
            (omega (arith, short, length-drop 9 following), refl)),
      );
      least = λ first more rest is e. subst (λ k. 10 + 8 * k ≤ length (group_encoding first)) count (run_least following more rest first there is e);
    }

pub literal_over : (further most : ℕ) (following : List ℕ) → get_or following 8 0 ≡ further → further < 256 → 9 ≤ length following → 8 ≤ most → most < 8 + 8 * further
    → FirstGroupError (255 ∷ following) most Overrun
literal_over further most following count low there room long =
    let first : length (take 8 following) ≡ 8 = length-take-le 8 following (omega arith) in
    subst (λ l. FirstGroupError (255 ∷ l) most Overrun) (literal_parts further following count there)
    (literal_long (take 8 following) (drop 9 following) further most (omega arith) first low (omega arith))
