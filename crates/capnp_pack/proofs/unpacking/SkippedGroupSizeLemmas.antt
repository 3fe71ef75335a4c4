-- Groups that are skipped: how many bytes they have, and how many their words have, by what a table says of their
-- tags.
use Rattle.std.proofs.Common.{◌≡◌, ℕ, zero, suc, ◌+◌, ◌-◌, ◌*◌, ◌<◌, ◌≤◌, inl, inr, Some, List, [], ◌∷◌, ◌++◌, length, take, drop, get_or, replicate, w8, refl, sym, ap, ◌∙◌, subst, arith}
use Rattle.std.proofs.Common.{length-append, length-drop}
use Rattle.std.proofs.lemmas.List.{append-nil, take_all, length-take-le, length-replicate, take-append-le, take-replicate, drop-drop}
use Rattle.std.proofs.lemmas.Simd.{length-swz_l}
use Rattle.std.proofs.lemmas.Bool.{cases_lt}
use lib.Count.{ones}
use borrow.Rule.Simd.Moves.{swz_l}
use Rattle.capnp_pack.specs.Prelude.{IsWord, MarkedAt, HasProgress, Unpacked, BeginsWithGroups}
use Rattle.capnp_pack.proofs.tables.ExpandShuffleLemmas.{padded, entry, entry_len, spread_word, spread_front}
use Rattle.capnp_pack.proofs.unpacking.TakenGroupsUnpackedByteCountLemmas.{shown_taken, more_taken}
use Rattle.capnp_pack.proofs.unpacking.ShownGroupsUnpackToBufferLemmas.{tagged_after, zeros_after, literal_after, group_unpacked}

-- what is unpacked is passed over
unpacked_passes : (most used filled : ℕ) (shown words : List ℕ) → filled ≤ most → Unpacked shown words used filled → BeginsWithGroups shown most used filled
unpacked_passes most used filled shown words within p = record {
  used_within = p.used_within;
  some = p.some;
  filled_within = within;
  whole = p.whole;
  groups = shown_taken used filled shown words (Some shown) (Some shown) (Some (drop used shown)) ([], sym (append-nil shown)) refl refl p;
}

-- a group that marks bytes of a word

-- some word has the marked bytes that are there
marked_word : (tag : ℕ) (encoding : List ℕ) → tag < 256 → ones tag ≤ length encoding → (word : List ℕ) × IsWord word × MarkedAt tag word encoding (drop (ones tag) encoding)
marked_word tag encoding low within =
    let front = encoding ++ replicate 8 0 in
    let lanes = swz_l w8 16 (padded front) 0 (entry tag) in
    let wide : length lanes ≡ 16 = length-swz_l w8 16 (padded front) 0 (entry tag) ∙ entry_len tag in
    let long : length front ≡ length encoding + 8 = length-append encoding (replicate 8 0) in (
      take 8 lanes,
      length-take-le 8 lanes (omega (arith, wide)),
      spread_front tag (ones tag) encoding front (take 8 lanes) (omega (arith, long)) (take-append-le (ones tag) encoding (replicate 8 0) within)
          (spread_word tag front (take 8 lanes) low (omega (arith, long)) refl),
    )

tagged_passes : (tag most : ℕ) (shown following : List ℕ) → 0 < tag → tag < 255 → shown ≡ tag ∷ following → 1 + ones tag ≤ length shown → 8 ≤ most
    → BeginsWithGroups shown most (1 + ones tag) 8
tagged_passes tag most shown following some low e within room =
    let inside : ones tag ≤ length following = omega (arith, ap length e) in
    let (word, is, at) = marked_word tag following (omega arith) inside in
    unpacked_passes most (1 + ones tag) 8 shown word room (group_unpacked tag (ones tag) 8 shown following word e
    (tagged_after tag (ones tag) following word word some low is inside (omega (arith, is)) (take_all 8 word (omega (arith, is))) at))

-- a zero run

zeros_pass : (further most : ℕ) (shown following : List ℕ) → shown ≡ 0 ∷ following → 2 ≤ length shown → get_or following 0 0 ≡ further → further < 256
    → 8 + 8 * further ≤ most → BeginsWithGroups shown most 2 (8 + 8 * further)
zeros_pass further most shown following e within count low room =
    let filled = 8 + 8 * further in
    let words = replicate filled 0 in
    let long : length words ≡ filled = length-replicate filled 0 in
    unpacked_passes most 2 filled shown words room (group_unpacked 0 1 filled shown following words e
    (zeros_after filled following words (omega (arith, ap length e)) (omega (arith, count)) (omega (arith, count)) (omega (arith, long)) (take-replicate filled filled 0 (omega arith))))

-- a literal run

literal_passes : (further most : ℕ) (shown following : List ℕ) → shown ≡ 255 ∷ following → 10 + 8 * further ≤ length shown → get_or following 8 0 ≡ further → further < 256
    → 8 + 8 * further ≤ most → BeginsWithGroups shown most (10 + 8 * further) (8 + 8 * further)
literal_passes further most shown following e within count low room =
    let run = 8 * further in
    let words = take 8 following ++ take run (drop 9 following) in
    let inside : 9 + run ≤ length following = omega (arith, ap length e) in
    let first : length (take 8 following) ≡ 8 = length-take-le 8 following (omega arith) in
    let others : length (take run (drop 9 following)) ≡ run = length-take-le run (drop 9 following) (omega (arith, length-drop 9 following)) in
    let long : length words ≡ 8 + run = omega (arith, length-append (take 8 following) (take run (drop 9 following)), first, others) in
    let used : 1 + (9 + run) ≡ 10 + run = omega arith in
    subst (λ n. BeginsWithGroups shown most n (8 + run)) used
    (unpacked_passes most (1 + (9 + run)) (8 + run) shown words room (group_unpacked 255 (9 + run) (8 + run) shown following words e
    (literal_after run following words inside (omega (arith, count)) (omega (arith, count)) (omega (arith, long)) (take_all (8 + run) words (omega (arith, long))))))

-- the first group, by what a table says of its tag

-- What is known of a tag, of how many bytes its group has before a run, and of how many words follow the first one.
pub record HasSize (tag head further last : ℕ) : Type 0 where
  pub zero : tag ≡ 0 → head ≡ 2
  pub full : tag ≡ 255 → head ≡ 10
  pub tagged : 0 < tag → tag < 255 → head ≡ 1 + ones tag
  pub zeros : tag ≡ 0 → further ≡ last
  pub literal : tag ≡ 255 → further ≡ last
  pub one : 0 < tag → tag < 255 → further ≡ 0

-- where no literal run follows the first word
pub group_passes : (tag head further most : ℕ) (shown following : List ℕ) → HasSize tag head further (get_or shown (head - 1) 0) → tag < 256
    → get_or shown (head - 1) 0 < 256 → shown ≡ tag ∷ following → head ≤ length shown → 8 + 8 * further ≤ most → tag + further ≤ 255
    → BeginsWithGroups shown most head (8 + 8 * further)
group_passes zero head further most shown following is low byte e within room few =
    let two : head ≡ 2 = is.zero refl in
    let last : further ≡ get_or shown 1 0 = is.zeros refl ∙ ap (λ k. get_or shown (k - 1) 0) two in
    let count : get_or following 0 0 ≡ further = omega (arith, last, ap (λ l. get_or l 1 0) e) in
    subst (λ n. BeginsWithGroups shown most n (8 + 8 * further)) (sym two)
    (zeros_pass further most shown following e (omega arith) count (omega arith) room)
group_passes (suc t) head further most shown following is low byte e within room few = elim (cases_lt (suc t) 255) [
  | inl less ↦ (
      let alone : further ≡ 0 = is.one (omega arith) less in
      let size : head ≡ 1 + ones (suc t) = is.tagged (omega arith) less in
      subst (λ k. BeginsWithGroups shown most head (8 + 8 * k)) (sym alone)
      (subst (λ n. BeginsWithGroups shown most n 8) (sym size) (tagged_passes (suc t) most shown following (omega arith) less e (omega arith) (omega arith))))
  | inr more ↦ (
      let full : suc t ≡ 255 = omega arith in
      let ten : head ≡ 10 = is.full full in
      let alone : further ≡ 0 = omega arith in
      let last : further ≡ get_or shown 9 0 = is.literal full ∙ ap (λ k. get_or shown (k - 1) 0) ten in
      let count : get_or following 8 0 ≡ 0 = omega (arith, last, ap (λ l. get_or l 9 0) e) in
      subst (λ k. BeginsWithGroups shown most head (8 + 8 * k)) (sym alone)
      (subst (λ n. BeginsWithGroups shown most n 8) (sym ten)
      (literal_passes 0 most shown following (e ∙ ap (λ k. k ∷ following) full) (omega arith) count (omega arith) (omega arith))))
]

-- and where one does
pub run_passes : (tag head further most used : ℕ) (shown following : List ℕ) → HasSize tag head further (get_or shown (head - 1) 0) → tag < 256
    → get_or shown (head - 1) 0 < 256 → shown ≡ tag ∷ following → head + 8 * further ≤ length shown → 8 + 8 * further ≤ most → 255 < tag + further
    → used ≡ head + 8 * further → BeginsWithGroups shown most used (8 + 8 * further)
run_passes zero head further most used shown following is low byte e within room many all = let last : further ≡ get_or shown (head - 1) 0 = is.zeros refl in absurd (omega arith)
run_passes (suc t) head further most used shown following is low byte e within room many all = elim (cases_lt (suc t) 255) [
  | inl less ↦ (let alone : further ≡ 0 = is.one (omega arith) less in absurd (omega arith))
  | inr more ↦ (
      let full : suc t ≡ 255 = omega arith in
      let ten : head ≡ 10 = is.full full in
      let last : further ≡ get_or shown 9 0 = is.literal full ∙ ap (λ k. get_or shown (k - 1) 0) ten in
      let byte_is : further ≡ get_or shown (head - 1) 0 = is.literal full in
      let count : get_or following 8 0 ≡ further = omega (arith, last, ap (λ l. get_or l 9 0) e) in
      let whole : used ≡ 10 + 8 * further = omega arith in
      subst (λ n. BeginsWithGroups shown most n (8 + 8 * further)) (sym whole)
      (literal_passes further most shown following (e ∙ ap (λ k. k ∷ following) full) (omega arith) count (omega arith) room))
]

-- groups after groups

pub none_passes : (encoding : List ℕ) (most : ℕ) → BeginsWithGroups encoding most 0 0
none_passes encoding most = record {
  used_within = omega arith;
  some = λ s. s;
  filled_within = omega arith;
  whole = refl;
  groups = ([], tt, refl, refl);
}

either_some : (filled used count more : ℕ) → (0 < filled → 0 < used) → (0 < count → 0 < more) → 0 < filled + count → 0 < used + more
either_some zero used count more a b s = let some : 0 < more = b (omega arith) in omega arith
either_some (suc filled) used count more a b s = let some : 0 < used = a (omega arith) in omega arith

pub passes_on : (used filled more count most : ℕ) (shown : List ℕ) → BeginsWithGroups shown most used filled
    → BeginsWithGroups (take (length shown - used) (drop used shown)) (most - filled) more count → BeginsWithGroups shown most (used + more) (filled + count)
passes_on used filled more count most shown p after =
    let all : take (length shown - used) (drop used shown) ≡ drop used shown = take_all (length shown - used) (drop used shown) (omega (arith, length-drop used shown)) in
    let q : BeginsWithGroups (drop used shown) (most - filled) more count = subst (λ l. BeginsWithGroups l (most - filled) more count) all after in
    let left = p.used_within in
    let within = q.used_within in
    let before = p.filled_within in
    let inside = q.filled_within in
    let two = p.whole in
    let both = q.whole in
    let rest : drop more (drop used shown) ≡ drop (used + more) shown = drop-drop more used shown in
    record {
      used_within = omega (arith, length-drop used shown);
      some = either_some filled used count more p.some q.some;
      filled_within = omega arith;
      whole = omega arith;
      groups = more_taken filled count (Some shown) (Some (drop used shown)) (Some (drop (used + more) shown)) p.groups
          (subst (λ l. HasProgress count (drop used shown) l) rest q.groups);
    }
