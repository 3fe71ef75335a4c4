-- A group of one word is unpacked by what tables say of its tag, and the groups after it extend what is unpacked.
use Rattle.std.proofs.Common.{◌≡◌, ℕ, zero, suc, ◌+◌, ◌-◌, ◌<◌, ◌≤◌, Bool, true, false, Some, List, [], ◌∷◌, length, take, drop, get_or, refl, sym, ap, ◌∙◌, subst, arith, length-drop, drop-cons}
use Rattle.std.specs.Prelude.{◌==◌}
use Rattle.std.proofs.lemmas.List.{append-nil, take_all}
use Rattle.std.proofs.lemmas.Bool.Decides.{nat_tests}
use lib.Count.{ones, ones-le}
use borrow.Rule.Slice.PartMut.{put_mid}
use Rattle.capnp_frame.proofs.sources.JoinedRequestPartsLemmas.{length-put_mid}
use Rattle.capnp_pack.specs.Prelude.{IsWord, MarkedAt, GroupFollowing, Unpacked}
use Rattle.capnp_pack.proofs.unpacking.ShownGroupsUnpackToBufferLemmas.{group_unpacked, tagged_after, zero_after_single_word, unpacked_more}
use Rattle.capnp_pack.proofs.unpacking.MarkedWordAndRunAreGroupLemmas.{literal_found}

-- a word whose bytes are all marked, and no word after it
literal_after_single_word : (following word buffer : List ℕ) → 9 ≤ length following → get_or following 8 0 ≡ 0 → IsWord word → 8 ≤ length buffer →
    take 8 buffer ≡ word → MarkedAt 255 word following (drop 8 following) → GroupFollowing 255 following buffer 9 8
literal_after_single_word following word buffer long none is room same at =
    let counted : drop 8 following ≡ 0 ∷ drop 9 following = drop-cons following 8 0 (omega arith) ∙ ap (λ k. k ∷ drop 9 following) none in
    record {
      used_within = long;
      some = omega arith;
      filled_within = room;
      whole = refl;
      group = literal_found 255 word [] (take 8 buffer) (Some following) (Some (drop 8 following)) (Some (drop 9 following)) refl is (same ∙ sym (append-nil word)) at
          (0, omega arith, refl, counted);
    }

pub single_word_unpacked : (tag used : ℕ) (shown following word buffer : List ℕ) → tag < 256 → (tag ≡ 0 → used ≡ 2) → (tag ≡ 255 → used ≡ 10) →
    (0 < tag → tag < 255 → used ≡ 1 + ones tag) → (tag ≡ 0 → get_or shown (used - 1) 0 ≡ 0) → (tag ≡ 255 → get_or shown (used - 1) 0 ≡ 0) → shown ≡ tag ∷ following → 10 ≤ length shown →
    IsWord word → 8 ≤ length buffer → take 8 buffer ≡ word → MarkedAt tag word following (drop (ones tag) following) → Unpacked shown buffer used 8
unfolding ones
single_word_unpacked zero used shown following word buffer low zeros full tagged none fulls e long is room same at =
    let two : used ≡ 2 = zeros refl in
    let wide : 9 ≤ length following = omega (arith, ap length e) in
    let second : get_or shown 1 0 ≡ 0 = subst (λ k. get_or shown (k - 1) 0 ≡ 0) two (none refl) in
    let alone : get_or following 0 0 ≡ 0 = omega (arith, second, ap (λ l. get_or l 1 0) e) in
    subst (λ k. Unpacked shown buffer k 8) (sym two) (group_unpacked 0 1 8 shown following buffer e (zero_after_single_word 0 0 following word buffer refl alone is wide room same (omega arith) at))
single_word_unpacked (suc t) used shown following word buffer low zeros full tagged none fulls e long is room same at = by_full (suc t == 255) refl
  where
    by_full : (b : Bool) → (suc t == 255) ≡ b → Unpacked shown buffer used 8
    by_full true f =
        let tag : suc t ≡ 255 = grind (arith, nat_tests, f) in
        let ten : used ≡ 10 = full tag in
        let wide : 9 ≤ length following = omega (arith, ap length e) in
        let tenth : get_or shown 9 0 ≡ 0 = subst (λ k. get_or shown (k - 1) 0 ≡ 0) ten (fulls tag) in
        let alone : get_or following 8 0 ≡ 0 = omega (arith, tenth, ap (λ l. get_or l 9 0) e) in
        let here : MarkedAt 255 word following (drop 8 following) = subst (λ k. MarkedAt k word following (drop (ones k) following)) tag at in
        subst (λ k. Unpacked shown buffer k 8) (sym ten)
        (group_unpacked 255 9 8 shown following buffer (e ∙ ap (λ k. k ∷ following) tag) (literal_after_single_word following word buffer wide alone is room same here))
    by_full false f =
        let other : suc t < 255 = grind (arith, nat_tests, f, low) in
        let few : ones (suc t) ≤ 8 = ones-le 8 (suc t) low in
        subst (λ k. Unpacked shown buffer k 8) (sym (tagged (omega arith) other))
        (group_unpacked (suc t) (ones (suc t)) 8 shown following buffer e
        (tagged_after (suc t) (ones (suc t)) following word buffer (omega arith) other is (omega (arith, ap length e)) room same at))

-- groups that are unpacked from the bytes that are left, into what is left of a buffer
pub unpacked_on : (used filled more count : ℕ) (shown buffer part : List ℕ) → length part ≡ length buffer - filled → Unpacked shown buffer used filled →
    Unpacked (take (length shown - used) (drop used shown)) part more count →
    (length (put_mid filled (length buffer - filled) buffer part) ≡ length buffer) × Unpacked shown (put_mid filled (length buffer - filled) buffer part) (used + more) (filled + count)
unpacked_on used filled more count shown buffer part fits before after =
    let within = before.used_within in
    let inside = before.filled_within in
    let all : take (length shown - used) (drop used shown) ≡ drop used shown = take_all (length shown - used) (drop used shown) (omega (arith, length-drop used shown)) in
    (length-put_mid filled buffer part inside fits, unpacked_more used filled more count shown _ buffer part all fits before after)

-- no group is taken
pub no_group_unpacked : (encoding buffer : List ℕ) → Unpacked encoding buffer 0 0
no_group_unpacked encoding buffer = record {
  used_within = omega arith;
  some = λ s. s;
  filled_within = omega arith;
  whole = refl;
  chunk = record { groups = []; each = tt; spelled = refl; unpacked = refl };
}

-- where no group follows, what is left of a buffer may hold anything
pub unpacked_kept : (used filled : ℕ) (shown buffer part : List ℕ) → length part ≡ length buffer - filled → Unpacked shown buffer used filled →
    Unpacked shown (put_mid filled (length buffer - filled) buffer part) used filled
unpacked_kept used filled shown buffer part fits before =
    let after = put_mid filled (length buffer - filled) buffer part in
    let encoding : used + 0 ≡ used = omega arith in
    let words : filled + 0 ≡ filled = omega arith in
    let same = unpacked_on used filled 0 0 shown buffer part fits before (no_group_unpacked (take (length shown - used) (drop used shown)) part) in
    subst (λ u. Unpacked shown after u filled) encoding (subst (λ f. Unpacked shown after (used + 0) f) words same.1)
