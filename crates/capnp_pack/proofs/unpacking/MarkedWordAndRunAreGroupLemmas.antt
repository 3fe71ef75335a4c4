-- A word whose marked bytes were read is a tagged group, or with the run after it a literal group.
use Rattle.std.proofs.Common.{◌≡◌, ℕ, ◌+◌, ◌-◌, ◌<◌, ◌≤◌, Option, List, ◌∷◌, ◌++◌, length, take, drop, sym, ap, ◌∙◌, subst, arith, append_assoc, length-append}
use Rattle.std.proofs.lemmas.List.{append-nil, take_at, drop_at, length-take-le}
use Rattle.std.specs.List.{concat}
use Rattle.std.specs.Simd.{first_chunks}
use borrow.Rule.Slice.PartMut.{put_mid, post_of}
use lib.Seq.{take-add, take-append-le}
use Rattle.capnp_frame.specs.Prelude.{IfKnown}
use Rattle.capnp_frame.proofs.sources.JoinedRequestPartsLemmas.{IfKnown-join, IfKnown-weaker}
use Rattle.capnp_pack.specs.Prelude.{tagged, literal, IsWord, marked, GroupAt, MarkedAt, RunAt}
use Rattle.capnp_pack.proofs.words.ChunkWordLemmas.{chunks_whole, chunks_len}
use Rattle.capnp_pack.proofs.words.MarkedByteReadLemmas.{full_word}

pub tagged_found : (tag : ℕ) (word bytes : List ℕ) (old new : Option (List ℕ)) → 0 < tag → tag < 255 → IsWord word → bytes ≡ word →
    IfKnown old new (MarkedAt tag word) → IfKnown old new (GroupAt tag bytes)
tagged_found tag word bytes old new some low is same at = IfKnown-weaker old new (λ x y p. (tagged tag word, (some, low, is, p.1), same ∙ sym (append-nil word), ap (λ l. tag ∷ l) p.0)) at

literal_at : (tag : ℕ) (word run bytes x y z : List ℕ) → tag ≡ 255 → IsWord word → bytes ≡ word ++ run → MarkedAt tag word x y → RunAt run y z → GroupAt tag bytes x z
literal_at tag word run bytes x y z full is both (at, clear) (more, low, long, e) =
    let fs = first_chunks 8 more run in
    let cut = chunks_whole more run long in
    let count : length fs ≡ more = chunks_len more run in
    let encoding : x ≡ word ++ y = at ∙ ap (λ k. marked k word ++ y) full ∙ ap (λ l. l ++ y) (full_word word is).0 in
    let rest : y ≡ length fs ∷ concat fs ++ z = e ∙ ap (λ k. k ∷ run ++ z) (sym count) ∙ ap (λ l. length fs ∷ l ++ z) (sym cut.0) in
    let whole : x ≡ (word ++ length fs ∷ concat fs) ++ z = encoding ∙ ap (λ l. word ++ l) rest ∙ sym (append_assoc word (length fs ∷ concat fs) z) in
    (literal word fs, (is, cut.1, subst (λ k. k < 256) (sym count) low), both ∙ ap (λ l. word ++ l) (sym cut.0), ap (λ k. k ∷ x) full ∙ ap (λ l. 255 ∷ l) whole)

pub literal_found : (tag : ℕ) (word run bytes : List ℕ) (old mid new : Option (List ℕ)) → tag ≡ 255 → IsWord word → bytes ≡ word ++ run →
    IfKnown old mid (MarkedAt tag word) → IfKnown mid new (RunAt run) → IfKnown old new (GroupAt tag bytes)
literal_found tag word run bytes old mid new full is both at more = IfKnown-join old mid new (λ x y z p q. literal_at tag word run bytes x y z full is both p q) at more

-- the front of a buffer whose rest from `a` on is filled
pub filled_front : (a n : ℕ) (front old part : List ℕ) → length front ≡ a → n ≤ length part → take (a + n) (put_mid a (length (front ++ old) - a) (front ++ old) part) ≡ front ++ take n part
filled_front a n front old part long fits =
    let xs = front ++ old in
    let post = post_of a (length xs - a) xs in
    let within : a ≤ length xs = omega (arith, length-append front old) in
    take-add a n (take a xs ++ (part ++ post))
    ∙ ap (λ l. l ++ take n (drop a (take a xs ++ (part ++ post)))) (take_at (take a xs) (part ++ post) a (length-take-le a xs within))
    ∙ ap (λ l. take a xs ++ take n l) (drop_at (take a xs) (part ++ post) a (length-take-le a xs within))
    ∙ ap (λ l. take a xs ++ l) (take-append-le n part post fits)
    ∙ ap (λ l. l ++ take n part) (take_at front old a long)
