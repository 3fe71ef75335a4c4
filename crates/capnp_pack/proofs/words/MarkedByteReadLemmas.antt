-- The bytes of a word that its tag marks are read one after another, by the bits of the tag, and the others are
-- zero.
use Rattle.std.proofs.Common.{Bool, true, false, ◌≡◌, ℕ, zero, suc, ◌+◌, ◌-◌, ◌*◌, ◌/◌, ◌%◌, ◌<◌, ◌⊎◌, inl, inr, Option, Some, None, List}
use Rattle.std.proofs.Common.{[], ◌∷◌, ◌++◌, length, replicate, refl, sym, ap, ◌∙◌, subst, arith, append_assoc, length-append}
use Rattle.std.specs.Prelude.{◌==◌, if◌then◌else◌}
use Rattle.std.proofs.lemmas.List.{append-nil}
use Rattle.capnp_frame.specs.declared.error.ErrorKind.{ErrorKind}
use Rattle.capnp_frame.specs.Prelude.{IfKnown}
use Rattle.capnp_frame.proofs.sources.JoinedRequestPartsLemmas.{IfKnown-join, IfKnown-weaker, IfKnown-refl}
use Rattle.capnp_pack.specs.Prelude.{IsWord, AreZero, marked, unmarked, MarkedAt, marked_count, CutError}
use Rattle.capnp_pack.proofs.words.EachElementLemmas.{AllByRecursion-append}

-- Of the bytes of a word under a tag these are known, and the others are given by these bits.
pub record MarksTo (tag bits : ℕ) (front raw left : List ℕ) : Type 0 where
  pub joins : (others after : List ℕ) → MarkedAt bits others left after → MarkedAt tag (front ++ others) raw after
  pub counts : (n : ℕ) → marked_count tag (length front + n) + length left ≡ length raw + marked_count bits n

abbrev one_at : ℕ → ℕ → ℕ → List ℕ
one_at bit bits byte = if bits % 2 == bit then byte ∷ [] else []

length-one_at : (bits byte : ℕ) → length (one_at 1 bits byte) ≡ length (one_at 1 bits 0)
length-one_at bits byte = by_bit (bits % 2 == 1)
  where
    by_bit : (set : Bool) → length {A = ℕ} (if set then byte ∷ [] else []) ≡ length {A = ℕ} (if set then 0 ∷ [] else [])
    by_bit true = refl
    by_bit false = refl

marked_count-suc : (bits n : ℕ) → marked_count bits (suc n) ≡ length (one_at 1 bits 0) + marked_count (bits / 2) n
marked_count-suc bits n = length-append (one_at 1 bits 0) (marked (bits / 2) (replicate n 0))

-- a byte, and then the others
pub byte_joins : (bits byte : ℕ) (others left mid after : List ℕ) → MarkedAt bits (byte ∷ []) left mid → MarkedAt (bits / 2) others mid after → MarkedAt bits (byte ∷ others) left after
byte_joins bits byte others left mid after p q = (
  p.0 ∙ ap (λ l. l ++ mid) (append-nil (one_at 1 bits byte)) ∙ ap (λ l. one_at 1 bits byte ++ l) q.0 ∙ sym (append_assoc (one_at 1 bits byte) (marked (bits / 2) others) after),
  AllByRecursion-append (λ byte. byte ≡ 0) (one_at 0 bits byte) (unmarked (bits / 2) others) (subst AreZero (append-nil (one_at 0 bits byte)) p.1) q.1,
)

pub MarksTo-more : (tag bits byte : ℕ) (front raw left mid : List ℕ) → MarksTo tag bits front raw left → MarkedAt bits (byte ∷ []) left mid → MarksTo tag (bits / 2) (front ++ byte ∷ []) raw mid
MarksTo-more tag bits byte front raw left mid to here = record {
  joins = λ others after at. subst (λ w. MarkedAt tag w raw after) (sym (append_assoc front (byte ∷ []) others)) (to.joins (byte ∷ others) after (byte_joins bits byte others left mid after here at));
  counts = λ n. let longer : length (front ++ byte ∷ []) + n ≡ length front + (suc n) = omega (arith, length-append front (byte ∷ [])) in
      counted n (marked_count tag (length (front ++ byte ∷ []) + n)) (ap (marked_count tag) longer);
}
  where
    taken : length left ≡ length (one_at 1 bits 0) + length mid
    taken = ap length (here.0 ∙ ap (λ l. l ++ mid) (append-nil (one_at 1 bits byte))) ∙ length-append (one_at 1 bits byte) mid ∙ ap (λ k. k + length mid) (length-one_at bits byte)

    counted : (n total : ℕ) → total ≡ marked_count tag (length front + (suc n)) → total + length mid ≡ length raw + marked_count (bits / 2) n
    counted n total same = omega (arith, to.counts (suc n), marked_count-suc bits n, taken)

-- the next byte of a word
pub marks_more : (tag bits byte : ℕ) (front next : List ℕ) (old mid new : Option (List ℕ)) → next ≡ front ++ byte ∷ [] →
    IfKnown old mid (MarksTo tag bits front) → IfKnown mid new (MarkedAt bits (byte ∷ [])) → IfKnown old new (MarksTo tag (bits / 2) next)
marks_more tag bits byte front next old mid new same to here =
    IfKnown-join old mid new (λ x y z p q. subst (λ l. MarksTo tag (bits / 2) l x z) (sym same) (MarksTo-more tag bits byte front x y z p q)) to here

pub marks_all : (tag bits : ℕ) (front word : List ℕ) (old new : Option (List ℕ)) → front ≡ word → IfKnown old new (MarksTo tag bits front) → IfKnown old new (MarkedAt tag word)
marks_all tag bits front word old new same to = IfKnown-weaker old new (λ x y p. subst (λ w. MarkedAt tag w x y) (append-nil front ∙ same) (p.joins [] y (refl, tt))) to

-- where a byte is missing, the word's marked bytes are
pub marks_cut : (F : Type 0) (tag bits n : ℕ) (front : List ℕ) (old mid : Option (List ℕ)) (kind : ErrorKind) → length front < n →
    IfKnown old mid (MarksTo tag bits front) → F ⊎ CutError (marked_count bits 1) mid kind → F ⊎ CutError (marked_count tag n) old kind
marks_cut F tag bits n front old mid kind some to (inl failed) = inl failed
marks_cut F tag bits n front None mid kind some to (inr cut_error) = inr (tt, cut_error.1)
marks_cut F tag bits n front (Some x) None kind some to (inr cut_error) = absurd to
marks_cut F tag bits n front (Some x) (Some y) kind some to (inr cut_error) =
    let more : n ≡ length front + (suc (n - length front - 1)) = omega arith in
    let counts = to.counts (suc (n - length front - 1)) in
    let later : marked_count bits (suc (n - length front - 1)) ≡ length (one_at 1 bits 0) + marked_count (bits / 2) (n - length front - 1) = marked_count-suc bits (n - length front - 1) in
    let first : marked_count bits 1 ≡ length (one_at 1 bits 0) + 0 = marked_count-suc bits 0 in
    let short : length y < marked_count bits 1 = cut_error.0 in
    let same : marked_count tag n ≡ marked_count tag (length front + (suc (n - length front - 1))) = ap (marked_count tag) more in
    inr (omega arith, cut_error.1)

-- a byte by its bit

pub clear_byte : (bits : ℕ) (old : Option (List ℕ)) → bits % 2 ≡ 0 → IfKnown old old (MarkedAt bits (0 ∷ []))
clear_byte bits old clear =
    IfKnown-refl (MarkedAt bits (0 ∷ [])) old
    (λ x. (ap (λ k. ((if k == 1 then 0 ∷ [] else []) ++ []) ++ x) (sym clear), subst (λ k. AreZero ((if k == 0 then 0 ∷ [] else []) ++ [])) (sym clear) (refl, tt)))

odd_bit : (bits : ℕ) → (bits % 2 ≡ 0 → ⊥) → bits % 2 ≡ 1
odd_bit bits set = omega arith

pub set_byte : (bits byte : ℕ) (old new : Option (List ℕ)) → (bits % 2 ≡ 0 → ⊥) → IfKnown old new (λ raw left. raw ≡ byte ∷ left) → IfKnown old new (MarkedAt bits (byte ∷ []))
set_byte bits byte old new set found = IfKnown-weaker old new (λ x y e. (
  e ∙ ap (λ k. ((if k == 1 then byte ∷ [] else []) ++ []) ++ y) (sym (odd_bit bits set)),
  subst (λ k. AreZero ((if k == 0 then byte ∷ [] else []) ++ [])) (sym (odd_bit bits set)) tt,
)) found

-- a tag of some bit marks a byte

abbrev pub tags : ℕ → ℕ
tags zero = 1
tags (suc n) = 2 * tags n

pub marks_some : (n tag : ℕ) → 0 < tag → tag < tags n → 0 < marked_count tag n
marks_some zero tag some low = absurd (omega arith)
marks_some (suc n) tag some low = by_bit (tag % 2) refl (λ more. marks_some n (tag / 2) more (omega arith))
  where
    rest : marked_count tag (suc n) ≡ length (one_at 1 tag 0) + marked_count (tag / 2) n
    rest = marked_count-suc tag n

    by_bit : (bit : ℕ) → tag % 2 ≡ bit → (0 < tag / 2 → 0 < marked_count (tag / 2) n) → 0 < marked_count tag (suc n)
    by_bit zero e more = let inner : 0 < marked_count (tag / 2) n = more (omega arith) in omega (arith, rest)
    by_bit (suc zero) e more = let one : length (one_at 1 tag 0) ≡ 1 = ap (λ k. length {A = ℕ} (if k == 1 then 0 ∷ [] else [])) e in omega (arith, rest)
    by_bit (suc (suc bit)) e more = absurd (omega arith)

-- 255 marks all bytes of a word
pub full_word : (w : List ℕ) → IsWord w → (marked 255 w ≡ w) × AreZero (unmarked 255 w)
full_word (a ∷ b ∷ c ∷ d ∷ e ∷ f ∷ g ∷ h ∷ []) is = (refl, tt)
full_word (a ∷ b ∷ c ∷ d ∷ e ∷ f ∷ g ∷ h ∷ i ∷ w) is = absurd (omega arith)
full_word [] is = absurd (omega arith)
full_word (a ∷ []) is = absurd (omega arith)
full_word (a ∷ b ∷ []) is = absurd (omega arith)
full_word (a ∷ b ∷ c ∷ []) is = absurd (omega arith)
full_word (a ∷ b ∷ c ∷ d ∷ []) is = absurd (omega arith)
full_word (a ∷ b ∷ c ∷ d ∷ e ∷ []) is = absurd (omega arith)
full_word (a ∷ b ∷ c ∷ d ∷ e ∷ f ∷ []) is = absurd (omega arith)
full_word (a ∷ b ∷ c ∷ d ∷ e ∷ f ∷ g ∷ []) is = absurd (omega arith)
