-- The groups of a chunk's words are handed on one after another, until the sink has the encoding of the whole
-- chunk.
use Rattle.std.proofs.Common.{◌≡◌, ℕ, ◌+◌, ◌<◌, Option, List, [], ◌∷◌, ◌++◌, length, take, drop, sym, ap, ◌∙◌, subst, arith, append_assoc, get_or, add-one, drop-cons, length-drop, ◌-◌}
use Rattle.std.specs.List.{concat}
use Rattle.std.proofs.lemmas.List.{take_all, append-nil, drop-drop}
use Rattle.capnp_frame.specs.Prelude.{IfKnown, Appending, Adds}
use Rattle.capnp_frame.proofs.sources.JoinedRequestPartsLemmas.{IfKnown-join, IfKnown-weaker}
use Rattle.capnp_pack.specs.Prelude.{Group, group_encoding, IfFirst, Packs, AppendsPacked, IsZero, IsRun, IsGroupOf, Hands, PacksWords, PacksTo, HandsTo}
use Rattle.capnp_pack.proofs.packing.WordsPackUniquelyAndUnpackLemmas.{PacksWords-more, PacksWords-none, Packs-words}
use Rattle.capnp_pack.proofs.packing.HandedAndBufferedBytesJoinLemmas.{Hands-join, Hands-none}

pub PacksTo-more : (words : List (List ℕ)) (encoding : List ℕ) (done next n : ℕ) (w : List ℕ) (os : List (List ℕ)) (g : Group) →
    drop done words ≡ w ∷ os → drop n os ≡ drop next words → IsGroupOf w os n g → PacksTo words encoding (drop done words) → PacksTo words (encoding ++ group_encoding g) (drop next words)
PacksTo-more words encoding done next n w os g front left made to = λ more p.
    let step : PacksWords (drop done words) (group_encoding g ++ more) =
    subst (λ l. PacksWords l (group_encoding g ++ more)) (sym front) (PacksWords-more w os n g more made (subst (λ l. PacksWords l more) (sym left) p)) in
    subst (PacksWords words) (sym (append_assoc encoding (group_encoding g) more)) (to (group_encoding g ++ more) step)

-- the words after one, as a slice of them
pub other_words : (words : List (List ℕ)) (done : ℕ) → take (length words - (done + 1)) (drop (done + 1) words) ≡ drop (done + 1) words
other_words words done = take_all (length words - (done + 1)) (drop (done + 1) words) (omega (arith, length-drop (done + 1) words))

-- and this one
pub next_words : (words : List (List ℕ)) (done : ℕ) → done < length words
    → drop done words ≡ get_or words done [] ∷ take (length words - (done + 1)) (drop (done + 1) words)
next_words words done within = drop-cons words done [] within
    ∙ ap (λ k. get_or words done [] ∷ drop k words) (sym (add-one done)) ∙ ap (λ l. get_or words done [] ∷ l) (sym (other_words words done))

-- those after a group
pub words_after : (words : List (List ℕ)) (done n : ℕ) (os : List (List ℕ)) → os ≡ drop (done + 1) words → drop n os ≡ drop (done + (1 + n)) words
words_after words done n os rest =
    let next : (done + 1) + n ≡ done + (1 + n) = omega arith in
    ap (drop n) rest ∙ drop-drop n (done + 1) words ∙ ap (λ k. drop k words) next

-- the next group, after those that the buffer took
pub packed_more : (appends : Appending) (words : List (List ℕ)) (done count : ℕ) (w : List ℕ) (os : List (List ℕ)) (old buffer new : List ℕ)
    (a b : Option (List ℕ)) → drop done words ≡ w ∷ os → os ≡ drop (done + 1) words
    → ((encoding : List ℕ) × PacksTo words encoding (drop done words) × (buffer ≡ old ++ encoding))
    → (n : ℕ) × (count ≡ 1 + n) × (g : Group) × IsGroupOf w os n g × IfKnown a b (Hands appends buffer (group_encoding g) new)
    → HandsTo appends words (drop (done + count) words) old new a b
packed_more appends words done count w os old buffer new a b front rest (encoding, to, is) (n, counted, g, made, more) =
    let left : drop n os ≡ drop (done + count) words = words_after words done n os rest ∙ ap (λ k. drop (done + k) words) (sym counted) in (
      encoding ++ group_encoding g,
      PacksTo-more words encoding done (done + count) n w os g front left made to,
      IfKnown-weaker a b (λ x y p. Hands-join appends old encoding buffer (group_encoding g) new x x y (Hands-none appends old encoding buffer x is) p) more,
    )

-- the last bytes of a chunk
pub packed_all : (appends : Appending) (chunk : List ℕ) (words rest : List (List ℕ)) (buffer left : List ℕ) (a b c : Option (List ℕ)) →
    concat words ≡ chunk → rest ≡ [] → left ≡ [] →
    HandsTo appends words rest [] buffer a b →
    IfKnown b c (Hands appends buffer [] left) → IfKnown a c (Adds (AppendsPacked appends chunk))
packed_all appends chunk words rest buffer left a b c whole over none (encoding, to, handed) last =
    let all : PacksWords words encoding = subst (PacksWords words) (append-nil encoding) (to [] (subst (λ l. PacksWords l []) (sym over) PacksWords-none)) in
    let packed : Packs chunk encoding = subst (λ l. Packs l encoding) whole (Packs-words words encoding all) in
    IfKnown-join a b c (λ x y z p q.
    let h = Hands-join appends [] encoding buffer [] left x y z p q in
    let parts : concat h.parts ≡ encoding = sym (h.kept ∙ ap (λ l. concat h.parts ++ l) none ∙ append-nil (concat h.parts)) ∙ append-nil encoding in
    (h.handed, (h.parts, subst (Packs chunk) (sym parts) packed, h.declared), h.added)) handed last

-- a run of no word
pub run_of_none : (os : List (List ℕ)) → IfFirst os (λ word. IsZero word → ⊥) → IsRun IsZero os 0
run_of_none os ends = record { most = omega arith; within = omega arith; each = tt; ends = λ _. ends }
