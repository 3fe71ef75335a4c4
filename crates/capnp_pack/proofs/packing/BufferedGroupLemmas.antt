-- Groups that are in the buffer whole, one after another.
use Rattle.std.proofs.Common.{◌≡◌, ℕ, zero, suc, ◌<◌, refl, ◌+◌, ◌-◌, ◌≤◌, Option, Some, None, List, [], ◌∷◌, ◌++◌, length, take, drop, sym, ap, ◌∙◌, subst, arith, append_assoc, Result, Ok, Err, IfOk, replicate}
use Rattle.std.specs.List.{concat, AllByRecursion}
use Rattle.std.proofs.lemmas.List.{append-nil, drop_all, take_all, length-drop, length-take-le}
use Rattle.capnp_frame.specs.Prelude.{Appending, IfKnown}
use Rattle.capnp_frame.specs.declared.error.Error.{Error}
use Rattle.capnp_frame.proofs.sources.JoinedRequestPartsLemmas.{IfKnown-join, IfKnown-weaker}
use lib.Count.{ones, ones-le}
use Rattle.capnp_pack.specs.Prelude.{Group, IsWord, group_encoding, IfFirst, PacksWords, PacksTo, HandsTo, Hands, IsGroupOf, IsZero, tag_of, nonzero, tagged, zeros, literal, zero_bytes, zero_word, HasFewZeros, IsRun, EndsGroup}
use Rattle.capnp_pack.proofs.words.NonzeroByteTagLemmas.{tag_zero, tag_full, top_word, marked_tag, zeros_cons, zeros_suc, nonzero_suc}
use Rattle.capnp_pack.proofs.packing.UniqueGroupByTagLemmas.{IsGroupOf-zeros, IsGroupOf-literal, IsGroupOf-tagged}
use Rattle.capnp_pack.proofs.packing.ChunkPackedGroupByGroupLemmas.{other_words, words_after, packed_more, PacksTo-more, run_of_none}
use Rattle.capnp_pack.proofs.packing.HandedAndBufferedBytesJoinLemmas.{Hands-join, Hands-none}

nonzero_all : (w : List ℕ) → zero_bytes w ≡ 0 → nonzero w ≡ w
nonzero_all [] e = refl
nonzero_all (zero ∷ w) e = absurd (omega (arith, zeros_cons 0 w))
nonzero_all (suc b ∷ w) e = nonzero_suc b w ∙ ap (λ l. suc b ∷ l) (nonzero_all w (sym (zeros_suc b w) ∙ e))

-- bytes that the buffer takes, after those that it had or handed on
pub buffered_after : (appends : Appending) (old kept roomy encoding new : List ℕ) (a b : Option (List ℕ)) → new ≡ roomy ++ encoding → IfKnown a b (Hands appends old kept roomy)
    → IfKnown a b (Hands appends old (kept ++ encoding) new)
buffered_after appends old kept roomy encoding new a b e handed = IfKnown-weaker a b (λ x y p. Hands-join appends old kept roomy encoding new x y y p (Hands-none appends roomy encoding new y e)) handed

-- a group that the buffer takes
buffered : (appends : Appending) (old roomy new encoding : List ℕ) (a b : Option (List ℕ)) → new ≡ roomy ++ encoding → IfKnown a b (Hands appends old [] roomy) → IfKnown a b (Hands appends old encoding new)
buffered appends old roomy new encoding a b e roomed = buffered_after appends old [] roomy encoding new a b e roomed

-- a run of zero words
pub ends_zeros : (word : List ℕ) (os : List (List ℕ)) (count tag : ℕ) (filled new : List ℕ) → IsWord word → tag ≡ tag_of word → tag ≡ 0
    → IsRun IsZero os count → new ≡ filled ++ count ∷ [] → EndsGroup word os count filled new
ends_zeros word os count tag filled new is tagged_by none run push =
    let zero_tag : tag_of word ≡ 0 = sym tagged_by ∙ none in
    let first : word ≡ zero_word = tag_zero word zero_tag ∙ ap (λ k. replicate k 0) is in
    let encoding : tag_of word ∷ nonzero word ≡ 0 ∷ [] = ap (λ k. k ∷ nonzero word) zero_tag ∙ ap (λ l. 0 ∷ nonzero l) first in (
      zeros count,
      IsGroupOf-zeros word os count is zero_tag run,
      λ front fill. push ∙ ap (λ l. l ++ count ∷ []) (fill ∙ ap (λ l. front ++ l) encoding) ∙ append_assoc front (0 ∷ []) (count ∷ []),
    )

-- a word whose tag marks some of its bytes
pub ends_tagged : (word : List ℕ) (os : List (List ℕ)) (tag : ℕ) (filled : List ℕ) → IsWord word → tag ≡ tag_of word → 0 < tag → tag < 255
    → EndsGroup word os 0 filled filled
ends_tagged word os tag filled is tagged_by some low = (
  tagged (tag_of word) word,
  IsGroupOf-tagged word os is (omega arith) (omega arith),
  λ front fill. fill ∙ ap (λ l. front ++ tag_of word ∷ l) (sym (marked_tag word)),
)

-- the tag and the bytes, as they were put into the buffer
pub filled_by : (word : List ℕ) (tag : ℕ) (roomy filled : List ℕ) → tag ≡ tag_of word → filled ≡ roomy ++ tag ∷ nonzero word → filled ≡ roomy ++ tag_of word ∷ nonzero word
filled_by word tag roomy filled tagged_by fill = fill ∙ ap (λ k. roomy ++ k ∷ nonzero word) tagged_by

-- the tag of a word that is stored as it is, and the word
pub literal_front : (word : List ℕ) (tag : ℕ) (roomy filled : List ℕ) → IsWord word → tag ≡ tag_of word → tag ≡ 255
    → filled ≡ roomy ++ tag ∷ nonzero word → filled ≡ roomy ++ 255 ∷ word
literal_front word tag roomy filled is tagged_by full fill =
    let full_tag : tag_of word ≡ 255 = sym tagged_by ∙ full in
    let none : zero_bytes word ≡ 0 = tag_full word (omega (arith, top_word word is)) in
    fill ∙ ap (λ l. roomy ++ l) (ap (λ k. k ∷ nonzero word) full ∙ ap (λ l. 255 ∷ l) (nonzero_all word none))

pub made_literal : {X : Type 0} (words : X → ℕ) (new : X → List ℕ) (appends : Appending) (word : List ℕ) (os : List (List ℕ))
    (old roomy filled : List ℕ) (a b c : Option (List ℕ))
    (r : Result X Error) → IsWord word → AllByRecursion IsWord os → tag_of word ≡ 255 → filled ≡ roomy ++ 255 ∷ word →
    IfKnown a b (Hands appends old [] roomy) → IfOk r (λ v. IsRun HasFewZeros os (words v)) →
    IfOk r (λ v. IfKnown b c (Hands appends filled (words v ∷ concat (take (words v) os)) (new v))) →
    IfOk r (λ v. (g : Group) × IsGroupOf word os (words v) g × IfKnown a c (Hands appends old (group_encoding g) (new v)))
made_literal words new appends word os old roomy filled a b c (Err e) is all full_tag fill roomed run handed = tt
made_literal words new appends word os old roomy filled a b c (Ok v) is all full_tag fill roomed run handed =
    let first = buffered appends old roomy filled (255 ∷ word) a b fill roomed in
    let long : length (take (words v) os) ≡ (words v) = length-take-le (words v) os run.within in
    let further : (words v) ∷ concat (take (words v) os) ≡ length (take (words v) os) ∷ concat (take (words v) os) = ap (λ k. k ∷ concat (take (words v) os)) (sym long) in (
      literal word (take (words v) os),
      IsGroupOf-literal word os (words v) is all full_tag run,
      IfKnown-join a b c (λ x y z p q. Hands-join appends old (255 ∷ word) filled (length (take (words v) os) ∷ concat (take (words v) os)) (new v) x y z p
          (subst (λ l. Hands appends filled l (new v) y z) further q)) first handed,
    )

-- the group of one word, whose size the table gives
pub tagged_group : (word : List ℕ) (os : List (List ℕ)) (tag used end size : ℕ) (old new : List ℕ) → IsWord word → tag ≡ tag_of word → tag < 255
    → (tag ≡ 0 → IfFirst os (λ w. IsZero w → ⊥)) → take end new ≡ old ++ tag ∷ nonzero word → (tag ≡ 0 → take (end + 1) new ≡ take end new ++ 0 ∷ [])
    → end ≡ used + 1 + ones tag → (tag ≡ 0 → size ≡ 2) → (0 < tag → size ≡ 1 + ones tag)
    → (g : Group) × IsGroupOf word os 0 g × (take (used + size) new ≡ old ++ group_encoding g)
tagged_group word os tag used end size old new is tagged_by low next fill zero_after ended two more = by_tag tag refl
  where
    filled : take end new ≡ old ++ tag_of word ∷ nonzero word
    filled = filled_by word tag old (take end new) tagged_by fill

    by_tag : (t : ℕ) → tag ≡ t → (g : Group) × IsGroupOf word os 0 g × (take (used + size) new ≡ old ++ group_encoding g)
    by_tag zero none =
        let no : ones tag ≡ 0 = omega (arith, ones-le 0 tag (omega (arith, none))) in
        let last : used + size ≡ end + 1 = omega (arith, two none, ended, no) in
        let (g, made, ends) = ends_zeros word os 0 tag (take end new) (take (end + 1) new) is tagged_by none (run_of_none os (next none)) (zero_after none) in
        (g, made, ap (λ k. take k new) last ∙ ends old filled)
    by_tag (suc t) some =
        let last : used + size ≡ end = omega (arith, more (omega (arith, some)), ended) in
        let (g, made, ends) = ends_tagged word os tag (take end new) is tagged_by (omega (arith, some)) low in
        (g, made, ap (λ k. take k new) last ∙ ends old filled)

-- where no words are left, there is no first one
pub no_word_left : (words : List (List ℕ)) (done : ℕ) (P : List ℕ → Type 0) → length words ≤ done → IfFirst (drop done words) P
no_word_left words done P past = subst (λ l. IfFirst l P) (sym (drop_all done words past)) tt

pub last_word : (words : List (List ℕ)) (count : ℕ) (P : List ℕ → Type 0) → length words ≤ count + 1
    → IfFirst (take (length words - (count + 1)) (drop (count + 1) words)) P
last_word words count P past = subst (λ l. IfFirst l P) (sym (other_words words count)) (no_word_left words (count + 1) P past)

-- one more group
pub buffered_more : (words : List (List ℕ)) (count n : ℕ) (w : List ℕ) (os : List (List ℕ)) (old buffer new : List ℕ) → drop count words ≡ w ∷ os → os ≡ drop (count + 1) words
    → ((encoding : List ℕ) × PacksTo words encoding (drop count words) × (buffer ≡ old ++ encoding))
    → ((g : Group) × IsGroupOf w os n g × (new ≡ buffer ++ group_encoding g))
    → (encoding : List ℕ) × PacksTo words encoding (drop (count + (1 + n)) words) × (new ≡ old ++ encoding)
buffered_more words count n w os old buffer new front rest (encoding, to, is) (g, made, more) = (
  encoding ++ group_encoding g,
  PacksTo-more words encoding count (count + (1 + n)) n w os g front (words_after words count n os rest) made to,
  more ∙ ap (λ l. l ++ group_encoding g) is ∙ append_assoc old encoding (group_encoding g),
)

HandsTo-join : (appends : Appending) (words next left : List (List ℕ)) (old buffer new : List ℕ) (a b c : Option (List ℕ))
    → HandsTo appends words next old buffer a b → HandsTo appends next left buffer new b c → HandsTo appends words left old new a c
HandsTo-join appends words next left old buffer new a b c (encoding, to, handed) (more, further, following) = (
  encoding ++ more,
  λ rest packs. subst (PacksWords words) (sym (append_assoc encoding more rest)) (to (more ++ rest) (further rest packs)),
  IfKnown-join a b c (λ x y z p q. Hands-join appends old encoding buffer more new x y z p q) handed following,
)

-- the words from one on, as a slice of them
pub words_from_done : (words : List (List ℕ)) (done : ℕ) → take (length words - done) (drop done words) ≡ drop done words
words_from_done words done = take_all (length words - done) (drop done words) (omega (arith, length-drop done words))

-- some more words are packed, and the others are a slice
pub handed_on : (appends : Appending) (words left : List (List ℕ)) (n : ℕ) (slice : List (List ℕ)) (old buffer new : List ℕ) (a b c : Option (List ℕ)) → slice ≡ drop n left
    → HandsTo appends words left old buffer a b → HandsTo appends left (drop n left) buffer new b c → HandsTo appends words slice old new a c
handed_on appends words left n slice old buffer new a b c is first next =
    subst (λ l. HandsTo appends words l old new a c) (sym is) (HandsTo-join appends words left (drop n left) old buffer new a b c first next)

-- of no words nothing is packed
pub no_words_packed : (words : List (List ℕ)) (buffer : List ℕ) → (encoding : List ℕ) × PacksTo words encoding (drop 0 words) × (buffer ≡ buffer ++ encoding)
no_words_packed words buffer = ([], (λ more packs. packs), sym (append-nil buffer))

-- words are packed that the buffer takes, and the others are a slice
pub taken_on : (appends : Appending) (words left : List (List ℕ)) (n : ℕ) (slice : List (List ℕ)) (old buffer new : List ℕ) (a b : Option (List ℕ)) → slice ≡ drop n left
    → HandsTo appends words left old buffer a b → ((encoding : List ℕ) × PacksTo left encoding (drop n left) × (new ≡ buffer ++ encoding))
    → HandsTo appends words slice old new a b
taken_on appends words left n slice old buffer new a b is first (encoding, to, kept) =
    handed_on appends words left n slice old buffer new a b b is first (encoding, to, kept_all b)
  where
    kept_all : (b : Option (List ℕ)) → IfKnown b b (Hands appends buffer encoding new)
    kept_all None = tt
    kept_all (Some x) = Hands-none appends buffer encoding new x kept

-- the group of the first word is handed on
pub handed_next : (appends : Appending) (words : List (List ℕ)) (count : ℕ) (w : List ℕ) (os : List (List ℕ)) (buffer new : List ℕ) (a b : Option (List ℕ))
    → drop 0 words ≡ w ∷ os → os ≡ drop (0 + 1) words → (n : ℕ) × (count ≡ 1 + n) × (g : Group) × IsGroupOf w os n g × IfKnown a b (Hands appends buffer (group_encoding g) new)
    → HandsTo appends words (drop count words) buffer new a b
handed_next appends words count w os buffer new a b front rest more =
    let same : 0 + count ≡ count = omega arith in
    subst (λ n. HandsTo appends words (drop n words) buffer new a b) same
    (packed_more appends words 0 count w os buffer buffer new a b front rest (no_words_packed words buffer) more)
