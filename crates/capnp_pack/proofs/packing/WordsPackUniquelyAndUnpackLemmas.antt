-- Words have exactly one packed encoding, and it unpacks to them and to nothing else.
use Rattle.std.proofs.Common.{◌≡◌, ℕ, zero, suc, ◌/◌, ◌%◌, ◌≤◌, List, [], ◌∷◌, ◌++◌, length, drop, replicate, refl, sym, ap, ◌∙◌, subst, arith, length-append, ◌<◌, get_or}
use Rattle.std.specs.List.{concat, AllByRecursion}
use Rattle.std.specs.Simd.{first_chunks}
use Rattle.std.proofs.lemmas.List.{length-drop, take-append-drop, take_at, drop_at}
use Rattle.capnp_frame.specs.Prelude.{same_front}
use Rattle.capnp_pack.specs.Prelude.{Group, tagged, zeros, literal, IsGroup, IsWord, zero_word, group_encoding, group_words, encoding_of, words_of_groups, Packs, IsLongest, AreLongest, IsGroupOf, PacksWords, Unpacks, words_len, unpack_once, zero_words}
use Rattle.capnp_pack.proofs.words.EachElementLemmas.{AllByRecursion-append, AllByRecursion-drop}
use Rattle.capnp_pack.proofs.packing.UniqueGroupByTagLemmas.{IsGroupOf-some, IsGroupOf-once, first_is}
use Rattle.capnp_pack.proofs.words.ChunkWordLemmas.{chunks_whole}

pub PacksWords-more : (w : List ℕ) (os : List (List ℕ)) (n : ℕ) (g : Group) (encoding : List ℕ) → IsGroupOf w os n g → PacksWords (drop n os) encoding → PacksWords (w ∷ os) (group_encoding g ++ encoding)
PacksWords-more w os n g encoding made p = record {
  groups = g ∷ p.groups;
  each = (made.is, p.each);
  longest = (subst (IsLongest g) (sym p.unpacked) made.longest, p.longest);
  spelled = ap (λ l. group_encoding g ++ l) p.spelled;
  unpacked = ap (λ l. group_words g ++ l) p.unpacked ∙ ap (λ l. l ++ drop n os) made.words ∙ ap (λ l. w ∷ l) (take-append-drop n os);
}

pub PacksWords-none : PacksWords [] []
PacksWords-none = record { groups = []; each = tt; longest = tt; spelled = refl; unpacked = refl }

PacksWords-fuel : (fuel : ℕ) (ws : List (List ℕ)) → length ws ≤ fuel → AllByRecursion IsWord ws → (encoding : List ℕ) × PacksWords ws encoding
PacksWords-fuel fuel [] short all = ([], PacksWords-none)
PacksWords-fuel zero (w ∷ ws) short all = absurd (omega arith)
PacksWords-fuel (suc fuel) (w ∷ ws) short all =
    let made : (n : ℕ) × ((g : Group) × IsGroupOf w ws n g) = IsGroupOf-some w ws all.0 all.1 in
    let left : (encoding : List ℕ) × PacksWords (drop made.0 ws) encoding = PacksWords-fuel fuel (drop made.0 ws) (omega (arith, length-drop made.0 ws)) (AllByRecursion-drop IsWord made.0 ws all.1) in
    (group_encoding made.1.0 ++ left.0, PacksWords-more w ws made.0 made.1.0 left.0 made.1.1 left.1)

-- there is a packed encoding
pub PacksWords-some : (ws : List (List ℕ)) → AllByRecursion IsWord ws → (encoding : List ℕ) × PacksWords ws encoding
PacksWords-some ws all = PacksWords-fuel (length ws) ws (omega arith) all

-- a group's first word, and its others
abbrev first_word : Group → List ℕ
first_word (tagged tag word) = word
first_word (zeros more) = zero_word
first_word (literal word further) = word

abbrev others : Group → List (List ℕ)
others (tagged tag word) = []
others (zeros more) = replicate more zero_word
others (literal word further) = further

group_parts : (g : Group) → group_words g ≡ first_word g ∷ others g
group_parts (tagged tag word) = refl
group_parts (zeros more) = refl
group_parts (literal word further) = refl

made_of : (g : Group) (left : List (List ℕ)) → IsGroup g → IsLongest g left → IsGroupOf (first_word g) (others g ++ left) (length (others g)) g
made_of g left is longest = record {
  within = omega (arith, length-append (others g) left);
  is = is;
  words = group_parts g ∙ ap (λ l. first_word g ∷ l) (sym (take_at (others g) left _ refl));
  longest = subst (IsLongest g) (sym (drop_at (others g) left _ refl)) longest;
}

-- and only one
groups_once : (gs hs : List Group) → AllByRecursion IsGroup gs → AllByRecursion IsGroup hs → AreLongest gs → AreLongest hs → words_of_groups gs ≡ words_of_groups hs → gs ≡ hs
groups_once [] [] p q r s e = refl
groups_once [] (h ∷ hs) p q r s e = let parts : [] ≡ first_word h ∷ others h ++ words_of_groups hs = e ∙ ap (λ l. l ++ words_of_groups hs) (group_parts h) in cc
groups_once (g ∷ gs) [] p q r s e = let parts : [] ≡ first_word g ∷ others g ++ words_of_groups gs = sym e ∙ ap (λ l. l ++ words_of_groups gs) (group_parts g) in cc
groups_once (g ∷ gs) (h ∷ hs) p q r s e =
    let whole : first_word g ∷ others g ++ words_of_groups gs ≡ first_word h ∷ others h ++ words_of_groups hs =
    ap (λ l. l ++ words_of_groups gs) (sym (group_parts g)) ∙ e ∙ ap (λ l. l ++ words_of_groups hs) (group_parts h) in
    let parts = first_is (first_word g) (first_word h) (others g ++ words_of_groups gs) (others h ++ words_of_groups hs) whole in
    let here = made_of g (words_of_groups gs) p.0 r.0 in
    let moved = subst (λ l. IsGroupOf (first_word h) l (length (others g)) g) parts.1 (subst (λ w. IsGroupOf w (others g ++ words_of_groups gs) (length (others g)) g) parts.0 here) in
    let one = IsGroupOf-once (first_word h) (others h ++ words_of_groups hs) (length (others g)) (length (others h)) g h moved (made_of h (words_of_groups hs) q.0 s.0) in
    let left : words_of_groups gs ≡ words_of_groups hs = sym (drop_at (others g) (words_of_groups gs) _ refl) ∙ ap (drop (length (others g))) parts.1
    ∙ ap (λ k. drop k (others h ++ words_of_groups hs)) one.0 ∙ drop_at (others h) (words_of_groups hs) _ refl in
    ap (λ k. k ∷ gs) one.1 ∙ ap (λ l. h ∷ l) (groups_once gs hs p.1 q.1 r.1 s.1 left)

group_whole : (g : Group) → IsGroup g → AllByRecursion IsWord (group_words g)
group_whole (tagged tag word) is = (is.2, tt)
group_whole (zeros more) is = (refl, zero_words more)
group_whole (literal word further) is = (is.0, is.1)

pub words_whole : (gs : List Group) → AllByRecursion IsGroup gs → AllByRecursion IsWord (words_of_groups gs)
words_whole [] each = tt
words_whole (g ∷ gs) each = AllByRecursion-append IsWord (group_words g) (words_of_groups gs) (group_whole g each.0) (words_whole gs each.1)

words_once : (xs ys : List (List ℕ)) → AllByRecursion IsWord xs → AllByRecursion IsWord ys → concat xs ≡ concat ys → xs ≡ ys
words_once [] [] p q e = refl
words_once [] (y ∷ ys) p q e = absurd (omega (arith, ap length e, length-append y (concat ys), q.0))
words_once (x ∷ xs) [] p q e = absurd (omega (arith, ap length e, length-append x (concat xs), p.0))
words_once (x ∷ xs) (y ∷ ys) p q e = let parts = same_front x y (concat xs) (concat ys) (p.0 ∙ sym q.0) e in ap (λ k. k ∷ xs) parts.0 ∙ ap (λ l. y ∷ l) (words_once xs ys p.1 q.1 parts.1)

pub Packs-once : (bytes encoding other : List ℕ) → Packs bytes encoding → Packs bytes other → encoding ≡ other
Packs-once bytes encoding other p q =
    let same : words_of_groups p.groups ≡ words_of_groups q.groups =
    words_once (words_of_groups p.groups) (words_of_groups q.groups) (words_whole p.groups p.each) (words_whole q.groups q.each) (sym p.unpacked ∙ q.unpacked) in
    p.spelled ∙ ap encoding_of (groups_once p.groups q.groups p.each q.each p.longest q.longest same) ∙ sym q.spelled

pub Packs-words : (words : List (List ℕ)) (encoding : List ℕ) → PacksWords words encoding → Packs (concat words) encoding
Packs-words words encoding p = record { groups = p.groups; each = p.each; longest = p.longest; spelled = p.spelled; unpacked = ap concat (sym p.unpacked) }

pub PacksWords-once : (words : List (List ℕ)) (encoding other : List ℕ) → PacksWords words encoding → PacksWords words other → encoding ≡ other
PacksWords-once words encoding other p q =
    p.spelled ∙ ap encoding_of (groups_once p.groups q.groups p.each q.each p.longest q.longest (p.unpacked ∙ sym q.unpacked)) ∙ sym q.spelled

-- a chunk's encoding is the encoding of its words
pub Packs-of-words : (chunk encoding : List ℕ) (words : List (List ℕ)) → concat words ≡ chunk → AllByRecursion IsWord words → Packs chunk encoding → PacksWords words encoding
Packs-of-words chunk encoding words whole all packs =
    let (own, made) = PacksWords-some words all in
    subst (PacksWords words) (Packs-once chunk own encoding (subst (λ b. Packs b own) whole (Packs-words words own made)) packs) made

pub Packs-some : (bytes : List ℕ) → length bytes % 8 ≡ 0 → (encoding : List ℕ) × Packs bytes encoding
Packs-some bytes whole =
    let cut = chunks_whole (length bytes / 8) bytes (omega arith) in
    let words = first_chunks 8 (length bytes / 8) bytes in
    let some : (encoding : List ℕ) × PacksWords words encoding = PacksWords-some words cut.1 in
    (some.0, subst (λ b. Packs b some.0) cut.0 (Packs-words words some.0 some.1))

pub Packs-whole : (bytes encoding : List ℕ) → Packs bytes encoding → length bytes % 8 ≡ 0
Packs-whole bytes encoding p = let long = words_len p.groups p.each in omega (arith, ap length p.unpacked, long.1)

-- packed words unpack to themselves, whatever follows
pub Packs-unpacks : (bytes encoding rest : List ℕ) → Packs bytes encoding → Unpacks (encoding ++ rest) (length bytes) bytes rest
Packs-unpacks bytes encoding rest p = (encoding, record { groups = p.groups; each = p.each; spelled = p.spelled; unpacked = p.unpacked }, refl, refl)

-- and to nothing else
pub Packs-unpacks-alone : (bytes encoding rest others left : List ℕ) → Packs bytes encoding → Unpacks (encoding ++ rest) (length bytes) others left → (others ≡ bytes) × (left ≡ rest)
Packs-unpacks-alone bytes encoding rest others left p q = unpack_once (encoding ++ rest) (length bytes) others left bytes rest q (Packs-unpacks bytes encoding rest p)

-- what is packed are words
zeros_each : (n : ℕ) → AllByRecursion IsWord (replicate n zero_word)
zeros_each zero = tt
zeros_each (suc n) = (refl, zeros_each n)

group_each : (g : Group) → IsGroup g → AllByRecursion IsWord (group_words g)
group_each (tagged tag word) is = (is.2, tt)
group_each (zeros further) is = (refl, zeros_each further)
group_each (literal word further) is = (is.0, is.1)

groups_each : (gs : List Group) → AllByRecursion IsGroup gs → AllByRecursion IsWord (words_of_groups gs)
groups_each [] all = tt
groups_each (g ∷ gs) all = AllByRecursion-append IsWord (group_words g) (words_of_groups gs) (group_each g all.0) (groups_each gs all.1)

word_each : (ws : List (List ℕ)) → AllByRecursion IsWord ws → (i : ℕ) → i < length ws → length (get_or ws i []) ≡ 8
word_each [] all i low = absurd (omega arith)
word_each (w ∷ ws) all zero low = all.0
word_each (w ∷ ws) all (suc i) low = word_each ws all.1 i (omega arith)

pub PacksWords-each : (words : List (List ℕ)) (encoding : List ℕ) → PacksWords words encoding → (i : ℕ) → i < length words → length (get_or words i []) ≡ 8
PacksWords-each words encoding p = word_each words (subst (AllByRecursion IsWord) p.unpacked (groups_each p.groups p.each))
