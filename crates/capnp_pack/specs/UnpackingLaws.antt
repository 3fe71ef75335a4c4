-- The laws of the packed requests.
use Rattle.std.proofs.Common.{◌≡◌, ℕ, zero, suc, ◌+◌, ◌*◌, ◌/◌, ◌%◌, ◌<◌, ◌⊎◌, Bool, true, false, inl, inr, List, [], ◌∷◌, ◌++◌, length}
use Rattle.std.proofs.Common.{replicate, refl, sym, ap, ◌∙◌, subst, arith, length-append, append_assoc}
use Rattle.std.proofs.lemmas.List.{nil_from_length}
use Rattle.std.proofs.lemmas.List.Folds.{concat-append}
use Rattle.std.specs.Prelude.{◌==◌, if◌then◌else◌}
use Rattle.std.specs.List.{concat, AllByRecursion}
use Rattle.capnp_frame.specs.Prelude.{IsPlain, same_front}
use Rattle.capnp_pack.specs.Group.{Group, tagged, zeros, literal, IsGroup, IsWord, AreZero, zero_word, group_encoding, group_words, marked, unmarked}
use Rattle.capnp_pack.specs.Chunk.{encoding_of, words_of_groups}
use Rattle.capnp_pack.specs.PackedSource.{Unpacks}

pub length-words : (words : List (List ℕ)) → AllByRecursion IsWord words → length (concat words) ≡ 8 * length words
length-words [] each = refl
length-words (w ∷ ws) each = omega (arith, length-append w (concat ws), each.0, length-words ws each.1)

pub zero_words : (n : ℕ) → AllByRecursion IsWord (replicate n zero_word)
zero_words zero = tt
zero_words (suc n) = (refl, zero_words n)

-- a group is one word or more
pub group_len : (g : Group) → IsGroup g → (k : ℕ) × (length (concat (group_words g)) ≡ 8 * (k + 1))
group_len (tagged tag word) is = (0, omega (arith, length-append word [], is.2))
group_len (zeros more) is = (length (replicate more zero_word), omega (arith, length-words (zero_word ∷ replicate more zero_word) (refl, zero_words more)))
group_len (literal word further) is = (length further, omega (arith, length-words (word ∷ further) (is.0, is.1)))

-- a chunk is whole words, and has as many groups as its words need
pub words_len : (gs : List Group) → AllByRecursion IsGroup gs → (k : ℕ) × (length (concat (words_of_groups gs)) ≡ 8 * (k + length gs))
words_len [] each = (0, refl)
words_len (g ∷ gs) each =
    let first = group_len g each.0 in
    let rest = words_len gs each.1 in
    (first.0 + rest.0, ap length (concat-append (group_words g) (words_of_groups gs)) ∙ omega (arith, length-append (concat (group_words g)) (concat (words_of_groups gs)), first.1, rest.1))

pub no_groups : (gs : List Group) → AllByRecursion IsGroup gs → length (concat (words_of_groups gs)) ≡ 0 → gs ≡ []
no_groups gs each none = let whole = words_len gs each in nil_groups gs (omega (arith, whole.1))
  where
    nil_groups : (gs : List Group) → length gs ≡ 0 → gs ≡ []
    nil_groups [] e = refl
    nil_groups (g ∷ gs) e = absurd (omega arith)

no_encoding : (gs : List Group) → encoding_of gs ≡ [] → gs ≡ []
no_encoding [] e = refl
no_encoding (tagged tag word ∷ gs) e = cc
no_encoding (zeros more ∷ gs) e = cc
no_encoding (literal word further ∷ gs) e = cc

pub unpack_whole : (raw : List ℕ) (n : ℕ) (bytes rest : List ℕ) → Unpacks raw n bytes rest → n % 8 ≡ 0
unpack_whole raw n bytes rest p =
    let whole = words_len p.1.groups p.1.each in
    omega (arith, p.3, ap length p.1.unpacked, whole.1)

pub not_plain : IsPlain Unpacks → ⊥
not_plain plain = let odd = unpack_whole (0 ∷ []) 1 (0 ∷ []) [] (plain (0 ∷ []) 1 (0 ∷ []) [] (refl, refl)) in absurd (omega arith)

pub unpack_nothing : (raw bytes rest : List ℕ) → Unpacks raw 0 bytes rest → (bytes ≡ []) × (rest ≡ raw)
unpack_nothing raw bytes rest p =
    let none : p.1.groups ≡ [] = no_groups p.1.groups p.1.each (sym (ap length p.1.unpacked) ∙ p.3) in
    (nil_from_length bytes p.3, sym (p.2 ∙ ap (λ l. l ++ rest) (p.1.spelled ∙ ap encoding_of none)))

pub takes_no_group : (raw : List ℕ) → Unpacks raw 0 [] raw
takes_no_group raw = ([], record { groups = []; each = tt; spelled = refl; unpacked = refl }, refl, refl)

pub none_unpacked : (n : ℕ) (bytes rest : List ℕ) → Unpacks [] n bytes rest → n ≡ 0
none_unpacked n bytes rest p =
    let encoding_none : p.0 ≡ [] = nil_from_length p.0 (omega (arith, ap length p.2, length-append p.0 rest)) in
    let none : p.1.groups ≡ [] = no_encoding p.1.groups (sym p.1.spelled ∙ encoding_none) in
    sym p.3 ∙ ap length p.1.unpacked ∙ ap (λ gs. length (concat (words_of_groups gs))) none

pub bit_cases : (r : ℕ) → r < 2 → (((r == 1) ≡ true) × ((r == 0) ≡ false)) ⊎ (((r == 1) ≡ false) × ((r == 0) ≡ true))
bit_cases zero low = inr (refl, refl)
bit_cases (suc zero) low = inl (refl, refl)
bit_cases (suc (suc r)) low = absurd (omega arith)

pub true_false : true ≡ false → ⊥
true_false e = cc

-- one byte of two words, by its bit of their tag
byte_step : {P : Type 0} (set clear : Bool) → ((set ≡ true) × (clear ≡ false)) ⊎ ((set ≡ false) × (clear ≡ true)) →
    (b c : ℕ) (m n u v x y : List ℕ) → (AreZero u → AreZero v → m ++ x ≡ n ++ y → P) → AreZero ((if clear then b ∷ [] else []) ++ u) →
    AreZero ((if clear then c ∷ [] else []) ++ v) → ((if set then b ∷ [] else []) ++ m) ++ x ≡ ((if set then c ∷ [] else []) ++ n) ++ y → (b ≡ c) × P
byte_step true false which b c m n u v x y more p q e = let tails : m ++ x ≡ n ++ y = cc in let heads : b ≡ c = cc in (heads, more p q tails)
byte_step false true which b c m n u v x y more p q e = (p.0 ∙ sym q.0, more p.1 q.1 e)
byte_step true true (inl w) b c m n u v x y more p q e = absurd (true_false w.1)
byte_step true true (inr w) b c m n u v x y more p q e = absurd (true_false w.0)
byte_step false false (inl w) b c m n u v x y more p q e = absurd (true_false (sym w.0))
byte_step false false (inr w) b c m n u v x y more p q e = absurd (true_false (sym w.1))

-- a tag and its bytes determine the word
pub same_word : (w v : List ℕ) (tag : ℕ) (x y : List ℕ) → length w ≡ length v → AreZero (unmarked tag w) → AreZero (unmarked tag v) → marked tag w ++ x ≡ marked tag v ++ y → (w ≡ v) × (x ≡ y)
same_word [] [] tag x y len p q e = (refl, e)
same_word [] (c ∷ v) tag x y len p q e = absurd (omega arith)
same_word (b ∷ w) [] tag x y len p q e = absurd (omega arith)
same_word (b ∷ w) (c ∷ v) tag x y len p q e =
    let step = byte_step (tag % 2 == 1) (tag % 2 == 0) (bit_cases (tag % 2) (omega arith)) b c (marked (tag / 2) w) (marked (tag / 2) v)
    (unmarked (tag / 2) w) (unmarked (tag / 2) v) x y (same_word w v (tag / 2) x y (omega arith)) p q e in
    (ap (λ k. k ∷ w) step.0 ∙ ap (λ l. c ∷ l) step.1.0, step.1.1)

-- no group's encoding is the start of another's
pub same_group : (g h : Group) (x y : List ℕ) → IsGroup g → IsGroup h → group_encoding g ++ x ≡ group_encoding h ++ y → (concat (group_words g) ≡ concat (group_words h)) × (x ≡ y)
same_group (tagged t w) (tagged u v) x y p q e =
    let tags : t ≡ u = cc in
    let encodings : marked t w ++ x ≡ marked u v ++ y = cc in
    let word = same_word w v t x y (p.2 ∙ sym q.2) p.3 (subst (λ k. AreZero (unmarked k v)) (sym tags) q.3) (encodings ∙ ap (λ k. marked k v ++ y) (sym tags)) in
    (ap (λ l. l ++ []) word.0, word.1)
same_group (zeros m) (zeros n) x y p q e = let more : m ≡ n = cc in let rest : x ≡ y = cc in (ap (λ k. concat (zero_word ∷ replicate k zero_word)) more, rest)
same_group (literal w fs) (literal v hs) x y p q e =
    let encodings : (w ++ length fs ∷ concat fs) ++ x ≡ (v ++ length hs ∷ concat hs) ++ y = cc in
    let words = same_front w v (length fs ∷ concat fs ++ x) (length hs ∷ concat hs ++ y) (p.0 ∙ sym q.0)
    (sym (append_assoc w (length fs ∷ concat fs) x) ∙ encodings ∙ append_assoc v (length hs ∷ concat hs) y) in
    let after : length fs ∷ concat fs ++ x ≡ length hs ∷ concat hs ++ y = words.1 in
    let counts : length fs ≡ length hs = cc in
    let runs : concat fs ++ x ≡ concat hs ++ y = cc in
    let further = same_front (concat fs) (concat hs) x y (omega (arith, length-words fs p.1, length-words hs q.1)) runs in
    (ap (λ l. l ++ concat fs) words.0 ∙ ap (λ l. v ++ l) further.0, further.1)
same_group (tagged t w) (zeros n) x y p q e = let tags : t ≡ 0 = cc in absurd (omega (arith, p.0))
same_group (tagged t w) (literal v hs) x y p q e = let tags : t ≡ 255 = cc in absurd (omega (arith, p.1))
same_group (zeros m) (tagged u v) x y p q e = let tags : 0 ≡ u = cc in absurd (omega (arith, q.0))
same_group (zeros m) (literal v hs) x y p q e = let tags : ◌≡◌ {A = ℕ} 0 255 = cc in absurd (omega arith)
same_group (literal w fs) (tagged u v) x y p q e = let tags : 255 ≡ u = cc in absurd (omega (arith, q.1))
same_group (literal w fs) (zeros n) x y p q e = let tags : ◌≡◌ {A = ℕ} 255 0 = cc in absurd (omega arith)

-- no chunk of this many words is the start of another
same_chunk : (gs hs : List Group) (x y : List ℕ) → AllByRecursion IsGroup gs → AllByRecursion IsGroup hs → encoding_of gs ++ x ≡ encoding_of hs ++ y →
    length (concat (words_of_groups gs)) ≡ length (concat (words_of_groups hs)) → (concat (words_of_groups gs) ≡ concat (words_of_groups hs)) × (x ≡ y)
same_chunk [] [] x y p q e len = (refl, e)
same_chunk [] (h ∷ hs) x y p q e len = let whole = words_len (h ∷ hs) q in absurd (omega (arith, whole.1))
same_chunk (g ∷ gs) [] x y p q e len = let whole = words_len (g ∷ gs) p in absurd (omega (arith, whole.1))
same_chunk (g ∷ gs) (h ∷ hs) x y p q e len =
    let first = same_group g h (encoding_of gs ++ x) (encoding_of hs ++ y) p.0 q.0 (sym (append_assoc (group_encoding g) (encoding_of gs) x) ∙ e ∙ append_assoc (group_encoding h) (encoding_of hs) y) in
    let left : concat (words_of_groups (g ∷ gs)) ≡ concat (group_words g) ++ concat (words_of_groups gs) = concat-append (group_words g) (words_of_groups gs) in
    let right : concat (words_of_groups (h ∷ hs)) ≡ concat (group_words h) ++ concat (words_of_groups hs) = concat-append (group_words h) (words_of_groups hs) in
    let others = same_chunk gs hs x y p.1 q.1 first.1 (omega (
      arith,
      len,
      ap length left,
      ap length right,
      ap length first.0,
      length-append (concat (group_words g)) (concat (words_of_groups gs)),
      length-append (concat (group_words h)) (concat (words_of_groups hs)),
    )) in
    (left ∙ ap (λ l. l ++ concat (words_of_groups gs)) first.0 ∙ ap (λ l. concat (group_words h) ++ l) others.0 ∙ sym right, others.1)

pub unpack_once : (raw : List ℕ) (n : ℕ) (bytes rest others left : List ℕ) → Unpacks raw n bytes rest → Unpacks raw n others left → (bytes ≡ others) × (rest ≡ left)
unpack_once raw n bytes rest others left p q =
    let same = same_chunk p.1.groups q.1.groups rest left p.1.each q.1.each
    (ap (λ l. l ++ rest) (sym p.1.spelled) ∙ sym p.2 ∙ q.2 ∙ ap (λ l. l ++ left) q.1.spelled)
    (sym (ap length p.1.unpacked) ∙ p.3 ∙ sym q.3 ∙ ap length q.1.unpacked) in
    (p.1.unpacked ∙ same.0 ∙ sym q.1.unpacked, same.1)
