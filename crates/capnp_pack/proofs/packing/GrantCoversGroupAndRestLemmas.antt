-- Where a sink grants the encoding of words, each call of a packer is granted what it hands on, and the rest stays
-- granted.
use Rattle.std.proofs.Common.{◌≡◌, ℕ, ◌+◌, ◌<◌, ◌≤◌, List, [], ◌∷◌, ◌++◌, length, take, drop, sym, ap, ◌∙◌, subst, arith, length-append, get_or}
use Rattle.std.specs.List.{concat, flat_map, AllByRecursion}
use Rattle.std.proofs.lemmas.List.{length-take-le}
use Rattle.std.proofs.lemmas.List.Concat.{concat_is}
use Rattle.capnp_pack.specs.Prelude.{Group, literal, IsWord, group_encoding, HasFewZeros, IsRun, IsGroupOf, tag_of, PacksWords, PacksTo, GrantsTo}
use Rattle.capnp_pack.proofs.words.EachElementLemmas.{AllByRecursion-drop}
use Rattle.capnp_pack.proofs.words.ChunkWordLemmas.{each_word}
use Rattle.capnp_pack.proofs.words.UniqueRunLengthLemmas.{IsRun-once, IsRun-some, few_or_not}
use Rattle.capnp_pack.proofs.packing.UniqueGroupByTagLemmas.{IsGroupOf-some, IsGroupOf-once, IsGroupOf-literal}
use Rattle.capnp_pack.proofs.packing.WordsPackUniquelyAndUnpackLemmas.{PacksWords-each, PacksWords-more, PacksWords-none, PacksWords-some, PacksWords-once}
use Rattle.capnp_pack.proofs.packing.ChunkPackedGroupByGroupLemmas.{words_after}

-- the words of a literal run have as many bytes as the chunk that is written of them
run_flat : (count words : ℕ) (flat : List ℕ) (os : List (List ℕ)) → IsRun HasFewZeros os count → IsRun HasFewZeros os words
    → flat ≡ flat_map (λ x. x) (take words os) → length (concat (take count os)) ≡ length flat
run_flat count words flat os run own all =
    ap (λ k. length (concat (take k os))) (IsRun-once HasFewZeros os count words run own) ∙ ap length (concat_is (take words os) ∙ sym all)

-- what is granted for the buffer with a count, and for the words after it, is granted for the words once the buffer is handed on
pub run_granted : (before after : ℕ → Type 0) (count words end used more : ℕ) (flat : List ℕ) (os : List (List ℕ)) (Flushed : Type 0)
    → IsRun HasFewZeros os count → IsRun HasFewZeros os words → flat ≡ flat_map (λ x. x) (take words os) → used ≡ end + 1
    → before (end + (1 + (length (concat (take count os)) + more))) → ((n : ℕ) → before (used + n) → Flushed × after n)
    → Flushed × after (length flat + more)
run_granted before after count words end used more flat os Flushed run own all pushed granted flush =
    let bytes = length (concat (take count os)) in
    let same : end + (1 + (bytes + more)) ≡ used + (bytes + more) = omega arith in
    let (done, left) = flush (bytes + more) (subst before same granted) in
    (done, subst (λ k. after (k + more)) (run_flat count words flat os run own all) left)

-- and where the buffer takes the words after the count, for what it then has
pub run_kept : (grants : ℕ → Type 0) (count words end used filled more : ℕ) (flat : List ℕ) (os : List (List ℕ))
    → IsRun HasFewZeros os count → IsRun HasFewZeros os words → flat ≡ flat_map (λ x. x) (take words os) → used ≡ end + 1 → filled ≡ used + length flat
    → grants (end + (1 + (length (concat (take count os)) + more))) → grants (filled + more)
run_kept grants count words end used filled more flat os run own all pushed kept =
    subst grants (omega (arith, run_flat count words flat os run own all, pushed, kept))

-- a buffer of 64 bytes, and a word that is stored as it is: what was granted for its group is
-- granted for what the buffer has with the count and the words
pub literal_granted : (grants : ℕ → Type 0) (word : List ℕ) (os : List (List ℕ)) (count more start end : ℕ) (made : Group) (old new : List ℕ)
    → IsWord word → AllByRecursion IsWord os → tag_of word ≡ 255 → length old ≡ 64 → length new ≡ 64 → start ≤ 54 → end < 64
    → take end new ≡ take start old ++ 255 ∷ word → IsGroupOf word os count made → grants (start + (length (group_encoding made) + more))
    → (k : ℕ) × IsRun HasFewZeros os k × grants (end + (1 + (length (concat (take k os)) + more)))
literal_granted grants word os count more start end made old new is all full old_long new_long room within fill theirs granted =
    let run : (k : ℕ) × IsRun HasFewZeros os k = IsRun-some HasFewZeros few_or_not os in
    let further = take run.0 os in
    let own = literal word further in
    let same : own ≡ made = (IsGroupOf-once word os run.0 count own made (IsGroupOf-literal word os run.0 is all full run.1) theirs).1 in
    let head : length (take end new) ≡ length (take start old) + length (255 ∷ word) = ap length fill ∙ length-append (take start old) (255 ∷ word) in
    let encoding : length (group_encoding own) ≡ length (255 ∷ word) + length (length further ∷ concat further) =
    length-append (255 ∷ word) (length further ∷ concat further) in
    let begun : length (take start old) ≡ start = length-take-le start old (omega (arith, old_long)) in
    let ended : length (take end new) ≡ end = length-take-le end new (omega (arith, new_long)) in
    let both : start + (length (group_encoding own) + more) ≡ end + (1 + (length (concat further) + more)) = omega (arith, head, encoding, begun, ended) in
    (run.0, run.1, subst grants (ap (λ g. start + (length (group_encoding g) + more)) (sym same) ∙ both) granted)

-- what is granted for the encoding of words is granted for what a buffer of 64 bytes has once it
-- took some of them, and for the rest
pub granted_taken : (grants : ℕ → Type 0) (words : List (List ℕ)) (n used end more : ℕ) (old new whole : List ℕ) → ((i : ℕ) → i < length words → length (get_or words i []) ≡ 8)
    → length old ≡ 64 → length new ≡ 64 → used ≤ 64 → end ≤ 64 → ((encoding : List ℕ) × PacksTo words encoding (drop n words) × (take end new ≡ take used old ++ encoding))
    → PacksWords words whole → grants (used + (length whole + more)) → GrantsTo grants (drop n words) end more
granted_taken grants words n used end more old new whole each old_long new_long before after (encoding, to, is) packs granted =
    let (rest, left) = PacksWords-some (drop n words) (AllByRecursion-drop IsWord n words (each_word words each)) in
    let both : whole ≡ encoding ++ rest = PacksWords-once words whole (encoding ++ rest) packs (to rest left) in
    let begun : length (take used old) ≡ used = length-take-le used old (omega (arith, old_long)) in
    let ended : length (take end new) ≡ end = length-take-le end new (omega (arith, new_long)) in
    let same : used + (length whole + more) ≡ end + (length rest + more) =
    omega (arith, ap length is, length-append (take used old) encoding, begun, ended, ap length both, length-append encoding rest) in
    (rest, left, subst grants same granted)

-- it is granted once all that the buffer has is handed on
pub granted_flushed : (before after : ℕ → Type 0) (words : List (List ℕ)) (used more : ℕ) (Flushed : Type 0) → GrantsTo before words used more
    → ((n : ℕ) → before (used + n) → Flushed × after n) → Flushed × GrantsTo after words 0 more
granted_flushed before after words used more Flushed (rest, packs, granted) flush =
    let (done, left) = flush (length rest + more) granted in
    let none : length rest + more ≡ 0 + (length rest + more) = omega arith in
    (done, (rest, packs, subst after none left))

-- the next group is granted, and the rest
granted_group : (grants : ℕ → Type 0) (words : List (List ℕ)) (n used count more : ℕ) (w : List ℕ) (os : List (List ℕ)) (g : Group) → AllByRecursion IsWord words
    → drop n words ≡ w ∷ os → IsGroupOf w os count g → GrantsTo grants (drop n words) used more
    → (rest : List ℕ) × PacksWords (drop count os) rest × grants (used + (length (group_encoding g) + (length rest + more)))
granted_group grants words n used count more w os g all front made (whole, packs, granted) =
    let each : AllByRecursion IsWord (w ∷ os) = subst (AllByRecursion IsWord) front (AllByRecursion-drop IsWord n words all) in
    let (rest, left) = PacksWords-some (drop count os) (AllByRecursion-drop IsWord count os each.1) in
    let own : PacksWords (drop n words) (group_encoding g ++ rest) = subst (λ l. PacksWords l (group_encoding g ++ rest)) (sym front) (PacksWords-more w os count g rest made left) in
    let same : used + (length whole + more) ≡ used + (length (group_encoding g) + (length rest + more)) =
    omega (arith, ap length (PacksWords-once (drop n words) whole (group_encoding g ++ rest) packs own), length-append (group_encoding g) rest) in
    (rest, left, subst grants same granted)

-- so the call that hands it on returns
pub group_granted : (grants : ℕ → Type 0) (words : List (List ℕ)) (n used more : ℕ) (w : List ℕ) (os : List (List ℕ))
    → ((i : ℕ) → i < length words → length (get_or words i []) ≡ 8) → drop n words ≡ w ∷ os → GrantsTo grants (drop n words) used more
    → (group : Group) × (count others : ℕ) × IsGroupOf w os count group × grants (used + (length (group_encoding group) + others))
group_granted grants words n used more w os declared front granted =
    let all = each_word words declared in
    let each : AllByRecursion IsWord (w ∷ os) = subst (AllByRecursion IsWord) front (AllByRecursion-drop IsWord n words all) in
    let (count, (group, made)) = IsGroupOf-some w os each.0 each.1 in
    let (rest, left, given) = granted_group grants words n used count more w os group all front made granted in
    (group, count, length rest + more, made, given)

-- and then the rest is granted
pub granted_more : (before after : ℕ → Type 0) (words : List (List ℕ)) (n count used end more : ℕ) (w : List ℕ) (os : List (List ℕ)) (P : Group → Type 0)
    → ((i : ℕ) → i < length words → length (get_or words i []) ≡ 8) → drop n words ≡ w ∷ os → os ≡ drop (n + 1) words
    → (k : ℕ) × (count ≡ 1 + k) × (g : Group) × IsGroupOf w os k g × P g → GrantsTo before (drop n words) used more
    → ((group : Group) (k others : ℕ) → IsGroupOf w os k group → before (used + (length (group_encoding group) + others)) → after (end + others))
    → GrantsTo after (drop (n + count) words) end more
granted_more before after words n count used end more w os P each front others (k, counted, g, made, handed) granted step =
    let (rest, left, given) = granted_group before words n used k more w os g (each_word words each) front made granted in
    let is : drop k os ≡ drop (n + count) words = words_after words n k os others ∙ ap (λ m. drop (n + m) words) (sym counted) in
    (rest, subst (λ l. PacksWords l rest) is left, step g k (length rest + more) made given)

-- and what a call is granted, after which the others are a slice
pub granted_on : (before after : ℕ → Type 0) (left slice : List (List ℕ)) (n used end more : ℕ) → slice ≡ drop n left → GrantsTo before left used more
    → ((encoding : List ℕ) (others : ℕ) → PacksWords left encoding → before (used + (length encoding + others)) → GrantsTo after (drop n left) end others)
    → GrantsTo after slice end more
granted_on before after left slice n used end more is (rest, packs, granted) step = subst (λ l. GrantsTo after l end more) (sym is) (step rest more packs granted)

-- and what the buffer takes, after which the others are a slice
pub granted_kept : (grants : ℕ → Type 0) (left slice : List (List ℕ)) (n used end more : ℕ) (old new : List ℕ) → slice ≡ drop n left
    → length old ≡ 64 → length new ≡ 64 → used ≤ 64 → end ≤ 64 → ((encoding : List ℕ) × PacksTo left encoding (drop n left) × (take end new ≡ take used old ++ encoding))
    → GrantsTo grants left used more → GrantsTo grants slice end more
granted_kept grants left slice n used end more old new is old_long new_long before after taken granted =
    granted_on grants grants left slice n used end more is granted
    (λ encoding others packs given. granted_taken grants left n used end others old new encoding (PacksWords-each left encoding packs) old_long new_long before after taken packs given)

-- and the group of the first word
pub group_granted_next : (before after : ℕ → Type 0) (words : List (List ℕ)) (count used end more : ℕ) (w : List ℕ) (os : List (List ℕ)) (P : Group → Type 0)
    → ((i : ℕ) → i < length words → length (get_or words i []) ≡ 8) → drop 0 words ≡ w ∷ os → os ≡ drop (0 + 1) words
    → (k : ℕ) × (count ≡ 1 + k) × (g : Group) × IsGroupOf w os k g × P g → GrantsTo before words used more
    → ((group : Group) (k others : ℕ) → IsGroupOf w os k group → before (used + (length (group_encoding group) + others)) → after (end + others))
    → GrantsTo after (drop count words) end more
group_granted_next before after words count used end more w os P each front rest made granted step =
    let same : 0 + count ≡ count = omega arith in
    subst (λ n. GrantsTo after (drop n words) end more) same (granted_more before after words 0 count used end more w os P each front rest made granted step)

-- at last what the buffer has is granted
pub granted_last : (grants : ℕ → Type 0) (left : List (List ℕ)) (used more : ℕ) → left ≡ [] → GrantsTo grants left used more → grants (used + more)
granted_last grants left used more none (rest, packs, granted) =
    let empty : rest ≡ [] = PacksWords-once [] rest [] (subst (λ l. PacksWords l rest) none packs) PacksWords-none in
    subst grants (omega (arith, ap length empty)) granted
