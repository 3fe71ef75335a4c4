-- Where a call of a packer fails, the sink has the first parts of the encoding, and of the next part what it
-- leaves.
use Rattle.std.proofs.Common.{◌≡◌, ℕ, inl, inr, Option, List, [], ◌∷◌, ◌++◌, length, take, drop, refl, sym, ap, ◌∙◌, subst, append_assoc, ◌<◌, get_or}
use Rattle.std.specs.List.{concat, flat_map, AllByRecursion}
use Rattle.std.proofs.lemmas.List.{append-nil, length-take-le}
use Rattle.std.proofs.lemmas.List.Folds.{concat-append}
use Rattle.std.proofs.lemmas.List.Concat.{concat_is}
use Rattle.capnp_frame.specs.Prelude.{IfKnown, Appending, Leaving, Adds}
use Rattle.capnp_frame.proofs.sources.JoinedRequestPartsLemmas.{IfKnown-join, IfKnown-weaker}
use Rattle.capnp_frame.proofs.sinks.ChunkWritesUntilFailureLemmas.{left_front, left_after}
use Rattle.capnp_pack.specs.Prelude.{literal, IsWord, group_encoding, Packs, LeavesPacked, HasFewZeros, IsRun, Hands, LeavesParts, LiteralAfter, GroupAfter, tag_of, PacksWords, PacksTo, HandsTo, RestAfter}
use Rattle.capnp_pack.proofs.words.EachElementLemmas.{AllByRecursion-drop}
use Rattle.capnp_pack.proofs.words.ChunkWordLemmas.{each_word}
use Rattle.capnp_pack.proofs.packing.UniqueGroupByTagLemmas.{IsGroupOf-literal}
use Rattle.capnp_pack.proofs.packing.WordsPackUniquelyAndUnpackLemmas.{PacksWords-more, PacksWords-none, PacksWords-some, Packs-words}

-- a front of longer bytes
parts_longer : (appends : Appending) (leaves : Leaving) (encoding more left : List ℕ) → LeavesParts appends leaves encoding left → LeavesParts appends leaves (encoding ++ more) left
parts_longer appends leaves encoding more left (parts, joined, remains) = (
  parts ++ more ∷ [],
  concat-append parts (more ∷ []) ∙ ap (λ l. concat parts ++ l) (append-nil more) ∙ ap (λ l. l ++ more) joined,
  left_front appends leaves parts (more ∷ []) left remains,
)

pub left_longer : (appends : Appending) (leaves : Leaving) (encoding more whole : List ℕ) (a b : Option (List ℕ)) → whole ≡ encoding ++ more
    → IfKnown a b (Adds (LeavesParts appends leaves encoding)) → IfKnown a b (Adds (LeavesParts appends leaves whole))
left_longer appends leaves encoding more whole a b is = IfKnown-weaker a b (λ x y p.
    (p.0, subst (λ l. LeavesParts appends leaves l p.0) (sym is) (parts_longer appends leaves encoding more p.0 p.1), p.2))

-- one part
pub left_chunk : (appends : Appending) (leaves : Leaving) (encoding chunk : List ℕ) (a b : Option (List ℕ)) → encoding ≡ chunk
    → IfKnown a b (Adds (leaves chunk)) → IfKnown a b (Adds (LeavesParts appends leaves encoding))
left_chunk appends leaves encoding chunk a b is = IfKnown-weaker a b (λ x y p. (p.0, (chunk ∷ [], append-nil chunk ∙ sym is, inr (inl p.1)), p.2))

-- what is left after parts that are handed on
parts_after : (appends : Appending) (leaves : Leaving) (old encoding new more x y z : List ℕ) → Hands appends old encoding new x y
    → Adds (LeavesParts appends leaves (new ++ more)) y z → Adds (LeavesParts appends leaves ((old ++ encoding) ++ more)) x z
parts_after appends leaves old encoding new more x y z h (left, (parts, joined, remains), added) = (
  h.handed ++ left,
  (
    h.parts ++ parts,
    concat-append h.parts parts ∙ ap (λ l. concat h.parts ++ l) joined ∙ sym (append_assoc (concat h.parts) new more) ∙ ap (λ l. l ++ more) (sym h.kept),
    left_after appends leaves h.parts parts h.handed left h.declared remains,
  ),
  added ∙ ap (λ l. l ++ left) h.added ∙ append_assoc x h.handed left,
)

pub left_after_handed : (appends : Appending) (leaves : Leaving) (old encoding new more whole : List ℕ) (a b c : Option (List ℕ)) → whole ≡ (old ++ encoding) ++ more
    → IfKnown a b (Hands appends old encoding new) → IfKnown b c (Adds (LeavesParts appends leaves (new ++ more))) → IfKnown a c (Adds (LeavesParts appends leaves whole))
left_after_handed appends leaves old encoding new more whole a b c is =
    IfKnown-join a b c (λ x y z h p. subst (λ l. Adds (LeavesParts appends leaves l) x z) (sym is) (parts_after appends leaves old encoding new more x y z h p))

-- A literal run

-- handing on the buffer with its count fails
pub left_count : (appends : Appending) (leaves : Leaving) (count : ℕ) (old pushed : List ℕ) (others : List (List ℕ)) (a b : Option (List ℕ))
    → IsRun HasFewZeros others count → pushed ≡ old ++ count ∷ []
    → (encoding : List ℕ) × (encoding ≡ pushed) × IfKnown a b (Adds (LeavesParts appends leaves encoding))
    → (whole : List ℕ) × LiteralAfter old others whole × IfKnown a b (Adds (LeavesParts appends leaves whole))
left_count appends leaves count old pushed others a b run push (encoding, is, left) =
    let words = concat (take count others) in
    let whole : old ++ count ∷ words ≡ encoding ++ words = sym (append_assoc old (count ∷ []) words) ∙ ap (λ l. l ++ words) (sym (is ∙ push)) in
    (old ++ count ∷ words, (count, run, refl), left_longer appends leaves encoding words (old ++ count ∷ words) a b whole left)

-- handing on its words fails, after the buffer
pub left_words : (appends : Appending) (leaves : Leaving) (count : ℕ) (old pushed flat : List ℕ) (others : List (List ℕ)) (a b c : Option (List ℕ))
    → IsRun HasFewZeros others count → pushed ≡ old ++ count ∷ [] → flat ≡ flat_map (λ x. x) (take count others)
    → IfKnown a b (Hands appends pushed [] []) → IfKnown b c (Adds (leaves flat))
    → (whole : List ℕ) × LiteralAfter old others whole × IfKnown a c (Adds (LeavesParts appends leaves whole))
left_words appends leaves count old pushed flat others a b c run push all handed left =
    let words = concat (take count others) in
    let is : words ≡ flat = concat_is (take count others) ∙ sym all in
    let whole : old ++ count ∷ words ≡ (pushed ++ []) ++ words =
    sym (append_assoc old (count ∷ []) words) ∙ ap (λ l. l ++ words) (sym push ∙ sym (append-nil pushed)) in (
      old ++ count ∷ words,
      (count, run, refl),
      left_after_handed appends leaves pushed [] [] words (old ++ count ∷ words) a b c whole handed (left_chunk appends leaves words flat b c is left),
    )

-- A group

-- it is a group of words that are stored as they are
pub left_literal : (appends : Appending) (leaves : Leaving) (word : List ℕ) (os : List (List ℕ)) (old roomy filled : List ℕ) (a b c : Option (List ℕ))
    → IsWord word → AllByRecursion IsWord os → tag_of word ≡ 255 → filled ≡ roomy ++ 255 ∷ word → IfKnown a b (Hands appends old [] roomy)
    → (encoding : List ℕ) × LiteralAfter filled os encoding × IfKnown b c (Adds (LeavesParts appends leaves encoding))
    → (whole : List ℕ) × GroupAfter old word os whole × IfKnown a c (Adds (LeavesParts appends leaves whole))
left_literal appends leaves word os old roomy filled a b c is all full fill roomed (encoding, (count, run, spelled), left) =
    let further = take count os in
    let long : length further ≡ count = length-take-le count os run.within in
    let group = literal word further in
    let encoding_is : encoding ≡ roomy ++ group_encoding group = spelled ∙ ap (λ k. filled ++ k ∷ concat further) (sym long)
    ∙ ap (λ l. l ++ length further ∷ concat further) fill ∙ append_assoc roomy (255 ∷ word) (length further ∷ concat further) in (
      old ++ group_encoding group,
      (count, group, IsGroupOf-literal word os count is all full run, refl),
      left_after_handed appends leaves old [] roomy (group_encoding group) (old ++ group_encoding group) a b c
          (ap (λ l. l ++ group_encoding group) (sym (append-nil old))) roomed
          (subst (λ l. IfKnown b c (Adds (LeavesParts appends leaves l))) encoding_is left),
    )

-- Words

-- handing on the buffer with what it took of them fails
pub left_buffer : (appends : Appending) (leaves : Leaving) (words : List (List ℕ)) (n : ℕ) (old buffer : List ℕ) (a b : Option (List ℕ))
    → ((i : ℕ) → i < length words → length (get_or words i []) ≡ 8) → ((encoding : List ℕ) × PacksTo words encoding (drop n words) × (buffer ≡ old ++ encoding))
    → (s : List ℕ) × (s ≡ buffer) × IfKnown a b (Adds (LeavesParts appends leaves s))
    → (whole : List ℕ) × RestAfter old words whole × IfKnown a b (Adds (LeavesParts appends leaves whole))
left_buffer appends leaves words n old buffer a b declared (encoding, to, is) (s, same, left) =
    let (rest, packs) = PacksWords-some (drop n words) (AllByRecursion-drop IsWord n words (each_word words declared)) in
    let whole : old ++ (encoding ++ rest) ≡ s ++ rest = sym (append_assoc old encoding rest) ∙ ap (λ l. l ++ rest) (sym (same ∙ is)) in
    (old ++ (encoding ++ rest), (encoding ++ rest, to rest packs, refl), left_longer appends leaves s rest (old ++ (encoding ++ rest)) a b whole left)

-- or handing on the group after them
pub left_group : (appends : Appending) (leaves : Leaving) (words : List (List ℕ)) (n : ℕ) (w : List ℕ) (os : List (List ℕ)) (old buffer : List ℕ) (a b : Option (List ℕ))
    → ((i : ℕ) → i < length words → length (get_or words i []) ≡ 8) → drop n words ≡ w ∷ os → ((encoding : List ℕ) × PacksTo words encoding (drop n words) × (buffer ≡ old ++ encoding))
    → (s : List ℕ) × GroupAfter buffer w os s × IfKnown a b (Adds (LeavesParts appends leaves s))
    → (whole : List ℕ) × RestAfter old words whole × IfKnown a b (Adds (LeavesParts appends leaves whole))
left_group appends leaves words n w os old buffer a b declared front (encoding, to, is) (s, (count, group, made, spelled), left) =
    let each : AllByRecursion IsWord (w ∷ os) = subst (AllByRecursion IsWord) front (AllByRecursion-drop IsWord n words (each_word words declared)) in
    let (more, others) = PacksWords-some (drop count os) (AllByRecursion-drop IsWord count os each.1) in
    let rest = group_encoding group ++ more in
    let packs : PacksWords (drop n words) rest = subst (λ l. PacksWords l rest) (sym front) (PacksWords-more w os count group more made others) in
    let whole : old ++ (encoding ++ rest) ≡ s ++ more = sym (append_assoc old encoding rest) ∙ ap (λ l. l ++ rest) (sym is)
    ∙ sym (append_assoc buffer (group_encoding group) more) ∙ ap (λ l. l ++ more) (sym spelled) in
    (old ++ (encoding ++ rest), (encoding ++ rest, to rest packs, refl), left_longer appends leaves s more (old ++ (encoding ++ rest)) a b whole left)

-- A chunk

-- some parts of its encoding
packed_left : (appends : Appending) (leaves : Leaving) (chunk encoding : List ℕ) (a b : Option (List ℕ)) → Packs chunk encoding
    → IfKnown a b (Adds (LeavesParts appends leaves encoding)) → IfKnown a b (Adds (LeavesPacked appends leaves chunk))
packed_left appends leaves chunk encoding a b packed = IfKnown-weaker a b (λ x y (left, (parts, joined, remains), added).
    (left, inr (parts, subst (Packs chunk) (sym joined) packed, remains), added))

-- handing on the rest fails
pub left_rest : (appends : Appending) (leaves : Leaving) (chunk : List ℕ) (words left : List (List ℕ)) (buffer : List ℕ) (a b c : Option (List ℕ))
    → concat words ≡ chunk → HandsTo appends words left [] buffer a b
    → (s : List ℕ) × RestAfter buffer left s × IfKnown b c (Adds (LeavesParts appends leaves s)) → IfKnown a c (Adds (LeavesPacked appends leaves chunk))
left_rest appends leaves chunk words left buffer a b c whole (encoding, to, handed) (s, (rest, packs, spelled), remains) =
    let packed : PacksWords words (encoding ++ rest) = to rest packs in
    packed_left appends leaves chunk (encoding ++ rest) a c (subst (λ l. Packs l (encoding ++ rest)) whole (Packs-words words (encoding ++ rest) packed))
    (left_after_handed appends leaves [] encoding buffer rest (encoding ++ rest) a b c refl handed
    (subst (λ l. IfKnown b c (Adds (LeavesParts appends leaves l))) spelled remains))

-- handing on the last bytes fails
pub left_last : (appends : Appending) (leaves : Leaving) (chunk : List ℕ) (words left : List (List ℕ)) (buffer : List ℕ) (a b c : Option (List ℕ))
    → concat words ≡ chunk → left ≡ [] → HandsTo appends words left [] buffer a b
    → (s : List ℕ) × (s ≡ buffer) × IfKnown b c (Adds (LeavesParts appends leaves s)) → IfKnown a c (Adds (LeavesPacked appends leaves chunk))
left_last appends leaves chunk words left buffer a b c whole none handed (s, is, remains) =
    let empty : PacksWords left [] = subst (λ l. PacksWords l []) (sym none) PacksWords-none in
    left_rest appends leaves chunk words left buffer a b c whole handed (s, ([], empty, is ∙ sym (append-nil buffer)), remains)
