-- The groups at the front of the bytes that a source shows are unpacked, by their tags, to the front of a buffer.
use Rattle.std.proofs.Common.{◌≡◌, ℕ, zero, suc, ◌+◌, ◌-◌, ◌*◌, ◌%◌, ◌<◌, ◌≤◌, Option, Some, None, IfSome, List, [], ◌∷◌, ◌++◌}
use Rattle.std.proofs.Common.{length, take, drop, get_or, replicate, refl, sym, ap, ◌∙◌, subst, arith, append_assoc, length-append}
use Rattle.std.proofs.Common.{length-drop, drop-cons, add-one}
use Rattle.std.proofs.lemmas.List.{append-nil, take_at, take-append-drop, drop-drop, length-take-le, take-append-le, take-take, take-replicate, drop-replicate}
use Rattle.std.proofs.lemmas.List.Concat.{flat_map-append}
use Rattle.std.proofs.lemmas.List.Folds.{concat-append}
use Rattle.std.proofs.Math.Seq.{take-add}
use Rattle.std.specs.List.{concat, AllByRecursion}
use borrow.Rule.Slice.PartMut.{put_mid}
use Rattle.capnp_frame.specs.Prelude.{IfKnown, IsFront, ReturnsPart}
use Rattle.capnp_frame.proofs.sources.JoinedRequestPartsLemmas.{ReturnsPart-join, ReturnsPart-none, length-put_mid}
use Rattle.capnp_pack.specs.Prelude.{Group, tagged, zeros, literal, IsGroup, IsWord, AreZero, group_encoding, group_words, marked, unmarked, encoding_of, words_of_groups, Unpacks, PackedError, MarkedAt, RunAt, GroupFollowing, Unpacked}
use Rattle.capnp_pack.proofs.words.EachElementLemmas.{AllByRecursion-append}
use Rattle.capnp_pack.proofs.unpacking.GroupIsRequestPartLemmas.{group_takes, zeros_at}
use Rattle.capnp_pack.proofs.words.MarkedByteReadLemmas.{clear_byte, set_byte, full_word}
use Rattle.capnp_frame.proofs.sources.JoinedRequestPartsLemmas.{put_mid_front}
use Rattle.capnp_pack.proofs.unpacking.MarkedWordAndRunAreGroupLemmas.{tagged_found, literal_found}

-- a byte by its bit, in the bytes from `used` on
pub bit_here : (bits used byte : ℕ) (encoding : List ℕ) → (bits % 2 ≡ 0 → byte ≡ 0) →
    (bits % 2 ≡ 1 → (used < length encoding) × (byte ≡ get_or encoding used 0)) → MarkedAt bits (byte ∷ []) (drop used encoding) (drop (used + bits % 2) encoding)
bit_here bits used byte encoding clear set = by_bit (bits % 2) refl
  where
    by_bit : (bit : ℕ) → bits % 2 ≡ bit → MarkedAt bits (byte ∷ []) (drop used encoding) (drop (used + bit) encoding)
    by_bit zero e =
        let none : used + 0 ≡ used = omega arith in
        subst (λ k. MarkedAt bits (byte ∷ []) (drop used encoding) (drop k encoding)) (sym none)
        (subst (λ b. MarkedAt bits (b ∷ []) (drop used encoding) (drop used encoding)) (sym (clear e)) (clear_byte bits (Some (drop used encoding)) e))
    by_bit (suc zero) e =
        let here = set e in
        let front : drop used encoding ≡ byte ∷ drop (used + 1) encoding = drop-cons encoding used 0 here.0 ∙ ap (λ b. b ∷ drop (suc used) encoding) (sym here.1) ∙ ap (λ k. byte ∷ drop k encoding) (sym (add-one used)) in
        set_byte bits byte (Some (drop used encoding)) (Some (drop (used + 1) encoding)) (λ z. absurd (omega arith)) front
    by_bit (suc (suc bit)) e = absurd (omega arith)

-- the groups by their tags

pub tagged_after : (tag used : ℕ) (following word buffer : List ℕ) → 0 < tag → tag < 255 → IsWord word → used ≤ length following → 8 ≤ length buffer →
    take 8 buffer ≡ word → MarkedAt tag word following (drop used following) → GroupFollowing tag following buffer used 8
tagged_after tag used following word buffer some low is within room same at = record {
  used_within = within;
  some = omega arith;
  filled_within = room;
  whole = refl;
  group = tagged_found tag word (take 8 buffer) (Some following) (Some (drop used following)) some low is same at;
}

pub zeros_after : (filled : ℕ) (following buffer : List ℕ) → 1 ≤ length following → get_or following 0 0 < 256 → filled ≡ 8 * (get_or following 0 0 + 1) →
    filled ≤ length buffer → take filled buffer ≡ replicate filled 0 → GroupFollowing 0 following buffer 1 filled
zeros_after filled following buffer long byte count room clear =
    let front : following ≡ get_or following 0 0 ∷ drop 1 following = drop-cons following 0 0 (omega arith) in
    record {
      used_within = long;
      some = omega arith;
      filled_within = room;
      whole = omega arith;
      group = zeros_at (get_or following 0 0) filled following (drop 1 following) (take filled buffer) byte count clear front;
    }

-- what is copied by its ends, with nothing between them
pub copied_ends : (part count : ℕ) (encoding buffer last : List ℕ) → part ≤ count → count ≤ 2 * part → count ≤ length buffer → take part buffer ≡ take part encoding →
    length last ≡ length buffer - (count - part) → take part last ≡ take part (drop (count - part) encoding) →
    take count (put_mid (count - part) (length buffer - (count - part)) buffer last) ≡ take count encoding
copied_ends part count encoding buffer last most twice room front fits end =
    let cut = count - part in
    let after = put_mid cut (length buffer - cut) buffer last in
    let joined : cut + part ≡ count = omega arith in
    let before : take cut buffer ≡ take cut encoding = sym (take-take cut part buffer (omega arith)) ∙ ap (take cut) front ∙ take-take cut part encoding (omega arith) in
    let both : take (cut + part) after ≡ take (cut + part) encoding = put_mid_front cut (length buffer - cut) part buffer last (omega arith) (omega arith)
    ∙ ap (λ l. l ++ take part last) before ∙ ap (λ l. take cut encoding ++ l) end ∙ sym (take-add cut part encoding) in
    subst (λ n. take n after ≡ take n encoding) joined both

-- and where their first sixteen bytes and their last sixteen are cleared, with nothing between them
pub short_zeros_after : (filled : ℕ) (following buffer part : List ℕ) → 1 ≤ length following → get_or following 0 0 < 256 → filled ≡ 8 * (get_or following 0 0 + 1) →
    16 ≤ filled → filled ≤ 32 → filled ≤ length buffer → take 16 buffer ≡ replicate 16 0 → length part ≡ length buffer - (filled - 16) → take 16 part ≡ replicate 16 0 →
    GroupFollowing 0 following (put_mid (filled - 16) (length buffer - (filled - 16)) buffer part) 1 filled
short_zeros_after filled following buffer part long byte count least most room front fits end =
    let zeros = replicate filled 0 in
    let after = put_mid (filled - 16) (length buffer - (filled - 16)) buffer part in
    let len : length after ≡ length buffer = length-put_mid (filled - 16) buffer part (omega arith) fits in
    let first : take 16 zeros ≡ replicate 16 0 = take-replicate 16 filled 0 least in
    let last : take 16 (drop (filled - 16) zeros) ≡ replicate 16 0 = ap (take 16) (drop-replicate (filled - 16) filled 0) ∙ take-replicate 16 (filled - (filled - 16)) 0 (omega arith) in
    let both : take filled after ≡ take filled zeros = copied_ends 16 filled zeros buffer part least most room (front ∙ sym first) fits (end ∙ sym last) in
    zeros_after filled following after long byte count (omega arith) (both ∙ take-replicate filled filled 0 (omega arith))

unmarked_none : (w : List ℕ) → unmarked 0 w ≡ w
unmarked_none [] = refl
unmarked_none (b ∷ w) = ap (λ l. b ∷ l) (unmarked_none w)

marked_none : (w : List ℕ) → marked 0 w ≡ []
marked_none [] = refl
marked_none (b ∷ w) = marked_none w

zeros_are : (w : List ℕ) → AreZero w → w ≡ replicate (length w) 0
zeros_are [] all = refl
zeros_are (b ∷ w) all = ap (λ k. k ∷ w) all.0 ∙ ap (λ l. 0 ∷ l) (zeros_are w all.1)

-- a zero word alone, filled as a word without marked bytes
pub zero_after_single_word : (tag used : ℕ) (following word buffer : List ℕ) → tag ≡ 0 → get_or following 0 0 ≡ 0 → IsWord word → 9 ≤ length following →
    8 ≤ length buffer → take 8 buffer ≡ word → used ≤ 8 → MarkedAt tag word following (drop used following) → GroupFollowing tag following buffer (used + 1) 8
zero_after_single_word tag used following word buffer none count is long room same few at =
    let here : MarkedAt 0 word following (drop used following) = subst (λ t. MarkedAt t word following (drop used following)) none at in
    let all : following ≡ drop used following = here.0 ∙ ap (λ l. l ++ drop used following) (marked_none word) in
    let one : 1 ≡ used + 1 = omega (arith, ap length all, length-drop used following) in
    let clear : take 8 buffer ≡ replicate 8 0 = same ∙ zeros_are word (subst AreZero (unmarked_none word) here.1) ∙ ap (λ k. replicate k 0) is in
    subst (λ t. GroupFollowing t following buffer (used + 1) 8) (sym none)
    (subst (λ u. GroupFollowing 0 following buffer u 8) one (zeros_after 8 following buffer (omega arith) (omega (arith, count)) (omega (arith, count)) room clear))

pub literal_after : (run : ℕ) (following buffer : List ℕ) → 9 + run ≤ length following → get_or following 8 0 < 256 → run ≡ 8 * get_or following 8 0 →
    8 + run ≤ length buffer → take (8 + run) buffer ≡ take 8 following ++ take run (drop 9 following) → GroupFollowing 255 following buffer (9 + run) (8 + run)
literal_after run following buffer long byte count room same =
    let word : IsWord (take 8 following) = length-take-le 8 following (omega arith) in
    let full = full_word (take 8 following) word in
    let at : MarkedAt 255 (take 8 following) following (drop 8 following) = (sym (take-append-drop 8 following) ∙ ap (λ l. l ++ drop 8 following) (sym full.0), full.1) in
    let counted : drop 8 following ≡ get_or following 8 0 ∷ drop 9 following = drop-cons following 8 0 (omega arith) in
    let rest : drop 9 following ≡ take run (drop 9 following) ++ drop (9 + run) following = sym (take-append-drop run (drop 9 following)) ∙ ap (λ l. take run (drop 9 following) ++ l) (drop-drop run 9 following) in
    let left : length (take run (drop 9 following)) ≡ run = length-take-le run (drop 9 following) (omega (arith, length-drop 9 following)) in
    let more : RunAt (take run (drop 9 following)) (drop 8 following) (drop (9 + run) following) = (get_or following 8 0, byte, left ∙ count, counted ∙ ap (λ l. get_or following 8 0 ∷ l) rest) in
    record {
      used_within = long;
      some = omega arith;
      filled_within = room;
      whole = omega arith;
      group = literal_found 255 (take 8 following) (take run (drop 9 following)) (take (8 + run) buffer) (Some following) (Some (drop 8 following)) (Some (drop (9 + run) following)) refl word same at more;
    }

-- a group with its tag
pub group_unpacked : (tag used filled : ℕ) (shown following buffer : List ℕ) → shown ≡ tag ∷ following → GroupFollowing tag following buffer used filled → Unpacked shown buffer (1 + used) filled
group_unpacked tag used filled shown following buffer e g =
    let at = g.group in
    let spelled : shown ≡ group_encoding at.0 ++ drop used following = e ∙ at.3 in
    let within : used ≤ length following = g.used_within in
    let len : length (group_encoding at.0) ≡ 1 + used = omega (arith, ap length at.3, length-append (group_encoding at.0) (drop used following), length-drop used following) in
    record {
      used_within = omega (arith, ap length e);
      some = λ _. omega arith;
      filled_within = g.filled_within;
      whole = g.whole;
      chunk = record {
        groups = at.0 ∷ [];
        each = (at.1, tt);
        spelled = ap (take (1 + used)) spelled ∙ take_at (group_encoding at.0) (drop used following) (1 + used) len ∙ sym (append-nil (group_encoding at.0));
        unpacked = at.2 ∙ ap concat (sym (append-nil (group_words at.0)));
      };
    }

either_some : (filled used count more : ℕ) → (0 < filled → 0 < used) → (0 < count → 0 < more) → 0 < filled + count → 0 < used + more
either_some zero used count more a b s = let some : 0 < more = b (omega arith) in omega arith
either_some (suc filled) used count more a b s = let some : 0 < used = a (omega arith) in omega arith

-- groups after groups
pub unpacked_more : (used filled more count : ℕ) (shown rest buffer part : List ℕ) → rest ≡ drop used shown → length part ≡ length buffer - filled →
    Unpacked shown buffer used filled → Unpacked rest part more count → Unpacked shown (put_mid filled (length buffer - filled) buffer part) (used + more) (filled + count)
unpacked_more used filled more count shown rest buffer part e fits p q =
    let after = put_mid filled (length buffer - filled) buffer part in
    let len : length after ≡ length buffer = length-put_mid filled buffer part p.filled_within fits in
    let gs = p.chunk.groups in
    let hs = q.chunk.groups in
    let within = q.used_within in
    let inside = q.filled_within in
    let before = p.filled_within in
    let left = p.used_within in
    let two = p.whole in
    let both = q.whole in
    record {
      used_within = omega (arith, ap length e, length-drop used shown);
      some = either_some filled used count more p.some q.some;
      filled_within = omega arith;
      whole = omega arith;
      chunk = record {
        groups = gs ++ hs;
        each = AllByRecursion-append IsGroup gs hs p.chunk.each q.chunk.each;
        spelled = take-add used more shown ∙ ap (λ l. take used shown ++ take more l) (sym e) ∙ ap (λ l. l ++ take more rest) p.chunk.spelled
            ∙ ap (λ l. encoding_of gs ++ l) q.chunk.spelled ∙ sym (flat_map-append group_encoding gs hs);
        unpacked = put_mid_front filled (length buffer - filled) count buffer part before inside ∙ ap (λ l. l ++ take count part) p.chunk.unpacked
            ∙ ap (λ l. concat (words_of_groups gs) ++ l) q.chunk.unpacked ∙ sym (concat-append (words_of_groups gs) (words_of_groups hs))
            ∙ ap concat (sym (flat_map-append group_words gs hs));
      };
    }

-- groups at the front are a part of the result of each request that they fit into

group_first : (g : Group) (n : ℕ) (left : List ℕ) → IsGroup g → length (concat (group_words g)) ≤ n → ReturnsPart Unpacks PackedError n (concat (group_words g)) (group_encoding g ++ left) left
group_first (tagged tag word) n left is fits = group_takes n tag _ (marked tag word ++ left) left (tagged tag word, is, refl, refl) fits
group_first (zeros further) n left is fits = group_takes n 0 _ (further ∷ left) left (zeros further, is, refl, refl) fits
group_first (literal word further) n left is fits = group_takes n 255 _ ((word ++ length further ∷ concat further) ++ left) left (literal word further, is, refl, refl) fits

chunk_takes : (gs : List Group) (n : ℕ) (left : List ℕ) → AllByRecursion IsGroup gs → length (concat (words_of_groups gs)) ≤ n →
    ReturnsPart Unpacks PackedError n (concat (words_of_groups gs)) (encoding_of gs ++ left) left
chunk_takes [] n left each fits = ReturnsPart-none n left
chunk_takes (g ∷ gs) n left each fits =
    let parts : concat (words_of_groups (g ∷ gs)) ≡ concat (group_words g) ++ concat (words_of_groups gs) = concat-append (group_words g) (words_of_groups gs) in
    let size = length-append (concat (group_words g)) (concat (words_of_groups gs)) in
    let whole = ap length parts in
    let first = group_first g n (encoding_of gs ++ left) each.0 (omega arith) in
    let others = chunk_takes gs (n - length (concat (group_words g))) left each.1 (omega arith) in
    subst (λ l. ReturnsPart Unpacks PackedError n l (encoding_of (g ∷ gs) ++ left) left) (sym parts)
    (subst (λ l. ReturnsPart Unpacks PackedError n (concat (group_words g) ++ concat (words_of_groups gs)) l left) (sym (append_assoc (group_encoding g) (encoding_of gs) left))
    (ReturnsPart-join n (concat (group_words g)) (concat (words_of_groups gs)) _ (encoding_of gs ++ left) left first others))

taken_from : (used filled : ℕ) (shown buffer : List ℕ) (old new : Option (List ℕ)) → IfSome old (IsFront shown) →
    IfKnown old new (λ raw left. left ≡ drop used raw) → Unpacked shown buffer used filled → IfKnown old new (ReturnsPart Unpacks PackedError (length buffer) (take filled buffer))
taken_from used filled shown buffer None new front gone p = tt
taken_from used filled shown buffer (Some raw) None front gone p = absurd gone
taken_from used filled shown buffer (Some raw) (Some left) front gone p =
    let gs = p.chunk.groups in
    let encoding : take used raw ≡ encoding_of gs = ap (take used) front.1 ∙ take-append-le used shown front.0 p.used_within ∙ p.chunk.spelled in
    let whole : raw ≡ encoding_of gs ++ left = sym (take-append-drop used raw) ∙ ap (λ l. l ++ drop used raw) encoding ∙ ap (λ l. encoding_of gs ++ l) (sym gone) in
    let part : length (take filled buffer) ≡ filled = length-take-le filled buffer p.filled_within in
    let inside = p.filled_within in
    let fits : length (concat (words_of_groups gs)) ≤ length buffer = omega (arith, ap length p.chunk.unpacked) in
    subst (λ l. ReturnsPart Unpacks PackedError (length buffer) l raw left) (sym p.chunk.unpacked)
    (subst (λ l. ReturnsPart Unpacks PackedError (length buffer) (concat (words_of_groups gs)) l left) (sym whole) (chunk_takes gs (length buffer) left p.chunk.each fits))

-- what taking the groups that are shown says
pub shown_takes : (used filled : ℕ) (shown buffer : List ℕ) (old mid new : Option (List ℕ)) → IfSome old (IsFront shown) → mid ≡ old →
    IfKnown mid new (λ raw left. left ≡ drop used raw) → Unpacked shown buffer used filled → IfKnown old new (ReturnsPart Unpacks PackedError (length buffer) (take filled buffer))
shown_takes used filled shown buffer old mid new front same gone p = taken_from used filled shown buffer old new front (subst (λ o. IfKnown o new (λ raw left. left ≡ drop used raw)) same gone) p

pub shown_some : (used filled : ℕ) (shown buffer : List ℕ) (old : Option (List ℕ)) → IfSome old (IsFront shown) → Unpacked shown buffer used filled → 0 < filled → IfSome old (λ raw. raw ≡ [] → ⊥)
shown_some used filled shown buffer None front p some = tt
shown_some used filled shown buffer (Some raw) front p some = λ none. absurd (omega (arith, p.some, p.used_within, ap length front.1, ap length none, length-append shown front.0))
