-- Whole groups at the front of packed bytes are a part of what all of these are unpacked to, whatever follows.
use Rattle.std.proofs.Common.{◌≡◌, ℕ, ◌+◌, ◌-◌, ◌*◌, ◌/◌, ◌<◌, ◌≤◌, ◌⊎◌, inl, inr, max, List, [], ◌∷◌, ◌++◌, length, take, drop, refl, sym, ap, ◌∙◌, subst, arith, length-append, length-drop, append_assoc}
use Rattle.std.proofs.lemmas.List.{take_all, take_at}
use Rattle.std.proofs.lemmas.Bool.{cases_lt}
use Rattle.std.proofs.lemmas.List.Folds.{concat-append}
use Rattle.std.specs.List.{concat, AllByRecursion}
use Rattle.capnp_frame.specs.declared.error.ErrorKind.{ErrorKind}
use Rattle.capnp_frame.specs.Prelude.{ReturnsPart}
use Rattle.capnp_frame.proofs.sources.JoinedRequestPartsLemmas.{ReturnsPart-join, ReturnsPart-none}
use Rattle.capnp_pack.specs.Prelude.{BeginsWithGroups, ChunkError, FirstGroupError, Group, HasProgress, IsGroup, PackedError, Unpacks, encoding_of, group_encoding, group_words, length-words, literal, tagged, unpack_once, unpacking, words_of_groups, zeros}
use Rattle.capnp_pack.proofs.errors.GroupErrorLemmas.{meets_first, zeros_size}
use Rattle.capnp_pack.proofs.unpacking.GroupIsRequestPartLemmas.{group_takes}
use Rattle.capnp_pack.specs.PackedErrorLaws.{PackedError-once}
use Rattle.capnp_pack.proofs.unpacking.SkippedGroupSizeLemmas.{passes_on}
use Rattle.capnp_c.specs.Parts.{FindsGroups, IsCut, IsFirstGroup, IsUnpackedPart, Needs, Overrun}
use Rattle.capnp_c.specs.declared.packed_parts.Groups.{Groups}
use Rattle.capnp_c.specs.declared.packed_parts.FirstGroup.{FirstGroup}

group_part : (group : Group) (n : ℕ) (left : List ℕ) → IsGroup group → length (concat (group_words group)) ≤ n
    → ReturnsPart Unpacks PackedError n (concat (group_words group)) (group_encoding group ++ left) left
group_part (tagged tag word) n left is fits = group_takes n tag _ _ left (tagged tag word, is, refl, refl) fits
group_part (zeros further) n left is fits = group_takes n 0 _ _ left (zeros further, is, refl, refl) fits
group_part (literal word further) n left is fits = group_takes n 255 _ _ left (literal word further, is, refl, refl) fits

groups_part : (groups : List Group) (n : ℕ) (left : List ℕ) → AllByRecursion IsGroup groups → length (concat (words_of_groups groups)) ≤ n
    → ReturnsPart Unpacks PackedError n (concat (words_of_groups groups)) (encoding_of groups ++ left) left
groups_part [] n left each fits = ReturnsPart-none n left
groups_part (group ∷ groups) n left each fits =
    let first = concat (group_words group) in
    let others = concat (words_of_groups groups) in
    let words : concat (words_of_groups (group ∷ groups)) ≡ first ++ others = concat-append (group_words group) (words_of_groups groups) in
    let size = length-append first others in
    let sizes = ap length words in
    let one = group_part group n (encoding_of groups ++ left) each.0 (omega arith) in
    let more = groups_part groups (n - length first) left each.1 (omega arith) in
    subst (λ l. ReturnsPart Unpacks PackedError n l (encoding_of (group ∷ groups) ++ left) left) (sym words)
    (subst (λ l. ReturnsPart Unpacks PackedError n (first ++ others) l left) (sym (append_assoc (group_encoding group) (encoding_of groups) left))
    (ReturnsPart-join n first others _ (encoding_of groups ++ left) left one more))

-- the words of the groups at the front
front_part : (packed left : List ℕ) (count n : ℕ) → HasProgress count packed left → count ≤ n
    → (words : List ℕ) × (length words ≡ count) × Unpacks packed count words left × ((more : List ℕ) → ReturnsPart Unpacks PackedError n words (packed ++ more) (left ++ more))
front_part packed left count n (groups, each, spelled, counted) fits = (
  concat (words_of_groups groups),
  counted,
  (encoding_of groups, record { groups = groups; each = each; spelled = refl; unpacked = refl }, spelled, counted),
  λ more. subst (λ l. ReturnsPart Unpacks PackedError n (concat (words_of_groups groups)) l (left ++ more))
      (sym (ap (λ l. l ++ more) spelled ∙ append_assoc (encoding_of groups) left more))
      (groups_part groups n (left ++ more) each (omega (arith, counted, fits))),
)

-- a byte is unpacked to at most 1,024 bytes
group_ratio : (group : Group) → IsGroup group → length (concat (group_words group)) ≤ 1024 * length (group_encoding group)
group_ratio (tagged tag word) is = omega (arith, is.2, length-append word [])
group_ratio (zeros further) is = omega (arith, zeros_size further, is)
group_ratio (literal word further) is =
    omega (arith, is.0, length-append word (concat further), length-append word (length further ∷ concat further), length-words further is.1)

ratio : (groups : List Group) → AllByRecursion IsGroup groups → length (concat (words_of_groups groups)) ≤ 1024 * length (encoding_of groups)
ratio [] each = omega arith
ratio (group ∷ groups) each = omega (
  arith,
  group_ratio group each.0,
  ratio groups each.1,
  ap length (concat-append (group_words group) (words_of_groups groups)),
  length-append (concat (group_words group)) (concat (words_of_groups groups)),
  length-append (group_encoding group) (encoding_of groups),
)

-- at least a given number of bytes more are needed, where the group that is cut has `len` at least
needs_left : (left more bytes rest : List ℕ) (n len : ℕ) → 0 < n
    → ((first : Group) (more rest : List ℕ) → IsGroup first → left ++ more ≡ group_encoding first ++ rest → len ≤ length (group_encoding first))
    → Unpacks (left ++ more) n bytes rest → max len (n / 1024) + length rest ≤ length left + length more
needs_left left more bytes rest n len some least (encoding, chunk, spelled, long) = by chunk.groups chunk.each chunk.spelled chunk.unpacked
  where
    by : (groups : List Group) → AllByRecursion IsGroup groups → encoding ≡ encoding_of groups → bytes ≡ concat (words_of_groups groups)
        → max len (n / 1024) + length rest ≤ length left + length more
    by [] each is words = absurd (omega (arith, some, long, ap length words))
    by (group ∷ groups) each is words =
        let first = least group more (encoding_of groups ++ rest) each.0
        (spelled ∙ ap (λ l. l ++ rest) is ∙ append_assoc (group_encoding group) (encoding_of groups) rest) in
        let bound = ratio (group ∷ groups) each in
        let parts = length-append (group_encoding group) (encoding_of groups) in
        omega (arith, first, bound, parts, ap length is, ap length words, long, ap length spelled, length-append left more, length-append encoding rest)

needs : (packed left : List ℕ) (count n len : ℕ) → HasProgress count packed left → count < n → length left < len
    → ((first : Group) (more rest : List ℕ) → IsGroup first → left ++ more ≡ group_encoding first ++ rest → len ≤ length (group_encoding first))
    → Needs packed n (max len ((n - count) / 1024) - length left)
needs packed left count n len progress fewer short least more bytes rest given =
    let (words, counted, unpacked, part) = front_part packed left count n progress (omega arith) in
    let (others, joined, after) = (part more).splits bytes rest given in
    let sizes : n - length words ≡ n - count = ap (λ k. n - k) counted in
    let enough = needs_left left more others rest (n - count) len (omega arith) least (subst (λ k. Unpacks (left ++ more) k others rest) sizes after) in
    omega (arith, enough, short)

-- what is left fails as all does

nothing_more : (left : List ℕ) → left ++ [] ≡ left
nothing_more [] = refl
nothing_more (x ∷ xs) = ap (λ l. x ∷ l) (nothing_more xs)

later_error : (packed left : List ℕ) (count n : ℕ) (kind : ErrorKind) → HasProgress count packed left → count ≤ n → FirstGroupError left (n - count) kind → PackedError packed n kind
later_error packed left count n kind progress fits error =
    let (words, counted, unpacked, part) = front_part packed left count n progress fits in
    let same : n - count ≡ n - length words = ap (λ k. n - k) (sym counted) in
    subst (λ l. PackedError l n kind) (nothing_more packed) (((part []).same_errors kind).0
    (subst (λ l. PackedError l (n - length words) kind) (sym (nothing_more left)) (subst (λ k. PackedError left k kind) same (meets_first left (n - count) kind error))))

cut_fits : (packed left : List ℕ) (count n : ℕ) → HasProgress count packed left → count ≤ n → IsCut left (n - count) → PackedError packed n Overrun → ⊥
cut_fits packed left count n progress fits (kind, other, error) over =
    other (PackedError-once packed n kind Overrun (later_error packed left count n kind progress fits error) over)

all_fits : (packed left : List ℕ) (n : ℕ) → HasProgress n packed left → PackedError packed n Overrun → ⊥
all_fits packed left n progress over =
    let (words, counted, unpacked, part) = front_part packed left n n progress (omega arith) in
    let after = ((part []).same_errors Overrun).1 (subst (λ l. PackedError l n Overrun) (sym (nothing_more packed)) over) in
    absurd (omega (arith, after.fewer, counted))

-- groups that are followed by one more, or by one that is cut

slice_all : (packed : List ℕ) (used : ℕ) → take (length packed - used) (drop used packed) ≡ drop used packed
slice_all packed used = take_all (length packed - used) (drop used packed) (omega (arith, length-drop used packed))

pub one_more : (packed : List ℕ) (most used filled : ℕ) (group : FirstGroup) → BeginsWithGroups packed most used filled
    → IsFirstGroup (take (length packed - used) (drop used packed)) (most - filled) group → group.len ≤ length packed - used
    → BeginsWithGroups packed most (used + group.len) (filled + group.filled)
one_more packed most used filled group front first there =
    passes_on used filled group.len group.filled most packed front (first.whole (omega (arith, there, ap length (slice_all packed used), length-drop used packed)))

pub cut_groups : (packed : List ℕ) (most used filled needed : ℕ) (group : FirstGroup) → BeginsWithGroups packed most used filled → filled < most
    → IsFirstGroup (take (length packed - used) (drop used packed)) (most - filled) group → length packed - used < group.len
    → needed ≡ max group.len ((most - filled) / 1024) - (length packed - used)
    → FindsGroups packed most (record { used = used; filled = filled; needed = needed })
cut_groups packed most used filled needed group front fewer sliced short enough =
    let first : IsFirstGroup (drop used packed) (most - filled) group = subst (λ l. IsFirstGroup l (most - filled) group) (slice_all packed used) sliced in
    let left = length-drop used packed in
    let within = front.used_within in
    let same : max group.len ((most - filled) / 1024) - length (drop used packed) ≡ needed = ap (λ k. max group.len ((most - filled) / 1024) - k) left ∙ sym enough in
    record {
      front = front;
      cut = λ less. first.cut (omega (arith, short, left));
      left = λ less. (
        omega (arith, short, first.few.1, within),
        omega (arith, short, enough),
        subst (Needs packed most) same (needs packed (drop used packed) filled most group.len front.groups fewer (omega (arith, short, left)) first.least),
      );
      all = λ full. absurd (omega (arith, full, fewer));
    }

-- groups that were found are unpacked

pub front_unpacks : (packed : List ℕ) (most : ℕ) (groups : Groups) (kind : ErrorKind) → FindsGroups packed most groups → ChunkError packed groups.filled kind → ⊥
front_unpacks packed most groups kind found error =
    let (words, counted, unpacked, part) = front_part packed (drop groups.used packed) groups.filled groups.filled found.front.groups (omega arith) in
    unpacking.apart packed groups.filled words (drop groups.used packed) kind unpacked error

fits : (packed : List ℕ) (most : ℕ) (groups : Groups) → FindsGroups packed most groups → (groups.filled < most) ⊎ (most ≤ groups.filled) → PackedError packed most Overrun → ⊥
fits packed most groups found (inl fewer) = cut_fits packed (drop groups.used packed) groups.filled most found.front.groups found.front.filled_within (found.cut fewer)
fits packed most groups found (inr full) =
    let within = found.front.filled_within in
    let same : groups.filled ≡ most = omega (arith, within, full) in
    all_fits packed (drop groups.used packed) most (subst (λ k. HasProgress k packed (drop groups.used packed)) same found.front.groups)

pub part_written : (packed old part source : List ℕ) (groups : Groups) → FindsGroups packed (length old) groups → length part ≡ groups.filled → Unpacks packed (length part) part source
    → (length (part ++ drop groups.filled old) ≡ length old) × IsUnpackedPart packed (part ++ drop groups.filled old) groups
part_written packed old part source groups found written given =
    let words = part ++ drop groups.filled old in
    let within = found.front.filled_within in
    let same : length words ≡ length old = omega (arith, length-append part (drop groups.filled old), length-drop groups.filled old, written, within) in
    let (got, counted, unpacked, part_of) = front_part packed (drop groups.used packed) groups.filled (length old) found.front.groups within in
    let first : got ≡ take groups.filled words =
    (unpack_once packed groups.filled got _ part source unpacked (subst (λ k. Unpacks packed k part source) written given)).0 ∙ sym (take_at part (drop groups.filled old) groups.filled written) in (
      same,
      record {
        within = (found.front.used_within, omega (arith, within, same));
        part = λ more. subst (λ k. ReturnsPart Unpacks PackedError k (take groups.filled words) (packed ++ more) (drop groups.used packed ++ more)) (sym same)
            (subst (λ l. ReturnsPart Unpacks PackedError (length old) l (packed ++ more) (drop groups.used packed ++ more)) first (part_of more));
        fits = λ over. fits packed (length old) groups found (cases_lt groups.filled (length old)) (subst (λ k. PackedError packed k Overrun) same over);
        left = λ fewer. (
            let (short, some, enough) = found.left (omega (arith, fewer, same)) in
            (short, some, subst (λ k. Needs packed k groups.needed) (sym same) enough)
            );
        all = λ full. found.all (full ∙ same);
      },
    )
