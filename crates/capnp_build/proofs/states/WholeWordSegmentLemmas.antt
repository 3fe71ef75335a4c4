-- Segments use whole words, and still do after a write and once words are added; so they can be written as a
-- message.
use Rattle.std.proofs.lemmas.List.{length-replicate, length-map}
use Rattle.std.proofs.Common.{◌≡◌, ℕ, zero, suc, ◌+◌, ◌-◌, ◌*◌, ◌^◌, ◌<◌, ◌≤◌, List, [], ◌∷◌, ◌++◌, length, map, replicate, Option, Some, None, slice_set, slice_index_or}
use Rattle.std.proofs.Common.{ap, sym, subst, ◌∙◌, arith, length-append}
use Rattle.std.specs.List.{AllByRecursion}
use Rattle.capnp_frame.specs.Prelude.{IsWholeWords, lengths, FitsField, IsWritable}
use Rattle.capnp_build.specs.Prelude.{Space, with_block, with_bytes, written, with_more, used_of, spaces_of, space_at, no_space, free_words_of, UsesWords}
use Rattle.capnp_build.proofs.states.OutSegmentListChangesLemmas.{same_at}
use Rattle.capnp_build.proofs.words.UsedBytesThenZerosLemmas.{written_length}

-- words more, as many as there is room for
pub more_words : (space : Space) (block : List ℕ) (words : ℕ) → UsesWords space → length block ≡ 8 * words → words ≤ free_words_of space → UsesWords (with_more space block)
more_words space block words uses long room =
    let sum : length (space.used ++ block) ≡ length space.used + 8 * words = omega (arith, length-append space.used block, long) in
    (omega (arith, sum, uses.0), omega (arith, sum, uses.0, uses.1, room))

pub zero_block_uses_words : (space : Space) (words : ℕ) → UsesWords space → words ≤ free_words_of space → UsesWords (with_block space (8 * words))
zero_block_uses_words space words uses room = more_words space (replicate (8 * words) 0) words uses (length-replicate {A = ℕ} (8 * words) 0) room

pub other_bytes : (space : Space) (at_byte : ℕ) (w : List ℕ) → UsesWords space → at_byte + length w ≤ length space.used → UsesWords (with_bytes space at_byte w)
other_bytes space at_byte w uses fits =
    let same : length (written space.used at_byte w) ≡ length space.used = written_length at_byte space.used w fits in
    (omega (arith, same, uses.0), omega (arith, same, uses.1))

pub zeroed_bytes : (space : Space) (from to : ℕ) → UsesWords space → from ≤ to → to ≤ length space.used → UsesWords (with_bytes space from (replicate (to - from) 0))
zeroed_bytes space from to uses order fits = other_bytes space from (replicate (to - from) 0) uses (omega (arith, order, fits, length-replicate {A = ℕ} (to - from) 0))

pub no_used_words : (space : Space) → space.used ≡ [] → UsesWords space
no_used_words space none = let zero_long : length space.used ≡ 0 = ap length none in (omega (arith, zero_long), omega (arith, zero_long))

-- of one of the segments
words_at : (spaces : List Space) (i : ℕ) → i < length spaces → AllByRecursion UsesWords spaces → UsesWords (space_at spaces i)
words_at [] i within all = absurd (omega (arith, within))
words_at (s ∷ spaces) zero within all = all.0
words_at (s ∷ spaces) (suc i) within all = words_at spaces i (omega (arith, within)) all.1

all_set : (spaces : List Space) (i : ℕ) (new : Space) → AllByRecursion UsesWords spaces → UsesWords new → AllByRecursion UsesWords (slice_set spaces i new)
all_set [] i new all uses = all
all_set (s ∷ spaces) zero new all uses = (uses, all.1)
all_set (s ∷ spaces) (suc i) new all uses = (all.0, all_set spaces i new all.1 uses)

all_more : (spaces : List Space) (new : Space) → AllByRecursion UsesWords spaces → UsesWords new → AllByRecursion UsesWords (spaces ++ new ∷ [])
all_more [] new all uses = (uses, all)
all_more (s ∷ spaces) new all uses = (all.0, all_more spaces new all.1 uses)

-- of a segment after the first
part_at : (first : Option Space) (others : List Space) (i k : ℕ) (part : Space) → i < length (spaces_of first others) → i ≡ suc k
    → part ≡ slice_index_or others k part → part ≡ space_at (spaces_of first others) i
part_at None others i k part within place is = absurd (omega (arith, within))
part_at (Some s) others i k part within place is =
    is ∙ same_at others k part no_space (omega (arith, within, place)) ∙ ap (space_at (s ∷ others)) (sym place)

others_set : (first : Option Space) (others : List Space) (k : ℕ) (new : Space) → AllByRecursion UsesWords (spaces_of first others) → UsesWords new
    → AllByRecursion UsesWords (spaces_of first (slice_set others k new))
others_set None others k new all uses = all
others_set (Some s) others k new all uses = (all.0, all_set others k new all.1 uses)

-- that segment, edited
pub edited_words : (first : Option Space) (others : List Space) (i k : ℕ) (part new : Space) (edit : Space → Space) → AllByRecursion UsesWords (spaces_of first others)
    → i < length (spaces_of first others) → i ≡ suc k → part ≡ slice_index_or others k part → new ≡ edit part
    → (UsesWords (space_at (spaces_of first others) i) → UsesWords (edit (space_at (spaces_of first others) i)))
    → AllByRecursion UsesWords (spaces_of first (slice_set others k new))
edited_words first others i k part new edit all within place is e keeps =
    let here : part ≡ space_at (spaces_of first others) i = part_at first others i k part within place is in
    others_set first others k new all (subst UsesWords (sym (e ∙ ap edit here)) (keeps (words_at (spaces_of first others) i within all)))

pub added_words : (first : Option Space) (others more : List Space) (new : Space) → AllByRecursion UsesWords (spaces_of first others) → UsesWords new → more ≡ others ++ new ∷ []
    → AllByRecursion UsesWords (spaces_of first more)
added_words None others more new all uses is = all
added_words (Some s) others more new all uses is = (all.0, subst (AllByRecursion UsesWords) (sym is) (all_more others new all.1 uses))

each_whole : (spaces : List Space) → AllByRecursion UsesWords spaces → AllByRecursion IsWholeWords (map used_of spaces)
each_whole [] all = tt
each_whole (s ∷ spaces) all = (all.0.0, each_whole spaces all.1)

each_fits : (spaces : List Space) → AllByRecursion UsesWords spaces → AllByRecursion FitsField (lengths (map used_of spaces))
each_fits [] all = tt
each_fits (s ∷ spaces) all = (omega (arith, all.0.1), each_fits spaces all.1)

pub few_spaces : (first : Option Space) (others : List Space) → length others + 1 < 2 ^ 32 → length (spaces_of first others) < 2 ^ 32
few_spaces None others few = omega arith
few_spaces (Some s) others few = omega (arith, few)

-- what is used can be written
pub used_is_writable : (spaces : List Space) → AllByRecursion UsesWords spaces → length spaces < 2 ^ 32 → 0 < length spaces → IsWritable (map used_of spaces)
used_is_writable spaces all few some =
    let same : length (map used_of spaces) ≡ length spaces = length-map spaces used_of in
    record { some = omega (arith, same, some); few = omega (arith, same, few); whole = each_whole spaces all; each = each_fits spaces all }
