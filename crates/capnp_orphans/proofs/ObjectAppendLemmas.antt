-- An object that is appended to a segment, to a region or to a vector is one more orphan, and all others keep
-- their trees. The root is then set to it.
use Rattle.std.proofs.Common.{◌≡◌, ℕ, ◌+◌, ◌*◌, ◌/◌, ◌^◌, ◌<◌, ◌≤◌, List, [], ◌∷◌, ◌++◌, length, take, drop, Some, None, Ok, refl, sym, ◌∙◌, ap, subst, arith, length-append, length-take, length-drop}
use Rattle.std.proofs.Math.Seq.{take-append_seam}
use Rattle.std.proofs.lemmas.List.{append-nil}
use Rattle.capnp_layout.specs.Prelude.{words_of, Root}
use Rattle.capnp_layout.proofs.words.WordsOfBytesLemmas.{length-words_of}
use Rattle.capnp_layout.proofs.words.PutBytesAsWordsLemmas.{words_split}
use Rattle.capnp_orphans.specs.Orphans.{link, IsOrphan}
use Rattle.capnp_orphans.specs.Segments.{Segment, IsSegment, body_of, Appends, AppendsObject, IsPastMost, PutsRoot, IsWrittenOver}
use Rattle.capnp_orphans.specs.Adding.{Keeps, AddsOrphan, SetsRootOrphan, AddsRoot}
use Rattle.capnp_orphans.specs.OrphanLaws.{still_orphan}

drop_front : (xs ys : List ℕ) → 0 < length xs → drop 1 (xs ++ ys) ≡ drop 1 xs ++ ys
drop_front [] ys some = absurd (omega (arith, some))
drop_front (x ∷ xs) ys some = refl

-- the words after a segment's own words
pub body_after : (segment : Segment) (block : List ℕ) (new : List ℕ) → IsSegment segment → new ≡ segment.bytes ++ block → drop 1 (words_of new) ≡ body_of segment ++ words_of block
body_after segment block new is new_is =
    let k : ℕ = length segment.bytes / 8 in
    let long : length segment.bytes ≡ 8 * (length segment.bytes / 8) = omega (arith, is.whole) in
    ap (λ (l : List ℕ). drop 1 (words_of l)) new_is ∙ ap (λ (l : List ℕ). drop 1 l) (words_split k segment.bytes block long)
    ∙ drop_front (words_of segment.bytes) (words_of block) (omega (arith, length-words_of segment.bytes, is.rooted))

pub length-body_of : (segment : Segment) → IsSegment segment → length segment.bytes / 8 ≡ 1 + length (body_of segment)
length-body_of segment is = omega (arith, length-words_of segment.bytes, length-drop 1 (words_of segment.bytes), is.rooted)

-- all orphans keep their trees
pub keeps_after : (old new : Segment) (words : ℕ) → IsSegment old → Appends words old new → Keeps old new
keeps_after old new words is appends word form children h =
    subst (λ (l : List ℕ). IsOrphan l word form children) (sym appends.body_is)
    (still_orphan (body_of old) (words_of appends.block) word form children h)

-- a segment that an object is appended to is still a segment
pub still_segment : (old new : Segment) (words : ℕ) → IsSegment old → length old.bytes / 8 + words < 2 ^ 29 → Appends words old new → IsSegment new
still_segment old new words is few appends =
    let long : length new.bytes ≡ length old.bytes + 8 * words =
    ap (λ (l : List ℕ). length l) appends.bytes_are ∙ length-append old.bytes appends.block ∙ ap (λ (n : ℕ). length old.bytes + n) appends.len in
    record { whole = omega (arith, long, is.whole); rooted = omega (arith, long, is.rooted); few = omega (arith, long, is.whole, few) }

-- The root's word is the pointer to an orphan.
pub sets_root_orphan : (old new : Segment) (word : ℕ) → PutsRoot (link word 0) old new → SetsRootOrphan word old new
sets_root_orphan old new word is = record {
  body_is = ap (λ (l : List ℕ). drop 1 l) is.words_are;
  words_are = is.words_are;
  root_is = λ form children h.
      let whole : link word 0 ∷ (body_of old ++ []) ≡ words_of new.bytes = ap (λ (l : List ℕ). link word 0 ∷ l) (append-nil (body_of old)) ∙ sym is.words_are in
      let there = h.points_to (link word 0) [] 0 (omega arith) refl in
      (there.0, subst (λ (l : List ℕ). Root (l ∷ []) form children there.0) whole there.1);
  len = is.len;
  most = is.most;
  memory = is.memory;
}

-- the orphan of an object that is appended
pub adds_one : {T : Type 0} (holds : List ℕ → List ℕ → ℕ → Type 0) (words : ℕ) (old new : Segment) (word : T → ℕ) (number : ℕ) (object : T) → IsSegment old → AppendsObject holds words old new (Ok number)
    → word object ≡ number → AddsOrphan (holds (body_of old)) old new word (Ok object)
adds_one holds words old new word number object is appends same = record {
  keeps = keeps_after old new words is appends.appended;
  orphan = subst (λ (n : ℕ). holds (body_of old) (body_of new) n) (sym same) appends.holds_is;
}

-- an object is appended
pub appended : (holds : List ℕ → List ℕ → ℕ → Type 0) (words : ℕ) (old new : Segment) (block : List ℕ) (word : ℕ) → IsSegment old → new.bytes ≡ old.bytes ++ block → length block ≡ 8 * words
    → new.most ≡ old.most → ¬ (IsPastMost words old) → old.capacity ≤ new.capacity → length new.bytes ≤ new.capacity
    → ((body : List ℕ) → length old.bytes / 8 ≡ 1 + length body → holds body (body ++ words_of block) word) → AppendsObject holds words old new (Ok word)
appended holds words old new block word is bytes_are len most room memory fits h = record {
  appended = record { block = block; len = len; bytes_are = bytes_are; body_is = body_after old block new.bytes is bytes_are };
  holds_is = subst (λ (l : List ℕ). holds (body_of old) l word) (sym (body_after old block new.bytes is bytes_are)) (h (body_of old) (length-body_of old is));
  unchanged = tt;
  kind = tt;
  granted = λ room. refl;
  past_most = room;
  most = most;
  memory = memory;
  within_memory = fits;
}

-- it is written over the bytes after the used ones
pub over_appended : (holds : List ℕ → List ℕ → ℕ → Type 0) (words used : ℕ) (old new : Segment) (bytes over : List ℕ) (word : ℕ) → IsSegment old → take used bytes ≡ old.bytes → used ≤ length bytes
    → IsWrittenOver used words holds word bytes over → new.bytes ≡ take (used + 8 * words) over → new.most ≡ old.most → ¬ (IsPastMost words old) → old.capacity ≤ new.capacity
    → length bytes ≤ new.capacity → AppendsObject holds words old new (Ok word)
over_appended holds words used old new bytes over word is old_is within written new_is most room memory fits =
    let used_long : length old.bytes ≡ used = omega (arith, ap (λ (l : List ℕ). length l) old_is, length-take used bytes, within) in
    let whole : new.bytes ≡ old.bytes ++ written.block = new_is ∙ written.bytes_are ∙ ap (λ (l : List ℕ). l ++ written.block) old_is in
    let short : length new.bytes ≤ length bytes = omega (arith, ap (λ (l : List ℕ). length l) new_is, length-take (used + 8 * words) over, written.len) in
    appended holds words old new written.block word is whole written.block_long most room memory (omega (arith, short, fits))
    (λ body start. written.holds_is body (ap (λ (n : ℕ). n / 8) (sym used_long) ∙ start))

-- a region whose first bytes are used
abbrev pub grown_region : ℕ → List ℕ → Segment
grown_region used region = record { bytes = take used region; most = Some (length region); capacity = length region }

-- an object is appended to the used bytes of a region
pub region_appended : (holds : List ℕ → List ℕ → ℕ → Type 0) (words used : ℕ) (old : Segment) (region new : List ℕ) (word : ℕ) → IsSegment old → grown_region used region ≡ old
    → used + 8 * words ≤ length region → IsWrittenOver used words holds word region new → AppendsObject holds words old (grown_region (used + 8 * words) new) (Ok word)
region_appended holds words used old region new word is old_is within written =
    let capacity_is : old.capacity ≡ length region = sym (ap (λ (s : Segment). s.capacity) old_is) in
    let room : ¬ (IsPastMost words old) = subst (λ (s : Segment). ¬ (IsPastMost words s)) old_is (λ no. absurd (omega (arith, no, within, length-take used region))) in
    over_appended holds words used old (grown_region (used + 8 * words) new) region new word is (ap (λ (s : Segment). s.bytes) old_is) (omega (arith, within)) written refl
    (ap (λ (n : ℕ). Some n) written.len ∙ ap (λ (s : Segment). s.most) old_is) room (omega (arith, capacity_is, written.len)) (omega (arith, written.len))

-- a vector whose first bytes are used
abbrev pub grown_heap : ℕ → List ℕ → ℕ → Segment
grown_heap used bytes capacity = record { bytes = take used bytes; most = None; capacity = capacity }

-- an object is appended to the used bytes of a vector, after zeros were added to it
pub heap_appended : (holds : List ℕ → List ℕ → ℕ → Type 0) (words used size capacity more : ℕ) (old : Segment) (bytes longer seen new : List ℕ) (word : ℕ) → IsSegment old
    → grown_heap used bytes capacity ≡ old → take used longer ≡ take used bytes → used ≤ length longer → length longer ≤ more → capacity ≤ more → seen ≡ longer → size ≡ length seen
    → IsWrittenOver used words holds word seen new → AppendsObject holds words old (grown_heap (used + 8 * words) (take size (new ++ drop (length new) longer)) more) (Ok word)
heap_appended holds words used size capacity more old bytes longer seen new word is old_is front within room grows seen_is size_is written =
    let capacity_is : old.capacity ≡ capacity = sym (ap (λ (s : Segment). s.capacity) old_is) in
    let seen_long : length seen ≡ length longer = ap (λ (l : List ℕ). length l) seen_is in
    let free : ¬ (IsPastMost words old) = subst (λ (s : Segment). ¬ (IsPastMost words s)) old_is (λ no. no) in
    let kept : take size (new ++ drop (length new) longer) ≡ new =
    ap (λ (k : ℕ). take k (new ++ drop (length new) longer)) (size_is ∙ sym written.len) ∙ take-append_seam new (drop (length new) longer) in
    subst (λ (l : List ℕ). AppendsObject holds words old (grown_heap (used + 8 * words) l more) (Ok word)) (sym kept)
    (over_appended holds words used old (grown_heap (used + 8 * words) new more) seen new word is (ap (λ (l : List ℕ). take used l) seen_is ∙ front ∙ ap (λ (s : Segment). s.bytes) old_is)
    (omega (arith, within, seen_long)) written refl (ap (λ (s : Segment). s.most) old_is) free (omega (arith, capacity_is, grows)) (omega (arith, room, seen_long)))

-- what is added becomes the root
pub adds_root : (takes : ℕ → Type 0) (holds : List ℕ → ℕ → Type 0) (old between new : Segment) (word : ℕ) → Keeps old between → holds (body_of between) word
    → ((words : ℕ) × takes words × Appends words old between) → between.most ≡ old.most → old.capacity ≤ between.capacity → length between.bytes ≤ between.capacity → SetsRootOrphan word between new
    → AddsRoot takes holds old new (Ok tt)
adds_root takes holds old between new word keeps object_is long most memory filled sets = record {
  keeps = λ w form inner h. subst (λ (l : List ℕ). IsOrphan l w form inner) (sym sets.body_is) (keeps w form inner h);
  root_is = (
    word,
    subst (λ (l : List ℕ). holds l word) (sym sets.body_is) object_is,
    λ form inner h. sets.root_is form inner (subst (λ (l : List ℕ). IsOrphan l word form inner) sets.body_is h),
    sets.words_are ∙ ap (λ (l : List ℕ). link word 0 ∷ l) (sym sets.body_is),
  );
  appended = (
    long.0,
    long.1,
    (words_of long.2.block, omega (arith, length-words_of long.2.block, long.2.len), sets.body_is ∙ long.2.body_is),
  );
  long = (
    long.0,
    long.1,
    sets.len ∙ ap (λ (l : List ℕ). length l) long.2.bytes_are ∙ length-append old.bytes long.2.block ∙ ap (λ (n : ℕ). length old.bytes + n) long.2.len,
  );
  unchanged = tt;
  most = sets.most ∙ most;
  memory = omega (arith, memory, sets.memory);
  within_memory = omega (arith, filled, sets.memory, sets.len);
}
