-- A block that is appended is the body of a tree, and stays one whatever is written before it. The pointer that is
-- then written at the root, near or far with its landing pad, points to it.
use Rattle.std.proofs.Common.{◌≡◌, ℕ, zero, suc, ◌+◌, ◌-◌, ◌*◌, ◌^◌, ◌<◌, ◌≤◌, List, [], ◌++◌, length, take, drop, Some, slice_set, w64, refl, ap, sym, subst, ◌∙◌, arith, length-set, length-append}
use Rattle.std.specs.Int.{to_le_bytes}
use Rattle.capnp_layout.specs.Prelude.{number_of, words_of, words_from, Form, Trees, none, tree, count, total_words, word_at, root, pointer, far_pointer, body, Laid, AllHaveRoom}
use Rattle.capnp_layout.proofs.words.WordsOfBytesLemmas.{length-words_of}
use Rattle.capnp_build.specs.Prelude.{Space, written, with_bytes, with_more, Out, BuilderState, space_at, pairs, with_space, KeepsOthers, message, size_in_words, root_word, landing_pad_of, HasBody, HasSomeBody, IsLaid, IsLonger, IsRewritten}
use Rattle.capnp_build.specs.declared.arena.location.RootLocation.{RootLocation}
use Rattle.capnp_build.proofs.words.PartAndWriteAsWordsLemmas.{part_as_words}
use Rattle.capnp_build.proofs.words.UsedBytesThenZerosLemmas.{written_length, written_zero}
use Rattle.capnp_build.proofs.words.SegmentWriteKeepsEarlierWordsLemmas.{used_word_there, eight_here, word_back}
use Rattle.capnp_build.proofs.states.OutSegmentListChangesLemmas.{pairs_set}
use Rattle.capnp_build.proofs.states.StayingBytesLemmas.{set_part, set_size, set_longer, part_after}
use Rattle.capnp_build.proofs.states.SegmentSizesAfterChangeLemmas.{set_used, set_apart, set_room, size_set, size_longer}
use Rattle.capnp_build.proofs.layouts.LaidTreeReadAtRootLemmas.{pointer_small, laid_after, far_root_is}

laid_of : (spaces : List Space) (location : RootLocation) (form : Form) (children : Trees) → HasBody spaces location form children → word_at (message spaces) root ≡ Some (root_word location.segment location.start form children)
    → (0 < location.segment → (0 < location.words) × (word_at (message spaces) (landing_pad_of location) ≡ Some location.pointer_word)) → IsLaid spaces location form children
laid_of spaces location form children b root_is landing_pad_is = record { body_is = b; root_is = root_is; landing_pad_is = landing_pad_is }

-- a block after the used words is a body
pub block_there : (spaces last : List Space) (i start n tag : ℕ) (block : List ℕ) (form : Form) (children : Trees) → i < length spaces → last ≡ slice_set spaces i (with_more (space_at spaces i) block)
    → 8 * start ≡ length (space_at spaces i).used → 0 < start → start ≤ 2 ^ 29 → length block ≡ 8 * n → n ≡ total_words (tree form children none) → n < 2 ^ 29 → AllHaveRoom (tree form children none)
    → tag ≡ pointer form (count children) 0 → words_of block ≡ body (tree form children none)
    → (let location : RootLocation = record { segment = i; start = start; words = n; pointer_word = tag } in HasBody last location form children)
block_there spaces last i start n tag block form children within e start_is following local long size few rooms tag_is body_is =
    let old : List ℕ = (space_at spaces i).used in
    let s = set_used spaces last i (with_more (space_at spaces i) block) within e in
    let used : (space_at last i).used ≡ old ++ block = ap (λ (x : Space). x.used) s.1 in
    let nothing : length {A = ℕ} [] ≡ 0 = refl in
    record {
      within = omega (arith, s.0, within);
      room = omega (arith, ap length used, length-append old block, start_is, long);
      following = following;
      local = local;
      rooms = rooms;
      size = size;
      few = few;
      tag = tag_is;
      laid = subst (λ (l : List ℕ). Laid (words_of l) start (tree form children none)) (sym used)
          (laid_after 0 start n old block [] (tree form children none) (sym start_is) (omega (arith, nothing)) long size body_is);
    }

-- what is written before a body keeps it
pub body_before : (spaces last : List Space) (location : RootLocation) (form : Form) (children : Trees) (at : ℕ) (w : List ℕ) → HasBody spaces location form children → at + length w ≤ 8 * location.start
    → last ≡ slice_set spaces location.segment (with_bytes (space_at spaces location.segment) at w) → HasBody last location form children
body_before spaces last location form children at w b before e =
    let old : List ℕ = (space_at spaces location.segment).used in
    let new : List ℕ = (space_at last location.segment).used in
    let s = set_used spaces last location.segment (with_bytes (space_at spaces location.segment) at w) b.within e in
    let used : new ≡ written old at w = ap (λ (x : Space). x.used) s.1 in
    let long : length new ≡ length old = ap length used ∙ written_length at old w (omega (arith, before, b.room)) in
    let past : drop (8 * location.start) new ≡ drop (8 * location.start) old =
    ap (λ (l : List ℕ). drop (8 * location.start) l) used ∙ written_zero at (8 * location.start) old w before (omega (arith, b.room)) in
    record {
      within = omega (arith, s.0, b.within);
      room = omega (arith, long, b.room);
      following = b.following;
      local = b.local;
      rooms = b.rooms;
      size = b.size;
      few = b.few;
      tag = b.tag;
      laid = record {
        within = omega (arith, b.size, long, b.room, length-words_of new);
        words_are = ap (words_from (words_of new) location.start) (sym b.size) ∙ part_as_words location.start location.words new (omega (arith, long, b.room))
            ∙ ap (λ (l : List ℕ). words_of (take (8 * location.words) l)) past ∙ sym (part_as_words location.start location.words old b.room)
            ∙ ap (words_from (words_of old) location.start) b.size ∙ b.laid.words_are;
      };
    }

-- so does what is written into another segment
body_apart : (spaces last : List Space) (location : RootLocation) (form : Form) (children : Trees) (i : ℕ) (s : Space) → HasBody spaces location form children → (i ≡ location.segment → ⊥) → last ≡ slice_set spaces i s
    → HasBody last location form children
body_apart spaces last location form children i s b apart e =
    let same : space_at last location.segment ≡ space_at spaces location.segment = ap (λ (l : List Space). space_at l location.segment) e ∙ set_apart spaces i location.segment s apart in
    let many : length last ≡ length spaces = ap length e ∙ length-set spaces i s in
    record {
      within = omega (arith, many, b.within);
      room = subst (λ (x : Space). 8 * (location.start + location.words) ≤ length x.used) (sym same) b.room;
      following = b.following;
      local = b.local;
      rooms = b.rooms;
      size = b.size;
      few = b.few;
      tag = b.tag;
      laid = subst (λ (x : Space). Laid (words_of x.used) location.start (tree form children none)) (sym same) b.laid;
    }

-- the root's word is a pointer to a body in the first segment
pub local_points : (spaces last : List Space) (location : RootLocation) (form : Form) (children : Trees) (w : List ℕ) → location.segment ≡ 0 → HasBody spaces location form children
    → w ≡ to_le_bytes w64 (pointer form (count children) (location.start - 1)) → length w ≡ 8 → last ≡ slice_set spaces 0 (with_bytes (space_at spaces 0) 0 w) → IsLaid last location form children
local_points spaces last location form children w first b is eight e =
    let there : 0 < length spaces = omega (arith, b.within) in
    let old : List ℕ = (space_at spaces 0).used in
    let room : 8 * (location.start + location.words) ≤ length old = subst (λ (k : ℕ). 8 * (location.start + location.words) ≤ length (space_at spaces k).used) first b.room in
    let s = set_used spaces last 0 (with_bytes (space_at spaces 0) 0 w) there e in
    let used : (space_at last 0).used ≡ written old 0 w = ap (λ (x : Space). x.used) s.1 in
    let long : length (space_at last 0).used ≡ length old = ap length used ∙ written_length 0 old w (omega (arith, room, b.following, eight)) in
    let small : pointer form (count children) (location.start - 1) < 2 ^ 64 = pointer_small form (count children) (location.start - 1) b.rooms.0 (omega (arith, b.local, b.following)) in
    let front : take 8 (drop (8 * 0) (space_at last 0).used) ≡ w = ap (λ (l : List ℕ). take 8 (drop (8 * 0) l)) used ∙ eight_here 0 old w (omega arith) eight in
    let there_too : last ≡ slice_set spaces location.segment (with_bytes (space_at spaces location.segment) 0 w) =
    e ∙ ap (λ (k : ℕ). slice_set spaces k (with_bytes (space_at spaces k) 0 w)) (sym first) in
    laid_of last location form children (body_before spaces last location form children 0 w b (omega (arith, eight, b.following)) there_too)
    (used_word_there last root (omega (arith, s.0, there)) (omega (arith, long, room, b.following)) ∙ ap (λ (l : List ℕ). Some (number_of 256 l)) front
    ∙ ap Some (word_back (pointer form (count children) (location.start - 1)) w small is eight) ∙ ap (λ (k : ℕ). Some (root_word k location.start form children)) (sym first))
    (λ p. absurd (omega (arith, p, first)))

far_word : (k start : ℕ) (form : Form) (children : Trees) → 0 < k → far_pointer k (start - 1) ≡ root_word k start form children
far_word zero start form children other = absurd (omega (arith, other))
far_word (suc k) start form children other = refl

-- the word before a body in another segment is its landing pad, and the root's word points there
pub far_points : (spaces mid last : List Space) (location : RootLocation) (form : Form) (children : Trees) (word : ℕ) (w v : List ℕ) → 0 < location.segment → 0 < location.words → location.segment < 2 ^ 32
    → HasBody spaces location form children → 8 ≤ length (space_at spaces 0).used → w ≡ to_le_bytes w64 location.pointer_word → length w ≡ 8
    → mid ≡ slice_set spaces location.segment (with_bytes (space_at spaces location.segment) (8 * (location.start - 1)) w) → word ≡ far_pointer location.segment (location.start - 1)
    → v ≡ to_le_bytes w64 word → length v ≡ 8 → last ≡ slice_set mid 0 (with_bytes (space_at mid 0) 0 v) → IsLaid last location form children
far_points spaces mid last location form children word w v other some few b room is eight e word_is is_too eight_too f =
    let old : List ℕ = (space_at spaces location.segment).used in
    let one = body_before spaces mid location form children (8 * (location.start - 1)) w b (omega (arith, eight, b.following)) e in
    let apart : 0 ≡ location.segment → ⊥ = λ q. absurd (omega (arith, q, other)) in
    let two = body_apart mid last location form children 0 (with_bytes (space_at mid 0) 0 v) one apart f in
    let back : location.segment ≡ 0 → ⊥ = λ q. absurd (omega (arith, q, other)) in
    let top : space_at mid 0 ≡ space_at spaces 0 =
    ap (λ (l : List Space). space_at l 0) e ∙ set_apart spaces location.segment 0 (with_bytes (space_at spaces location.segment) (8 * (location.start - 1)) w) back in
    let s = set_used spaces mid location.segment (with_bytes (space_at spaces location.segment) (8 * (location.start - 1)) w) b.within e in
    let z = set_used mid last 0 (with_bytes (space_at mid 0) 0 v) (omega (arith, b.within, s.0)) f in
    let top_used : (space_at last 0).used ≡ written (space_at spaces 0).used 0 v = ap (λ (x : Space). x.used) z.1 ∙ ap (λ (x : Space). written x.used 0 v) top in
    let used : (space_at last location.segment).used ≡ written old (8 * (location.start - 1)) w =
    ap (λ (l : List Space). (space_at l location.segment).used) f ∙ ap (λ (x : Space). x.used) (set_apart mid 0 location.segment (with_bytes (space_at mid 0) 0 v) apart)
    ∙ ap (λ (x : Space). x.used) s.1 in
    let long : length (space_at last location.segment).used ≡ length old = ap length used ∙ written_length (8 * (location.start - 1)) old w (omega (arith, eight, b.following, b.room)) in
    let small : location.pointer_word < 2 ^ 64 = omega (arith, b.tag, pointer_small form (count children) 0 b.rooms.0 (omega arith)) in
    let front : take 8 (drop (8 * (location.start - 1)) (space_at last location.segment).used) ≡ w =
    ap (λ (l : List ℕ). take 8 (drop (8 * (location.start - 1)) l)) used ∙ eight_here (8 * (location.start - 1)) old w (omega (arith, b.room)) eight in
    laid_of last location form children two
    (far_root_is spaces last location.segment (location.start - 1) word v (omega (arith, z.0, s.0, b.within)) room top_used few (omega (arith, b.local, b.following)) word_is is_too eight_too
    ∙ ap Some (far_word location.segment location.start form children other))
    (λ p. (
      some,
      used_word_there last (landing_pad_of location) two.within (omega (arith, long, b.room, b.following)) ∙ ap (λ (l : List ℕ). Some (number_of 256 l)) front
          ∙ ap Some (word_back location.pointer_word w small is eight),
    ))

-- the first segment has room for the root's word
pub first_segment_room : (spaces : List Space) (location : RootLocation) → HasSomeBody spaces location → location.segment ≡ 0 → 8 ≤ length (space_at spaces 0).used
first_segment_room spaces location p first =
    let b = p.2 in
    let room : 8 * (location.start + location.words) ≤ length (space_at spaces 0).used = subst (λ (k : ℕ). 8 * (location.start + location.words) ≤ length (space_at spaces k).used) first b.room in
    omega (arith, room, b.following)

-- segments after a block, and after a write
pub longer_by : {A : Type 0} (old new : BuilderState A) (i n : ℕ) (block : List ℕ) → i < length old.spaces → length block ≡ 8 * n → new ≡ with_space old i (with_more (space_at old.spaces i) block)
    → IsLonger old new i n
longer_by {A = A} old new i n block within long e =
    let s : Space = with_more (space_at old.spaces i) block in
    let there : new.spaces ≡ slice_set old.spaces i s = ap (λ (h : BuilderState A). h.spaces) e in
    let u = set_used old.spaces new.spaces i s within there in
    let more : length s.used ≡ length (space_at old.spaces i).used + 8 * n = omega (arith, length-append (space_at old.spaces i).used block, long) in
    record {
      count = u.0;
      size = ap size_in_words there ∙ size_longer old.spaces i n s within more;
      used = ap (λ (x : Space). length x.used) u.1 ∙ more;
      first = λ p. ap (λ (l : List Space). space_at l 0) there ∙ set_apart old.spaces i 0 s (λ q. absurd (omega (arith, q, p)));
      each = λ j. subst (λ (l : List Space). length (space_at old.spaces j).used ≤ length (space_at l j).used) (sym there) (set_longer old.spaces i j s (omega (arith, more)));
      bytes = λ j from m root fits. ap (λ (l : List Space). take m (drop from (space_at l j).used)) there
          ∙ set_part old.spaces i j from m s (λ q. part_after from m (space_at old.spaces i).used block
          (subst (λ (k : ℕ). from + m ≤ length (space_at old.spaces k).used) (sym q) fits));
      sizes = λ j. ap (λ (l : List Space). (space_at l j).size) there ∙ set_size old.spaces i j s refl;
      allocator = ap (λ (h : BuilderState A). h.allocator) e;
      pairs = λ others. ap (λ (h : BuilderState A). pairs h.spaces others) e ∙ pairs_set old.spaces i s others refl;
    }

pub rewritten_by : {A : Type 0} (old new : BuilderState A) (i at : ℕ) (w : List ℕ) → at + length w ≤ length (space_at old.spaces i).used → new ≡ with_space old i (with_bytes (space_at old.spaces i) at w)
    → IsRewritten old new
rewritten_by {A = A} old new i at w room e =
    let s : Space = with_bytes (space_at old.spaces i) at w in
    let there : new.spaces ≡ slice_set old.spaces i s = ap (λ (h : BuilderState A). h.spaces) e in
    let long : length s.used ≡ length (space_at old.spaces i).used = written_length at (space_at old.spaces i).used w room in
    record {
      count = ap length there ∙ length-set old.spaces i s;
      size = ap size_in_words there ∙ size_set old.spaces i s long;
      used = λ j. ap (λ (l : List Space). length (space_at l j).used) there ∙ set_room old.spaces i j s long;
      sizes = λ j. ap (λ (l : List Space). (space_at l j).size) there ∙ set_size old.spaces i j s refl;
      allocator = ap (λ (h : BuilderState A). h.allocator) e;
      pairs = λ others. ap (λ (h : BuilderState A). pairs h.spaces others) e ∙ pairs_set old.spaces i s others refl;
    }

pub rewritten_twice : {A : Type 0} (old mid new : BuilderState A) → IsRewritten old mid → IsRewritten mid new → IsRewritten old new
rewritten_twice old mid new a b = record {
  count = b.count ∙ a.count;
  size = b.size ∙ a.size;
  used = λ i. b.used i ∙ a.used i;
  sizes = λ i. b.sizes i ∙ a.sizes i;
  allocator = b.allocator ∙ a.allocator;
  pairs = λ others. b.pairs others ∙ a.pairs others;
}

-- what keeps the allocator and the pairs keeps the others out
pub keeps_of : {A : Type 0} (out : A → List Out → Type 0) (old new : BuilderState A) → new.allocator ≡ old.allocator → ((others : List Out) → pairs new.spaces others ≡ pairs old.spaces others)
    → KeepsOthers out old new
keeps_of {A = A} out old new same alike others is =
    subst (λ (a : A). out a (pairs new.spaces others)) (sym same) (subst (λ (l : List Out). out old.allocator l) (sym (alike others)) is)
