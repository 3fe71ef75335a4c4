-- A tree that is laid out at the root's location is the tree that readers find at the root, also through a far
-- pointer.
use Rattle.std.proofs.Common.{◌≡◌, ℕ, zero, suc, ◌+◌, ◌-◌, ◌*◌, ◌^◌, ◌<◌, ◌≤◌, ◌==◌, if◌then◌else◌, Bool, true, false, List, [], ◌∷◌, ◌++◌, length, map, take, drop, Some, slice_get, w64, ap}
use Rattle.std.proofs.Common.{sym, subst, ◌∙◌, arith, length-append}
use Rattle.std.specs.Option.{option_and_then}
use Rattle.std.proofs.lemmas.List.{take_all}
use Rattle.std.specs.Int.{to_le_bytes}
use Rattle.capnp_layout.proofs.objects.UniqueObjectLemmas.{one_tree}
use Rattle.capnp_layout.specs.Prelude.{number_of, words_of, words_from, Form, null, struct, numbers, pointers, structs, Trees, none, tree, total_words, word_at, At, root, pointer, minus_one, far_pointer, body, Laid, HasRoom}
use Rattle.capnp_layout.specs.declared.place.Place.{Place}
use Rattle.capnp_layout.proofs.words.WordsOfBytesLemmas.{length-words_of}
use Rattle.capnp_layout.proofs.words.WordAtPlaceLemmas.{segment_is_there}
use Rattle.capnp_layout.proofs.trees.TreeReadBackLemmas.{local_tree, far_tree, some_form}
use Rattle.capnp_build.specs.Prelude.{Space, written, used_of, space_at, message, IsLaid}
use Rattle.capnp_build.specs.declared.arena.location.RootLocation.{RootLocation}
use Rattle.capnp_build.proofs.words.PartAndWriteAsWordsLemmas.{part_as_words}
use Rattle.capnp_build.proofs.states.SegmentSizesAfterChangeLemmas.{drop_all}
use Rattle.capnp_build.proofs.words.UsedBytesThenZerosLemmas.{written_length, written_zero}
use Rattle.capnp_build.proofs.words.SegmentWriteKeepsEarlierWordsLemmas.{used_at, used_word_there, eight_here, word_back}

-- pointer words fit
pub if_small : (b : Bool) (x y k : ℕ) → x < k → y < k → (if b then x else y) < k
if_small true x y k one two = one
if_small false x y k one two = two

pub pointer_small : (form : Form) (n offset : ℕ) → HasRoom form n → offset < 2 ^ 29 → pointer form n offset < 2 ^ 64
pointer_small null n offset room low = omega arith
pointer_small (struct words) n offset room low =
    let o = if_small (length words + n == 0) minus_one offset (2 ^ 30) (omega arith) (omega (arith, low)) in
    omega (arith, o, room.0, room.1)
pointer_small (numbers c values) n offset room low = omega (arith, room.0, room.1, low)
pointer_small pointers n offset room low = omega (arith, room, low)
pointer_small (structs d p elements) n offset room low = omega (arith, room.3, low)

-- a block after other bytes, some of them written over, is the body of trees
pub laid_after : (at start n : ℕ) (u block w : List ℕ) (trees : Trees) → length u ≡ 8 * start → at + length w ≤ 8 * start → length block ≡ 8 * n → n ≡ total_words trees → words_of block ≡ body trees
    → Laid (words_of (written (u ++ block) at w)) start trees
laid_after at start n u block w trees long front size words body_is =
    let whole : length (u ++ block) ≡ 8 * (start + n) = omega (arith, length-append u block, long, size) in
    let same : length (written (u ++ block) at w) ≡ length (u ++ block) = written_length at (u ++ block) w (omega (arith, whole, front)) in
    let past : drop (8 * start) (written (u ++ block) at w) ≡ drop (8 * start) (u ++ block) = written_zero at (8 * start) (u ++ block) w front (omega (arith, whole)) in
    let rest : drop (8 * start) (u ++ block) ≡ block = drop_all u block (8 * start) (sym long) in
    record {
      within = omega (arith, length-words_of (written (u ++ block) at w), same, whole, words);
      words_are = ap (words_from (words_of (written (u ++ block) at w)) start) (sym words)
          ∙ part_as_words start n (written (u ++ block) at w) (omega (arith, same, whole))
          ∙ ap (λ (l : List ℕ). words_of (take (8 * n) l)) (past ∙ rest) ∙ ap words_of (take_all (8 * n) block (omega (arith, size))) ∙ body_is;
    }

-- the word of a place in its segment
word_of : (m : List (List ℕ)) (place : Place) (words : List ℕ) (x : ℕ) → slice_get m place.segment ≡ Some words → word_at m place ≡ Some x → slice_get words place.word ≡ Some x
word_of m place words x there is = sym (ap (option_and_then (λ (l : List ℕ). slice_get l place.word)) there) ∙ is

content : (spaces : List Space) (i : ℕ) → i < length spaces → slice_get (message spaces) i ≡ Some (words_of (space_at spaces i).used)
content spaces i within = segment_is_there (map used_of spaces) i (space_at spaces i).used (used_at spaces i within)

-- the tree is at the root, as readers define it
rooted : (spaces : List Space) (k start n tag : ℕ) (form : Form) (children : Trees) → (let location : RootLocation = record { segment = k; start = start; words = n; pointer_word = tag } in IsLaid spaces location form children)
    → (traversed : ℕ) × At (message spaces) (root ∷ []) (tree form children none) traversed
rooted spaces zero start n tag form children r =
    let back : start ≡ 0 + 1 + (start - 1) = omega (arith, r.body_is.following) in
    let words : List ℕ = words_of (space_at spaces 0).used in
    local_tree (message spaces) 0 0 (start - 1) words form children (content spaces 0 r.body_is.within) r.body_is.rooms (omega (arith, r.body_is.size, r.body_is.few)) (omega (arith, r.body_is.local, r.body_is.following))
    (word_of (message spaces) root words _ (content spaces 0 r.body_is.within) r.root_is) (subst (λ (x : ℕ). Laid words x (tree form children none)) back r.body_is.laid)
rooted spaces (suc k) start n tag form children r =
    let back : start ≡ start - 1 + 1 = omega (arith, r.body_is.following) in
    let words : List ℕ = words_of (space_at spaces (suc k)).used in
    let place : Place = record { segment = suc k; word = start - 1 } in
    let landing_pad = r.landing_pad_is (omega arith) in
    far_tree (message spaces) root (suc k) (start - 1) words form children (content spaces (suc k) r.body_is.within) r.body_is.rooms (omega (arith, r.body_is.size, r.body_is.few)) (some_form form children r.body_is.rooms (omega (
      arith,
      r.body_is.size,
      landing_pad.0,
    )))
    (omega (arith, r.body_is.local, r.body_is.following)) r.root_is (word_of (message spaces) place words _ (content spaces (suc k) r.body_is.within) (landing_pad.1 ∙ ap Some r.body_is.tag))
    (subst (λ (x : ℕ). Laid words x (tree form children none)) back r.body_is.laid)

pub laid_root : (spaces : List Space) (location : RootLocation) (form : Form) (children : Trees) → IsLaid spaces location form children → (traversed : ℕ) × At (message spaces) (root ∷ []) (tree form children none) traversed
laid_root spaces location form children r = rooted spaces location.segment location.start location.words location.pointer_word form children r

-- the root's word once it is a far pointer
pub far_root_is : (spaces last : List Space) (i landing_pad word : ℕ) (v : List ℕ) → 0 < length last → 8 ≤ length (space_at spaces 0).used → (space_at last 0).used ≡ written (space_at spaces 0).used 0 v
    → i < 2 ^ 32 → landing_pad < 2 ^ 29 → word ≡ far_pointer i landing_pad → v ≡ to_le_bytes w64 word → length v ≡ 8 → word_at (message last) root ≡ Some (far_pointer i landing_pad)
far_root_is spaces last i landing_pad word v there room first_is few local word_is is eight =
    let long : length (space_at last 0).used ≡ length (space_at spaces 0).used = ap length first_is ∙ written_length 0 (space_at spaces 0).used v (omega (arith, eight, room)) in
    let small : word < 2 ^ 64 = omega (arith, word_is, few, local) in
    let first : take 8 (drop (8 * 0) (space_at last 0).used) ≡ v = ap (λ (l : List ℕ). take 8 (drop (8 * 0) l)) first_is ∙ eight_here 0 (space_at spaces 0).used v (omega arith) eight in
    let same : word ≡ far_pointer i landing_pad = omega (arith, word_is) in
    used_word_there last root there (omega (arith, long, room)) ∙ ap (λ (b : List ℕ). Some (number_of 256 b)) first ∙ ap Some (word_back word v small is eight ∙ same)

-- a tree of a known root
pub laid_as : (spaces : List Space) (location : RootLocation) (form f : Form) (children h : Trees) (traversed : ℕ) → IsLaid spaces location form children → At (message spaces) (root ∷ []) (tree f h none) traversed
    → IsLaid spaces location f h
laid_as spaces location form f children h traversed r there =
    let t = laid_root spaces location form children r in
    let same : tree form children none ≡ tree f h none = (one_tree (message spaces) (root ∷ []) (tree form children none) (tree f h none) t.0 traversed t.1 there).0 in
    let forms : form ≡ f = cc in
    let same_children : children ≡ h = cc in
    subst (λ (x : Form). IsLaid spaces location x h) forms (subst (λ (x : Trees). IsLaid spaces location form x) same_children r)
