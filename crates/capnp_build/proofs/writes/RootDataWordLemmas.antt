-- Eight bytes that are written over a data word of the root's struct replace this word of its tree, and nothing
-- else. All trees of a root have as many data words.
use Rattle.std.proofs.Common.{◌≡◌, ℕ, zero, suc, ◌+◌, ◌-◌, ◌*◌, ◌^◌, ◌<◌, ◌≤◌, ◌==◌, if◌then◌else◌, List, [], ◌∷◌, ◌++◌, length, take, drop, Some, slice_set, w64, refl, ap, sym, subst, ◌∙◌}
use Rattle.std.proofs.Common.{arith, length-append, length-set}
use Rattle.std.proofs.lemmas.List.{set-append_left, drop-set-add}
use Rattle.std.proofs.lemmas.List.Elements.{All-set}
use Rattle.std.proofs.Math.Seq.{take-set-lt}
use Rattle.std.specs.Int.{to_le_bytes}
use Rattle.capnp_layout.proofs.objects.UniqueObjectLemmas.{one_tree}
use Rattle.capnp_layout.specs.Prelude.{words_of, words_from, struct, Trees, none, tree, count, object_size, total_words, word_at, At, root, struct_pointer, minus_one, body, pointers_to, slots, run, Laid}
use Rattle.capnp_layout.proofs.words.WordsOfBytesLemmas.{length-words_of}
use Rattle.capnp_build.specs.Prelude.{Space, written, with_bytes, space_at, message, root_word, landing_pad_of, IsLaid}
use Rattle.capnp_build.specs.declared.arena.location.RootLocation.{RootLocation}
use Rattle.capnp_build.proofs.words.PartAndWriteAsWordsLemmas.{words_set}
use Rattle.capnp_build.proofs.states.SegmentSizesAfterChangeLemmas.{set_used}
use Rattle.capnp_build.proofs.words.UsedBytesThenZerosLemmas.{written_length}
use Rattle.capnp_build.proofs.words.SegmentWriteKeepsEarlierWordsLemmas.{root_kept, word_kept}

-- a data word is another one
set_body : (words : List ℕ) (children : Trees) (i x : ℕ) → i < length words → slice_set (body (tree (struct words) children none)) i x ≡ body (tree (struct (slice_set words i x)) children none)
set_body words children i x within =
    let long : length (slice_set words i x) ≡ length words = length-set words i x in
    let links : List ℕ = pointers_to (slots (struct words) (count children)) (object_size (struct words) (count children)) children in
    let more : i < length (words ++ links) = omega (arith, within, length-append words links) in
    let most : i < length ((words ++ links) ++ body children) = omega (arith, more, length-append (words ++ links) (body children)) in
    let same : pointers_to (slots (struct (slice_set words i x)) (count children)) (object_size (struct (slice_set words i x)) (count children)) children ≡ links =
    ap (λ (n : ℕ). pointers_to (run n (count children)) (n + count children) children) long in
    set-append_left ((words ++ links) ++ body children) [] i x most
    ∙ ap (λ (l : List ℕ). l ++ []) (set-append_left (words ++ links) (body children) i x more)
    ∙ ap (λ (l : List ℕ). (l ++ body children) ++ []) (set-append_left words links i x within)
    ∙ ap (λ (l : List ℕ). ((slice_set words i x ++ l) ++ body children) ++ []) (sym same)

set_laid : (words : List ℕ) (start i x : ℕ) (fields : List ℕ) (children : Trees) → i < length fields → Laid words start (tree (struct fields) children none)
    → Laid (slice_set words (start + i) x) start (tree (struct (slice_set fields i x)) children none)
set_laid words start i x fields children within laid =
    let long : length (slice_set fields i x) ≡ length fields = length-set fields i x in
    let total : total_words (tree (struct (slice_set fields i x)) children none) ≡ total_words (tree (struct fields) children none) = ap (λ (n : ℕ). n + count children + total_words children + 0) long in
    let inside : i < total_words (tree (struct fields) children none) = omega (arith, within) in
    record {
      within = omega (arith, total, laid.within, length-set words (start + i) x);
      words_are = ap (λ (n : ℕ). words_from (slice_set words (start + i) x) start n) total
          ∙ ap (take (total_words (tree (struct fields) children none))) (drop-set-add start words i x)
          ∙ take-set-lt (total_words (tree (struct fields) children none)) (drop start words) i x inside
          ∙ ap (λ (l : List ℕ). slice_set l i x) laid.words_are ∙ set_body fields children i x within;
    }

root_same : (k start : ℕ) (fields : List ℕ) (children : Trees) (i x : ℕ) → root_word k start (struct (slice_set fields i x)) children ≡ root_word k start (struct fields) children
root_same zero start fields children i x = ap (λ (n : ℕ). struct_pointer (if n + count children == 0 then minus_one else start - 1) n (count children)) (length-set fields i x)
root_same (suc k) start fields children i x = refl

pub field_laid : (spaces last : List Space) (location : RootLocation) (fields : List ℕ) (children : Trees) (i x : ℕ) (w : List ℕ) → IsLaid spaces location (struct fields) children → i < length fields
    → x < 2 ^ 64 → w ≡ to_le_bytes w64 x → length w ≡ 8
    → last ≡ slice_set spaces location.segment (with_bytes (space_at spaces location.segment) (8 * (location.start + i)) w) → IsLaid last location (struct (slice_set fields i x)) children
field_laid spaces last location fields children i x w r within small is eight e =
    let old : List ℕ = (space_at spaces location.segment).used in
    let a = set_used spaces last location.segment (with_bytes (space_at spaces location.segment) (8 * (location.start + i)) w) r.body_is.within e in
    let used : (space_at last location.segment).used ≡ written old (8 * (location.start + i)) w = ap (λ (s : Space). s.used) a.1 in
    let room : 8 * (location.start + i) + length w ≤ length old = omega (arith, eight, r.body_is.room, r.body_is.size, within) in
    let long : length (space_at last location.segment).used ≡ length old = ap length used ∙ written_length (8 * (location.start + i)) old w room in
    let wide : length (slice_set fields i x) ≡ length fields = length-set fields i x in
    let inside : location.start + i < length (words_of old) = omega (arith, room, eight, length-words_of old) in
    let words : words_of (space_at last location.segment).used ≡ slice_set (words_of old) (location.start + i) x = ap words_of used ∙ words_set old (location.start + i) x w inside small is eight in
    record {
      body_is = record {
        within = omega (arith, a.0, r.body_is.within);
        room = omega (arith, long, r.body_is.room);
        following = r.body_is.following;
        local = r.body_is.local;
        rooms = ((omega (arith, wide, r.body_is.rooms.0.0), r.body_is.rooms.0.1, All-set (λ (v : ℕ). v < 2 ^ 64) fields i x small r.body_is.rooms.0.2), r.body_is.rooms.1, tt);
        size = r.body_is.size ∙ ap (λ (n : ℕ). n + count children + total_words children + 0) (sym wide);
        few = r.body_is.few;
        tag = r.body_is.tag ∙ ap (λ (n : ℕ). struct_pointer (if n + count children == 0 then minus_one else 0) n (count children)) (sym wide);
        laid = subst (λ (l : List ℕ). Laid l location.start (tree (struct (slice_set fields i x)) children none)) (sym words) (set_laid (words_of old) location.start i x fields children within r.body_is.laid);
      };
      root_is = ap (λ (l : List Space). word_at (message l) root) e ∙ root_kept spaces location.segment (8 * (location.start + i)) w r.body_is.within (omega (arith, r.body_is.following)) room ∙ r.root_is
          ∙ ap Some (sym (root_same location.segment location.start fields children i x));
      landing_pad_is = λ p. (
        (r.landing_pad_is p).0,
        ap (λ (l : List Space). word_at (message l) (landing_pad_of location)) e
            ∙ word_kept spaces location.segment (location.start - 1) (8 * (location.start + i)) w r.body_is.within (omega (arith, r.body_is.following)) room ∙ (r.landing_pad_is p).1,
      );
    }

-- a root has a given number of data words
pub same_fields : (spaces : List Space) (words others : List ℕ) (children h : Trees) (traversed c : ℕ) → At (message spaces) (root ∷ []) (tree (struct words) children none) traversed
    → At (message spaces) (root ∷ []) (tree (struct others) h none) c
    → length words ≡ length others
same_fields spaces words others children h traversed c one other =
    let same : tree (struct words) children none ≡ tree (struct others) h none = (one_tree (message spaces) (root ∷ []) (tree (struct words) children none) (tree
    (struct others) h none) traversed c one other).0 in
    let forms : words ≡ others = cc in ap length forms
