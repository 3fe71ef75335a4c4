-- A root whose pointer points to the block of a value is set to this value. Where the block follows the root's
-- word in the one segment, this segment is the value's layout.
use Rattle.std.proofs.Common.{◌≡◌, ℕ, ◌+◌, ◌*◌, ◌^◌, ◌<◌, Bool, true, false, List, [], ◌∷◌, length, take, Some, slice_get, refl, ap, sym, subst, ◌∙◌, arith}
use Rattle.std.proofs.lemmas.List.{take_all}
use Rattle.capnp_frame.specs.Prelude.{bytes_of}
use Rattle.capnp_frame.specs.declared.words.Word.{Word}
use Rattle.capnp_layout.specs.Prelude.{number_of, words_of, words_from, word_at, Form, Trees, none, tree, count, total_words, At, root, pointer, body, layout, output, AllHaveRoom}
use Rattle.capnp_wire.specs.Prelude.{HasWords, pointed}
use Rattle.capnp_layout.proofs.trees.TrimIdempotenceAndSizeLemmas.{count-trim}
use Rattle.capnp_wire.proofs.layouts.CopyPlanFillsLayoutLemmas.{room_output}
use Rattle.capnp_layout.proofs.words.WordsOfBytesLemmas.{length-words_of, heads, tails}
use Rattle.capnp_layout.proofs.trees.TreeReadBackLemmas.{one_tree_alone}
use Rattle.capnp_build.specs.Prelude.{Space, IsBlockOf, space_at, message, root_word, HasValue, IsLaid, IsSet, IsWhole}
use Rattle.capnp_build.specs.declared.arena.location.RootLocation.{RootLocation}
use Rattle.capnp_build.proofs.states.SegmentSizesAfterChangeLemmas.{one_space}
use Rattle.capnp_build.proofs.layouts.LaidTreeReadAtRootLemmas.{laid_root}

-- a value that is written
pub record Ready (has_tree : Trees → Type 0) (c : Bool) (word : Word) (n : ℕ) (block : List ℕ) : Type 0 where
  pub trees : Trees
  pub tree_is : has_tree trees
  pub form : Form
  pub children : Trees
  pub same : output c trees ≡ tree form children none
  pub rooms : AllHaveRoom (tree form children none)
  pub size : n ≡ total_words (tree form children none)
  pub few : n < 2 ^ 29
  pub tag : number_of 256 (bytes_of word) ≡ pointer form (count children) 0
  pub body_is : words_of block ≡ body (tree form children none)

count_output : (c : Bool) (trees : Trees) → count (output c trees) ≡ count trees
count_output true trees = count-trim trees
count_output false trees = refl

pub ready : (has_tree : Trees → Type 0) (c : Bool) (word : Word) (n : ℕ) (block : List ℕ) → ((trees : Trees) → has_tree trees → count trees ≡ 1) → HasWords has_tree c n
    → IsBlockOf has_tree c word block
    → Ready has_tree c word n block
ready has_tree c word n block one w holds =
    let f = one_tree_alone (output c w.trees) (count_output c w.trees ∙ one w.trees w.tree_is) in
    let whole : pointed word block ≡ layout (tree f.0 f.1 none) = holds w.trees w.tree_is ∙ ap layout f.2 in
    record {
      trees = w.trees;
      tree_is = w.tree_is;
      form = f.0;
      children = f.1;
      same = f.2;
      rooms = subst AllHaveRoom f.2 (room_output c w.trees w.rooms);
      size = w.words_are ∙ ap total_words f.2;
      few = w.few;
      tag = heads whole;
      body_is = tails whole;
    }

-- the root is the value whose body it points to
pub value_set : (has_tree : Trees → Type 0) (c : Bool) (spaces last : List Space) (location : RootLocation) (v : HasValue has_tree c spaces location) → IsLaid last location v.form v.children → IsSet has_tree c last
value_set has_tree c spaces last location v laid =
    let t = laid_root last location v.form v.children laid in
    record { trees = v.trees; tree_is = v.tree_is; traversed = t.0; is_at = subst (λ (x : Trees). At (message last) (root ∷ []) x t.0) (sym v.same) t.1 }

first_and_rest : (words b : List ℕ) (x n : ℕ) → slice_get words 0 ≡ Some x → length words ≡ 1 + n → words_from words 1 n ≡ b → words ≡ x ∷ b
first_and_rest [] b x n there long rest = absurd (omega (arith, long))
first_and_rest (y ∷ words) b x n there long rest =
    let same : y ≡ x = cc in
    let all : take n words ≡ words = take_all n words (omega (arith, long)) in
    let tail : words ≡ b = sym all ∙ rest in
    cc

-- the one segment is the layout of the value whose body is just after the root
pub value_whole : (has_tree : Trees → Type 0) (c : Bool) (spaces last : List Space) (location : RootLocation) (v : HasValue has_tree c spaces location) → IsLaid last location v.form v.children → length last ≡ 1
    → location.segment ≡ 0 → location.start ≡ 1 → length (space_at last 0).used ≡ 8 * (1 + location.words) → IsWhole has_tree c last
value_whole has_tree c spaces last location v laid one first start_is long =
    let words : List ℕ = words_of (space_at last 0).used in
    let message_is : message last ≡ words ∷ [] = one_space last one in
    let head : slice_get words 0 ≡ Some (root_word location.segment location.start v.form v.children) = ap (λ (m : List (List ℕ)). word_at m root) (sym message_is) ∙ laid.root_is in
    let local : root_word location.segment location.start v.form v.children ≡ pointer v.form (count v.children) 0 =
    ap (λ (k : ℕ). root_word k location.start v.form v.children) first ∙ ap (λ (n : ℕ). root_word 0 n v.form v.children) start_is in
    let many : length words ≡ 1 + total_words (tree v.form v.children none) = omega (arith, long, laid.body_is.size, length-words_of (space_at last 0).used) in
    let rest : words_from words 1 (total_words (tree v.form v.children none)) ≡ body (tree v.form v.children none) =
    ap (λ (n : ℕ). words_from words n (total_words (tree v.form v.children none))) (sym start_is)
    ∙ ap (λ (k : ℕ). words_from (words_of (space_at last k).used) location.start (total_words (tree v.form v.children none))) (sym first) ∙ laid.body_is.laid.words_are in
    record {
      trees = v.trees;
      tree_is = v.tree_is;
      words_are = message_is ∙ ap (λ (l : List ℕ). l ∷ []) (first_and_rest words (body (tree v.form v.children none)) (pointer v.form (count v.children) 0)
          (total_words (tree v.form v.children none)) (head ∙ ap Some local) many rest) ∙ ap (λ (t : Trees). layout t ∷ []) (sym v.same);
    }
