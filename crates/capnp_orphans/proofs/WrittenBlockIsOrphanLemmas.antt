-- Values, structs and lists that are written over a block at the end of a segment are orphans.
use Rattle.std.proofs.Common.{◌≡◌, ℕ, ◌+◌, ◌-◌, ◌*◌, ◌^◌, ◌<◌, ◌≤◌, ◌==◌, if◌then◌else◌, false, List, [], ◌∷◌, ◌++◌, length, take, drop, refl, sym, ◌∙◌, ap, subst, arith, length-append, length-take, length-drop}
use Rattle.std.specs.Prelude.{All, replicate}
use Rattle.std.proofs.Math.Seq.{take-append_seam, drop-append_seam}
use Rattle.std.proofs.lemmas.List.{append-nil, append_assoc, length-replicate, take-append-le, take-replicate}
use Rattle.capnp_layout.specs.Prelude.{words_of, Form, struct, structs, pointers, Trees, none, tree, count, total_words, pointer, struct_pointer, list_pointer, minus_one, layout, body, HasRoom, AllHaveRoom}
use Rattle.capnp_wire.specs.Prelude.{IsCopied, HasWords}
use Rattle.capnp_wire.specs.declared.layout.copy.Copied.{Copied}
use Rattle.capnp_layout.proofs.words.PutBytesAsWordsLemmas.{words_split}
use Rattle.capnp_layout.proofs.trees.TreeReadBackLemmas.{one_tree_alone}
use Rattle.capnp_wire.proofs.layouts.NullAndNumbersWrittenLemmas.{whole_written}
use Rattle.capnp_orphans.specs.declared.draft.StructDraft.{StructDraft}
use Rattle.capnp_orphans.specs.Orphans.{links, IsOrphan}
use Rattle.capnp_orphans.specs.Holds.{HoldsValue, HoldsStruct, HoldsPointers, HoldsStructs, words_of_each, element_words, AreSized}
use Rattle.capnp_orphans.proofs.ObjectIsOrphanLemmas.{struct_is_orphan, pointers_are_orphan, value_is_orphan}
use Rattle.capnp_orphans.proofs.StructDraftsWrittenAsOrphanLemmas.{structs_are_orphan}

empty : (xs : List ℕ) → length xs ≡ 0 → xs ≡ []
empty [] e = refl
empty (x ∷ xs) e = absurd (omega (arith, e))

-- a last part is written over
pub last_part : (m : ℕ) (xs w : List ℕ) → take m xs ++ (w ++ drop (length xs - m) (drop m xs)) ≡ take m xs ++ w
last_part m xs w =
    let end : drop (length xs - m) (drop m xs) ≡ [] = empty (drop (length xs - m) (drop m xs)) (omega (arith, length-drop (length xs - m) (drop m xs), length-drop m xs)) in
    ap (λ (l : List ℕ). take m xs ++ (w ++ l)) end ∙ ap (λ (l : List ℕ). take m xs ++ l) (append-nil w)

-- a part in the middle is written over
pub middle_long : (m n : ℕ) (xs w : List ℕ) → m + n ≤ length xs → length w ≡ n → length (take m xs ++ (w ++ drop n (drop m xs))) ≡ length xs
middle_long m n xs w within long =
    omega (arith, length-append (take m xs) (w ++ drop n (drop m xs)), length-append w (drop n (drop m xs)), length-take m xs, length-drop n (drop m xs), length-drop m xs, within, long)

pub middle_part : (m n : ℕ) (xs w : List ℕ) → m ≤ length xs → length w ≡ n → take (m + n) (take m xs ++ (w ++ drop n (drop m xs))) ≡ take m xs ++ w
middle_part m n xs w within long =
    let rest : List ℕ = drop n (drop m xs) in
    let all_long : m + n ≡ length (take m xs ++ w) = omega (arith, length-append (take m xs) w, length-take m xs, within, long) in
    ap (λ (l : List ℕ). take (m + n) l) (sym (append_assoc (take m xs) w (drop n (drop m xs)))) ∙ ap (λ (k : ℕ). take k ((take m xs ++ w) ++ drop n (drop m xs))) all_long
    ∙ take-append_seam (take m xs ++ w) (drop n (drop m xs))

-- it is written over with zeros, and its first ones are then zero
pub middle_zero : (m n k : ℕ) (xs w : List ℕ) → m ≤ length xs → n ≤ k → w ≡ replicate k 0 → take n (drop m (take m xs ++ (w ++ drop k (drop m xs)))) ≡ replicate n 0
middle_zero m n k xs w within fits zero =
    let rest : List ℕ = drop k (drop m xs) in
    let long : m ≡ length (take m xs) = omega (arith, length-take m xs, within) in
    let after : drop m (take m xs ++ (w ++ drop k (drop m xs))) ≡ w ++ drop k (drop m xs) =
    ap (λ (i : ℕ). drop i (take m xs ++ (w ++ drop k (drop m xs)))) long ∙ drop-append_seam (take m xs) (w ++ drop k (drop m xs)) in
    let w_long : n ≤ length w = omega (arith, ap (λ (l : List ℕ). length l) zero, length-replicate {A = ℕ} k 0, fits) in
    ap (λ (l : List ℕ). take n l) after ∙ take-append-le n w (drop k (drop m xs)) w_long ∙ ap (λ (l : List ℕ). take n l) zero ∙ take-replicate n k 0 fits

after_front : (m : ℕ) (front rest w : List ℕ) → length front ≡ m
    → take m (front ++ rest) ++ (w ++ drop (length (front ++ rest) - m) (drop m (front ++ rest))) ≡ front ++ w
after_front m front rest w long =
    last_part m (front ++ rest) w
    ∙ ap (λ (l : List ℕ). l ++ w) (ap (λ (n : ℕ). take n (front ++ rest)) (sym long) ∙ take-append_seam front rest)

-- a block of two parts
pub two_parts : (k : ℕ) (front rest w xs ys : List ℕ) → length front ≡ 8 * k → words_of front ≡ xs → words_of w ≡ ys
    → words_of (take (8 * k) (front ++ rest) ++ (w ++ drop (length (front ++ rest) - 8 * k) (drop (8 * k) (front ++ rest)))) ≡ xs ++ ys
two_parts k front rest w xs ys long first second =
    ap words_of (after_front (8 * k) front rest w long) ∙ words_split k front w long
    ∙ ap (λ (l : List ℕ). l ++ words_of w) first ∙ ap (λ (l : List ℕ). xs ++ l) second

head_is : (x y : ℕ) (xs ys : List ℕ) → x ∷ xs ≡ y ∷ ys → x ≡ y
head_is x y xs ys e = cc

tail_is : (x y : ℕ) (xs ys : List ℕ) → x ∷ xs ≡ y ∷ ys → xs ≡ ys
tail_is x y xs ys e = cc

-- a value is written over a block of its words
pub record ValueWritten (has_tree : Trees → Type 0) (number : ℕ) (block : List ℕ) (words : ℕ) : Type 0 where
  pub form : Form
  pub children : Trees
  pub tree_is : has_tree (tree form children none)
  pub rooms : AllHaveRoom (tree form children none)
  pub size : words ≡ total_words (tree form children none)
  pub pointer_is : number ≡ pointer form (count children) 0
  pub body_is : words_of block ≡ body (tree form children none)

pub value_written : (has_tree : Trees → Type 0) (words : ℕ) (old block : List ℕ) (copied : Copied) → HasWords has_tree false words → ((trees : Trees) → has_tree trees → count trees ≡ 1)
    → length (words_of old) ≡ words → ((trees : Trees) → has_tree trees → IsCopied trees (0 - 0) 0 (words_of old) (words_of block) copied)
    → ((trees : Trees) → has_tree trees → length (body trees) ≡ total_words trees) → ValueWritten has_tree copied.pointer block words
value_written has_tree words old block copied w one long is sizes =
    let a = one_tree_alone w.trees (one w.trees w.tree_is) in
    let all : copied.pointer ∷ words_of block ≡ layout (tree a.0 a.1 none) =
    whole_written w.trees (words_of old) (words_of block) copied (sizes w.trees w.tree_is ∙ sym w.words_are ∙ sym long) (is w.trees w.tree_is) ∙ ap layout a.2 in
    record {
      form = a.0;
      children = a.1;
      tree_is = subst has_tree a.2 w.tree_is;
      rooms = subst AllHaveRoom a.2 w.rooms;
      size = w.words_are ∙ ap total_words a.2;
      pointer_is = head_is _ _ _ _ all;
      body_is = tail_is _ _ _ _ all;
    }

-- it is an orphan
pub value_children : (has_tree : Trees → Type 0) (body block : List ℕ) (start words w number : ℕ) (v : ValueWritten has_tree number block words) → start ≡ 1 + length body → start + words < 2 ^ 29
    → ((form : Form) (n : ℕ) → HasRoom form n → number ≡ pointer form n 0 → w ≡ pointer form n start) → HoldsValue has_tree (body ++ words_of block) w
value_children has_tree body block start words w number v is room moved =
    let word_is : w ≡ pointer v.form (count v.children) start = moved v.form (count v.children) v.rooms.0 v.pointer_is in (
      v.form,
      v.children,
      v.tree_is,
      subst (λ (x : ℕ). IsOrphan (body ++ words_of block) x v.form v.children) (sym word_is)
          (subst (λ (l : List ℕ). IsOrphan (body ++ l) (pointer v.form (count v.children) start) v.form v.children) (sym v.body_is)
          (value_is_orphan body v.form v.children start is v.rooms (omega (arith, room, v.size)))),
    )

-- so is a struct
pub written_struct_children : (body words adopted block : List ℕ) (start d p w : ℕ) → start ≡ 1 + length body → length words ≡ d → length adopted ≡ p → d < 2 ^ 16 → p < 2 ^ 16 → All (λ x. x < 2 ^ 64) words
    → start + d + p < 2 ^ 29 → words_of block ≡ words ++ links adopted (start + length words) → w ≡ struct_pointer (if d + p == 0 then minus_one else start) d p
    → HoldsStruct body words adopted (body ++ words_of block) w
written_struct_children body words adopted block start d p w is words_long adopted_long few_words few_pointers all room block_is word_is =
    let own_is : w ≡ pointer (struct words) (length adopted) start =
    word_is ∙ ap (λ (n : ℕ). struct_pointer (if n + p == 0 then minus_one else start) n p) (sym words_long)
    ∙ ap (λ (n : ℕ). struct_pointer (if length words + n == 0 then minus_one else start) (length words) n) (sym adopted_long) in
    record {
      tree_is = λ children are.
          subst (λ (x : ℕ). IsOrphan (body ++ words_of block) x (struct words) children) (sym own_is)
          (subst (λ (l : List ℕ). IsOrphan (body ++ l) (pointer (struct words) (length adopted) start) (struct words) children) (sym block_is)
          (struct_is_orphan body words adopted children start is (omega (arith, words_long, few_words)) (omega (arith, adopted_long, few_pointers)) all (omega (arith, words_long, adopted_long, room)) are));
      words_are = ap (λ (l : List ℕ). body ++ l) block_is ∙ ap (λ (n : ℕ). body ++ (words ++ links adopted (n + length words))) is;
      word_is = own_is ∙ ap (λ (n : ℕ). pointer (struct words) (length adopted) n) is;
    }

-- a list of pointers
pub pointers_children : (body words block : List ℕ) (start n w : ℕ) → start ≡ 1 + length body → length words ≡ n → start + n < 2 ^ 29 → words_of block ≡ links words start
    → w ≡ list_pointer start 6 n → HoldsPointers body words (body ++ words_of block) w
pointers_children body words block start n w is long room block_is word_is =
    let own_is : w ≡ pointer pointers (length words) start = word_is ∙ ap (λ (k : ℕ). list_pointer start 6 k) (sym long) in
    record {
      tree_is = λ children are.
          subst (λ (x : ℕ). IsOrphan (body ++ words_of block) x pointers children) (sym own_is)
          (subst (λ (l : List ℕ). IsOrphan (body ++ l) (pointer pointers (length words) start) pointers children) (sym block_is)
          (pointers_are_orphan body words children start is (omega (arith, long, room)) are));
      words_are = ap (λ (l : List ℕ). body ++ l) block_is ∙ ap (λ (n : ℕ). body ++ links words n) is;
      word_is = own_is ∙ ap (λ (n : ℕ). list_pointer n 6 (length words)) is;
    }

-- a list of structs
pub structs_children : {T : Type 0} {D P : ℕ} (body block : List ℕ) (xs : List (StructDraft T D P)) (start w : ℕ) → start ≡ 1 + length body → D < 2 ^ 16 → P < 2 ^ 16 → length xs < 2 ^ 29
    → start + 1 + length xs * (D + P) < 2 ^ 29 → AreSized xs → words_of block ≡ struct_pointer (length xs) D P ∷ element_words xs (start + 1) → w ≡ list_pointer start 7 (length xs * (D + P))
    → HoldsStructs body xs (body ++ words_of block) w
structs_children {T} {D} {P} body block xs start w is few_words few_pointers many room sized block_is word_is = record {
  tree_is = λ children are.
      subst (λ (x : ℕ). IsOrphan (body ++ words_of block) x (structs D P (words_of_each xs)) children) (sym word_is)
      (subst (λ (l : List ℕ). IsOrphan (body ++ l) (list_pointer start 7 (length xs * (D + P))) (structs D P (words_of_each xs)) children) (sym block_is)
      (structs_are_orphan body xs children start is few_words few_pointers many room sized are));
  words_are = ap (λ (l : List ℕ). body ++ l) block_is ∙ ap (λ (n : ℕ). body ++ (struct_pointer (length xs) D P ∷ element_words xs n)) (omega (arith, is));
  word_is = word_is ∙ ap (λ (n : ℕ). list_pointer n 7 (length xs * (D + P))) is;
}
