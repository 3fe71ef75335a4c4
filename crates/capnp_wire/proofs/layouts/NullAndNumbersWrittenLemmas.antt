-- What is written of a value into a block: nothing for null, the padded words of a list of numbers, and a value
-- that is measured fills a block of its words.
use Rattle.std.proofs.Common.{◌≡◌, ℕ, ◌+◌, ◌-◌, ◌*◌, ◌/◌, ◌<◌, ◌≤◌, ◌^◌, Bool, true, false, List, ◌∷◌, ◌++◌, length, take, drop, slice_index_or, refl, sym, ◌∙◌, ap, subst, arith, append_assoc, length-append, []}
use Rattle.std.specs.Prelude.{replicate}
use Rattle.std.proofs.lemmas.List.{append-nil, take-append-drop, drop-append-le, drop-replicate, length-replicate}
use Rattle.capnp_layout.specs.Prelude.{digits, number_of, words_of, width, words_for, null, numbers, Trees, none, tree, total_words, own, body, layout, list_pointer, pointer_to, output, AllHaveRoom, put}
use Rattle.capnp_wire.specs.Prelude.{IsCopied, HasWords, HasRoomAt, IsFreeFrom}
use Rattle.capnp_wire.specs.declared.layout.copy.Copied.{Copied}
use Rattle.capnp_layout.proofs.words.WordsOfBytesLemmas.{length-words_of}
use Rattle.capnp_layout.proofs.words.PutBytesAsWordsLemmas.{put_mid_words}
use Rattle.capnp_layout.proofs.words.WordsOfPaddedByteListLemmas.{words_of_padded}
use Rattle.capnp_layout.proofs.layouts.PutWordsCombinedLemmas.{put_none}
use Rattle.capnp_layout.proofs.layouts.LayoutSizeLemmas.{length-body}
use Rattle.capnp_wire.proofs.layouts.CopyPlanFillsLayoutLemmas.{room_output}
use Rattle.capnp_wire.proofs.views.WalkCountIsMeasureLemmas.{put_whole}
use Rattle.capnp_wire.proofs.layouts.ZeroFreePartLemmas.{free_bytes}

-- where a value is one tree, which has room, the tree's body has as many words as the tree
pub tree_body_long : (h : Trees → Type 0) (c : Bool) (next room : ℕ) → ((a b : Trees) → h a → h b → a ≡ b) → HasRoomAt h c next room → (trees : Trees) → h trees
    → length (body (output c trees)) ≡ total_words (output c trees)
tree_body_long h c next room one w trees is = length-body (output c trees) (room_output c trees (subst AllHaveRoom (one w.trees trees w.tree_is is) w.rooms))

-- a value that is measured, in a block of just its words
pub has_room : (h : Trees → Type 0) (c : Bool) (n room : ℕ) → HasWords h c n → n ≡ room → HasRoomAt h c 0 room
has_room h c n room w is = record { trees = w.trees; tree_is = w.tree_is; rooms = w.rooms; fits = omega (arith, w.words_are, is) }

pub whole_written : (trees : Trees) (old new : List ℕ) (copied : Copied) → length (body trees) ≡ length old → IsCopied trees (0 - 0) 0 old new copied → copied.pointer ∷ new ≡ layout trees
whole_written trees old new copied size is =
    let none : 0 - 0 ≡ 0 = omega arith in
    ap (λ (p : ℕ). p ∷ new) (is.pointer_is ∙ ap (λ (n : ℕ). pointer_to trees n) none)
    ∙ ap (λ (l : List ℕ). pointer_to trees 0 ∷ l) (is.words_are ∙ put_whole (body trees) old size)

-- null that is put there
null_output : (c : Bool) → output c (tree null none none) ≡ tree null none none
null_output true = refl
null_output false = refl

pub null_copied : (c : Bool) (trees : Trees) (gap next : ℕ) (block : List ℕ) → trees ≡ tree null none none → IsCopied (output c trees) gap next block block (record { pointer = 0; next = next })
null_copied c trees gap next block is =
    subst (λ (t : Trees). IsCopied t gap next block block (record { pointer = 0; next = next })) (sym (ap (output c) is ∙ null_output c))
    (record { words_are = sym (put_none next block); pointer_is = refl; next_is = omega arith })

-- bytes that are put there, with zeros after them
pub padded_put : (next words : ℕ) (bytes block : List ℕ) → ((j : ℕ) → slice_index_or bytes j 0 < 256) → IsFreeFrom next block → length bytes ≤ 8 * words → next + words ≤ length (words_of block)
    → words_of (take (8 * next) block ++ (bytes ++ drop (length bytes) (drop (8 * next) block))) ≡ put next (digits (2 ^ 64) words (number_of 256 bytes)) (words_of block)
padded_put next words bytes block fits f within room =
    let k : ℕ = 8 * words - length bytes in
    let rest : List ℕ = drop (8 * next) block in
    let over : List ℕ = drop (8 * words) (drop (8 * next) block) in
    let filled : List ℕ = bytes ++ replicate (8 * words - length bytes) 0 in
    let long : length (bytes ++ replicate (8 * words - length bytes) 0) ≡ 8 * words =
    omega (arith, length-append bytes (replicate (8 * words - length bytes) 0), length-replicate {A = ℕ} (8 * words - length bytes) 0, within) in
    let zeros_long : length {A = ℕ} (replicate (8 * words) 0) ≡ 8 * words = length-replicate {A = ℕ} (8 * words) 0 in
    let zeros : rest ≡ replicate (8 * words) 0 ++ over =
    sym (take-append-drop (8 * words) rest) ∙ ap (λ (l : List ℕ). l ++ over) (free_bytes next words block f room) in
    let after : drop (length bytes) rest ≡ replicate k 0 ++ over =
    ap (λ (l : List ℕ). drop (length bytes) l) zeros ∙ drop-append-le (length bytes) (replicate (8 * words) 0) over (omega (arith, within, zeros_long))
    ∙ ap (λ (l : List ℕ). l ++ over) (drop-replicate (length bytes) (8 * words) 0) in
    let whole : bytes ++ drop (length bytes) rest ≡ filled ++ over = ap (λ (l : List ℕ). bytes ++ l) after ∙ sym (append_assoc bytes (replicate k 0) over) in
    let inside : next + words ≤ length block / 8 = omega (arith, room, length-words_of block) in
    ap (λ (l : List ℕ). words_of (take (8 * next) block ++ l)) (whole ∙ ap (λ (j : ℕ). filled ++ drop j rest) (sym long))
    ∙ put_mid_words next block filled (omega (arith, long)) (omega (arith, long, inside))
    ∙ ap (λ (l : List ℕ). put next l (words_of block)) (words_of_padded bytes k words fits (omega (arith, within)))

-- a list of numbers that is put there
pub numbers_copied : (code : ℕ) (values : List ℕ) (gap next : ℕ) (old new : List ℕ) (copied : Copied) → new ≡ put next (own (numbers code values) []) old
    → copied.pointer ≡ list_pointer gap code (length values) → copied.next ≡ next + words_for (length values) (width code) → IsCopied (tree (numbers code values) none none) gap next old new copied
numbers_copied code values gap next old new copied is pointer_is next_is = record {
  words_are = is ∙ ap (λ (l : List ℕ). put next l old) (sym (append-nil (own (numbers code values) [] ++ []) ∙ append-nil (own (numbers code values) [])));
  pointer_is = pointer_is;
  next_is = omega (arith, next_is);
}

pub numbers_output : (c : Bool) (code : ℕ) (values : List ℕ) → output c (tree (numbers code values) none none) ≡ tree (numbers code values) none none
numbers_output true code values = refl
numbers_output false code values = refl

-- whatever the form, a list of numbers is copied unchanged
pub as_output : (c : Bool) (code : ℕ) (values : List ℕ) (trees : Trees) (gap next : ℕ) (old new : List ℕ) (copied : Copied) → trees ≡ tree (numbers code values) none none
    → IsCopied (tree (numbers code values) none none) gap next old new copied → IsCopied (output c trees) gap next old new copied
as_output c code values trees gap next old new copied is done =
    subst (λ (t : Trees). IsCopied t gap next old new copied) (sym (ap (output c) is ∙ numbers_output c code values)) done

pub numbers_total : (c : Bool) (code : ℕ) (values : List ℕ) (trees : Trees) → trees ≡ tree (numbers code values) none none → total_words (output c trees) ≡ words_for (length values) (width code)
numbers_total c code values trees is =
    let whole : total_words (output c trees) ≡ total_words (tree (numbers code values) none none) = ap total_words (ap (output c) is ∙ numbers_output c code values) in
    omega (arith, whole)
