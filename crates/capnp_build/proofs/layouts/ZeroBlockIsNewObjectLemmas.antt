-- The trees of new objects: their words, which are all zero, so that a block of zeros is the layout.
use Rattle.std.proofs.Common.{◌≡◌, ℕ, zero, suc, ◌+◌, ◌-◌, ◌*◌, ◌^◌, ◌<◌, ◌≤◌, ◌==◌, if◌then◌else◌, Bool, true, false, List, [], ◌∷◌, ◌++◌, length, take, drop, replicate, refl, ap, sym, subst, ◌∙◌, arith, drop-drop}
use Rattle.std.proofs.lemmas.List.{append-nil, length-replicate, drop-replicate, replicate-append-replicate, take-append-drop}
use Rattle.std.proofs.lemmas.List.Elements.{All-replicate}
use Rattle.capnp_layout.specs.Prelude.{number_of, digits, words_of, words_for, struct, Trees, none, tree, total_words, cut_zeros, keep_word, body, pointer, output, struct_pointer, minus_one, AllHaveRoom, put}
use Rattle.capnp_wire.specs.Prelude.{IsCopied, HasWords, HasRoomAt, IsFreeFrom}
use Rattle.capnp_wire.proofs.layouts.NullAndNumbersWrittenLemmas.{tree_body_long}
use Rattle.capnp_layout.proofs.layouts.LayoutReadBackLemmas.{if_positive}
use Rattle.capnp_build.specs.Prelude.{words_of_body, Fits, body_pointer_word, zero_form, output_new_object}
use Rattle.capnp_build.specs.declared.object.NewBody.{NewBody}
use Rattle.capnp_build.specs.declared.object.NewBody.TheVariants.{Bytes, Words, Struct}

abbrev pub new_tree : NewBody → Trees
new_tree b = tree (zero_form b) none none

long : (n : ℕ) → length {A = ℕ} (replicate n 0) ≡ n
long n = length-replicate {A = ℕ} n 0

cut_all : (d : ℕ) → cut_zeros (replicate d 0) ≡ []
cut_all zero = refl
cut_all (suc d) = ap (λ (l : List ℕ). keep_word l 0) (cut_all d)

pub output_new : (c : Bool) (b : NewBody) → output c (new_tree b) ≡ new_tree (output_new_object c b)
output_new true (Bytes n) = refl
output_new true (Words n) = refl
output_new true (Struct d) = ap (λ (l : List ℕ). tree (struct l) none none) (cut_all d)
output_new false (Bytes n) = refl
output_new false (Words n) = refl
output_new false (Struct d) = refl

no_number : (base n : ℕ) → number_of base (replicate n 0) ≡ 0
no_number base zero = refl
no_number base (suc n) = ap (λ (k : ℕ). 0 + base * k) (no_number base n) ∙ omega arith

no_digits : (k : ℕ) → digits (2 ^ 64) k 0 ≡ replicate k 0
no_digits zero = refl
no_digits (suc k) = ap (λ (l : List ℕ). 0 ∷ l) (no_digits k)

zero_digits : (base k m : ℕ) → number_of base (replicate m 0) ≡ 0 → digits (2 ^ 64) k (number_of base (replicate m 0)) ≡ replicate k 0
zero_digits base k m e = ap (digits (2 ^ 64) k) e ∙ no_digits k

abbrev body_of_bytes : ℕ → List ℕ
body_of_bytes n = digits (2 ^ 64) (words_for (length {A = ℕ} (replicate n 0)) 8) (number_of (2 ^ 8) (replicate n 0))

abbrev body_of_words : ℕ → List ℕ
body_of_words n = digits (2 ^ 64) (words_for (length {A = ℕ} (replicate n 0)) 64) (number_of (2 ^ 64) (replicate n 0))

zero_body : (b : NewBody) → body (new_tree b) ≡ replicate (words_of_body b) 0
zero_body (Bytes n) =
    append-nil (body_of_bytes n ++ []) ∙ append-nil (body_of_bytes n) ∙ zero_digits (2 ^ 8) (words_for (length {A = ℕ} (replicate n 0)) 8) n (no_number (2 ^ 8) n)
    ∙ ap (λ (k : ℕ). replicate (words_for k 8) 0) (long n)
zero_body (Words n) =
    append-nil (body_of_words n ++ []) ∙ append-nil (body_of_words n) ∙ zero_digits (2 ^ 64) (words_for (length {A = ℕ} (replicate n 0)) 64) n (no_number (2 ^ 64) n)
    ∙ ap (λ (k : ℕ). replicate k 0) (omega (arith, long n))
zero_body (Struct d) = append-nil ((replicate d 0 ++ []) ++ []) ∙ append-nil (replicate d 0 ++ []) ∙ append-nil (replicate d 0)

struct_tag_at : (gap d : ℕ) → struct_pointer (if d + 0 == 0 then minus_one else gap) d 0 ≡ body_pointer_word gap (Struct d)
struct_tag_at gap zero = omega arith
struct_tag_at gap (suc d) = let a = if_positive (suc d + 0) minus_one gap (omega arith) in omega (arith, a)

pub zero_total : (b : NewBody) → total_words (new_tree b) ≡ words_of_body b
zero_total (Bytes n) = omega (arith, ap (λ (k : ℕ). words_for k 8) (long n))
zero_total (Words n) = omega (arith, long n)
zero_total (Struct d) = omega (arith, long d)

zero_rooms : (b : NewBody) → Fits b → AllHaveRoom (new_tree b)
zero_rooms (Bytes n) fits = ((omega arith, omega (arith, long n, fits), refl, All-replicate (λ (v : ℕ). v < 2 ^ 8) n 0 (omega arith)), tt, tt)
zero_rooms (Words n) fits = ((omega arith, omega (arith, long n, fits), refl, All-replicate (λ (v : ℕ). v < 2 ^ 64) n 0 (omega arith)), tt, tt)
zero_rooms (Struct d) fits = ((omega (arith, long d, fits), omega arith, All-replicate (λ (v : ℕ). v < 2 ^ 64) d 0 (omega arith)), tt, tt)

pub new_object_words : (b : NewBody) (c : Bool) (n : ℕ) → Fits b → n ≡ words_of_body (output_new_object c b) → n < 2 ^ 29 → HasWords (λ trees. trees ≡ new_tree b) c n
new_object_words b c n fits is few = record {
  trees = new_tree b;
  tree_is = refl;
  rooms = zero_rooms b fits;
  words_are = is ∙ sym (zero_total (output_new_object c b)) ∙ sym (ap total_words (output_new c b));
  few = few;
}

body_pointer_word_at : (gap : ℕ) (b : NewBody) → pointer (zero_form b) 0 gap ≡ body_pointer_word gap b
body_pointer_word_at gap (Bytes n) = omega (arith, long n)
body_pointer_word_at gap (Words n) = omega (arith, long n)
body_pointer_word_at gap (Struct d) = ap (λ (k : ℕ). struct_pointer (if k + 0 == 0 then minus_one else gap) k 0) (long d) ∙ struct_tag_at gap d

-- zeros that are put among zeros
zeros_put : (n next : ℕ) (ws : List ℕ) → drop next ws ≡ replicate (length ws - next) 0 → next + n ≤ length ws → put next (replicate n 0) ws ≡ ws
zeros_put n next ws zeros room =
    let size : length {A = ℕ} (replicate n 0) ≡ n = length-replicate {A = ℕ} n 0 in
    let split : next + length {A = ℕ} (replicate n 0) ≡ next + n = omega (arith, size) in
    let left : n + (length ws - next - n) ≡ length ws - next = omega (arith, room) in
    let after : drop (next + n) ws ≡ replicate (length ws - next - n) 0 =
    sym (drop-drop n next ws) ∙ ap (λ (l : List ℕ). drop n l) zeros ∙ drop-replicate n (length ws - next) 0 in
    ap (λ (k : ℕ). take next ws ++ (replicate n 0 ++ drop k ws)) split
    ∙ ap (λ (l : List ℕ). take next ws ++ (replicate n 0 ++ l)) after
    ∙ ap (λ (l : List ℕ). take next ws ++ l) (replicate-append-replicate n (length ws - next - n) 0 ∙ ap (λ (k : ℕ). replicate k 0) left ∙ sym zeros)
    ∙ take-append-drop next ws

pub new_object_written : (b : NewBody) (c : Bool) (gap next tag end : ℕ) (block : List ℕ) → HasRoomAt (λ trees. trees ≡ new_tree b) c next (length (words_of block)) → IsFreeFrom next block
    → tag ≡ body_pointer_word gap (output_new_object c b) → end ≡ next + words_of_body (output_new_object c b) → (trees : Trees) → trees ≡ new_tree b
    → IsCopied (output c trees) gap next (words_of block) (words_of block) (record { pointer = tag; next = end })
new_object_written b c gap next tag end block w f tag_is end_is trees is =
    let made : NewBody = output_new_object c b in
    let total : total_words (output c w.trees) ≡ words_of_body (output_new_object c b) = ap (λ (t : Trees). total_words (output c t)) w.tree_is ∙ ap total_words (output_new c b) ∙ zero_total (output_new_object c b) in
    subst (λ (t : Trees). IsCopied t gap next (words_of block) (words_of block) (record { pointer = tag; next = end })) (sym (ap (output c) is ∙ output_new c b)) (record {
      words_are = sym (ap (λ (l : List ℕ). put next l (words_of block)) (zero_body made) ∙ zeros_put (words_of_body made) next (words_of block) f.zero (omega (arith, w.fits, total)));
      pointer_is = tag_is ∙ sym (body_pointer_word_at gap made);
      next_is = end_is ∙ ap (λ (n : ℕ). next + n) (sym (zero_total made));
    })

pub new_object_long : (b : NewBody) (c : Bool) (next room : ℕ) → HasRoomAt (λ trees. trees ≡ new_tree b) c next room → (trees : Trees) → trees ≡ new_tree b
    → length (body (output c trees)) ≡ total_words (output c trees)
new_object_long b c next room w = tree_body_long (λ trees. trees ≡ new_tree b) c next room (λ x y p q. p ∙ sym q) w
