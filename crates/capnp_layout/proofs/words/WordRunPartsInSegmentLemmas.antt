-- Where a segment has a run of words from an index on, it has the parts of the run, each from its own index on.
use Rattle.std.proofs.Math.Seq.{take-append_seam, drop-append_seam}
use Rattle.std.proofs.lemmas.List.{append-nil, take-append-drop, length-take}
use Rattle.std.proofs.Common.{◌≡◌, ℕ, ◌+◌, ◌≤◌, List, [], ◌∷◌, ◌++◌, length, take, drop, Some, slice_get, refl, sym, ◌∙◌, ap, subst, arith, append_assoc, length-append}
use Rattle.capnp_layout.specs.Prelude.{words_from}

pub record Holds (segment : List ℕ) (start : ℕ) (words : List ℕ) : Type 0 where
  pub front : List ℕ
  pub rest : List ℕ
  pub parts : segment ≡ front ++ (words ++ rest)
  pub begins : length front ≡ start

pub holds_left : (segment : List ℕ) (start : ℕ) (xs ys : List ℕ) → Holds segment start (xs ++ ys) → Holds segment start xs
holds_left segment start xs ys h = record { front = h.front; rest = ys ++ h.rest; parts = h.parts ∙ ap (λ (l : List ℕ). h.front ++ l) (append_assoc xs ys h.rest); begins = h.begins }

pub holds_right : (segment : List ℕ) (start n : ℕ) (xs ys : List ℕ) → length xs ≡ n → Holds segment start (xs ++ ys) → Holds segment (start + n) ys
holds_right segment start n xs ys long h = record {
  front = h.front ++ xs;
  rest = h.rest;
  parts = h.parts ∙ (ap (λ (l : List ℕ). h.front ++ l) (append_assoc xs ys h.rest) ∙ sym (append_assoc h.front xs (ys ++ h.rest)));
  begins = omega (arith, length-append h.front xs, h.begins);
}

pub holds_room : (segment : List ℕ) (start : ℕ) (words : List ℕ) → Holds segment start words → start + length words ≤ length segment
holds_room segment start words h =
    let whole : length segment ≡ length (h.front ++ (words ++ h.rest)) = ap length h.parts in
    omega (arith, length-append h.front (words ++ h.rest), length-append words h.rest, h.begins)

pub holds_words : (segment : List ℕ) (start n : ℕ) (words : List ℕ) → length words ≡ n → Holds segment start words → words_from segment start n ≡ words
holds_words segment start n words long h =
    let cut : drop (length h.front) (h.front ++ (words ++ h.rest)) ≡ words ++ h.rest = drop-append_seam h.front (words ++ h.rest) in
    let first : take (length words) (words ++ h.rest) ≡ words = take-append_seam words h.rest in
    rw (h.parts, ← h.begins, cut, ← long) first

get_front : (front : List ℕ) (x : ℕ) (rest : List ℕ) → slice_get (front ++ (x ∷ rest)) (length front) ≡ Some x
get_front [] x rest = refl
get_front (y ∷ front) x rest = get_front front x rest

pub holds_first : (segment : List ℕ) (start x : ℕ) (words : List ℕ) → Holds segment start (x ∷ words) → slice_get segment start ≡ Some x
holds_first segment start x words h = rw (h.parts, ← h.begins) (get_front h.front x (words ++ h.rest))

pub holds_all : (words : List ℕ) → Holds words 0 words
holds_all words = record { front = []; rest = []; parts = sym (append-nil words); begins = refl }

pub holds_same : (segment : List ℕ) (start : ℕ) (xs ys : List ℕ) → xs ≡ ys → Holds segment start xs → Holds segment start ys
holds_same segment start xs ys same h = subst (λ (l : List ℕ). Holds segment start l) same h

pub holds_none : (segment : List ℕ) (start : ℕ) → start ≤ length segment → Holds segment start []
holds_none segment start within = record { front = take start segment; rest = drop start segment; parts = sym (take-append-drop start segment); begins = omega (arith, length-take start segment) }
