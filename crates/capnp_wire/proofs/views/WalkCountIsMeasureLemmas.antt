-- The words that a walk counts are the measure of what it walks over where they are fewer than 2 ^ 29; else the
-- measure is an error.
use Rattle.std.proofs.lemmas.List.{append-nil}
use Rattle.std.proofs.Common.{◌≡◌, ℕ, zero, suc, ◌+◌, ◌<◌, ◌≤◌, ◌^◌, Result, Ok, Err, MatchResult, Bool, List, [], ◌∷◌, ◌++◌, length, drop, Option, Some, inr, refl, ◌∙◌, ap, arith}
use Rattle.capnp_frame.specs.declared.error.ErrorKind.{ErrorKind}
use Rattle.capnp_frame.specs.declared.error.Error.{Error}
use Rattle.capnp_layout.specs.Prelude.{total_words, output, put, too_large}
use Rattle.capnp_wire.specs.Prelude.{Walked, TreeAt, Measured, TreeSizeError}
use Rattle.capnp_layout.specs.declared.place.Place.{Place}

pub drop_past : (n : ℕ) (xs : List ℕ) → length xs ≤ n → drop n xs ≡ []
drop_past zero [] le = refl
drop_past zero (x ∷ xs) le = absurd (omega arith)
drop_past (suc n) [] le = refl
drop_past (suc n) (x ∷ xs) le = drop_past n xs (omega arith)

pub put_whole : (words block : List ℕ) → length words ≡ length block → put 0 words block ≡ words
put_whole words block long =
    ap (λ (l : List ℕ). words ++ l) (drop_past (0 + length words) block (omega arith)) ∙ append-nil words

tree_at : (m : List (List ℕ)) (place : Place) (nesting : ℕ) (limit left : Option ℕ) (c : Bool) (before_it now : Option ℕ) (w : Walked m c place nesting limit left before_it now)
    → TreeAt m place nesting limit w.are_at.trees
tree_at m place nesting limit left c before_it now w = record { traversed = w.traversed; are_at = w.are_at.are_at; shallow = w.are_at.shallow; within = w.within }

-- the words that a walk counts from 0 on
pub measured : (m : List (List ℕ)) (place : Place) (nesting : ℕ) (limit left : Option ℕ) (c : Bool) (now : Option ℕ) (words : ℕ) (w : Walked m c place nesting limit left (Some 0) now)
    → words ≡ 0 + w.words → words < 2 ^ 29
    → Measured m place nesting limit c words
measured m place nesting limit left c now words w is few = record {
  trees = w.are_at.trees;
  tree_is = tree_at m place nesting limit left c (Some 0) now w;
  rooms = w.are_at.rooms;
  words_are = omega (arith, w.are_at.words_are);
  few = few;
}

pub unmeasured : (m : List (List ℕ)) (place : Place) (nesting : ℕ) (limit left : Option ℕ) (c : Bool) (now : Option ℕ) (kind : ErrorKind)
    (w : Walked m c place nesting limit left (Some 0) now) → 2 ^ 29 ≤ 0 + w.words → kind ≡ too_large c (0 + w.words)
    → TreeSizeError m place nesting limit c kind
unmeasured m place nesting limit left c now kind w many is =
    let words_are : 0 + w.words ≡ total_words (output c w.are_at.trees) = omega (arith, w.are_at.words_are) in
    inr (w.are_at.trees, tree_at m place nesting limit left c (Some 0) now w, omega (arith, words_are), is ∙ ap (too_large c) words_are)

pub result_fits : (m : List (List ℕ)) (place : Place) (nesting : ℕ) (limit left : Option ℕ) (c : Bool) (now : Option ℕ) (w : Walked m c place nesting limit left (Some 0) now) (r : Result ℕ Error)
    → MatchResult r (λ number. (number ≡ 0 + w.words) × (number < 2 ^ 29)) (λ error. (2 ^ 29 ≤ 0 + w.words) × (error.kind ≡ too_large c (0 + w.words)))
    → MatchResult r (λ words. Measured m place nesting limit c words) (λ error. TreeSizeError m place nesting limit c error.kind)
result_fits m place nesting limit left c now w (Ok number) returned = measured m place nesting limit left c now number w returned.0 returned.1
result_fits m place nesting limit left c now w (Err error) returned = unmeasured m place nesting limit left c now error.kind w returned.0 returned.1
