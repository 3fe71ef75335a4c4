-- The null pointer as a value: it has no words and one tree, and never fails.
use Rattle.std.proofs.Common.{◌≡◌, Bool, true, false, refl, sym, ◌∙◌, arith}
use Rattle.capnp_layout.specs.Prelude.{null, Trees, none, tree, total_words, output}
use Rattle.capnp_wire.specs.Prelude.{HasWords}
use Rattle.capnp_wire.proofs.views.UniqueValueTreeAndMeasureLemmas.{IsOne}

abbrev pub IsNull : Trees → Type 0
IsNull trees = trees ≡ tree null none none

null_total : (c : Bool) → 0 ≡ total_words (output c (tree null none none))
null_total true = refl
null_total false = refl

pub null_has : (c : Bool) → HasWords IsNull c 0
null_has c = record { trees = tree null none none; tree_is = refl; rooms = (refl, tt, tt); words_are = null_total c; few = omega arith }

pub one_null : IsOne IsNull (λ kind. ⊥)
one_null = record {
  same_tree = λ a b p q. p ∙ sym q;
  same_error = λ a b x y. absurd x;
  apart = λ kind trees x y. x;
}
