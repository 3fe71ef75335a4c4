-- A struct of no words, whose offset is -1, begins where its pointer does, and is the same in canonical form.
use Rattle.std.proofs.Common.{◌≡◌, ℕ, Bool, true, false, List, [], Some, slice_get, refl, arith, lit<}
use Rattle.std.proofs.lemmas.Option.{slice_get_within}
use Rattle.capnp_layout.specs.Prelude.{struct, Trees, none, tree, Shape, PointsTo, local, a_struct, is_object, output, empty_struct}
use Rattle.capnp_layout.specs.declared.place.Place.{Place}
use Rattle.capnp_layout.proofs.pointers.LocalObjectIsAtLemmas.{word_there}

abbrev pub empty_shape : Shape
empty_shape = record { form = struct []; children = []; traversed = 0 }

abbrev pub empty_tree : Trees
empty_tree = tree (struct []) none none

pub empty_output : (c : Bool) → output c empty_tree ≡ empty_tree
empty_output true = refl
empty_output false = refl

-- such a struct is where its pointer is
pub empty_struct_is_at : {m : List (List ℕ)} {place : Place} {words : List ℕ} → slice_get m place.segment ≡ Some words → slice_get words place.word ≡ Some empty_struct
    → PointsTo m place empty_shape
empty_struct_is_at {m} {place} {words} there is =
    is_object {start = place.word} (local (word_there m place words empty_struct there is) (lit< tt) (lit< tt)) there (omega arith)
    (a_struct refl (omega (arith, slice_get_within words place.word empty_struct is)))
