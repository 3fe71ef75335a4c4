-- Null, or a struct of no words that begins where its pointer does: a walk counts nothing there, and its copy is
-- the same pointer.
use Rattle.std.proofs.Common.{◌≡◌, ℕ, ◌<◌, ◌^◌, Bool, List, [], Option, Some, slice_get, inl, inr, sym, ◌∙◌, ap, subst, arith, lit<}
use Rattle.std.proofs.lemmas.List.Elements.{All-nil}
use Rattle.capnp_layout.specs.Prelude.{struct, Trees, none, tree, total_words, is_null as null_there, nowhere, at, body, pointer_to, output, put, empty_struct, IsNullOrEmptyStruct}
use Rattle.capnp_wire.specs.Prelude.{Walked, Copies}
use Rattle.capnp_layout.specs.declared.place.Place.{Place}
use Rattle.capnp_layout.proofs.pointers.LocalObjectIsAtLemmas.{word_there}
use Rattle.capnp_layout.proofs.trees.TraversalLimitCountLemmas.{within_none, less_none}
use Rattle.capnp_wire.proofs.words.WordCountAdditionWithOverflowLemmas.{counts_none}
use Rattle.capnp_layout.proofs.layouts.PutWordsCombinedLemmas.{put_none}
use Rattle.capnp_wire.proofs.layouts.TreeCopySequenceLemmas.{none_at}
use Rattle.capnp_wire.proofs.layouts.CopyPlanFillsLayoutLemmas.{under}
use Rattle.capnp_wire.proofs.layouts.CopyBeginsWithOwnWordsLemmas.{null_is_copied}
use Rattle.capnp_wire.proofs.walks.WalkProgressLemmas.{walked_null}
use Rattle.capnp_layout.proofs.pointers.EmptyStructAtItsPointerLemmas.{empty_output, empty_shape, empty_struct_is_at, empty_tree}

-- a walk over it counts nothing
empty_struct_walked : {m : List (List ℕ)} {place : Place} {words : List ℕ} {nesting : ℕ} {left counted_now : Option ℕ} (c : Bool) → slice_get m place.segment ≡ Some words
    → slice_get words place.word ≡ Some empty_struct → 0 < nesting → Walked m c place nesting left left counted_now counted_now
empty_struct_walked {nesting = nesting} {left = left} {counted_now = now} c there is deep = record {
  traversed = 0;
  words = 0;
  are_at = record {
    trees = empty_tree;
    are_at = at (empty_struct_is_at there is) nowhere nowhere;
    shallow = omega (arith, deep);
    rooms = ((lit< tt, lit< tt, All-nil (λ w. w < 2 ^ 64)), tt, tt);
    words_are = ap total_words (empty_output c);
  };
  within = within_none left;
  left_is = sym (less_none left);
  counted = counts_none now;
}

-- its copy is its pointer, and takes no room
empty_struct_copied : {m : List (List ℕ)} {place : Place} {words : List ℕ} {gap next : ℕ} {block : List ℕ} (c : Bool) → slice_get m place.segment ≡ Some words
    → slice_get words place.word ≡ Some empty_struct → Copies m place c gap next block block (record { pointer = empty_struct; next = next })
empty_struct_copied {m} {place} {gap = gap} {next = next} {block = block} c there is = record {
  is = λ trees traversed are_at.
      let u = under m place empty_shape trees traversed are_at (empty_struct_is_at there is) in
      let whole : output c trees ≡ empty_tree =
      ap (output c) (u.whole ∙ ap (λ (t : Trees). tree (struct []) t none) (none_at m u.children u.inside u.are_at)) ∙ empty_output c in
      record {
        words_are = sym (ap (λ (t : Trees). put next (body t) block) whole ∙ put_none next block);
        pointer_is = sym (ap (λ (t : Trees). pointer_to t gap) whole);
        next_is = omega (arith, ap total_words whole);
      };
}

-- the same holds of null
pub null_or_empty_walked : {m : List (List ℕ)} {place : Place} {words : List ℕ} {pointer nesting : ℕ} {left counted_now : Option ℕ} (c : Bool) → slice_get m place.segment ≡ Some words
    → slice_get words place.word ≡ Some pointer → IsNullOrEmptyStruct pointer nesting → Walked m c place nesting left left counted_now counted_now
null_or_empty_walked {m} {place} {words} {nesting = nesting} {left = left} {counted_now = now} c there is (inl zero_is) =
    walked_null m c place nesting left now (null_there (word_there m place words 0 there (is ∙ ap Some zero_is)))
null_or_empty_walked c there is (inr empty) = empty_struct_walked c there (is ∙ ap Some empty.0) empty.1

pub null_or_empty_copied : {m : List (List ℕ)} {place : Place} {words : List ℕ} {pointer nesting gap next : ℕ} {block : List ℕ} (c : Bool) → slice_get m place.segment ≡ Some words
    → slice_get words place.word ≡ Some pointer → IsNullOrEmptyStruct pointer nesting → Copies m place c gap next block block (record { pointer = pointer; next = next })
null_or_empty_copied {m} {place} {words} {gap = gap} {next = next} {block = block} c there is (inl zero_is) =
    subst (λ (p : ℕ). Copies m place c gap next block block (record { pointer = p; next = next })) (sym zero_is)
    (null_is_copied c (word_there m place words 0 there (is ∙ ap Some zero_is)))
null_or_empty_copied {m} {place} {gap = gap} {next = next} {block = block} c there is (inr empty) =
    subst (λ (p : ℕ). Copies m place c gap next block block (record { pointer = p; next = next })) (sym empty.0) (empty_struct_copied c there (is ∙ ap Some empty.0))
