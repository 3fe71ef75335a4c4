-- A walk over a run of null pointers meets nothing, and a struct whose pointers are all null is copied by its own
-- words alone.
use Rattle.std.proofs.Common.{◌≡◌, ℕ, ◌+◌, ◌≤◌, Bool, List, [], ◌∷◌, ◌++◌, Option, Some, slice_get, length, drop, refl, sym, ◌∙◌, ap, subst, arith}
use Rattle.std.proofs.Common.{length-take, length-drop}
use Rattle.std.proofs.lemmas.List.{append-nil}
use Rattle.capnp_layout.specs.Prelude.{words_of, words_from, Trees, total_words, places, IsObject, At, output, run, put, fill, AreNull, local_struct_of, output_body_of, pointer_of_body}
use Rattle.capnp_wire.specs.Prelude.{WalkedAll, CanCopy, Copies}
use Rattle.capnp_layout.specs.declared.place.Place.{Place}
use Rattle.capnp_layout.specs.declared.fast_path.LocalStruct.{LocalStruct}
use Rattle.capnp_layout.specs.declared.pointer.StructSize.{StructSize}
use Rattle.capnp_layout.specs.declared.object.Body.TheVariants.{Struct}
use Rattle.capnp_layout.proofs.words.WordsOfBytesLemmas.{length-words_of}
use Rattle.capnp_layout.proofs.layouts.PutWordsCombinedLemmas.{put_both, length-put}
use Rattle.capnp_layout.proofs.objects.UniqueObjectLemmas.{one_tree}
use Rattle.capnp_wire.proofs.layouts.CopyBeginsWithOwnWordsLemmas.{opened_here, object_begins}
use Rattle.capnp_layout.proofs.trees.TraversalLimitCountLemmas.{within_none, less_none}
use Rattle.capnp_wire.proofs.words.WordCountAdditionWithOverflowLemmas.{counts_none}
use Rattle.capnp_layout.proofs.pointers.NullRunReadAndCopiedLemmas.{nulls_have_no_words, none_or_whole, nulls, nulls_filled, nulls_output, nulls_are_at, roomy_nulls, seam, shallow_nulls}

-- a walk over them meets nothing
pub nulls_walked : {m : List (List ℕ)} {c : Bool} {nesting : ℕ} {left counted_now : Option ℕ} (segment : ℕ) (words : List ℕ) (start n : ℕ)
    → slice_get m segment ≡ Some words → start + n ≤ length words → AreNull words start n → WalkedAll m c (places segment start n) nesting left left counted_now counted_now
nulls_walked {m} {c} {nesting} {left} {counted_now = b} segment words start n there room are = record {
  traversed = 0;
  words = 0;
  are_at = record {
    trees = nulls n;
    are_at = nulls_are_at m segment words start n there room are;
    shallow = shallow_nulls nesting n;
    rooms = roomy_nulls n;
    words_are = ap total_words (nulls_output c n) ∙ nulls_have_no_words n;
  };
  within = within_none left;
  left_is = sym (less_none left);
  counted = counts_none b;
}

-- Its own words are then its copy.
pub struct_of_nulls : {m : List (List ℕ)} {place : Place} {found : LocalStruct} {size : StructSize} {nesting : ℕ} {c : Bool} {gap next free pointer : ℕ} {old new : List ℕ}
    (can : CanCopy m (place ∷ []) nesting c next (length old)) → IsObject m place (local_struct_of found)
    → Struct size ≡ output_body_of c (words_of found.segment.now) found.start.word (Struct found.size) → size.data_words ≤ found.size.data_words → size.pointers ≤ found.size.pointers
    → AreNull (words_of found.segment.now) (found.start.word + found.size.data_words) size.pointers
    → new ≡ put next (words_from (words_of found.segment.now) found.start.word (size.data_words + size.pointers)) old
    → pointer ≡ pointer_of_body (Struct size) gap → free ≡ next + (size.data_words + size.pointers)
    → Copies m place c gap next old new (record { pointer = pointer; next = free })
struct_of_nulls {m} {place} {found} {size} {nesting} {c} {gap} {next} {free} {pointer} {old} {new} can is size_is less fewer are new_is pointer_is free_is =
    let words : List ℕ = words_of found.segment.now in
    let start : ℕ = found.start.word in
    let d : ℕ = found.size.data_words in
    let e : ℕ = size.data_words in
    let q : ℕ = size.pointers in
    let size_there = length-words_of found.segment.now in
    let o = opened_here can is size_is in
    let own : List ℕ = words_from (words_of found.segment.now) found.start.word size.data_words in
    let long_data : length (words_from (words_of found.segment.now) found.start.word size.data_words) ≡ size.data_words = omega (
      arith,
      is.room,
      size_there,
      less,
      length-take size.data_words (drop found.start.word (words_of found.segment.now)),
      length-drop found.start.word (words_of found.segment.now),
    ) in
    let room_there : found.start.word + found.size.data_words + size.pointers ≤ length (words_of found.segment.now) = omega (arith, is.room, size_there, fewer) in
    let children_is : (trees : Trees) (traversed : ℕ) → At m (places found.start.segment (found.start.word + found.size.data_words) size.pointers ++ []) trees traversed → output c trees ≡ nulls size.pointers =
    λ trees traversed are_at.
    let there = nulls_are_at m found.start.segment (words_of found.segment.now) (found.start.word + found.size.data_words) size.pointers is.content room_there are in
    let plain : At m (places found.start.segment (found.start.word + found.size.data_words) size.pointers) trees traversed =
    subst (λ (l : List Place). At m l trees traversed) (append-nil (places found.start.segment (found.start.word + found.size.data_words) size.pointers)) are_at in
    ap (output c) (one_tree m (places found.start.segment (found.start.word + found.size.data_words) size.pointers) trees (nulls size.pointers) traversed 0 plain there).0 ∙ nulls_output c size.pointers in
    let put_data : length (put next (words_from (words_of found.segment.now) found.start.word size.data_words) old) ≡ length old =
    length-put next (words_from (words_of found.segment.now) found.start.word size.data_words) old (omega (arith, o.kept.fits, long_data)) in
    let filled : new ≡ fill (run (next + size.data_words) size.pointers) (next + (size.data_words + size.pointers)) (nulls size.pointers)
    (put next (words_from (words_of found.segment.now) found.start.word size.data_words) old) =
    new_is
    ∙ ap (λ (l : List ℕ). put next l old) (seam words start d e q (none_or_whole c words start found.size size size_is are))
    ∙ sym (put_both next own (words_from words (start + d) q) old (omega (arith, o.kept.fits, long_data, length-take size.pointers (drop (found.start.word + found.size.data_words) (words_of found.segment.now)))))
    ∙ ap (λ (k : ℕ). put (next + k) (words_from words (start + d) q) (put next own old)) long_data
    ∙ sym (nulls_filled words (start + d) q (next + e) (next + (e + q)) (put next own old) room_there are (omega (arith, put_data, o.kept.fits))) in
    (object_begins can o refl put_data pointer_is).ends new free (record {
      words_are = λ trees traversed are_at.
          filled ∙ ap (λ (l : List ℕ). fill l (next + (e + q)) (nulls q) (put next own old)) (sym (append-nil (run (next + e) q)))
          ∙ ap (λ (t : Trees). fill (run (next + e) q ++ []) (next + (e + q)) t (put next own old)) (sym (children_is trees traversed are_at));
      next_is = λ trees traversed are_at. omega (arith, free_is, ap total_words (children_is trees traversed are_at), nulls_have_no_words size.pointers);
    })
