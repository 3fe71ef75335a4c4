-- What the unpacked table tells is what is told of the message.
use Rattle.std.proofs.Common.{◌≡◌, ◌∙◌, [], None, length, refl, ap, arith, rules}
use Rattle.std.proofs.lemmas.List.{nil_from_length}
use Rattle.capnp_frame.specs.declared.serialize.segment_table.Padding.TheVariants.{Zero}
use Rattle.capnp_frame.specs.Prelude.{by_fields, kind_number}
use Rattle.capnp_frame.proofs.slices.FlatErrorLemmas.{FlatError-once}
use Rattle.capnp_frame.proofs.errors.UniqueErrorLineLemmas.{StartError-after, StartError-once}
use Rattle.capnp_pack.specs.Prelude.{unpacking}
use Rattle.capnp_c.proofs.MessageSizeFromTableLemmas.{not_both}
use Rattle.capnp_c.proofs.PackedTableSizeLemmas.{found_accepted, met_rejected, nothing_found, nothing_met, nothing_unpacked}
use Rattle.capnp_c.proofs.sizes.tell_unpacked_size.Goals as goal

pub returns-then-is_empty : goal.returns-then-is_empty
returns-then-is_empty c =
    let packed = c.args.packed.now in
    let len : length packed ≡ 0 = search rules in
    let none : packed ≡ [] = nil_from_length packed len in
    record {
      found = λ ns rest there within. absurd (nothing_found packed ns rest none there);
      none = λ empty. c.number.ensures;
      errors = λ kind left met. absurd (nothing_met _ packed left kind none met);
      stays = λ more. refl;
    }

pub returns-in-Err : goal.returns-in-Err
returns-in-Err c =
    let packed = c.args.packed.now in
    let limit = c.args.options.traversal_limit_in_words in
    let own = c.in-Err.error.kind in
    let failed = c.in-Err.ensures in
    record {
      found = λ ns rest there within. absurd (StartError-after Zero unpacking ⊥ limit None own (λ ns following. ⊥) packed failed.0 ns rest there within (λ short. short) (λ never. never) (failed.1 limit));
      none = λ empty. absurd (nothing_met limit packed failed.0 own empty (failed.1 limit));
      errors = λ kind left met. c.number-in-Err.ensures
          ∙ ap kind_number (StartError-once Zero unpacking limit None own kind (λ ns following. ⊥) (λ ns following. ⊥) packed failed.0 left (λ ns following never also. absurd never) (failed.1 limit) met);
      stays = λ more. refl;
    }

pub returns-in-Ok-sizes_of : goal.returns-in-Ok-sizes_of
returns-in-Ok-sizes_of c =
    let packed = c.args.packed.now in
    let options = c.args.options in
    let table = c.in-Ok.table in
    let unpacked = c.in-Ok.ensures in
    let told = c.in-Ok-sizes_of.ensures in
    record {
      found = λ ns rest there within. (refl, told.2 ∙ (found_accepted options packed table ns rest unpacked there within).1);
      none = λ empty. absurd (nothing_unpacked packed table empty unpacked);
      errors = λ kind left met. absurd (not_both options table kind unpacked.long told.0 (met_rejected options packed table left kind unpacked met));
      stays = λ more. absurd (omega (arith, more));
    }

pub returns-in-Err-sizes_of : goal.returns-in-Err-sizes_of
returns-in-Err-sizes_of c =
    let packed = c.args.packed.now in
    let options = c.args.options in
    let table = c.in-Ok.table in
    let unpacked = c.in-Ok.ensures in
    let told = c.in-Err-sizes_of.ensures in
    record {
      found = λ ns rest there within. absurd (not_both options table _ unpacked.long (found_accepted options packed table ns rest unpacked there within).0 told);
      none = λ empty. absurd (nothing_unpacked packed table empty unpacked);
      errors = λ kind left met. c.number-in-Err-sizes_of.ensures
          ∙ ap kind_number (FlatError-once by_fields Zero options.traversal_limit_in_words _ _ _ told.0 (met_rejected options packed table left kind unpacked met).0);
      stays = λ more. refl;
    }
