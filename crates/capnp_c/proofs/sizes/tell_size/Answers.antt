-- What the table tells is what is told of the message.
use Rattle.std.proofs.Common.{refl, ap, ◌∙◌, arith, rules}
use Rattle.capnp_frame.specs.declared.serialize.segment_table.Padding.TheVariants.{Zero}
use Rattle.capnp_frame.specs.Prelude.{by_fields, kind_number}
use Rattle.capnp_frame.proofs.slices.FlatErrorLemmas.{FlatError-once}
use Rattle.capnp_c.proofs.MessageSizeFromTableLemmas.{front_is, front_long, not_both}
use Rattle.capnp_c.proofs.TableCutShortLemmas.{cut_short}
use Rattle.capnp_c.proofs.sizes.tell_size.Goals as goal

pub returns-then-bytes-table_len : goal.returns-then-bytes-table_len
returns-then-bytes-table_len c =
    let bytes = c.args.bytes.now in
    let told = rw c.front_of-table.ensures at c.in-Ok.ensures in
    record {
      found = λ segments rest front. let is = front_is c.args.options bytes rest segments front in absurd (omega (arith, is.2, told.1));
      whole = λ zero there. absurd (omega (arith, told.1, there));
      cut = λ zero short. (refl, omega (arith, told.1));
      accepted = λ is. refl;
      errors = λ kind rejected. absurd (not_both c.args.options _ kind (front_long bytes) told.0 rejected);
      never = λ failed. absurd (omega (arith, failed));
      stays = λ more. absurd (omega (arith, more));
    }

pub returns-else-bytes-table_len : goal.returns-else-bytes-table_len
returns-else-bytes-table_len c =
    let bytes = c.args.bytes.now in
    let told = rw c.front_of-table.ensures at c.in-Ok.ensures in
    record {
      found = λ segments rest front. let is = front_is c.args.options bytes rest segments front in (refl, omega (arith, is.1, told.2), refl);
      whole = λ zero there. (told.2, refl);
      cut = λ zero short. absurd (omega (arith, told.1, short));
      accepted = λ is. refl;
      errors = λ kind rejected. absurd (not_both c.args.options _ kind (front_long bytes) told.0 rejected);
      never = λ failed. absurd (omega (arith, failed));
      stays = λ more. absurd (omega (arith, more));
    }

pub returns-in-Err : goal.returns-in-Err
returns-in-Err c =
    let bytes = c.args.bytes.now in
    let told = rw c.front_of-table.ensures at c.in-Err.ensures in
    record {
      found = λ segments rest front. let is = front_is c.args.options bytes rest segments front in absurd (not_both c.args.options _ _ (front_long bytes) is.0 told);
      whole = search rules;
      cut = search rules;
      accepted = λ is. absurd (not_both c.args.options _ _ (front_long bytes) is told);
      errors = λ kind rejected. c.number.ensures ∙ ap kind_number (FlatError-once by_fields Zero c.args.options.traversal_limit_in_words _ _ _ told.0 rejected.0);
      never = λ failed more segments rest front.
          not_both c.args.options _ _ (front_long bytes) (cut_short c.args.options bytes more (front_is c.args.options _ rest segments front).0) told;
      stays = search rules;
    }
