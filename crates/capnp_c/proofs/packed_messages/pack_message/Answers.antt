-- What the chunks are packed to is the message's encoding, where that has room.
use Rattle.std.proofs.Common.{◌≡◌, ◌+◌, ◌≤◌, [], length, rules, arith, sym, ap, ◌∙◌, subst}
use Rattle.std.proofs.lemmas.Bool.{false≢true}
use Rattle.capnp_frame.specs.Prelude.{kind_number}
use Rattle.capnp_pack.specs.Prelude.{IsPackedEncoding}
use Rattle.capnp_c.proofs.UniqueFrontMessageLemmas.{one_front}
use Rattle.capnp_c.proofs.PackMessageIntoBufferLemmas.{one_rest, message_alone, message_fits, message_error, encoding_of_parts}
use Rattle.capnp_c.proofs.packed_messages.pack_message.Goals as goal

pub returns-in-Err : goal.returns-in-Err
returns-in-Err c = record {
  packed_is = search rules;
  within = search rules;
  accepted = λ segments encoding message packed fits. let never = c.in-Err.ensures.accepted segments message in absurd (cc);
  short = λ segments encoding message packed short. let never = c.in-Err.ensures.accepted segments message in absurd (cc);
  trailing = λ segments rest front some. c.number.ensures ∙ c.in-Err.ensures.trailing segments rest front some;
  errors = λ kind errors. c.number.ensures ∙ ap kind_number (c.in-Err.ensures.exact kind errors);
  stays = search rules;
}

pub returns-in-Ok-pack_chunks : goal.returns-in-Ok-pack_chunks
returns-in-Ok-pack_chunks c =
    let own = c.in-Ok.segments.segments in
    let written = message_alone own c.table_of-table.result.now _ _ _ _ c.table_of-table.ensures.table c.new-encoding.ensures.used c.in-Ok-pack_chunks.ensures.packed in
    record {
      packed_is = λ zero. (own, c.in-Ok.ensures.whole, search (rules, written));
      within = search rules;
      accepted = search rules;
      short = λ segments encoding message packed short.
          let same : own ≡ segments = one_front c.args.options c.args.framed.now [] [] own segments c.in-Ok.ensures.whole message in
          absurd (message_fits own encoding _ c.len.result (subst (λ s. IsPackedEncoding encoding s) (sym same) packed) short (search (rules, written)));
      trailing = λ segments rest front some.
          absurd (omega (arith, some, ap length (one_rest c.args.options c.args.framed.now [] rest own segments c.in-Ok.ensures.whole front)));
      errors = λ kind errors. absurd (c.in-Ok.ensures.exact kind errors);
      stays = search rules;
    }

pub returns-in-Err-pack_chunks : goal.returns-in-Err-pack_chunks
returns-in-Err-pack_chunks c =
    let own = c.in-Ok.segments.segments in
    let reported = c.in-Err-pack_chunks.ensures in
    record {
      packed_is = search rules;
      within = search rules;
      accepted = λ segments encoding message packed fits.
          let same : own ≡ segments = one_front c.args.options c.args.framed.now [] [] own segments c.in-Ok.ensures.whole message in
          let parts = encoding_of_parts own c.table_of-table.result.now encoding c.table_of-table.ensures.table (subst (λ s. IsPackedEncoding encoding s) (sym same) packed) in
          let block : length encoding ≤ length c.pack_chunks.new.sink.block.now = search (rules, fits) in
          let room : c.new-encoding.result.used + (length encoding + 0) ≤ length c.new-encoding.result.block.now = omega (arith, block, reported.grows.same_sink.1, c.new-encoding.ensures.used) in
          absurd (false≢true (reported.granted encoding 0 parts room).0);
      short = λ segments encoding message packed short.
          let same : own ≡ segments = one_front c.args.options c.args.framed.now [] [] own segments c.in-Ok.ensures.whole message in
          c.number-in-Err-pack_chunks.ensures ∙ ap kind_number (message_error own c.table_of-table.result.now encoding _ c.table_of-table.ensures.table
          (subst (λ s. IsPackedEncoding encoding s) (sym same) packed) reported.errors reported.failed);
      trailing = λ segments rest front some.
          absurd (omega (arith, some, ap length (one_rest c.args.options c.args.framed.now [] rest own segments c.in-Ok.ensures.whole front)));
      errors = λ kind errors. absurd (c.in-Ok.ensures.exact kind errors);
      stays = search rules;
    }
