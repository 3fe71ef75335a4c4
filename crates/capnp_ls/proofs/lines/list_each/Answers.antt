-- Each turn prints one more line, or ends the run.
use Rattle.std.proofs.Common.{rules, refl, inl, inr, length}
use Rattle.capnp.specs.Prelude.{default_limit}
use Rattle.capnp.proofs.PassedOn.{IfKnown-join, Advances-join, Fails-join, Grows-join}
use Rattle.capnp.proofs.StreamEndByRunResultLemmas.{writes_each}
use Rattle.capnp.proofs.ReaderOutcomeByFormatRulesLemmas.{skipping_error}
use Rattle.capnp.proofs.RunOutputMessageByMessageLemmas.{HasWritten-next, written_next, all_written, most_written, failed_reading, failed_at_message, left_as_written, message_run_error}
use Rattle.capnp_ls.specs.declared.command.Command.TheVariants.{Listing}
use Rattle.capnp_ls.specs.Output.{Prints, PrintedErrors}
use Rattle.capnp_ls.proofs.MessageLineWrittenOrErrorLemmas.{few_lengths, line_written, message_line_left, line_error, line_untouched}
use Rattle.capnp_ls.proofs.lines.list_each.Goals as goal

pub print_line-requires : goal.print_line-requires
print_line-requires g c =
    let reported = rw c.in-Ok-Some.field-0-is at c.in-Ok-Some.ensures in
    few_lengths reported.0 c.in-Ok-Some.lengths default_limit reported.1 reported.2.within

pub returns-in-Ok-None : goal.returns-in-Ok-None
returns-in-Ok-None g c =
    let reads = rw c.in-Ok-None.field-0-is at c.in-Ok-None.ensures in
    let command = Listing c.args.format c.args.padding in
    writes_each
    (all_written c.args.padding c.args.format default_limit (Prints command g.W.Write.appends) (PrintedErrors command g.W.Write.appends g.W.Write.leaves g.W.Write.refuses)
    c.loop-message.message _ _ _ _ _ _ c.loop-message.invariant.written reads.none reads.advances.tail refl)
    tt tt (Advances-join _ _ _ (g.met.R.Read.keeps.transitive _ _ _) c.loop-message.invariant.advances reads.advances) c.loop-message.invariant.grows

pub returns-in-Err : goal.returns-in-Err
returns-in-Err g c =
    let reads = c.in-Err.ensures in
    let command = Listing c.args.format c.args.padding in
    writes_each
    (failed_reading c.args.padding c.args.format default_limit (Prints command g.W.Write.appends) (PrintedErrors command g.W.Write.appends g.W.Write.leaves g.W.Write.refuses)
    (record { message = c.loop-message.message; error = c.in-Err.error }) _ _ _ _ _ _ c.loop-message.invariant.written
    (skipping_error c.args.padding c.args.format (length c.loop-message.spare) default_limit c.in-Err.error.kind _ _ reads.errors) refl)
    (inl reads.kinds)
    (λ device. inl (Fails-join _ _ _ c.loop-message.invariant.advances.counted (reads.failed device)))
    (Advances-join _ _ _ (g.met.R.Read.keeps.transitive _ _ _) c.loop-message.invariant.advances reads.advances) c.loop-message.invariant.grows

pub returns-in-Err-print_line : goal.returns-in-Err-print_line
returns-in-Err-print_line g c =
    let (m, same, reads) = rw c.in-Ok-Some.field-0-is at c.in-Ok-Some.ensures in
    let command = Listing c.args.format c.args.padding in
    let writing_errors = PrintedErrors command g.W.Write.appends g.W.Write.leaves g.W.Write.refuses in
    let printed = c.in-Err-print_line.ensures in
    let kind = c.in-Err-print_line.error.kind in
    let errors = line_error g.W.Write.appends g.W.Write.leaves g.W.Write.refuses c.args.format c.args.padding c.loop-message.message m c.in-Ok-Some.lengths kind same printed.errors in
    writes_each
    (failed_at_message c.args.padding c.args.format default_limit (Prints command g.W.Write.appends) writing_errors
    (record { message = c.loop-message.message; error = c.in-Err-print_line.error }) m _ _ _ _ _ _
    reads.within reads.whole c.loop-message.invariant.written reads.found errors
    (message_line_left g.W.Write.leaves c.loop-message.message m c.in-Ok-Some.lengths _ _ same printed.left)
    (left_as_written g.W.Write.written writing_errors c.loop-message.message m kind _ _
    (line_untouched g.W.Write.appends g.W.Write.leaves g.W.Write.refuses c.args.format c.args.padding c.loop-message.message m c.in-Ok-Some.lengths kind _ same printed.untouched)))
    (inr (message_run_error default_limit writing_errors c.loop-message.message m kind reads.within reads.whole errors))
    (λ device. inr (Fails-join _ _ _ c.loop-message.invariant.grows.counted (printed.failed device)))
    (Advances-join _ _ _ (g.met.R.Read.keeps.transitive _ _ _) c.loop-message.invariant.advances reads.advances)
    (Grows-join _ _ _ (g.met.W.Write.keeps.transitive _ _ _) c.loop-message.invariant.grows printed.grows)

pub loop-message-preserved : goal.loop-message-preserved
loop-message-preserved g c =
    let (m, same, reads) = rw c.in-Ok-Some.field-0-is at c.in-Ok-Some.ensures in
    let writes = Prints (Listing c.args.format c.args.padding) g.W.Write.appends in
    record {
      written = IfKnown-join _ _ _ (HasWritten-next c.args.padding c.args.format default_limit writes c.loop-message.message _ _ _) c.loop-message.invariant.written
          (written_next c.args.padding c.args.format default_limit writes c.loop-message.message m _ _ _ _ reads.within reads.found
          (line_written g.W.Write.appends c.loop-message.message m c.in-Ok-Some.lengths _ _ same c.in-Ok.ensures.written));
      advances = Advances-join _ _ _ (g.met.R.Read.keeps.transitive _ _ _) c.loop-message.invariant.advances reads.advances;
      grows = Grows-join _ _ _ (g.met.W.Write.keeps.transitive _ _ _) c.loop-message.invariant.grows c.print_line.ensures.grows;
    }

pub returns : goal.returns
returns g c =
    let command = Listing c.args.format c.args.padding in
    writes_each
    (most_written c.args.padding c.args.format default_limit (Prints command g.W.Write.appends) (PrintedErrors command g.W.Write.appends g.W.Write.leaves g.W.Write.refuses)
    _ _ _ _ _ c.loop-message.invariant.written (search rules))
    tt tt c.loop-message.invariant.advances c.loop-message.invariant.grows
