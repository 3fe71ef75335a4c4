-- The words are the words of one command.
use Rattle.std.proofs.Common.{rules, ◌≡◌, Ok, Err, map, string_bytes, subst}
use Rattle.capnp.specs.Prelude.{WritesEach, default_limit}
use Rattle.capnp_ls.specs.declared.command.Command.{Command}
use Rattle.capnp_ls.specs.Commands.{command_input, padding_of}
use Rattle.capnp_ls.specs.Output.{Prints, PrintedErrors}
use Rattle.capnp_ls.proofs.WordsAreOfOneCommandLemmas.{one_command}
use Rattle.capnp_ls.proofs.program.run.Goals as goal

pub returns-in-Ok-clause-usage : goal.returns-in-Ok-clause-usage
returns-in-Ok-clause-usage g c = (search rules, λ none. absurd (none c.in-Some.command c.in-Some.ensures.some))

pub returns-in-Err-clause-usage : goal.returns-in-Err-clause-usage
returns-in-Err-clause-usage g c = (search rules, λ none. absurd (none c.in-Some.command c.in-Some.ensures.some))

pub returns-in-Ok-clause-runs : goal.returns-in-Ok-clause-runs
returns-in-Ok-clause-runs g c = λ command is.
    let same : c.in-Some.command ≡ command = one_command c.in-Some.command command (map string_bytes c.args.words.now) c.in-Some.ensures.some is in
    subst (λ (x : Command). WritesEach g.R.Read c.args.source.now c.print_each.new.source g.W.Write c.args.sink.now c.print_each.new.sink
    (padding_of x) (command_input x) default_limit (Prints x g.W.Write.appends) (PrintedErrors x g.W.Write.appends g.W.Write.leaves g.W.Write.refuses) (Ok c.in-Ok.field-0)) same c.in-Ok.ensures

pub returns-in-Err-clause-runs : goal.returns-in-Err-clause-runs
returns-in-Err-clause-runs g c = λ command is.
    let same : c.in-Some.command ≡ command = one_command c.in-Some.command command (map string_bytes c.args.words.now) c.in-Some.ensures.some is in
    subst (λ (x : Command). WritesEach g.R.Read c.args.source.now c.print_each.new.source g.W.Write c.args.sink.now c.print_each.new.sink
    (padding_of x) (command_input x) default_limit (Prints x g.W.Write.appends) (PrintedErrors x g.W.Write.appends g.W.Write.leaves g.W.Write.refuses) (Err c.in-Err.field-0)) same c.in-Err.ensures
