-- Where the words after the first are no options, the words stand for no command.
use Rattle.std.proofs.Common.{string_bytes}
use Rattle.capnp_ls.proofs.WordsAreOfOneCommandLemmas.{no_command}
use Rattle.capnp_ls.proofs.command.Command.from_words.Goals as goal

pub returns-in_err-format-clause-none : goal.returns-in_err-format-clause-none
returns-in_err-format-clause-none c =
    no_command string_bytes c.args.words.now _ _ c.from_residual-in_err-format.result c.in_ok-name.ensures.cases.0 c.in_err-format.ensures.none
