-- The number fills the data word.
use Rattle.std.proofs.Common.{◌∙◌}
use Rattle.capnp_uses.proofs.AccountsWrittenUntilErrorLemmas.{whole_word}
use Rattle.capnp_uses.proofs.account_list.named_account.Goals as goal

pub returns-clause-words : goal.returns-clause-words
returns-clause-words c = c.adopt.ensures.words ∙ c.set_data_field.ensures.words ∙ whole_word c.new-draft.result.words c.args.id c.new-draft.ensures.words c.ranges.id.fits
