-- The accounts so far are drafts, whose names are written.
use Rattle.std.proofs.Common.{take}
use Rattle.capnp_uses.proofs.AccountsWrittenUntilErrorLemmas.{AreDrafted}
use Rattle.capnp_uses.proofs.account_list.list_of_accounts.Given as goal

abbrev pub invariant-loop-account : goal.invariant-loop-account
invariant-loop-account g l = AreDrafted (take l.account-index l.accounts) l.fn.objects l.objects l.drafts.items
