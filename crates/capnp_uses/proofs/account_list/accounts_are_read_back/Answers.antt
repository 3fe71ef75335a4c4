-- The root that is read is the list. What fails is the list, in the segment of a new message.
use Rattle.std.proofs.Common.{inl}
use Rattle.std.proofs.lemmas.Result.{err_from_is_err_and}
use Rattle.capnp_orphans.specs.OrphanLaws.{root_of_value}
use Rattle.capnp_uses.specs.AccountLists.{IsAccountList}
use Rattle.capnp_uses.proofs.WriteAndReadLemmas.{tree_again}
use Rattle.capnp_uses.proofs.account_list.accounts_are_read_back.Goals as goal

pub returns-clause-back : goal.returns-clause-back
returns-clause-back c = tree_again (IsAccountList c.args.accounts.now) (λ reader. reader.segments) c.write_and_read_back.result _
    (root_of_value (IsAccountList c.args.accounts.now) c.in_ok-list.list.word c.list_of_accounts.new.objects c.set_root.new.self c.in_ok-list.ensures.adds.orphan c.set_root.ensures)
    c.write_and_read_back.ensures.back

pub returns-in_err-list-clause-errors : goal.returns-in_err-list-clause-errors
returns-in_err-list-clause-errors c =
    let p = err_from_is_err_and c.from_residual-in_err-list.result c.from_residual-in_err-list.ensures.1 in
    rw (p.1, p.2) (inl (rw (c.in_ok-objects.ensures.0, c.in_ok-objects.ensures.1) at c.in_err-list.ensures.errors))
