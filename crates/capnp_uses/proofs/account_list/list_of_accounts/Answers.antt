-- One account more, and then the list of all.
use Rattle.capnp_frame.proofs.sources.JoinedCallsAdvanceSourceLemmas.{passed_on}
use Rattle.capnp_orphans.specs.Holds.{word_of}
use Rattle.capnp_uses.proofs.AccountsWrittenUntilErrorLemmas.{drafted_next, list_drafted, list_len, name_error, all_drafted, list_kind}
use Rattle.capnp_uses.proofs.account_list.list_of_accounts.Goals as goal

pub returns-in_err-name-clause-errors : goal.returns-in_err-name-clause-errors
returns-in_err-name-clause-errors g c = passed_on _ _ c.from_residual.ensures.1 (name_error c.args.accounts.now c.loop-account.account-index _ c.args.objects.now c.loop-account.objects c.loop-account.drafts.items
    c.in_err-name.field-0.0.kind c.loop-account-test.true c.loop-account.invariant c.in_err-name.ensures.writes.failing.kind)

pub loop-account-preserved : goal.loop-account-preserved
loop-account-preserved g c =
    let adds = c.in_ok-name.ensures.adds in
    let writes = c.in_ok-name.ensures.writes in
    drafted_next c.args.accounts.now c.loop-account.account-index _ c.args.objects.now c.loop-account.objects c.text.new.self c.loop-account.drafts.items c.push.new.self.items c.named_account.result
    c.in_ok-name.name.word writes.appended.0 c.loop-account-test.true c.loop-account.invariant adds.keeps adds.orphan writes.appended.1 writes.appended.2 writes.most c.in_ok-push.ensures.items
    c.named_account.ensures.words c.named_account.ensures.pointers

pub returns-clause-adds : goal.returns-clause-adds
returns-clause-adds g c =
    let are = all_drafted c.args.accounts.now c.loop-account.account-index c.args.objects.now c.loop-account.objects c.loop-account.drafts.items c.deref.result.now c.loop-account-test.false c.deref.ensures.value c.loop-account.invariant in
    list_drafted c.args.accounts.now c.args.objects.now c.loop-account.objects c.struct_list.new.self c.deref.result.now word_of c.struct_list.result are c.struct_list.ensures.adds

pub returns-clause-words : goal.returns-clause-words
returns-clause-words g c =
    let are = all_drafted c.args.accounts.now c.loop-account.account-index c.args.objects.now c.loop-account.objects c.loop-account.drafts.items c.deref.result.now c.loop-account-test.false c.deref.ensures.value c.loop-account.invariant in
    list_len c.args.accounts.now c.args.objects.now c.loop-account.objects c.struct_list.new.self c.deref.result.now c.struct_list.result are c.struct_list.ensures.writes.appended

pub returns-clause-errors : goal.returns-clause-errors
returns-clause-errors g c =
    let are = all_drafted c.args.accounts.now c.loop-account.account-index c.args.objects.now c.loop-account.objects c.loop-account.drafts.items c.deref.result.now c.loop-account-test.false c.deref.ensures.value c.loop-account.invariant in
    list_kind c.args.accounts.now c.args.objects.now c.loop-account.objects c.deref.result.now c.struct_list.result are c.struct_list.ensures.writes.failing.kind
