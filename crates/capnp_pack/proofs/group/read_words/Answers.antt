-- A marked word, and a run after it where its tag is 255.
use Rattle.std.proofs.Common.{rules, arith, length, ◌≡◌, take, drop, take_at}
use Rattle.capnp_pack.proofs.unpacking.UnpackerOutcomeFromSourceCallLemmas.{takes_passed, takes_err, takes_ok}
use Rattle.capnp_frame.proofs.sources.JoinedCallsAdvanceSourceLemmas.{passed_on}
use Rattle.capnp_pack.proofs.errors.ConsumedAtCountOverrunLemmas.{cut_is_other, literal_over}
use Rattle.capnp_pack.proofs.errors.LiteralRunErrorLemmas.{word_cut, run_cut}
use Rattle.capnp_pack.proofs.unpacking.MarkedWordAndRunAreGroupLemmas.{tagged_found, literal_found, filled_front}
use Rattle.capnp_pack.proofs.group.read_words.Goals as goal

pub returns-in_err-read_word-clause-takes : goal.returns-in_err-read_word-clause-takes
returns-in_err-read_word-clause-takes g c =
    let word : length c.read_word.new.word ≡ 8 = search rules in
    takes_passed g.R.Read _ _ _ _ _ _ c.from_residual.ensures.1
    (word_cut _ c.args.tag _ _ _ _ word (search rules) (search rules) (search rules) c.in_err-read_word.ensures.errors) c.in_err-read_word.ensures.asked

pub returns-then-tag-lt255-clause-takes : goal.returns-then-tag-lt255-clause-takes
returns-then-tag-lt255-clause-takes g c =
    let word : length c.read_word.new.word ≡ 8 = search rules in
    record {
      found = tagged_found c.args.tag c.read_word.new.word _ _ _ (search rules) (search rules) word (take_at c.read_word.new.word _ 8 word) c.in_ok-read_word.ensures.found;
      errors = tt;
      asked = record { failed = tt; advances = c.read_word.ensures.asked.advances };
    }

pub returns-in_err-count-clause-takes : goal.returns-in_err-count-clause-takes
returns-in_err-count-clause-takes g c =
    let word : length c.read_word.new.word ≡ 8 = search rules in
    let full : c.args.tag ≡ 255 = omega arith in
    takes_err g.R.Read g.met.R.Read.keeps _ _ _ _ _ _ _ c.from_residual-in_err-count.ensures.1
    (run_cut _ c.args.tag _ _ c.read_word.new.word _ _ _ full word (search rules) c.in_ok-read_word.ensures.found c.in_err-count.ensures.takes.errors)
    c.read_word.ensures.asked.advances c.in_err-count.ensures.takes.asked

pub returns-clause-takes : goal.returns-clause-takes
returns-clause-takes g c =
    let word : length c.read_word.new.word ≡ 8 = search rules in
    let full : c.args.tag ≡ 255 = omega arith in
    takes_ok g.R.Read g.met.R.Read.keeps _ _ _ _ _ _
    (literal_found c.args.tag c.read_word.new.word (take c.in_ok-count.count c.read_run.new.buffer) _ _ _ _ full word
    (filled_front 8 c.in_ok-count.count c.read_word.new.word (drop 8 c.args.buffer.now) c.read_run.new.buffer word c.in_ok-count.ensures.within.0)
    c.in_ok-read_word.ensures.found c.in_ok-count.ensures.takes.found) c.read_word.ensures.asked.advances c.read_run.ensures.takes.asked.advances

pub returns-in_err-read_word-clause-overrun : goal.returns-in_err-read_word-clause-overrun
returns-in_err-read_word-clause-overrun g c = passed_on _ _ c.from_residual.ensures.1 (λ over. absurd (cut_is_other _ _ _ c.in_err-read_word.ensures.errors over))

pub returns-in_err-count-clause-overrun : goal.returns-in_err-count-clause-overrun
returns-in_err-count-clause-overrun g c =
    let word : length c.read_word.new.word ≡ 8 = search rules in
    let full : c.args.tag ≡ 255 = omega arith in
    passed_on _ _ c.from_residual-in_err-count.ensures.1
    (λ over. literal_over c.args.tag _ _ c.read_word.new.word _ _ _ full word (search rules) c.in_ok-read_word.ensures.found (c.in_err-count.ensures.overrun over))
