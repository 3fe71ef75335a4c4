-- At most one message is at the front of the bytes, and the bytes after it are determined.
use Rattle.std.proofs.Common.{◌≡◌, ◌<◌, [], length, arith, ap, rules}
use Rattle.capnp_c.proofs.PackMessageIntoBufferLemmas.{one_rest}
use Rattle.capnp_c.proofs.packed_messages.whole_message.Goals as goal

pub returns-in_err-segments-clause-accepted : goal.returns-in_err-segments-clause-accepted
returns-in_err-segments-clause-accepted c segments message =
    let never = c.in_err-segments.ensures.accepted segments [] message in absurd (cc)

pub returns-in_err-segments-clause-trailing : goal.returns-in_err-segments-clause-trailing
returns-in_err-segments-clause-trailing c segments rest front some =
    let never = c.in_err-segments.ensures.accepted segments rest front in absurd (cc)

pub returns-then-not-is_empty-clause-accepted : goal.returns-then-not-is_empty-clause-accepted
returns-then-not-is_empty-clause-accepted c segments message =
    let left = c.from_slice.new.slice.now in
    let some : 0 < length left = search rules in
    let none = one_rest c.args.options c.args.framed.now [] left segments c.in_ok-segments.segments.segments message c.in_ok-segments.ensures.found in
    absurd (omega (arith, ap length none, some))

pub returns-then-not-is_empty-clause-exact : goal.returns-then-not-is_empty-clause-exact
returns-then-not-is_empty-clause-exact c kind errors = absurd (c.in_ok-segments.ensures.exact kind errors)

pub returns-clause-trailing : goal.returns-clause-trailing
returns-clause-trailing c segments rest front some =
    let left = c.from_slice.new.slice.now in
    let none : length left ≡ 0 = search rules in
    let same = one_rest c.args.options c.args.framed.now rest left segments c.in_ok-segments.segments.segments front c.in_ok-segments.ensures.found in
    absurd (omega (arith, ap length same, some, none))

pub returns-clause-exact : goal.returns-clause-exact
returns-clause-exact c kind errors = absurd (c.in_ok-segments.ensures.exact kind errors)
