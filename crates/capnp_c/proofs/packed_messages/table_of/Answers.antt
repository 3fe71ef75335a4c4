-- A message begins with its table.
use Rattle.std.proofs.Common.{◌+◌, ◌*◌, ◌/◌, [], take, arith, sym, ap, ◌∙◌}
use Rattle.std.proofs.lemmas.List.{length-take-le}
use Rattle.capnp_c.proofs.PackMessageIntoBufferLemmas.{front_table}
use Rattle.capnp_c.proofs.packed_messages.table_of.Goals as goal

pub slice_bounds-result-end : goal.slice_bounds-result-end
slice_bounds-result-end c =
    let front = front_table c.requires.whole.0 c.args.framed.now c.args.segments.now.segments [] c.requires.whole.1 in
    let count = c.len.ensures in
    sym (length-take-le (8 * (c.len.result / 2 + 1)) c.args.framed.now (omega (arith, count, front.1)))

pub returns-clause-table : goal.returns-clause-table
returns-clause-table c =
    let front = front_table c.requires.whole.0 c.args.framed.now c.args.segments.now.segments [] c.requires.whole.1 in
    ap (λ k. take (8 * (k / 2 + 1)) c.args.framed.now) c.len.ensures ∙ front.0

pub returns-clause-word : goal.returns-clause-word
returns-clause-word c =
    let front = front_table c.requires.whole.0 c.args.framed.now c.args.segments.now.segments [] c.requires.whole.1 in
    let count = c.len.ensures in
    let long = length-take-le (8 * (c.len.result / 2 + 1)) c.args.framed.now (omega (arith, count, front.1)) in
    omega (arith, long)
