-- What is read was shown.
use Rattle.std.proofs.Common.{rules, ◌≡◌, ◌++◌, ◌∙◌, length, take, drop, arith}
use Rattle.std.proofs.lemmas.List.{take_at}
use Rattle.capnp.proofs.CountedSourceReadLemmas.{shown_part, none_shown_short}
use Rattle.capnp.proofs.streams.counted.CountedRead.read.Goals as goal

pub returns-clause-taken : goal.returns-clause-taken
returns-clause-taken g c =
    let count = c.min-count.result in
    let copied = c.copy_from_slice.new.self in
    let long : length copied ≡ count = search rules in
    let same : copied ≡ take count c.in_ok-shown.shown.now = search rules in
    shown_part count c.in_ok-shown.shown.now (copied ++ drop count c.args.buffer.now) _ _ _ c.in_ok-shown.ensures.front (search rules)
    c.consume.ensures.taken (search rules) (take_at copied _ count long ∙ same)

pub returns-clause-spent : goal.returns-clause-spent
returns-clause-spent g c = λ none room.
    let long : length (c.copy_from_slice.new.self ++ drop c.min-count.result c.args.buffer.now) ≡ length c.args.buffer.now = search rules in
    none_shown_short _ c.in_ok-shown.shown.now _ (omega (arith, none, room, long, c.min-count.ensures)) room c.in_ok-shown.ensures.end
