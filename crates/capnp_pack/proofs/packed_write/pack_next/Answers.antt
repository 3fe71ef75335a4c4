-- The buffer is handed on, or the group of the next word.
use Rattle.std.proofs.Common.{[], take}
use Rattle.std.proofs.lemmas.Bool.{false≢true}
use Rattle.capnp_pack.proofs.packing.BufferedGroupLemmas.{handed_next, no_words_packed}
use Rattle.capnp_pack.proofs.packing.PackerOutcomeFromSinkCallLemmas.{hands_ok, hands_passed}
use Rattle.capnp_pack.proofs.packing.GrantCoversGroupAndRestLemmas.{granted_flushed, group_granted_next, group_granted}
use Rattle.capnp_pack.proofs.packing.LeftAfterFailureLemmas.{left_buffer, left_group}
use Rattle.capnp_pack.proofs.packing.ChunkPackedGroupByGroupLemmas.{next_words, other_words}
use Rattle.capnp_pack.proofs.packed_write.pack_next.Goals as goal

pub returns-in_err-flush-clause-hands : goal.returns-in_err-flush-clause-hands
returns-in_err-flush-clause-hands g c =
    let taken = no_words_packed c.args.words.now (take c.args.used c.args.bytes.now) in
    hands_passed g.W.Write _ _ _ _ _ _ _ _ c.from_residual.ensures.1 (left_buffer _ _ c.args.words.now 0 _ _ _ _ c.told-words taken) c.in_err-flush.ensures.hands

pub returns-in_err-flush-clause-granted : goal.returns-in_err-flush-clause-granted
returns-in_err-flush-clause-granted g c encoding more packs granted =
    absurd (false≢true (granted_flushed (g.W.Write.grants c.args.sink.now) (g.W.Write.grants c.flush.new.sink) c.args.words.now c.args.used more _ (encoding, packs, granted) c.in_err-flush.ensures.granted).0)

pub returns-then-used-gt-MOST_USED-clause-hands : goal.returns-then-used-gt-MOST_USED-clause-hands
returns-then-used-gt-MOST_USED-clause-hands g c =
    hands_ok g.W.Write _ _ _ _ _ ([], (λ more packs. packs), c.in_ok-flush.ensures.hands.handed) c.flush.ensures.hands.grows

pub returns-then-used-gt-MOST_USED-clause-granted : goal.returns-then-used-gt-MOST_USED-clause-granted
returns-then-used-gt-MOST_USED-clause-granted g c encoding more packs granted =
    (granted_flushed (g.W.Write.grants c.args.sink.now) (g.W.Write.grants c.flush.new.sink) c.args.words.now c.args.used more _ (encoding, packs, granted) c.in_ok-flush.ensures.granted).1

pub returns-in_err-literal-clause-hands : goal.returns-in_err-literal-clause-hands
returns-in_err-literal-clause-hands g c =
    let front = next_words c.args.words.now 0 c.requires.some in
    let taken = no_words_packed c.args.words.now (take c.args.used c.args.bytes.now) in
    hands_passed g.W.Write _ _ _ _ _ _ _ _ c.from_residual-in_err-literal.ensures.1
    (left_group _ _ c.args.words.now 0 _ _ _ _ _ _ c.told-words front taken) c.in_err-literal.ensures.hands

pub returns-in_err-literal-clause-granted : goal.returns-in_err-literal-clause-granted
returns-in_err-literal-clause-granted g c encoding more packs granted =
    let front = next_words c.args.words.now 0 c.requires.some in
    let (group, count, others, made, asked) = group_granted (g.W.Write.grants c.args.sink.now) c.args.words.now 0 c.args.used more _ _ c.told-words front (encoding, packs, granted) in
    absurd (c.in_err-literal.ensures.granted group count others made asked)

pub returns-clause-hands : goal.returns-clause-hands
returns-clause-hands g c =
    let words = c.args.words.now in
    let front = next_words words 0 c.requires.some in
    hands_ok g.W.Write _ _ _ _ _ (handed_next g.W.Write.appends words c.in_ok-literal.literal.words _ _ _ _ _ _ front (other_words words 0) c.in_ok-literal.ensures.hands.handed)
    c.pack_literal.ensures.hands.grows

pub returns-clause-granted : goal.returns-clause-granted
returns-clause-granted g c encoding more packs granted =
    let words = c.args.words.now in
    let front = next_words words 0 c.requires.some in
    group_granted_next (g.W.Write.grants c.args.sink.now) (g.W.Write.grants c.pack_literal.new.sink) words c.in_ok-literal.literal.words c.args.used _ more _ _ _ c.told-words front
    (other_words words 0) c.in_ok-literal.ensures.hands.handed (encoding, packs, granted) c.in_ok-literal.ensures.granted
