-- The buffer takes the front of what is left, and then a call packs more of it or hands the buffer on.
use Rattle.std.proofs.Common.{arith, ◌-◌, ap, length, length-drop, take, drop, refl, []}
use Rattle.std.proofs.lemmas.List.{nil_from_length}
use Rattle.capnp_frame.proofs.sources.JoinedRequestPartsLemmas.{Grows-join}
use Rattle.capnp_pack.proofs.packing.BufferedGroupLemmas.{handed_on, taken_on, words_from_done}
use Rattle.capnp_pack.proofs.packing.PackerOutcomeFromSinkCallLemmas.{hands_last, hands_failed}
use Rattle.capnp_pack.proofs.words.ChunkWordLemmas.{whole_words}
use Rattle.capnp_pack.proofs.packing.GrantCoversGroupAndRestLemmas.{granted_kept, granted_last, granted_on}
use Rattle.capnp_pack.proofs.packing.LeftAfterFailureLemmas.{left_last, left_rest}
use Rattle.capnp_pack.proofs.packing.WordsPackUniquelyAndUnpackLemmas.{Packs-of-words}
use Rattle.capnp_pack.proofs.packing.ChunkPackedGroupByGroupLemmas.{packed_all}
use Rattle.capnp_pack.proofs.packed_write.pack.Goals as goal

pub loop-left-preserved : goal.loop-left-preserved
loop-left-preserved g c =
    let left = c.loop-left.left.now in
    let packed = c.pack_buffered-packed in
    let from = words_from_done left packed.result.words in (
      omega (arith, ap length from, length-drop packed.result.words left, c.loop-left.invariant.0),
      packed.ensures.packs.fits,
      taken_on g.W.Write.appends _ left packed.result.words _ _ _ _ _ _ from c.loop-left.invariant.2 packed.ensures.packs.packed,
      c.loop-left.invariant.3,
      λ encoding more packs granted. granted_kept (g.W.Write.grants c.loop-left.sink) left _ packed.result.words c.loop-left.used packed.result.used more _ _ (words_from_done left packed.result.words)
          c.loop-left.invariant.5 packed.array_long c.loop-left.invariant.1 packed.ensures.packs.fits packed.ensures.packs.packed (c.loop-left.invariant.4 encoding more packs granted),
      packed.array_long,
    )

pub loop-left-preserved-then-left-gt0 : goal.loop-left-preserved-then-left-gt0
loop-left-preserved-then-left-gt0 g c =
    let left = c.loop-left.left.now in
    let packed = c.pack_buffered-packed in
    let from = words_from_done left packed.result.words in
    let rest = take (length left - packed.result.words) (drop packed.result.words left) in
    let next = c.in_ok-next.next in
    let on = words_from_done rest next.words in (
      omega (arith, ap length on, length-drop next.words rest, ap length from, length-drop packed.result.words left, c.loop-left.invariant.0),
      c.in_ok-next.ensures.used,
      handed_on g.W.Write.appends _ rest next.words _ _ _ _ _ _ _ on
          (taken_on g.W.Write.appends _ left packed.result.words rest _ _ _ _ _ from c.loop-left.invariant.2 packed.ensures.packs.packed) c.in_ok-next.ensures.hands.handed,
      Grows-join _ _ _ (g.met.W.Write.keeps.transitive _ _ _) c.loop-left.invariant.3 c.pack_next.ensures.hands.grows,
      λ encoding more packs granted. granted_on (g.W.Write.grants c.loop-left.sink) (g.W.Write.grants c.pack_next.new.sink) rest _ next.words _ _ more on
          (granted_kept (g.W.Write.grants c.loop-left.sink) left _ packed.result.words c.loop-left.used packed.result.used more _ _ (words_from_done left packed.result.words)
          c.loop-left.invariant.5 packed.array_long c.loop-left.invariant.1 packed.ensures.packs.fits packed.ensures.packs.packed (c.loop-left.invariant.4 encoding more packs granted)) c.in_ok-next.ensures.granted,
      c.pack_next.array_long,
    )

pub returns-in_err-next-clause-writes : goal.returns-in_err-next-clause-writes
returns-in_err-next-clause-writes g c =
    let words = c.as_chunks.result.0.now in
    let cut = whole_words c.args.chunk.now words c.requires c.as_chunks.ensures.front in
    let left = c.loop-left.left.now in
    let packed = c.pack_buffered-packed in
    let rest = take (length left - packed.result.words) (drop packed.result.words left) in
    let taken = taken_on g.W.Write.appends words left packed.result.words rest [] _ _ _ _ (words_from_done left packed.result.words) c.loop-left.invariant.2 packed.ensures.packs.packed in
    hands_failed g.W.Write g.met.W.Write.keeps _ _ _ _ _ _ _ _ _ c.from_residual.ensures.1
    (left_rest g.W.Write.appends g.W.Write.leaves c.args.chunk.now words rest _ _ _ _ cut.0 taken)
    c.loop-left.invariant.3 c.in_err-next.ensures.hands

pub returns-in_err-next-clause-granted : goal.returns-in_err-next-clause-granted
returns-in_err-next-clause-granted g c encoding more packs granted =
    let words = c.as_chunks.result.0.now in
    let cut = whole_words c.args.chunk.now words c.requires c.as_chunks.ensures.front in
    let left = c.loop-left.left.now in
    let packed = c.pack_buffered-packed in
    let (rest, others, given) = granted_kept (g.W.Write.grants c.loop-left.sink) left _ packed.result.words c.loop-left.used packed.result.used more _ _ (words_from_done left packed.result.words)
    c.loop-left.invariant.5 packed.array_long c.loop-left.invariant.1 packed.ensures.packs.fits packed.ensures.packs.packed
    (c.loop-left.invariant.4 encoding more (Packs-of-words c.args.chunk.now encoding words cut.0 cut.1 packs) granted) in
    absurd (c.in_err-next.ensures.granted rest more others given)

pub returns-clause-writes : goal.returns-clause-writes
returns-clause-writes g c =
    let words = c.as_chunks.result.0.now in
    let cut = whole_words c.args.chunk.now words c.requires c.as_chunks.ensures.front in
    let none = nil_from_length c.loop-left.left.now (omega arith) in
    hands_last g.W.Write g.met.W.Write.keeps _ _ _ _ _ _ _ c.flush.result
    (λ last. packed_all g.W.Write.appends c.args.chunk.now words c.loop-left.left.now _ [] _ _ _ cut.0 none refl c.loop-left.invariant.2 last)
    (left_last g.W.Write.appends g.W.Write.leaves c.args.chunk.now words c.loop-left.left.now _ _ _ _ cut.0 none c.loop-left.invariant.2)
    c.loop-left.invariant.3 c.flush.ensures.hands

pub returns-clause-granted : goal.returns-clause-granted
returns-clause-granted g c encoding more packs granted =
    let words = c.as_chunks.result.0.now in
    let cut = whole_words c.args.chunk.now words c.requires c.as_chunks.ensures.front in
    let none = nil_from_length c.loop-left.left.now (omega arith) in
    c.flush.ensures.granted more (granted_last (g.W.Write.grants c.loop-left.sink) c.loop-left.left.now c.loop-left.used more none
    (c.loop-left.invariant.4 encoding more (Packs-of-words c.args.chunk.now encoding words cut.0 cut.1 packs) granted))
