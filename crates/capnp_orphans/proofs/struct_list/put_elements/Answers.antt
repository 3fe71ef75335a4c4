-- Each struct is put after those before it.
use Rattle.std.proofs.Common.{◌≡◌, ◌+◌, ◌-◌, ◌*◌, ◌<◌, ◌≤◌, ℕ, ◌++◌, length, drop, arith, length-take, length-drop, ap, ◌∙◌}
use Rattle.capnp_layout.specs.Prelude.{words_of}
use Rattle.capnp_layout.proofs.words.WordsOfBytesLemmas.{length-words_of}
use Rattle.capnp_layout.proofs.objects.StructElementPlaceLemmas.{struct_ends}
use Rattle.capnp_orphans.specs.Orphans.{links}
use Rattle.capnp_orphans.proofs.StructDraftsWrittenAsOrphanLemmas.{element_put, all_elements, sized_more, all_sized}
use Rattle.capnp_orphans.proofs.struct_list.put_elements.Goals as goal

pub loop-index-preserved : goal.loop-index-preserved
loop-index-preserved g c =
    let i : ℕ = c.loop-index.index in
    let size : ℕ = g.row.D + g.row.P in
    let drafts = g.S.DraftSource.drafts c.args.source.now in
    let n : ℕ = length (g.S.DraftSource.drafts c.args.source.now) in
    let within : c.loop-index.index < length (g.S.DraftSource.drafts c.args.source.now) = omega (arith, c.loop-index-test.true, c.len-index-end.ensures) in
    let from : ℕ = c.loop-index.at in
    let from_is = c.loop-index.invariant.at_is in
    let ends = struct_ends c.loop-index.index n (g.row.D + g.row.P) within in
    let x = c.get-draft.result in
    let part_is : words_of c.put_struct.new.block ≡ c.get-draft.result.words ++ links c.get-draft.result.pointers (c.args.place + c.loop-index.at + g.row.D) =
    c.put_struct.ensures.words ∙ ap (λ (k : ℕ). c.get-draft.result.words ++ links c.get-draft.result.pointers (c.args.place + c.loop-index.at + k)) c.draft_fits.ensures.words in
    let old_long : length (words_of c.args.block.now) ≡ n * (g.row.D + g.row.P) = omega (arith, length-words_of c.args.block.now, c.requires.room) in
    let fits : c.loop-index.at + (g.row.D + g.row.P) ≤ length (words_of c.args.block.now) = omega (arith, ends, from_is, old_long) in
    let block_long : length c.loop-index.block ≡ 8 * (n * (g.row.D + g.row.P)) = c.loop-index.auto.block ∙ c.requires.room in
    let same : length (words_of c.loop-index.block) ≡ length (words_of c.args.block.now) = omega (arith, length-words_of c.loop-index.block, block_long, old_long) in
    record {
      at_is = omega (arith, from_is);
      sized = sized_more drafts i x within c.get-draft.ensures c.loop-index.invariant.sized c.draft_fits.ensures.words c.draft_fits.ensures.pointers c.draft_fits.ensures.few;
      words_are = element_put drafts i from (8 * (c.loop-index.at + (g.row.D + g.row.P)) - 8 * c.loop-index.at) c.args.place x c.loop-index.block c.put_struct.new.block (words_of c.args.block.now)
          within from_is c.get-draft.ensures c.loop-index.invariant.sized (omega arith)
          (omega (arith, c.put_struct.ensures.len, fits, old_long, block_long, length-take (8 * (c.loop-index.at + (g.row.D + g.row.P)) - 8 * c.loop-index.at) (drop (8 * c.loop-index.at) c.loop-index.block), length-drop (8 * c.loop-index.at) c.loop-index.block))
          part_is (omega (arith, c.draft_fits.ensures.words, c.draft_fits.ensures.pointers)) fits same c.loop-index.invariant.words_are;
    }

pub returns-clause-sized : goal.returns-clause-sized
returns-clause-sized g c = all_sized (g.S.DraftSource.drafts c.args.source.now) c.loop-index.index (omega (arith, c.loop-index-test.false, c.len-index-end.ensures)) c.loop-index.invariant.sized

pub returns-clause-words : goal.returns-clause-words
returns-clause-words g c =
    let drafts = g.S.DraftSource.drafts c.args.source.now in
    let old_long : length (words_of c.args.block.now) ≡ length (g.S.DraftSource.drafts c.args.source.now) * (g.row.D + g.row.P) = omega (arith, length-words_of c.args.block.now, c.requires.room) in
    all_elements drafts c.loop-index.index c.args.place c.loop-index.block (words_of c.args.block.now) (omega (arith, c.loop-index-test.false, c.len-index-end.ensures))
    (all_sized drafts c.loop-index.index (omega (arith, c.loop-index-test.false, c.len-index-end.ensures)) c.loop-index.invariant.sized) old_long c.loop-index.invariant.words_are
