-- Each struct is put after those before it.
use Rattle.std.proofs.Common.{◌≡◌, ◌+◌, ◌-◌, ◌*◌, ◌<◌, ◌≤◌, ◌^◌, ℕ, List, ◌++◌, length, take, drop, slice_index_or, sym, arith, length-take, length-drop, ap, ◌∙◌}
use Rattle.std.specs.Prelude.{All}
use Rattle.std.proofs.lemmas.List.{take_rest}
use Rattle.std.proofs.lemmas.List.Elements.{All-take, All-drop}
use Rattle.capnp_layout.specs.Prelude.{words_of}
use Rattle.capnp_layout.proofs.words.WordsOfBytesLemmas.{length-words_of}
use Rattle.capnp_layout.proofs.objects.StructElementPlaceLemmas.{struct_ends}
use Rattle.capnp_orphans.specs.Orphans.{links}
use Rattle.capnp_orphans.specs.Sized.{drafts_in}
use Rattle.capnp_orphans.proofs.StructElementsAsDraftsLemmas.{draft_at, draft_is, draft_words, draft_orphans, length-drafts_in}
use Rattle.capnp_orphans.proofs.StructDraftsWrittenAsOrphanLemmas.{element_put, all_elements, sized_more, all_sized}
use Rattle.capnp_orphans.proofs.objects.sized_struct_list.put_elements.Goals as goal

pub loop-index-preserved : goal.loop-index-preserved
loop-index-preserved c =
    let d : ℕ = c.args.size.data_words in
    let p : ℕ = c.args.size.pointers in
    let n : ℕ = c.args.count in
    let elements : List ℕ = c.args.elements.now in
    let i : ℕ = c.loop-index._index in
    let from : ℕ = c.loop-index.at in
    let within : i < n = c.loop-index-test.true in
    let from_is : from ≡ i * (d + p) = c.loop-index.invariant.at_is in
    let ends = struct_ends i n (d + p) within in
    let xs = drafts_in d p n elements in
    let x = draft_at d p elements from in
    let many : length (drafts_in d p n elements) ≡ n = length-drafts_in d p n elements in
    let x_is : draft_at d p elements from ≡ slice_index_or (drafts_in d p n elements) i (draft_at d p elements from) =
    ap (λ (k : ℕ). draft_at d p elements k) from_is ∙ sym (draft_is d p n elements i x within) in
    let words_long : length (take d (drop from elements)) ≡ d = omega (arith, length-take d (drop from elements), length-drop from elements, c.requires.elements, ends, from_is) in
    let orphans_long : length (take p (drop d (drop from elements))) ≡ p =
    omega (arith, length-take p (drop d (drop from elements)), length-drop d (drop from elements), length-drop from elements, c.requires.elements, ends, from_is) in
    let fit : All (λ w. w < 2 ^ 64) (take d (drop from elements)) = All-take (λ w. w < 2 ^ 64) d (drop from elements) (All-drop (λ w. w < 2 ^ 64) from elements c.words_fit.ensures) in
    let own = draft_words d p from elements in
    let part_is : words_of c.put_struct.new.block ≡ take d (drop from elements) ++ links (take p (drop d (drop from elements))) (c.args.place + from + d) =
    c.put_struct.ensures.words
    ∙ ap (λ (l : List ℕ). take d (take (from + (d + p) - from) (drop from elements)) ++ links l (c.args.place + from + length (take d (take (from + (d + p) - from) (drop from elements)))))
    (take_rest (take (from + (d + p) - from) (drop from elements)) d)
    ∙ ap (λ (l : List ℕ). l ++ links (drop d (take (from + (d + p) - from) (drop from elements))) (c.args.place + from + length l)) own
    ∙ ap (λ (k : ℕ). take d (drop from elements) ++ links (drop d (take (from + (d + p) - from) (drop from elements))) (c.args.place + from + k)) words_long
    ∙ ap (λ (l : List ℕ). take d (drop from elements) ++ links l (c.args.place + from + d)) (draft_orphans d p from elements) in
    let old_long : length (words_of c.args.block.now) ≡ n * (d + p) = omega (arith, length-words_of c.args.block.now, c.requires.room) in
    let fits : from + (d + p) ≤ length (words_of c.args.block.now) = omega (arith, ends, from_is, old_long) in
    let block_long : length c.loop-index.block ≡ 8 * (n * (d + p)) = c.loop-index.auto.block ∙ c.requires.room in
    let same : length (words_of c.loop-index.block) ≡ length (words_of c.args.block.now) = omega (arith, length-words_of c.loop-index.block, block_long, old_long) in
    record {
      at_is = omega (arith, from_is);
      sized = sized_more xs i x (omega (arith, many, within)) x_is c.loop-index.invariant.sized words_long orphans_long fit;
      words_are = element_put xs i from (8 * (from + (d + p)) - 8 * from) c.args.place x c.loop-index.block c.put_struct.new.block (words_of c.args.block.now) (omega (arith, many, within)) from_is x_is
          c.loop-index.invariant.sized (omega arith)
          (omega (arith, c.put_struct.ensures.len, fits, old_long, block_long, length-take (8 * (from + (d + p)) - 8 * from) (drop (8 * from) c.loop-index.block), length-drop (8 * from) c.loop-index.block)) part_is
          (omega (arith, words_long, orphans_long)) fits same c.loop-index.invariant.words_are;
    }

pub returns-clause-sized : goal.returns-clause-sized
returns-clause-sized c =
    let xs = drafts_in c.args.size.data_words c.args.size.pointers c.args.count c.args.elements.now in
    let many = length-drafts_in c.args.size.data_words c.args.size.pointers c.args.count c.args.elements.now in
    all_sized xs c.loop-index._index (omega (arith, c.loop-index-test.false, many)) c.loop-index.invariant.sized

pub returns-clause-words : goal.returns-clause-words
returns-clause-words c =
    let d : ℕ = c.args.size.data_words in
    let p : ℕ = c.args.size.pointers in
    let xs = drafts_in c.args.size.data_words c.args.size.pointers c.args.count c.args.elements.now in
    let many : length (drafts_in c.args.size.data_words c.args.size.pointers c.args.count c.args.elements.now) ≡ c.args.count = length-drafts_in d p c.args.count c.args.elements.now in
    let past : length (drafts_in c.args.size.data_words c.args.size.pointers c.args.count c.args.elements.now) ≤ c.loop-index._index = omega (arith, c.loop-index-test.false, many) in
    let old_long : length (words_of c.args.block.now) ≡ length (drafts_in c.args.size.data_words c.args.size.pointers c.args.count c.args.elements.now) * (d + p) =
    omega (arith, length-words_of c.args.block.now, c.requires.room) ∙ ap (λ (k : ℕ). k * (d + p)) (sym many) in
    all_elements xs c.loop-index._index c.args.place c.loop-index.block (words_of c.args.block.now) past (all_sized xs c.loop-index._index past c.loop-index.invariant.sized) old_long
    c.loop-index.invariant.words_are
