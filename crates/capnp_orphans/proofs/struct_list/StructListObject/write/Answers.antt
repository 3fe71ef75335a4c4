-- The structs come after their tag.
use Rattle.std.proofs.Common.{◌≡◌, ◌∙◌, ◌+◌, ◌*◌, ℕ, [], ◌∷◌, length, drop, ap, arith, length-take}
use Rattle.capnp_layout.specs.Prelude.{words_of, struct_pointer, list_pointer}
use Rattle.capnp_orphans.specs.Holds.{element_words}
use Rattle.capnp_orphans.proofs.WrittenBlockIsOrphanLemmas.{two_parts, structs_children}
use Rattle.capnp_orphans.proofs.struct_list.StructListObject.write.Goals as goal

pub returns : goal.returns
returns g c body start_is =
    let drafts = g.S.DraftSource.drafts c.args.self.now.source.now in
    let t = c.requires.takes in
    let tag_is : words_of c.put_words.new.block ≡ struct_pointer (length (g.S.DraftSource.drafts c.args.self.now.source.now)) g.row.D g.row.P ∷ [] =
    c.put_words.ensures ∙ ap (λ (n : ℕ). n ∷ []) c.struct_word-tag.ensures ∙ ap (λ (n : ℕ). struct_pointer n g.row.D g.row.P ∷ []) c.len-count.ensures in
    let words_are = two_parts 1 c.put_words.new.block (drop 8 c.args.block.now) c.put_elements.new.block (struct_pointer (length (g.S.DraftSource.drafts c.args.self.now.source.now)) g.row.D g.row.P ∷ [])
    (element_words (g.S.DraftSource.drafts c.args.self.now.source.now) (c.args.start + 1)) (omega (arith, c.put_words.auto.block, t.2, t.3, length-take 8 c.args.block.now)) tag_is c.put_elements.ensures.words in
    structs_children body _ drafts c.args.start c.list_word.result start_is t.0.0 t.0.1 t.1 (omega (arith, c.requires.few, t.2)) c.put_elements.ensures.sized words_are
    (c.list_word.ensures ∙ ap (λ (n : ℕ). list_pointer c.args.start 7 (n * (g.row.D + g.row.P))) c.len-count.ensures)
