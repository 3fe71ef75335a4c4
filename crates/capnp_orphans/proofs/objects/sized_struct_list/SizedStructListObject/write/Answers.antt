-- The structs come after their tag.
use Rattle.std.proofs.Common.{◌≡◌, ◌∙◌, ◌+◌, ◌*◌, ℕ, [], ◌∷◌, length, drop, sym, ap, arith, length-take}
use Rattle.capnp_layout.specs.Prelude.{words_of, struct_pointer, list_pointer}
use Rattle.capnp_orphans.specs.Holds.{element_words}
use Rattle.capnp_orphans.specs.Sized.{drafts_in}
use Rattle.capnp_orphans.proofs.StructElementsAsDraftsLemmas.{length-drafts_in}
use Rattle.capnp_orphans.proofs.WrittenBlockIsOrphanLemmas.{two_parts, structs_children}
use Rattle.capnp_orphans.proofs.objects.sized_struct_list.SizedStructListObject.write.Goals as goal

pub returns : goal.returns
returns c body start_is =
    let list = c.args.self.now in
    let d : ℕ = c.args.self.now.size.data_words in
    let p : ℕ = c.args.self.now.size.pointers in
    let n : ℕ = c.args.self.now.count in
    let xs = drafts_in d p n c.args.self.now.elements.now in
    let t = c.requires.takes in
    let many : length (drafts_in d p n c.args.self.now.elements.now) ≡ n = length-drafts_in d p n c.args.self.now.elements.now in
    let tag_is : words_of c.put_words.new.block ≡ struct_pointer (length (drafts_in d p n c.args.self.now.elements.now)) d p ∷ [] =
    c.put_words.ensures ∙ ap (λ (k : ℕ). k ∷ []) c.struct_word-tag.ensures ∙ ap (λ (k : ℕ). struct_pointer k d p ∷ []) (sym many) in
    let words_are = two_parts 1 c.put_words.new.block (drop 8 c.args.block.now) c.put_elements.new.block (struct_pointer (length (drafts_in d p n c.args.self.now.elements.now)) d p ∷ [])
    (element_words (drafts_in d p n c.args.self.now.elements.now) (c.args.start + 1)) (omega (arith, c.put_words.auto.block, t.2, t.3, length-take 8 c.args.block.now)) tag_is c.put_elements.ensures.words in
    let size_is : n * (d + p) ≡ length (drafts_in d p n c.args.self.now.elements.now) * (d + p) = ap (λ (k : ℕ). k * (d + p)) (sym many) in
    structs_children body _ xs c.args.start c.list_word.result start_is t.0.0 t.0.1 (omega (arith, many, t.1)) (omega (arith, c.requires.few, t.2, size_is)) c.put_elements.ensures.sized words_are
    (c.list_word.ensures ∙ ap (λ (k : ℕ). list_pointer c.args.start 7 k) (c.args.self.now.whole ∙ size_is))
