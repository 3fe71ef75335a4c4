-- How many data sections are put so far.
use Rattle.std.proofs.Common.{◌≡◌, ◌+◌, ◌-◌, ◌*◌, ◌/◌, ◌≤◌, length}
use Rattle.capnp_layout.specs.Prelude.{words_of, elements_from, put_data_sections}
use Rattle.capnp_wire.proofs.layout.data_words.put_data_sections.Given as goal

abbrev pub invariant-sections : goal.invariant-sections
invariant-sections g l =
    (put_data_sections l.to l.elements.size.pointers (elements_from (words_of l.segment) l.from l.elements.size.data_words (l.step - l.elements.size.data_words) (l.elements.count - l._section)) (g.T.BlockItem.as_words l.block)
    ≡ put_data_sections l.fn.next l.elements.size.pointers (elements_from (words_of l.segment) l.fn.start l.elements.size.data_words (l.step - l.elements.size.data_words) l.elements.count) (g.T.BlockItem.as_words l.fn.block))
    × (length (g.T.BlockItem.as_words l.block) ≡ length (g.T.BlockItem.as_words l.fn.block))
    × (l.from + (l.elements.count - l._section) * l.step ≤ length l.segment / 8)
    × (l.to + (l.elements.count - l._section) * (l.elements.size.data_words + l.elements.size.pointers) ≤ length (g.T.BlockItem.as_words l.block))
