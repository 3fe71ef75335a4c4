-- Numbers are read as structs, unless they are bits.
use Rattle.std.proofs.Common.{◌≡◌, ℕ, [], map, ap, ◌∙◌, sym, arith}
use Rattle.capnp_layout.specs.Prelude.{code_of, width, words_of, elements}
use Rattle.capnp_wire.specs.Prelude.{pointer_of, StructList, number_struct}
use Rattle.capnp_layout.specs.declared.element_size.ElementSize.{ElementSize}
use Rattle.capnp_layout.specs.declared.object.Body.TheVariants.{Numbers}
use Rattle.capnp_wire.proofs.views.UpgradedListReadAsStructsLemmas.{nothings_upgraded, numbers_upgraded, bits_form_error, one_bit, no_bit, other_than_bits}
use Rattle.capnp_wire.proofs.views.EnteredListShownOrRejectedLemmas.{few_numbers}
use Rattle.capnp_wire.proofs.upgraded.struct_list.StructList.of_numbers.Goals as goal

pub returns-then-bits-eq1 : goal.returns-then-bits-eq1
returns-then-bits-eq1 g c =
    let p = pointer_of g.S.ReaderSegments.segments c.args.reader.now in
    let size = one_bit c.args.size (sym c.bits-bits.ensures.bits ∙ c.if-bits-eq1.true) in
    bits_form_error p c.args.object.now c.args.count _ c.requires.entered (c.requires.numbers ∙ ap (λ (s : ElementSize). Numbers s c.args.count) size) c.wrong_kind.ensures

pub returns-then-bits-eq0 : goal.returns-then-bits-eq0
returns-then-bits-eq0 g c =
    let p = pointer_of g.S.ReaderSegments.segments c.args.reader.now in
    let size = no_bit c.args.size (sym c.bits-bits.ensures.bits ∙ c.if-bits-eq0.true) in
    nothings_upgraded p c.args.object.now c.args.count _ _ c.requires.entered (c.requires.numbers ∙ ap (λ (s : ElementSize). Numbers s c.args.count) size) c.elements_without_data-elements.ensures c.in_place.ensures

pub returns : goal.returns
returns g c =
    let p = pointer_of g.S.ReaderSegments.segments c.args.reader.now in
    let other = other_than_bits c.args.size (λ (is : width (code_of c.args.size) ≡ 1). absurd (omega (arith, is, c.bits-bits.ensures.bits, c.if-bits-eq1.false))) in
    let list : ℕ → StructList = λ nesting. record {
      message = p.message;
      elements = map (number_struct (code_of c.args.size)) (elements (words_of c.words_at.result.now) 0 (code_of c.args.size) c.args.count);
      pointer_words = 0;
      children = [];
      nesting = nesting;
      limit = p.limit;
    } in
    numbers_upgraded p c.args.object.now c.args.size c.args.count _ _ c.requires.entered c.requires.numbers other c.words_at.ensures.elements (ap list c.saturating_sub.ensures)

pub in_place-requires-clause-few : goal.in_place-requires-clause-few
in_place-requires-clause-few g c =
    let p = pointer_of g.S.ReaderSegments.segments c.args.reader.now in
    rw c.elements_without_data-elements.ensures (omega (arith, few_numbers p c.args.object.now c.args.size c.args.count c.requires.entered c.requires.numbers))
