-- The number is the element; past the last one, and where elements have no bits, it is 0.
use Rattle.std.proofs.Common.{◌≡◌, ◌+◌, ◌*◌, ◌/◌, ◌%◌, ◌^◌, Some, refl, sym, ap, ◌∙◌, arith}
use Rattle.std.proofs.lemmas.List.{get_or_past}
use Rattle.capnp_layout.specs.Prelude.{width}
use Rattle.capnp_c.specs.ReadingLists.{numbers_in, number_at, word_from}
use Rattle.capnp_c.proofs.in_place.ListByElementKindLemmas.{code_of_numbers, few_codes}
use Rattle.capnp_c.proofs.in_place.ListElementsInBytesLemmas.{length-numbers_along, numbers_along_at}
use Rattle.capnp_c.proofs.reading.list_elements.linsjoar_list_number.Goals as goal

pub returns-then-index-list : goal.returns-then-index-list
returns-then-index-list c =
    let list = c.args.list.now in
    let bytes = c.args.bytes.now in
    let size = c.in-Some-Numbers.size in
    let code = code_of_numbers list.code size (sym c.in-Some-Numbers.ensures ∙ ap Some c.in-Some-Numbers.field-0-is) in
    let many = length-numbers_along bytes list.start 0 list.step list.code list.count in
    record {
      found = λ zero. (omega (arith, code, few_codes size), sym (get_or_past (numbers_in list.code bytes list) c.args.index 0 (omega (arith, many, c.if-index-list.true))));
      accepted = λ few any. refl;
      other = λ many_codes. absurd (omega (arith, many_codes, code, few_codes size));
      outside = λ less some short. absurd (omega (arith, less, c.if-index-list.true));
      stays = λ more. absurd (omega (arith, more));
    }

pub returns-then-list-eq0 : goal.returns-then-list-eq0
returns-then-list-eq0 c =
    let list = c.args.list.now in
    let bytes = c.args.bytes.now in
    let size = c.in-Some-Numbers.size in
    let code = code_of_numbers list.code size (sym c.in-Some-Numbers.ensures ∙ ap Some c.in-Some-Numbers.field-0-is) in
    let bits = 0 + c.args.index * list.step in
    let void : list.code ≡ 0 = omega (arith, c.if-list-eq0.true) in
    let none : number_at bytes list.start bits list.code ≡ 0 =
    ap (λ k. word_from bytes (list.start + 8 * (bits / 64)) / 2 ^ (bits % 64) % 2 ^ width k) void ∙ omega arith in
    record {
      found = λ zero. (omega (arith, void), sym (numbers_along_at bytes list.start 0 list.step list.code list.count c.args.index c.if-index-list.false ∙ none));
      accepted = λ few any. refl;
      other = λ many_codes. absurd (omega (arith, many_codes, void));
      outside = λ less some short. absurd (omega (arith, some, void));
      stays = λ more. absurd (omega (arith, more));
    }

pub returns-in-Some : goal.returns-in-Some
returns-in-Some c =
    let list = c.args.list.now in
    let bytes = c.args.bytes.now in
    let size = c.in-Some-Numbers.size in
    let code = code_of_numbers list.code size (sym c.in-Some-Numbers.ensures ∙ ap Some c.in-Some-Numbers.field-0-is) in
    let bits = c.args.index * list.step in
    let from : bits ≡ 0 + bits = omega arith in
    record {
      found = λ zero. (
        omega (arith, code, few_codes size),
        c.in-Some.ensures.1 ∙ ap (number_at bytes list.start bits) (sym code) ∙ ap (λ b. number_at bytes list.start b list.code) from
            ∙ sym (numbers_along_at bytes list.start 0 list.step list.code list.count c.args.index c.if-index-list.false),
      );
      accepted = λ few any. refl;
      other = λ many_codes. absurd (omega (arith, many_codes, code, few_codes size));
      outside = λ less some short. absurd (omega (arith, short, c.in-Some.ensures.0));
      stays = λ more. absurd (omega (arith, more));
    }
