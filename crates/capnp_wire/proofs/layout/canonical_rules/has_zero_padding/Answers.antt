-- The bits after the elements of a list in its last word.
use Rattle.std.proofs.Common.{◌≡◌, ◌<◌, ◌+◌, ◌*◌, ◌/◌, ◌%◌, ◌^◌, ℕ, length, slice_get, slice_index_or, None, refl, sym, ap, arith}
use Rattle.std.proofs.lemmas.Bool.Decides.{nat_tests}
use Rattle.capnp_layout.specs.Prelude.{words_of, code_of, width}
use Rattle.capnp_layout.proofs.words.WordsOfBytesLemmas.{length-words_of}
use Rattle.capnp_wire.proofs.forms.SectionTrimmedByLastWordLemmas.{or_there, there_or}
use Rattle.capnp_layout.proofs.objects.ByteListElementLemmas.{all_words_below}
use Rattle.capnp_wire.proofs.objects.NumbersPaddedByLastWordLemmas.{whole_is_padded, part_is_padded}
use Rattle.capnp_layout.proofs.objects.ListPaddingTestLemmas.{no_bits_after}
use Rattle.capnp_wire.proofs.layout.canonical_rules.has_zero_padding.Goals as goal

pub returns-then-following-eq0 : goal.returns-then-following-eq0
returns-then-following-eq0 c room =
    let words = words_of c.args.segment.now in
    let code = code_of c.args.size in
    let bits : c.args.count * width code % 64 ≡ 0 = rw (← c.bits.ensures.bits) c.if-following-eq0.true in
    let all = all_words_below c.args.segment.now (λ i. omega (arith, c.type_inv.segment i)) in
    (λ t. whole_is_padded words c.args.start code c.args.count all (omega (arith, room, length-words_of c.args.segment.now)) bits, λ t. refl)

pub returns-in-Some : goal.returns-in-Some
returns-in-Some c room =
    let words = words_of c.args.segment.now in
    let code = code_of c.args.size in
    let some : 0 < c.args.count * width code % 64 = rw (← c.bits.ensures.bits) (omega arith) in
    let all = all_words_below c.args.segment.now (λ i. omega (arith, c.type_inv.segment i)) in
    let e = part_is_padded words c.args.start code c.args.count all (omega (arith, room, length-words_of c.args.segment.now)) some in
    let there : slice_index_or words (c.args.start + c.args.count * c.bits.result / 64) 0 ≡ c.in-Some.last =
    or_there words (c.args.start + c.args.count * c.bits.result / 64) c.in-Some.last (sym c.in-Some.ensures.value) in
    let last : slice_index_or words (c.args.start + c.args.count * width code / 64) 0 ≡ c.in-Some.last = rw (← c.bits.ensures.bits) there in
    let b = no_bits_after c.in-Some.last (c.args.count * c.bits.result % 64) in
    let bits : c.args.count * c.bits.result % 64 ≡ c.args.count * width code % 64 = ap (λ (k : ℕ). c.args.count * k % 64) c.bits.ensures.bits in (
      λ t.
          let none : c.in-Some.last / 2 ^ (c.args.count * c.bits.result % 64) ≡ 0 = grind (arith, nat_tests) in
          e.0 (rw (last, ← bits) (b.0 none)),
      λ padded.
          let small : c.in-Some.last < 2 ^ (c.args.count * c.bits.result % 64) = rw (last, ← bits) at e.1 padded in
          let none : c.in-Some.last / 2 ^ (c.args.count * c.bits.result % 64) ≡ 0 = b.1 small in
          grind (arith, nat_tests),
    )

pub returns-in-None : goal.returns-in-None
returns-in-None c room =
    let words = words_of c.args.segment.now in
    let code = code_of c.args.size in
    let some : 0 < c.args.count * width code % 64 = rw (← c.bits.ensures.bits) (omega arith) in
    let within : c.args.start + c.args.count * width code / 64 < length words = omega (arith, room, length-words_of c.args.segment.now) in
    let there = there_or words (c.args.start + c.args.count * width code / 64) within in
    let none : slice_get words (c.args.start + c.args.count * width code / 64) ≡ None = rw (← c.bits.ensures.bits) (sym c.in-None.ensures.value) in
    absurd (cc)
