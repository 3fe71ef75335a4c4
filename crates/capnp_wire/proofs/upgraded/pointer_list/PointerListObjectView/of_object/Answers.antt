-- The pointers are the object's, or the first pointers of its structs.
use Rattle.std.proofs.Common.{◌≡◌, ◌<◌, ◌≤◌, ◌+◌, ◌*◌, ℕ, refl, sym, ◌∙◌, ap, arith}
use Rattle.std.proofs.Math.Nat.{mul-le-mul_left}
use Rattle.capnp_wire.specs.Prelude.{pointer_of}
use Rattle.capnp_layout.specs.declared.pointer.Elements.{Elements}
use Rattle.capnp_wire.proofs.views.EnteredListShownOrRejectedLemmas.{few_pointers, few_structs}
use Rattle.capnp_wire.proofs.views.UpgradedListReadAsPointersLemmas.{pointers_read, first_pointers_read, no_first_pointers}
use Rattle.capnp_wire.proofs.upgraded.pointer_list.PointerListObjectView.of_object.Goals as goal

pub new-requires-clause-few : goal.new-requires-clause-few
new-requires-clause-few g c =
    let p = pointer_of g.S.ReaderSegments.segments c.args.reader.now in few_pointers p c.args.object.now c.in-Some.count c.requires c.in-Some.ensures

pub new-requires-2-clause-few : goal.new-requires-2-clause-few
new-requires-2-clause-few g c =
    let p = pointer_of g.S.ReaderSegments.segments c.args.reader.now in
    let there = c.in-Some-as_structs.ensures in
    let elements = c.in-Some-as_structs.elements in
    let few = few_structs p c.args.object.now elements there.0 c.requires there.1 in
    let each : elements.count * 1 ≤ elements.count * (elements.size.data_words + elements.size.pointers) = mul-le-mul_left elements.count (omega (arith, c.if-elements-eq0.false)) in
    omega (arith, few.1, each)

pub returns-in-Some : goal.returns-in-Some
returns-in-Some g c =
    let p = pointer_of g.S.ReaderSegments.segments c.args.reader.now in
    pointers_read p c.args.object.now c.in-Some.count _ c.requires c.in-Some.ensures c.new.ensures

pub returns-in_default-as_structs : goal.returns-in_default-as_structs
returns-in_default-as_structs g c =
    let p = pointer_of g.S.ReaderSegments.segments c.args.reader.now in
    no_first_pointers p c.args.object.now _ c.requires c.in_default.ensures (λ there following is. absurd (c.in_default-as_structs.ensures there following is)) c.wrong_kind.ensures

pub returns-then-elements-eq0 : goal.returns-then-elements-eq0
returns-then-elements-eq0 g c =
    let p = pointer_of g.S.ReaderSegments.segments c.args.reader.now in
    let there = c.in-Some-as_structs.ensures in
    let none : c.in-Some-as_structs.elements.size.pointers ≡ 0 = omega (arith, c.if-elements-eq0.true) in
    no_first_pointers p c.args.object.now _ c.requires c.in_default.ensures
    (λ (other : Elements) (following : ℕ) is. let same : c.in-Some-as_structs.elements ≡ other = cc in sym (ap (λ (e : Elements). e.size.pointers) same) ∙ none) c.wrong_kind-then-elements-eq0.ensures

pub returns : goal.returns
returns g c =
    let p = pointer_of g.S.ReaderSegments.segments c.args.reader.now in
    let there = c.in-Some-as_structs.ensures in
    let some : 0 < c.in-Some-as_structs.elements.size.pointers = omega (arith, c.if-elements-eq0.false) in
    first_pointers_read p c.args.object.now c.in-Some-as_structs.elements there.0 _ _ _ c.requires there.1 some c.words-step.ensures refl (omega arith) c.new-2.ensures
