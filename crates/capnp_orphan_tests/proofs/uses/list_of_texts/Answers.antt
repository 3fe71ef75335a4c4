-- One text more, and then the list of their orphans.
use Rattle.std.proofs.lemmas.List.{take_all}
use Rattle.std.proofs.Common.{◌≡◌, ℕ, ◌+◌, length, List, [], ◌∷◌, take, map, refl, sym, subst, arith, Bor}
use Rattle.capnp_orphans.specs.Segments.{body_of}
use Rattle.capnp_orphans.specs.Holds.{AreValues, word_of}
use Rattle.capnp_orphans.specs.OrphanLaws.{keeps_on, pushed_value, their_trees, pointers_value}
use Rattle.capnp_orphan_tests.specs.Uses.{IsTextList, IsShownText}
use Rattle.capnp_orphan_tests.proofs.uses.list_of_texts.Goals as goal

pub items-preserved : goal.items-preserved
items-preserved c =
    let keeps = c.in_ok-text.ensures.adds.keeps in
    record {
      keeps = keeps_on c.args.objects.now c.items.objects c.text.new.self c.items.invariant.keeps keeps;
      are = pushed_value IsShownText c.items.objects c.text.new.self c.args.texts.now c.items.index _ word_of c.items.items.items c.push.new.self.items c.in_ok-text.field-0 c.items-test.true keeps
          c.in_ok-push.ensures.items c.items.invariant.are c.in_ok-text.ensures.adds.orphan;
    }

pub returns : goal.returns
returns c =
    let whole : take c.items.index c.args.texts.now ≡ c.args.texts.now = take_all c.items.index c.args.texts.now (omega (arith, c.items-test.false)) in
    let are : AreValues IsShownText (body_of c.items.objects) c.args.texts.now (map word_of c.items.items.items) =
    subst (λ (l : List (Bor (List ℕ))). AreValues IsShownText (body_of c.items.objects) l (map word_of c.items.items.items)) whole c.items.invariant.are in
    let given : AreValues IsShownText (body_of c.items.objects) c.args.texts.now (map word_of c.as_slice.result.now) =
    subst (λ items. AreValues IsShownText (body_of c.items.objects) c.args.texts.now (map word_of items)) (sym c.as_slice.ensures.value) are in
    let t = their_trees IsShownText (body_of c.items.objects) c.args.texts.now (map word_of c.as_slice.result.now) given in
    record {
      keeps = keeps_on c.args.objects.now c.items.objects c.pointer_list.new.self c.items.invariant.keeps c.pointer_list.ensures.adds.keeps;
      orphan = pointers_value (body_of c.items.objects) (body_of c.pointer_list.new.self) (map word_of c.as_slice.result.now) t.0 (IsTextList c.args.texts.now) word_of c.pointer_list.result t.1 (t.0, t.2, refl)
          c.pointer_list.ensures.adds.orphan;
    }
