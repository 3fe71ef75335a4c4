-- The texts so far are orphans.
use Rattle.std.proofs.Common.{take, map}
use Rattle.capnp_orphans.specs.Adding.{Keeps}
use Rattle.capnp_orphans.specs.Segments.{body_of}
use Rattle.capnp_orphans.specs.Holds.{AreValues, word_of}
use Rattle.capnp_orphan_tests.specs.Uses.{IsShownText}
use Rattle.capnp_orphan_tests.proofs.uses.list_of_texts.Given as goal

abbrev pub invariant-items : goal.invariant-items
invariant-items l = record {
  keeps : Keeps l.fn.objects l.objects;
  are : AreValues IsShownText (body_of l.objects) (take l.index l.texts) (map word_of l.items.items);
}
