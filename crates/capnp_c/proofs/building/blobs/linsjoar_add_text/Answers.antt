-- The object is the text of these bytes.
use Rattle.std.proofs.Common.{ℕ, List, false, subst}
use Rattle.capnp_wire.specs.Prelude.{HasWords, WordsError, IsTextTree, LongText}
use Rattle.capnp_orphans.specs.Holds.{HoldsValue}
use Rattle.capnp_c.specs.Building.{Adds}
use Rattle.capnp_c.proofs.building.blobs.linsjoar_add_text.Goals as goal

pub returns : goal.returns
returns c =
    subst (λ (l : List ℕ). Adds (HasWords (IsTextTree l) false) (WordsError (IsTextTree l) (LongText l) false) (λ before after word. HoldsValue (IsTextTree l) after word)
    c.args.builder.now c.add.new.builder c.args.region.now c.add.new.region c.add.new.orphan c.add.result) c.new.ensures c.add.ensures
