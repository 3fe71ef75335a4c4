-- The object is the data of these bytes.
use Rattle.std.proofs.Common.{ℕ, List, false, ap, subst}
use Rattle.capnp_wire.specs.Prelude.{HasWords, WordsError, IsBytes, ManyBytes}
use Rattle.capnp_orphans.specs.Holds.{HoldsValue}
use Rattle.capnp_c.specs.Building.{Adds}
use Rattle.capnp_c.proofs.building.blobs.linsjoar_add_data.Goals as goal

pub returns : goal.returns
returns c =
    subst (λ (l : List ℕ). Adds (HasWords (IsBytes l) false) (WordsError (IsBytes l) (ManyBytes l) false) (λ before after word. HoldsValue (IsBytes l) after word)
    c.args.builder.now c.add.new.builder c.args.region.now c.add.new.region c.add.new.orphan c.add.result) (ap (λ r. r.now) c.new-value.ensures) c.add.ensures
