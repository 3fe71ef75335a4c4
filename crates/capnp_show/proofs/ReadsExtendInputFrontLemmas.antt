-- The front of an input that was looked at, and what is read after it, are one longer front.
use Rattle.std.proofs.Common.{ℕ, List, ◌++◌, Option, ap, ◌∙◌, append_assoc}
use Rattle.std.specs.Io.KnownBytes.{Consumes}
use Rattle.std.proofs.KnownBytes.{Consumes-trans}
use Rattle.capnp_show.specs.Fronts.{Takes}

-- what is read after what was read before
pub takes_more : (a b c : List ℕ) (x y z : Option (List ℕ)) → Takes a b x y → Takes b c y z → Takes a c x z
takes_more a b c x y z first second = record {
  added = first.added ++ second.added;
  front_is = second.front_is ∙ ap (λ (front : List ℕ). front ++ second.added) first.front_is ∙ append_assoc a first.added second.added;
  taken = Consumes-trans x y z first.added second.added first.taken second.taken;
}
