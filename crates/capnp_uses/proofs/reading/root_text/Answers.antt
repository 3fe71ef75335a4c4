-- The text that is read is the one that is at the root.
use Rattle.std.proofs.Common.{refl}
use Rattle.capnp_message.specs.Seen.{root_of}
use Rattle.capnp_uses.proofs.BuiltRootViewLemmas.{root_text_is, text_meets_limit}
use Rattle.capnp_uses.proofs.reading.root_text.Goals as goal

pub returns : goal.returns
returns g c = record {
  shown = λ bytes is_at. root_text_is _ (λ view. view.bytes.now) (root_of g.S.ReaderSegments.segments c.args.message.now) bytes c.get_root.result refl is_at c.get_root.ensures.returned;
  found = λ bytes is_at deep. text_meets_limit _ (root_of g.S.ReaderSegments.segments c.args.message.now) bytes c.get_root.result refl is_at deep c.get_root.ensures.returned;
  reads = c.get_root.ensures;
}
