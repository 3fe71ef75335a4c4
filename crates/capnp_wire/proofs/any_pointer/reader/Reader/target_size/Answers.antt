-- A size is returned exactly where the tree has one in 64 bits, and the call fails exactly where
-- the walk does.
use Rattle.std.proofs.Common.{◌≡◌}
use Rattle.capnp_wire.specs.Prelude.{Measures, pointer_of}
use Rattle.capnp_wire.proofs.walks.MeasuringWalkCountOrErrorLemmas.{measured_is_ok, unmeasured_is_err}
use Rattle.capnp_wire.proofs.any_pointer.reader.Reader.target_size.Goals as goal

pub returns-clause-measured : goal.returns-clause-measured
returns-clause-measured g c =
    let p = pointer_of g.S.ReaderSegments.segments c.args.self.now in
    measured_is_ok p (λ size. Measures p size.word_count × (size.cap_count ≡ 0)) c.measure.result c.measure.ensures.returned

pub returns-clause-exact : goal.returns-clause-exact
returns-clause-exact g c =
    unmeasured_is_err (pointer_of g.S.ReaderSegments.segments c.args.self.now) c.measure.result c.measure.ensures.returned c.measure.ensures.bound
