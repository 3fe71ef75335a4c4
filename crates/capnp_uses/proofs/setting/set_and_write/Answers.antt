-- What is encoded is the used words.
use Rattle.std.proofs.Common.{inl, inr}
use Rattle.std.proofs.lemmas.Result.{err_from_is_err_and}
use Rattle.capnp.specs.Prelude.{output_of}
use Rattle.capnp_uses.proofs.RootSetFromPointerTreeLemmas.{added_frame, not_written}
use Rattle.capnp_uses.proofs.setting.set_and_write.Goals as goal

pub returns-clause-written : goal.returns-clause-written
returns-clause-written g c =
    added_frame (output_of c.set_root.new.self) c.new-encoding.result.items c.write_message.new.sink.items c.new-encoding.ensures.items
    (c.in_ok-write_message.ensures.encoding (λ chunk encoding same. same))

pub returns-in_err-write_message-clause-errors : goal.returns-in_err-write_message-clause-errors
returns-in_err-write_message-clause-errors g c =
    let p = err_from_is_err_and c.from_residual-in_err-write_message.result c.from_residual-in_err-write_message.ensures.1 in
    rw (p.1, p.2) (inr (record {
      set = c.in_ok-set_root.ensures.set;
      placed = c.in_ok-set_root.ensures.placed;
      errors = not_written (output_of c.set_root.new.self) c.in_err-write_message.field-0.0
          c.in_err-write_message.ensures.errors c.in_err-write_message.ensures.failed;
    }))

pub returns-in_err-set_root-clause-errors : goal.returns-in_err-set_root-clause-errors
returns-in_err-set_root-clause-errors g c =
    let p = err_from_is_err_and c.from_residual.result c.from_residual.ensures.1 in
    rw (p.1, p.2) (inl (record { cleared = c.in_err-set_root.ensures.nulled; errors = c.in_err-set_root.ensures.kind }))
