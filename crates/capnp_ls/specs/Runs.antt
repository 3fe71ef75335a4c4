-- What a run of the program returns.
use Rattle.std.specs.Prelude.{Result, Ok, Err}
use Rattle.capnp.specs.declared.streams.FailedAt.{FailedAt}
use Rattle.capnp_ls.specs.declared.stop.Stop.{Stop}
use Rattle.capnp_ls.specs.declared.stop.Stop.TheVariants.{Usage, Refused}

-- the same as a run over the messages of a stream; the run of a command never stops with Usage
abbrev pub ForCommand : (Result (Unit {0}) FailedAt → Type 0) → Result (Unit {0}) Stop → Type 0
ForCommand Run (Ok done) = Run (Ok done)
ForCommand Run (Err Usage) = ⊥
ForCommand Run (Err (Refused message error)) = Run (Err (record { message = message; error = error }))
