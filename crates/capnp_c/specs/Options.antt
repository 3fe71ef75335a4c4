-- The options that C passes (src/options.rt), as the readers below take them.
use Rattle.std.specs.Prelude.{ℕ, ◌-◌, ◌^◌, ◌==◌, if◌then◌else◌, Option, Some, None}
use Rattle.capnp_frame.specs.declared.message.options.ReaderOptions.{ReaderOptions}
use Rattle.capnp_c.specs.declared.options.LinsjoarOptions.{LinsjoarOptions}

-- this many words; the largest number stands for no limit
abbrev pub limit_of_number : ℕ → Option ℕ
limit_of_number words = if words == 2 ^ 64 - 1 then None else Some words

abbrev pub options_of : LinsjoarOptions → ReaderOptions
options_of options = record {
  traversal_limit_in_words = limit_of_number options.traversal_limit_in_words;
  nesting_limit = options.nesting_limit;
}
