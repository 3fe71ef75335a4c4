-- What the program prints for messages.
use Rattle.std.specs.Prelude.{◌≡◌, ◌⊎◌, ⊤, ℕ, List, [], ◌∷◌, ◌++◌, length, sum, decimal}
use Rattle.std.specs.List.{flat_map}
use Rattle.capnp.specs.Prelude.{Appending, Leaving, Declining, lengths, size_in_words, default_root, CanonicalFormError, AppendsForm, LeavesForm, FormSinkError, Writing, WritingErrors, Transcodes, TranscodedErrors}
use Rattle.capnp_ls.specs.declared.command.Command.{Command}
use Rattle.capnp_ls.specs.declared.command.Command.TheVariants.{Listing, Transcoding, Canonical}

-- a space and a number
abbrev pub spaced : ℕ → List ℕ
spaced n = 32 ∷ decimal n

-- The line for a message: its index, the number of its segments, the words of all of them, the words of each.
-- Numbers are decimal; a space (32) separates them, and a newline (10) ends the line.
abbrev pub line : ℕ → List (List ℕ) → List ℕ
line index segments = decimal index ++ spaced (length segments) ++ spaced (size_in_words segments) ++ flat_map spaced (lengths segments) ++ 10 ∷ []

-- the line for a message of these lengths, in words
abbrev pub line_of : ℕ → List ℕ → List ℕ
line_of index ns = decimal index ++ spaced (length ns) ++ spaced (sum ns) ++ flat_map spaced ns ++ 10 ∷ []

-- the chunks of a message's canonical form
abbrev pub PrintsForm : Appending → Writing
PrintsForm appends index segments output = AppendsForm (default_root segments) appends output

-- What a sink adds for the message of this index: its line; its chunks, packed or plain; or the chunks of its
-- canonical form.
abbrev pub Prints : Command → Appending → Writing
Prints (Listing format padding) appends index segments output = appends (line index segments) output
Prints (Transcoding way padding) appends index segments output = Transcodes way appends index segments output
Prints (Canonical format) appends index segments output = PrintsForm appends index segments output

-- how writing a message's canonical form may fail: it has none, or the sink fails for a chunk of it
abbrev pub FormErrors : Appending → Leaving → Declining → WritingErrors
FormErrors appends leaves refuses = record {
  message_error = λ index segments. CanonicalFormError (default_root segments);
  sink_error = λ index segments. FormSinkError (default_root segments) refuses;
  takes_memory = λ index segments. ⊤;
  leaves = λ index segments. LeavesForm (default_root segments) appends leaves;
}

-- and how printing for this message may fail: it has no canonical form, or the sink fails for a chunk of what
-- is printed. Memory is taken for a line and for a form; then the sink is left with nothing, or with what it
-- leaves of a chunk.
abbrev pub PrintedErrors : Command → Appending → Leaving → Declining → WritingErrors
PrintedErrors (Listing format padding) appends leaves refuses = record {
  message_error = λ index segments kind. ⊥;
  sink_error = λ index segments. refuses (line index segments);
  takes_memory = λ index segments. ⊤;
  leaves = λ index segments output. (output ≡ []) ⊎ leaves (line index segments) output;
}
PrintedErrors (Transcoding way padding) appends leaves refuses = TranscodedErrors way appends leaves refuses
PrintedErrors (Canonical format) appends leaves refuses = FormErrors appends leaves refuses
