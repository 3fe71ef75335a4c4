-- What contracts see of readers of messages (src/reader.rt, src/typed_reader.rt).
use Rattle.std.specs.Prelude.{ℕ, ◌≡◌, List, Some}
use Rattle.capnp_frame.specs.declared.message.options.ReaderOptions.{ReaderOptions}
use Rattle.capnp_layout.specs.Prelude.{message_of, word_at, root}
use Rattle.capnp_wire.specs.Prelude.{nesting_of, Pointer}

-- a message that is read: its segments, and the options of its reader
pub record ReadMessage (S : Type 0) : Type 0 where
  pub segments : S
  pub options : ReaderOptions

-- the root pointer of a message that is read
abbrev pub root_of : {S : Type 0} → (S → List (List ℕ)) → ReadMessage S → Pointer
root_of segments reader = record {
  message = message_of (segments reader.segments);
  place = Some root;
  nesting = nesting_of reader.options.nesting_limit;
  limit = reader.options.traversal_limit_in_words;
}

-- there is a word for the root
abbrev pub HasRoot : Pointer → Type 0
HasRoot pointer = (word : ℕ) × (word_at pointer.message root ≡ Some word)
