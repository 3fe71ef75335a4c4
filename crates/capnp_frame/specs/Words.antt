-- Words as values (src/words.rt).
use Rattle.std.specs.Prelude.{ℕ, List}
use Rattle.capnp_frame.specs.declared.words.Word.{Word}

-- the eight bytes of a word, the first in memory first
abbrev pub bytes_of : Word → List ℕ
bytes_of word = word.bytes
