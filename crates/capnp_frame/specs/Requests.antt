-- A message as three requests of a source: the first word of its table, the table's other words,
-- all segments together. Its padding is one that the rule accepts.
use Rattle.std.specs.Prelude.{ℕ, ◌*◌, ◌/◌, List, ◌++◌, length}
use Rattle.std.specs.List.{concat, AllByRecursion}
use Rattle.capnp_frame.specs.Message.{IsWholeWords, lengths, size_in_words}
use Rattle.capnp_frame.specs.declared.serialize.segment_table.Padding.{Padding}
use Rattle.capnp_frame.specs.SegmentTable.{IsTable}
use Rattle.capnp_frame.specs.Source.{Giving}

-- one request gives the words of a table of these lengths after its first word
pub record RestFound (rule : Padding) (gives : Giving) (first lengths raw rest : List ℕ) : Type 0 where
  pub others : List ℕ
  pub given : gives raw (8 * (length lengths / 2)) others rest
  pub table : IsTable rule (first ++ others) lengths

-- two requests give a table of these lengths
pub record TableFound (rule : Padding) (gives : Giving) (lengths raw rest : List ℕ) : Type 0 where
  pub first : List ℕ
  pub others : List ℕ
  pub between : List ℕ
  pub first_given : gives raw 8 first between
  pub others_given : gives between (8 * (length lengths / 2)) others rest
  pub table : IsTable rule (first ++ others) lengths

-- the requests give a message: two of them its table, and a third all of its segments
pub record MessageFound (rule : Padding) (gives : Giving) (segments : List (List ℕ)) (raw rest : List ℕ) : Type 0 where
  pub between : List ℕ
  pub table : TableFound rule gives (lengths segments) raw between
  pub given : gives between (8 * size_in_words segments) (concat segments) rest
  pub whole : AllByRecursion IsWholeWords segments
