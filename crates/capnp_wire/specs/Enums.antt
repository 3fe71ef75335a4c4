-- Which value of an enum a number stands for (src/upgraded/enum_list.rt).
use Rattle.std.specs.Prelude.{ℕ, ◌++◌, [], nat_eq, nat_lt, pos, if◌then◌else◌}
use Rattle.std.specs.Hash as fed
use Rattle.std.specs.Hash.{HashWrites}

-- What the derived `Hash` of an enum feeds for the value of a number. For a number that the schema
-- names it is the index of the number's variant, which is the number. For any other it is the index of
-- the variant after these, and the number that it keeps. An enum of one variant feeds no index.
abbrev pub hash_of_number : ℕ → ℕ → HashWrites
hash_of_number named number =
    (if nat_lt number named then fed.isize (pos number)
    else ((if nat_eq named 0 then [] else fed.isize (pos named)) ++ fed.u16 number))
