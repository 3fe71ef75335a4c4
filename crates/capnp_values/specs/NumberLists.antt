-- Lists of numbers (src/number_list.rt). Encoding document, "Lists", the elements of code 0 to 5.
use Rattle.std.specs.Prelude.{◌≡◌, ℕ, ◌-◌, ◌^◌, ◌<◌, ◌≤◌, min, List, length}
use Rattle.capnp_frame.specs.declared.error.ErrorKind.{ErrorKind}
use Rattle.capnp_frame.specs.declared.error.ErrorKind.TheVariants.{AllocationTooLarge}
use Rattle.capnp_layout.specs.Prelude.{numbers, Trees, none, tree}

-- the list of numbers of these bits, whose elements have this code
abbrev pub IsNumberList : ℕ → List ℕ → Trees → Type 0
IsNumberList code bits trees = (length bits < 2 ^ 29) × (trees ≡ tree (numbers code bits) none none)

-- a pointer can't declare this many elements
abbrev pub ManyNumbers : ℕ → ErrorKind → Type 0
ManyNumbers n kind = (2 ^ 29 ≤ n) × (kind ≡ AllocationTooLarge (min n (2 ^ 32 - 1)))
