-- The line that reports a stop.
use Rattle.std.specs.Prelude.{◌≡◌, ℕ, List, [], ◌∷◌, ◌++◌, codes, decimal}
use Rattle.capnp.specs.Prelude.{kind_number, ErrorKind, Error}
use Rattle.capnp_ls.specs.declared.stop.Stop.{Stop}
use Rattle.capnp_ls.specs.declared.stop.Stop.TheVariants.{Usage, Refused}

-- a line's end
abbrev pub newline : List ℕ
newline = 10 ∷ []

abbrev pub usage_line : List ℕ
usage_line = codes "usage: capnp_ls list [--packed] [--lenient] | pack [--lenient] | unpack [--lenient] | canon [--packed]" ++ newline

-- how the line for an error begins: the message's index and the number of the kind
abbrev pub error_front : ℕ → ErrorKind → List ℕ
error_front message kind = codes "capnp_ls: message " ++ (decimal message ++ (codes ": error " ++ (decimal (kind_number kind) ++ codes " ")))

-- `line` reports the stop; the wording for an error is left open
abbrev pub IsLineOf : Stop → List ℕ → Type 0
IsLineOf Usage line = line ≡ usage_line
IsLineOf (Refused message error) line = (reason : List ℕ) × (line ≡ error_front message error.kind ++ (reason ++ newline))

-- `line` says why a stream of this name failed; the wording of the reason is left open
abbrev pub IsDeviceErrorLine : List ℕ → List ℕ → Type 0
IsDeviceErrorLine name line = (reason : List ℕ) × (line ≡ codes "capnp_ls: " ++ (name ++ (codes ": " ++ (reason ++ newline))))

-- the status that the program ends with
abbrev pub status_of : Stop → ℕ
status_of Usage = 2
status_of (Refused message error) = 1

-- the stop is an error of this kind in front of the first message
abbrev pub IsAtStart : Stop → ErrorKind → Type 0
IsAtStart stop kind = (error : Error) × (stop ≡ Refused 0 error) × (error.kind ≡ kind)
