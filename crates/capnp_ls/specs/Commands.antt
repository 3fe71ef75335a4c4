-- The lists of words that the program takes.
use Rattle.std.specs.Prelude.{◌≡◌, ◌⊎◌, ℕ, List, [], ◌∷◌, codes}
use Rattle.capnp.specs.Prelude.{Padding, Any, Zero, input_of as way_input}
use Rattle.capnp.specs.declared.streams.Format.{Format}
use Rattle.capnp.specs.declared.streams.Format.TheVariants.{Framed, Packed}
use Rattle.capnp.specs.declared.transcoding.Way.TheVariants.{Pack, Unpack}
use Rattle.capnp_ls.specs.declared.command.Command.{Command}
use Rattle.capnp_ls.specs.declared.command.Command.TheVariants.{Listing, Transcoding, Canonical}

-- these words, each as its bytes, are the options of a format and a rule of padding; two come in either order
abbrev pub AreOptions : Format → Padding → List (List ℕ) → Type 0
AreOptions Framed Zero words = words ≡ []
AreOptions Packed Zero words = words ≡ codes "--packed" ∷ []
AreOptions Framed Any words = words ≡ codes "--lenient" ∷ []
AreOptions Packed Any words =
    (words ≡ codes "--packed" ∷ codes "--lenient" ∷ []) ⊎ (words ≡ codes "--lenient" ∷ codes "--packed" ∷ [])

-- what a command reads
abbrev pub command_input : Command → Format
command_input (Listing format padding) = format
command_input (Transcoding way padding) = way_input way
command_input (Canonical format) = format

-- and by which rule of padding
abbrev pub padding_of : Command → Padding
padding_of (Listing format padding) = padding
padding_of (Transcoding way padding) = padding
padding_of (Canonical format) = Zero

-- the name of a command
abbrev pub name_of : Command → List ℕ
name_of (Listing format padding) = codes "list"
name_of (Transcoding Pack padding) = codes "pack"
name_of (Transcoding Unpack padding) = codes "unpack"
name_of (Canonical format) = codes "canon"

-- the format that its options say; `pack` and `unpack` have no option for it
abbrev pub option_format : Command → Format
option_format (Listing format padding) = format
option_format (Transcoding way padding) = Framed
option_format (Canonical format) = format

-- these words are a command: its name, and then its options
abbrev pub IsCommand : Command → List (List ℕ) → Type 0
IsCommand command words =
    (options : List (List ℕ)) × (words ≡ name_of command ∷ options) × AreOptions (option_format command) (padding_of command) options
