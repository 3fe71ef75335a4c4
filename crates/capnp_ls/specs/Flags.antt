-- The flags that are given instead of a command.
use Rattle.std.specs.Prelude.{◌≡◌, ◌⊎◌, ℕ, List, [], ◌∷◌, codes}
use Rattle.capnp_ls.specs.declared.flags.Flag.{Flag}
use Rattle.capnp_ls.specs.declared.flags.Flag.TheVariants.{Help, Version}
use Rattle.capnp_ls.specs.declared.flags.TheConstants.{HELP, VERSION}

-- these words, each as its bytes, are the flag
abbrev pub IsFlag : Flag → List (List ℕ) → Type 0
IsFlag Help words = (words ≡ codes "--help" ∷ []) ⊎ (words ≡ codes "-h" ∷ []) ⊎ (words ≡ codes "help" ∷ [])
IsFlag Version words = (words ≡ codes "--version" ∷ []) ⊎ (words ≡ codes "-V" ∷ [])

-- the bytes that it prints
abbrev pub lines_of : Flag → List ℕ
lines_of Help = HELP.now
lines_of Version = VERSION.now
