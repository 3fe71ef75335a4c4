-- What a packed chunk adds to a sink, and with which kinds it may fail.
use Rattle.std.specs.Prelude.{◌≡◌, ℕ, ◌⊎◌, List, []}
use Rattle.std.specs.List.{concat}
use Rattle.capnp_frame.specs.declared.error.ErrorKind.TheVariants.{NotWholeWords}
use Rattle.capnp_frame.specs.Prelude.{IsWholeWords, Unless, Appending, Leaving, Declining, AnyChunkError, AppendsAll, LeavesSome}
use Rattle.capnp_pack.specs.Packed.{Packs}

-- what the sink adds for the parts of the packed encoding, however that is cut into parts
abbrev pub AppendsPacked : Appending → Appending
AppendsPacked appends chunk encoding = (parts : List (List ℕ)) × Packs chunk (concat parts) × AppendsAll appends parts encoding

-- what a call that fails leaves of these parts: the first ones, and of the next one what the sink leaves of it
abbrev pub LeavesPacked : Appending → Leaving → Leaving
LeavesPacked appends leaves chunk encoding = (encoding ≡ []) ⊎ ((parts : List (List ℕ)) × Packs chunk (concat parts) × LeavesSome appends leaves parts encoding)

-- it isn't whole words, or the sink fails for some chunk
abbrev pub PackedChunkError : Declining → Declining
PackedChunkError refuses chunk kind = Unless (IsWholeWords chunk → ⊥) (kind ≡ NotWholeWords) (AnyChunkError refuses kind)
