-- What is shown of a message's canonical form (src/hash.rt).
use Rattle.std.specs.Prelude.{◌≡◌, ⊤, ℕ, List, string_bytes}
use Rattle.sha2.specs.Sha256.{sha256}
use Rattle.hex.specs.Hex.{encode_lower}
use Rattle.capnp.specs.Prelude.{Pointer, CanonicalFormError}
use Rattle.capnp_frame.specs.Prelude.{IsWholeWords}
use Rattle.capnp_layout.specs.Prelude.{words_of}
use Rattle.capnp_wire.specs.Prelude.{IsCanonicalForm}
use Rattle.capnp_show.specs.declared.hash.Hash.{Hash}
use Rattle.capnp_show.specs.declared.hash.Hash.TheVariants.{Of, WithoutForm}

-- this is the hash of some bytes, which are the words of the canonical form, and no more
pub record IsHashOf (pointer : Pointer) (hash : List ℕ) : Type 0 where
  pub bytes : List ℕ
  pub form : IsCanonicalForm pointer (words_of bytes)
  pub whole : IsWholeWords bytes
  pub hash_is : hash ≡ sha256 bytes

-- the hash in hexadecimal digits, or the reason why there is no canonical form
abbrev pub ShowsHash : Pointer → Hash → Type 0
ShowsHash pointer (Of digits) = (hash : List ℕ) × IsHashOf pointer hash × (string_bytes digits ≡ encode_lower hash)
ShowsHash pointer (WithoutForm kind) = CanonicalFormError pointer kind

-- a fact about the digits of a hash, where there is one
abbrev pub IfHash : Hash → (List ℕ → Type 0) → Type 0
IfHash (Of digits) fact = fact (string_bytes digits)
IfHash (WithoutForm kind) fact = ⊤
