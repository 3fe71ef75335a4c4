-- The data words that a copied, perhaps narrower, struct keeps lie within the words that are there.
use Rattle.std.proofs.Common.{◌≡◌, ℕ, ◌+◌, ◌≤◌, subst, arith}
use Rattle.capnp_layout.specs.Prelude.{room_of, IsNarrower}
use Rattle.capnp_layout.specs.declared.pointer.StructSize.{StructSize}
use Rattle.capnp_layout.specs.declared.object.Body.{Body}
use Rattle.capnp_layout.specs.declared.object.Body.TheVariants.{Struct, Numbers, Pointers, Structs}

struct_there_as : (start there : ℕ) (body : Body) (size : StructSize) → IsNarrower body (Struct size) → start + room_of body ≤ there → start + size.data_words ≤ there
struct_there_as start there (Struct from) size narrower room = let less : size.data_words ≤ from.data_words = narrower.0 in omega arith
struct_there_as start there (Numbers from n) size narrower room = absurd narrower
struct_there_as start there (Pointers n) size narrower room = absurd narrower
struct_there_as start there (Structs from following) size narrower room = absurd narrower

pub struct_there : (start there : ℕ) (body copied : Body) (size : StructSize) → copied ≡ Struct size → IsNarrower body copied → start + room_of body ≤ there → start + size.data_words ≤ there
struct_there start there body copied size is narrower room = struct_there_as start there body size (subst (IsNarrower body) is narrower) room
