-- Passed on from capnp_layout.
pub use Rattle.capnp_layout.specs.Tree.{is_null}
pub use Rattle.capnp_layout.specs.Prelude.{Form, null, numbers, pointers, struct, structs, Trees, none, tree, count, depth, object_size, total_words}
