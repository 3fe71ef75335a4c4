-- Passed on from capnp_layout.
pub use Rattle.capnp_layout.specs.Prelude.{At, at, nowhere, root, Root, IsIn, here, there, Below, directly, further}
