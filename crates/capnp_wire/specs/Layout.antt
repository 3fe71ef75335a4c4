-- Passed on from capnp_layout.
pub use Rattle.capnp_layout.specs.Prelude.{struct_pointer, list_pointer, far_pointer, minus_one, pointer, run, element_runs, slots, pointers_to, woven, own, body, pointer_to, layout, canon, output, HasRoom, AllHaveRoom, Reaches, AllReach, placed, Laid, AllWords, Trimmed}
