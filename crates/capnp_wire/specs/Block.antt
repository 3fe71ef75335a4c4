-- Passed on from capnp_layout.
pub use Rattle.capnp_layout.specs.Prelude.{word_numbers, put, put_data_sections, fill, moved, most_used}
