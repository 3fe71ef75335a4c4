-- Passed on from capnp_layout.
pub use Rattle.capnp_layout.specs.Prelude.{first, following, before, keep_word, cut_zeros, keep_tree, cut_nulls, least_data, least_pointers, narrowed, trim_form, trim_children, trim}
