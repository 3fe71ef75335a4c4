-- Passed on from capnp_layout.
pub use Rattle.capnp_layout.specs.Prelude.{digits, number_of, words_of, words_from, pointer_kind, offset, data_words, pointer_words, code, list_count, has_wide_landing_pad, landing_pad_position, landing_pad_segment}
