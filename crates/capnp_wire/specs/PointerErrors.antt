-- Passed on from capnp_layout.
pub use Rattle.capnp_layout.specs.Prelude.{NoWord, no_segment, past_segment, BadLandingPad, capability_tag, far_again, far_tag, landing_pad_capability, no_content, no_landing_pad, no_tag, not_far, SizeError, list_outside, many_elements, odd_tag, struct_outside, structs_outside, PointerError, bad_landing_pad, capability, misfits, no_start, no_word, too_deep, WalkError, at_pointer, inside, later, over_limit}
