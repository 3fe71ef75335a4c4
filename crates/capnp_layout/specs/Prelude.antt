-- The definitions that proofs and other crates cite, passed on from one place. Declares nothing.
pub use Rattle.capnp_layout.specs.Block.{fill, most_used, moved, word_numbers, put, put_data_sections}
pub use Rattle.capnp_layout.specs.Body.{IsObject, room_of, shape_of, traversed_of, words_in}
pub use Rattle.capnp_layout.specs.Element.{code_of, width, words_for}
pub use Rattle.capnp_layout.specs.PointerErrors.{BadLandingPad, PointerError, NoWord, SizeError, WalkError, at_pointer, bad_landing_pad, capability, capability_tag, far_again, far_tag, inside, landing_pad_capability, later, list_outside, many_elements, misfits, no_content, no_landing_pad, no_segment, no_start, no_tag, no_word, not_far, odd_tag, over_limit, past_segment, struct_outside, structs_outside, too_deep}
pub use Rattle.capnp_layout.specs.Landing.{HasWideLandingPad, IsLanding, NotLocal}
pub use Rattle.capnp_layout.specs.Layout.{AllHaveRoom, AllReach, AllWords, HasRoom, Laid, Reaches, Trimmed, body, canon, far_pointer, layout, link, list_pointer, minus_one, output, own, placed, pointer, pointer_to, pointers_to, element_runs, run, slots, struct_pointer, woven}
pub use Rattle.capnp_layout.specs.Limits.{too_large}
pub use Rattle.capnp_layout.specs.Local.{AreNull, IsNullOrEmptyStruct, empty_struct, local_struct_of, object_of, pointers_of, structs_of}
pub use Rattle.capnp_layout.specs.Object.{IsFar, IsStart, Lands, Origin, PointsTo, Shape, ShapeIsAt, Target, a_struct, double_far, elements, exactly, far, is_null, is_object, landing_pad, landing_pad_tag, local, message_of, nothing, numbers_shape, places, pointers_shape, pointer_places, elements_from, some_numbers, some_pointers, some_structs, struct_shape, structs_shape, word_at}
pub use Rattle.capnp_layout.specs.Output.{IsNarrower, least_size, list_length, output_body_of, pointer_of_body}
pub use Rattle.capnp_layout.specs.Pointer.{code, data_words, digits, has_wide_landing_pad, landing_pad_position, landing_pad_segment, list_count, number_of, offset, pointer_kind, pointer_words, words_from, words_of}
pub use Rattle.capnp_layout.specs.PointerWord.{IsElementsTag, IsFarPointer, IsLocal, IsLocalShape}
pub use Rattle.capnp_layout.specs.Reached.{At, Below, IsIn, Root, at, directly, further, here, nowhere, root, there}
pub use Rattle.capnp_layout.specs.PointerSections.{TakesSlot, end_of, first_section, kept_in, kept_places, places_in, section_count, section_sizes, section_slots, segment_of, slots_in, slots_of}
pub use Rattle.capnp_layout.specs.Traversed.{IsPastLimit, TreesAt, Within, less}
pub use Rattle.capnp_layout.specs.Tree.{Form, Trees, count, depth, none, null, numbers, object_size, pointers, struct, structs, total_words, tree}
pub use Rattle.capnp_layout.specs.Trim.{before, cut_nulls, cut_zeros, first, following, keep_tree, keep_word, least_data, least_pointers, narrowed, trim, trim_children, trim_form}
