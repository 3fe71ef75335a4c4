-- Passed on from capnp_layout.
pub use Rattle.capnp_layout.specs.Object.{following}
pub use Rattle.capnp_layout.specs.Prelude.{message_of, word_at, places, landing_pad, landing_pad_tag, IsFar, Origin, exactly, Target, Lands, double_far, far, local, IsStart, Shape, elements_from, pointer_places, struct_shape, elements, numbers_shape, pointers_shape, structs_shape, ShapeIsAt, a_struct, some_numbers, some_pointers, some_structs, nothing, PointsTo, is_null, is_object}
