-- The definitions that proofs and other crates cite, passed on from one place. Declares nothing.
pub use Rattle.capnp_wire.specs.Canonical.{EndsFull, EndsSome, IsCanon, IsCanonical, IsInPreorder, Padded, TestsAreExact, nth_form}
pub use Rattle.capnp_wire.specs.Copy.{ArePaired, BeginsCopy, BeginsRun, CanCopy, CanCopyByCursor, Copies, CopiesAll, IsCopied, IsCopyable, TakesPair, element_count, put_own}
pub use Rattle.capnp_wire.specs.PointerErrors.{PointerError, NoWord}
pub use Rattle.capnp_wire.specs.Fields.{field}
pub use Rattle.capnp_wire.specs.Hex.{hex_digits}
pub use Rattle.capnp_wire.specs.Layout.{canon, layout}
pub use Rattle.capnp_wire.specs.ListValues.{IsListTree, IsNumbersTree, WalkErrorInList, TooManyNumbers, pointers_along, pointers_in, pointers_of_structs, structs_along, structs_form}
pub use Rattle.capnp_wire.specs.ListViews.{PointersFormError, StructsFormError, HasElements, IsPointerList, IsStructList, PointerList, StructList, TakesPointers, TakesStructs, element_of, pointer_list_of, struct_list_of, structs_in}
pub use Rattle.capnp_wire.specs.Lists.{IsIterator, all_structs, elements_left}
pub use Rattle.capnp_wire.specs.NumberViews.{IsNumbers, numbers_of, sized_numbers_of}
pub use Rattle.capnp_wire.specs.Object.{PointsTo, Shape, message_of, nothing, word_at}
pub use Rattle.capnp_wire.specs.ObjectViews.{IsObjectView, TakesAll}
pub use Rattle.capnp_wire.specs.Parts.{own_data, own_part}
pub use Rattle.capnp_wire.specs.Pointer.{words_of}
pub use Rattle.capnp_wire.specs.Reached.{At, Root, at, root}
pub use Rattle.capnp_wire.specs.Readers.{IsEntered, default_root, form_of, limit_of, nesting_of, pointer_of, struct_of, unlimited_root}
pub use Rattle.capnp_wire.specs.Tested.{Ending, Ends, IsFarAt, IsLaidOut, IsNext, IsTruncated, PointsToNext, MeetsObject, MeetsPointers, NeedData, NeedPointers, NextOf, PaddedOf, Passes, PassesAt, CanonicityError, at_pointer, elsewhere, far, inside, later, links_at, no_first_segment, not_canonical, on_the_walk, over_limit, fails_with}
pub use Rattle.capnp_wire.specs.Traversed.{Counts, CountsMore, EntersObject, EntersRun, TreesWithRoom, Walked, WalkedAll, WalkedTo, Within, counted}
pub use Rattle.capnp_wire.specs.Tree.{Form, Trees, none, null, numbers, pointers, struct, structs, total_words, tree}
pub use Rattle.capnp_wire.specs.Trim.{before}
pub use Rattle.capnp_wire.specs.UpgradedReaders.{pointers_from, struct_elements_of, stepped_places, upgraded_numbers_of, upgraded_pointers_of, upgraded_structs_of, values_of}
pub use Rattle.capnp_wire.specs.UpgradedValues.{IsPointerListValue, IsElementsValue, PointerListValueError, ElementsValueError, numbers_in_structs}
pub use Rattle.capnp_wire.specs.UpgradedViews.{FieldsFormError, FirstPointersFormError, ElementsFormError, IsUpgradedPointers, IsUpgradedStructs, ReadsAsNumbers, ReadsAsPointers, ReadsAsStructs, TakesFields, TakesFirstPointers, TakesAsStructs, elements_without_data, first_fields, first_pointers, number_struct}
pub use Rattle.capnp_wire.specs.Values.{HasPart, HasRoomAt, HasWords, HasPointersSegment, IsBytes, IsCanonicalForm, IsFreeFrom, IsTextTree, IsTreeOf, WordsError, PointsToTree, LongText, ManyBytes, Measured, TreeSizeError, WalkErrorInside, WalkErrorFrom, TreeAt, fields_at, one_value, pointed, starts_with_null}
pub use Rattle.capnp_wire.specs.Views.{Accepts, FormError, NumbersFormError, StructFormError, TextFormError, Denotes, HasData, HasSegment, IsData, IsInvalidPointer, IsStruct, IsText, IsViewOf, IsWords, Measures, MeetsLimit, Pointer, Reads, ViewError, MeasuringError, ObjectError, Shows, Struct, TakesNumbers, TakesStruct, TakesText, at_place, nowhere, pointer_in}
