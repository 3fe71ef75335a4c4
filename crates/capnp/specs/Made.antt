-- What contracts of the types of a schema cite, for crates that depend on this crate alone. Declares nothing.
pub use Rattle.capnp_orphans.specs.Adding.{AddsOrphan, AddsRoot, FailsToAdd, Writes}
pub use Rattle.capnp_orphans.specs.Copied.{data_up_to, CopiesPointers}
pub use Rattle.capnp_orphans.specs.Holds.{word_of, HoldsStruct, HoldsStructs, TakesStructWords as StructWords, TakesStructsWords, StructSizeError, ManyStructs}
pub use Rattle.capnp_orphans.specs.Segments.{body_of}
pub use Rattle.capnp_values.specs.DataSections.{with_field}
pub use Rattle.capnp_wire.specs.Constants.{segments_of, root_of, IsDefaultData}
pub use Rattle.capnp_wire.specs.Fields.{field}
pub use Rattle.capnp_wire.specs.Getters.{IsViewBy, IsTextView, IsDataView, IsStructView, IsStructsView, IsDefaultView, IsNumbersView, IsEnumsView, IsPointersView}
pub use Rattle.capnp_wire.specs.Layout.{layout}
pub use Rattle.capnp_wire.specs.ListViews.{element_of}
pub use Rattle.capnp_wire.specs.Object.{nothing}
pub use Rattle.capnp_wire.specs.Pointer.{words_of}
pub use Rattle.capnp_wire.specs.Readers.{struct_of, pointer_of}
pub use Rattle.capnp_wire.specs.Tree.{none as NoTrees, tree as TreeOf, null as NullForm, struct as StructForm, numbers as NumbersForm, pointers as PointersForm, structs as StructsForm}
pub use Rattle.capnp_wire.specs.UpgradedReaders.{upgraded_structs_of, upgraded_numbers_of, upgraded_pointers_of}
pub use Rattle.capnp_wire.specs.UpgradedViews.{IsUpgradedStructs, IsUpgradedPointers, ReadsAsNumbers, TakesAsStructs, TakesFields, TakesFirstPointers, ElementsFormError, FieldsFormError, FirstPointersFormError}
pub use Rattle.capnp_wire.specs.Views.{IsViewOf, IsStruct, IsText, IsData, Accepts, ViewError, FormError, Denotes, Reads, TakesStruct, TakesText, TakesNumbers, StructFormError, TextFormError, NumbersFormError, pointer_in}
