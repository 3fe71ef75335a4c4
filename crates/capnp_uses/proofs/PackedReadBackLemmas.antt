-- A message that is written packed is read back.
use Rattle.std.proofs.Common.{◌≡◌, ◌⊎◌, inl, inr, ℕ, Result, Ok, Err, IfErr, Option, Some, List, [], ◌++◌, sym, ap, ◌∙◌, subst}
use Rattle.std.specs.Prelude.{slice_index}
use Rattle.std.proofs.lemmas.List.{append-nil}
use Rattle.capnp_frame.specs.declared.error.Error.{Error}
use Rattle.capnp_frame.specs.declared.error.ErrorKind.{ErrorKind}
use Rattle.capnp_frame.specs.declared.error.ErrorKind.TheVariants.{DeviceFailed, OutOfMemory}
use Rattle.capnp_frame.specs.Prelude.{Fails, Adds, KeepsLimit, default_limit, lengths, IsWritable, IsWithinSegmentLimit, TakesMemory}
use Rattle.capnp_frame.specs.declared.serialize.segment_table.Padding.TheVariants.{Zero}
use Rattle.capnp_frame.proofs.encodings.WrittenFrameSizeAndChunksLemmas.{HasTable-writable}
use Rattle.capnp_frame.proofs.encodings.UniqueDivisionIntoEncodingsLemmas.{encodings_part}
use Rattle.capnp_pack.specs.Prelude.{unpacking}
use Rattle.capnp_pack.proofs.encodings.FoundMessageIsPackedFrameLemmas.{packed_requests, packed_encoding_is}
use Rattle.capnp_wire.specs.Prelude.{default_root, Form, root, NoWord, Pointer, Struct, HasData, IsStruct, Reads, ViewError, StructFormError}
use Rattle.capnp.specs.declared.streams.Format.TheVariants.{Packed}
use Rattle.capnp.specs.Prelude.{gives_of, BeginsPacked, NextError, IsPackedEncodingOf}
use Rattle.capnp_uses.specs.Reading.{ShowsPackedStruct}
use Rattle.capnp_uses.specs.Roots.{HasPlainRoot, PackedStructError}
use Rattle.capnp.proofs.SliceStreamReadToItsEndLemmas.{slice_reader_error}
use Rattle.capnp.proofs.MessageWriteLemmas.{IsWithin-written}

packed_read : (limit : Option ℕ) (read message : List (List ℕ)) (encoding left : List ℕ) → BeginsPacked Zero limit read encoding left → IsWritable message → IsPackedEncodingOf message encoding → read ≡ message
packed_read limit read message encoding left begins writable packed =
    let whole = packed_encoding_is Zero encoding message (HasTable-writable message writable) packed in
    (encodings_part Zero unpacking (packed_requests Zero) begins.encoding encoding left [] read message begins.is_encoding whole (sym begins.spelled ∙ sym (append-nil encoding))).1

-- so a root that is written is the root that is read
pub packed_root : (limit : Option ℕ) (form : Form) (read message : List (List ℕ)) (encoding left : List ℕ) → BeginsPacked Zero limit read encoding left → IsWritable message
    → IsPackedEncodingOf message encoding → HasPlainRoot message form → HasPlainRoot read form
packed_root limit form read message encoding left begins writable packed is_at =
    subst (λ (m : List (List ℕ)). HasPlainRoot m form) (sym (packed_read limit read message encoding left begins writable packed)) is_at

-- what is added to nothing
pub added_encoding : (message : List (List ℕ)) (old new : List ℕ) → old ≡ [] → Adds (IsPackedEncodingOf message) old new → IsPackedEncodingOf message new
added_encoding message old new none (encoding, packed, spelled) = subst (λ l. IsPackedEncodingOf message l) (sym (spelled ∙ ap (λ l. l ++ encoding) none)) packed

pub shown_encoding : (message : List (List ℕ)) (encoding shown : List ℕ) → shown ≡ encoding → IsPackedEncodingOf message encoding → IsPackedEncodingOf message shown
shown_encoding message encoding shown same packed = subst (λ l. IsPackedEncodingOf message l) (sym same) packed

-- why a reader of a packed encoding stops
pub packed_fails : (kind : ErrorKind) (old new : List ℕ) → (kind ≡ DeviceFailed → Fails 0 0)
    → (kind ≡ DeviceFailed) ⊎ ((kind ≡ OutOfMemory) × TakesMemory Zero (gives_of Packed) default_limit old new)
    ⊎ NextError Zero Packed default_limit kind old new → PackedStructError old kind
packed_fails kind old new failed errors = elim (slice_reader_error Zero Packed default_limit kind old new failed errors) [
  | inl memory ↦ inl memory
  | inr ends ↦ inr (inl ends)
]

-- why no struct is read from an encoding
pub packed_struct_error : {X : Type 0} (A B C : ErrorKind → Type 0) (message : List (List ℕ)) (encoding : List ℕ) (r : Result X Error) → IsPackedEncodingOf message encoding
    → IfErr r (λ e. PackedStructError encoding e.kind)
    → IfErr r (λ e. A e.kind ⊎ B e.kind ⊎ C e.kind ⊎ ((spelled : List ℕ) × IsPackedEncodingOf message spelled × PackedStructError spelled e.kind))
packed_struct_error A B C message encoding (Ok x) is errors = tt
packed_struct_error A B C message encoding (Err e) is errors = inr (inr (inr (encoding, is, errors)))

-- or no struct is at the root
pub no_struct_error : (encoding : List ℕ) (segments : List (List ℕ)) (left : List ℕ) (pointer : Pointer) (kind : ErrorKind) → pointer ≡ default_root segments
    → BeginsPacked Zero default_limit segments encoding left → NoWord pointer.message root kind ⊎ ViewError pointer StructFormError kind → PackedStructError encoding kind
no_struct_error encoding segments left pointer kind same begins form_errors =
    let at_root = subst (λ (p : Pointer). NoWord p.message root kind ⊎ ViewError p StructFormError kind) same form_errors in
    inr (inr (inr (segments, left, begins, at_root)))

-- a packed message is at the front of its encoding
pub begins_packed : (limit : Option ℕ) (message : List (List ℕ)) (encoding : List ℕ) → IsWritable message → IsWithinSegmentLimit message → KeepsLimit (lengths message) limit
    → IsPackedEncodingOf message encoding → BeginsPacked Zero limit message encoding []
begins_packed limit message encoding writable few size packed = record {
  encoding = encoding;
  is_encoding = packed_encoding_is Zero encoding message (HasTable-writable message writable) packed;
  within = IsWithin-written message limit writable few size;
  spelled = sym (append-nil encoding);
}

-- the words of the struct at its root
pub shows_packed : (message : List (List ℕ)) (encoding left : List ℕ) (pointer : Pointer) (fields : Struct) (first second : ℕ) → pointer ≡ default_root message
    → BeginsPacked Zero default_limit message encoding left → IsStruct pointer fields → first ≡ slice_index fields.words 0 → second ≡ slice_index fields.words 1
    → ShowsPackedStruct encoding (first, second)
shows_packed message encoding left pointer fields first second same begins is first_is second_is =
    let shown = is.shown in
    let read : Reads pointer (λ form. HasData form fields.words) = (shown.0, shown.1, (shown.2.0, shown.2.2)) in
    let pair : (first, second) ≡ (slice_index fields.words 0, slice_index fields.words 1) = cc in
    (message, left, begins, (fields.words, subst (λ (p : Pointer). Reads p (λ form. HasData form fields.words)) same read, pair))
