-- An object that was entered is read from the bytes at its start, and takes its words off the limit. Null is read, too.
use Rattle.std.proofs.Common.{◌≡◌, ℕ, ◌+◌, ◌-◌, ◌*◌, ◌/◌, ◌<◌, ◌≤◌, ◌^◌, List, Option, Some, None, map, length, take, drop, slice_index_or, Result, Ok, Err, MatchResult, inr, refl, sym, ap, ◌∙◌, subst, arith, length-take, length-drop}
use Rattle.std.proofs.lemmas.List.{take-take, get_or-drop}
use Rattle.std.specs.Simd.{first_chunks}
use Rattle.capnp_frame.specs.declared.error.Error.{Error}
use Rattle.capnp_frame.specs.declared.error.ErrorKind.{ErrorKind}
use Rattle.capnp_layout.specs.Prelude.{Form, words_of, words_from, words_for, room_of, shape_of, number_of, digits, elements, numbers, places, less, nothing, Within}
use Rattle.capnp_layout.specs.declared.element_size.ElementSize.TheVariants.{Byte}
use Rattle.capnp_layout.specs.declared.object.Body.TheVariants.{Struct, Numbers}
use Rattle.capnp_layout.specs.declared.pointer.StructSize.{StructSize}
use Rattle.capnp_layout.proofs.objects.ByteListElementLemmas.{elements_are_bytes}
use Rattle.capnp_layout.proofs.words.PutBytesAsWordsLemmas.{words_part}
use Rattle.capnp_wire.specs.Prelude.{Pointer, Denotes, at_place, HasData, Reads, form_of}
use Rattle.capnp_wire.proofs.views.EnteredObjectShownLemmas.{numbers_form, struct_shows, entered_reads}
use Rattle.capnp_c.specs.Entering.{Enters}
use Rattle.capnp_c.specs.Reading.{words_at, ShowsStruct, TakesOff, ReadError}
use Rattle.capnp_c.specs.Options.{limit_of_number}
use Rattle.capnp_c.specs.declared.reading.entered.Entered.{Entered}
use Rattle.capnp_c.specs.declared.reading.structs.LinsjoarStruct.{LinsjoarStruct}

-- the first words of an object are words of the bytes from its begin on
pub words_there : (p : Pointer) (bytes : List ℕ) (entered : Entered) (n : ℕ) → Enters p bytes entered → n ≤ room_of entered.object.body
    → words_from (words_of entered.object.segment.now) entered.object.start.word n ≡ words_from (words_of (drop entered.start bytes)) 0 n
words_there p bytes entered n enters few =
    let room = room_of entered.object.body in
    let rest = drop entered.start bytes in
    let fits : 0 + room ≤ length rest / 8 = omega (arith, enters.within, length-drop entered.start bytes) in
    let all = enters.words ∙ words_part 0 room rest fits in
    sym (take-take n room (drop entered.object.start.word (words_of entered.object.segment.now)) few)
    ∙ ap (take n) all
    ∙ take-take n room (drop 0 (words_of rest)) few

-- the elements of a list of bytes are its bytes
pub bytes_form : (p : Pointer) (bytes : List ℕ) (entered : Entered) (count : ℕ) → Enters p bytes entered → entered.object.body ≡ Numbers Byte count
    → ((i : ℕ) → slice_index_or bytes i 0 < 256) → form_of entered.object ≡ numbers 2 (take count (drop entered.start bytes))
bytes_form p bytes entered count enters body fits =
    let rest = drop entered.start bytes in
    let n = words_for count 8 in
    let room : room_of entered.object.body ≡ n = ap room_of body in
    let same = words_there p bytes entered n enters (omega (arith, room)) in
    let list : List ℕ → List ℕ = λ l. digits 256 count (number_of (2 ^ 64) l) in
    let below : (i : ℕ) → slice_index_or rest i 0 < 256 = λ i. rw get_or-drop (fits (entered.start + i)) in
    let inside : 0 + n ≤ length rest / 8 = omega (arith, room, enters.within, length-drop entered.start bytes) in
    let own : take count rest ≡ elements (words_of entered.object.segment.now) entered.object.start.word 2 count =
    elements_are_bytes rest 0 count below inside ∙ sym (ap list same) in
    numbers_form entered.object Byte count (take count rest) body own

-- and the data of a struct is its bytes
pub data_words_there : (p : Pointer) (bytes : List ℕ) (entered : Entered) (size : StructSize) → Enters p bytes entered → entered.object.body ≡ Struct size
    → words_at bytes entered.start (8 * size.data_words) ≡ words_from (words_of entered.object.segment.now) entered.object.start.word size.data_words
data_words_there p bytes entered size enters body =
    let rest = drop entered.start bytes in
    let d = size.data_words in
    let own = take (8 * d) rest in
    let room : room_of entered.object.body ≡ d + size.pointers = ap room_of body in
    let inside : 0 + d ≤ length rest / 8 = omega (arith, room, enters.within, length-drop entered.start bytes) in
    let long : length own ≡ 8 * d = omega (arith, length-take (8 * d) rest) in
    let count : (8 * d + 7) / 8 ≡ length own / 8 = omega (arith, long) in
    ap (λ k. map (number_of 256) (first_chunks 8 k own)) count
    ∙ words_part 0 d rest inside
    ∙ sym (words_there p bytes entered d enters (omega (arith, room)))

-- an object takes its words off the limit
pub object_takes_off : (p : Pointer) (bytes : List ℕ) (entered : Entered) → Enters p bytes entered → TakesOff p entered.words_left
object_takes_off p bytes entered enters = (
  record (shape_of (words_of entered.object.segment.now) entered.object.start entered.object.body) { traversed = entered.object.traversed },
  at_place enters.object.is_at enters.object.object_is.object (λ not. enters.object.nesting),
  enters.left,
)

-- what a call does with an object, it does with what the pointer points to
pub entered_rejects : (p : Pointer) (bytes : List ℕ) (entered : Entered) (form_error : Form → ErrorKind → Type 0) (kind : ErrorKind) → Enters p bytes entered
    → form_error (form_of entered.object) kind → ReadError p form_error kind
entered_rejects p bytes entered form_error kind enters error = inr (
  record (shape_of (words_of entered.object.segment.now) entered.object.start entered.object.body) { traversed = entered.object.traversed },
  at_place enters.object.is_at enters.object.object_is.object (λ not. enters.object.nesting),
  (enters.object.within, error),
)

pub entered_read : {V : Type 0} (p : Pointer) (bytes : List ℕ) (entered : Entered) (shows : V → Form → Type 0) (within : V → Type 0) (left : V → ℕ)
    (form_error : Form → ErrorKind → Type 0) (result : Result V Error) → Enters p bytes entered
    → MatchResult result (λ v. shows v (form_of entered.object) × within v × (left v ≡ entered.words_left)) (λ error. form_error (form_of entered.object) error.kind)
    → MatchResult result (λ v. (Reads p (shows v) × within v) × TakesOff p (left v)) (λ error. ReadError p form_error error.kind)
entered_read p bytes entered shows within left form_error (Ok v) enters holds =
    ((entered_reads p entered.object (shows v) enters.object holds.0, holds.1), subst (TakesOff p) (sym holds.2) (object_takes_off p bytes entered enters))
entered_read p bytes entered shows within left form_error (Err error) enters holds = entered_rejects p bytes entered form_error error.kind enters holds

-- and null takes nothing
less_nothing : (limit : Option ℕ) → limit ≡ less limit 0
less_nothing None = refl
less_nothing (Some most) = ap Some (omega arith)

pub nothing_taken_off : (p : Pointer) (words_left : ℕ) → p.limit ≡ limit_of_number words_left → Denotes p nothing → TakesOff p words_left
nothing_taken_off p words_left limit null_there = (nothing, null_there, sym limit ∙ less_nothing p.limit)

within_nothing : (limit : Option ℕ) → Within limit 0
within_nothing None = tt
within_nothing (Some most) = omega arith

pub nothing_within : (p : Pointer) → Within p.limit 0
nothing_within p = within_nothing p.limit

-- the struct that is written for an object
pub struct_there : (p : Pointer) (bytes : List ℕ) (entered : Entered) (size : StructSize) (fields : LinsjoarStruct) → Enters p bytes entered
    → entered.object.body ≡ Struct size → fields ≡ record {
      start = entered.start;
      data_len = 8 * size.data_words;
      first = record { word = entered.object.start.word + size.data_words; segment = entered.object.start.segment; nesting = entered.nesting; is_there = 1 };
      pointers = size.pointers;
    } → ShowsStruct p bytes fields
struct_there p bytes entered size fields enters body is =
    let room : room_of entered.object.body ≡ size.data_words + size.pointers = ap room_of body in
    let extent : fields.start + fields.data_len ≡ entered.start + 8 * size.data_words = ap (λ (f : LinsjoarStruct). f.start + f.data_len) is in
    let words : words_at bytes fields.start fields.data_len ≡ words_from (words_of entered.object.segment.now) entered.object.start.word size.data_words =
    ap (λ (f : LinsjoarStruct). words_at bytes f.start f.data_len) is ∙ data_words_there p bytes entered size enters body in
    let children : places fields.first.segment fields.first.word fields.pointers
    ≡ places entered.object.start.segment (entered.object.start.word + size.data_words) size.pointers =
    ap (λ (f : LinsjoarStruct). places f.first.segment f.first.word f.pointers) is in
    let there = struct_shows p entered.object size enters.object body in (
      record {
        same_message = refl;
        shown = (there.0, there.1, (subst (λ l. HasData there.0.form l) (sym words) there.2.0, children ∙ there.2.1, there.2.2));
        nesting_below = ap (λ (f : LinsjoarStruct). f.first.nesting) is ∙ enters.nesting;
        same_limit = refl;
      },
      omega (arith, extent, room, enters.within),
    )

-- and for null
pub no_struct_there : (p : Pointer) (bytes : List ℕ) (fields : LinsjoarStruct) → Denotes p nothing → fields.start ≡ 0 → fields.data_len ≡ 0 → fields.pointers ≡ 0
    → fields.first.nesting ≡ p.nesting - 1 → ShowsStruct p bytes fields
no_struct_there p bytes fields null_there start data_len pointers nesting = (
  record {
    same_message = refl;
    shown = (nothing, null_there, (ap (λ n. words_at bytes fields.start n) data_len, ap (λ n. places fields.first.segment fields.first.word n) pointers, nothing_within p));
    nesting_below = nesting;
    same_limit = refl;
  },
  omega (arith, start, data_len),
)
