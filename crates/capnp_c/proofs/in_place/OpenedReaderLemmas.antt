-- A reader with the numbers of the message at the front is opened.
use Rattle.std.proofs.Common.{◌≡◌, ◌≢◌, ◌-◌, ◌^◌, ◌<◌, ◌≤◌, ℕ, List, Option, Some, None, length, refl, ap, ◌∙◌, arith, length-append}
use Rattle.std.specs.Prelude.{unwrap_or}
use Rattle.std.proofs.lemmas.Bool.Decides.{nat_tests}
use Rattle.capnp_frame.specs.declared.error.ErrorKind.{ErrorKind}
use Rattle.capnp_frame.specs.declared.message.options.ReaderOptions.{ReaderOptions}
use Rattle.capnp_frame.specs.declared.serialize.segment_table.Padding.TheVariants.{Zero}
use Rattle.capnp_frame.specs.Prelude.{table_size, declared_segments}
use Rattle.capnp_frame.proofs.encodings.DeclaredMessageIsFrontFrameLemmas.{holds_from_begins}
use Rattle.capnp_frame.proofs.sinks.JoinedChunkListLemmas.{length-lengths}
use Rattle.capnp_c.specs.Fronts.{IsAtFront, MessageError}
use Rattle.capnp_c.specs.Options.{limit_of_number}
use Rattle.capnp_c.specs.Segments.{segments_from, group_begins}
use Rattle.capnp_c.specs.ReadingExports.{IsReaderOf, OpensMessage}
use Rattle.capnp_c.specs.declared.reading.reader.LinsjoarReader.{LinsjoarReader}
use Rattle.capnp_c.proofs.in_place.SegmentsByGroupLemmas.{segments_there}

-- the number of a limit means this limit
pub limit_back : (limit : Option ℕ) → limit ≢ Some (2 ^ 64 - 1) → limit_of_number (unwrap_or limit (2 ^ 64 - 1)) ≡ limit
limit_back None less = refl
limit_back (Some words) less =
    let other : words ≢ 2 ^ 64 - 1 = λ is. less (ap Some is) in
    grind (arith, nat_tests)

-- the bytes have room for the table of a message at the front
pub room_there : (options : ReaderOptions) (bytes left : List ℕ) (own : List (List ℕ)) (count : ℕ) → IsAtFront options bytes own left → count ≡ length own → table_size count ≤ length bytes
room_there options bytes left own count front counted =
    let holds = holds_from_begins Zero bytes own left options.traversal_limit_in_words (front.encoding, front.is_encoding, front.spelled) front.within in
    omega (arith, holds.holds.room, counted)

-- the numbers of that message
module _ (options : ReaderOptions) (bytes left : List ℕ) (own : List (List ℕ)) (reader : LinsjoarReader) (front : IsAtFront options bytes own left) where
  is_reader : reader.segments ≡ length own → reader.begins ≡ group_begins reader.segments bytes → reader.message_len ≡ length bytes - length left
      → limit_of_number reader.words_left ≡ options.traversal_limit_in_words → reader.nesting_limit ≡ options.nesting_limit → IsReaderOf options bytes reader
  is_reader count begins len limit nesting =
      let holds = holds_from_begins Zero bytes own left options.traversal_limit_in_words (front.encoding, front.is_encoding, front.spelled) front.within in
      let few : reader.segments < 512 = omega (arith, front.within.few, count, length-lengths own) in
      record {
        segments = own;
        rest = left;
        front = front;
        table = (omega (arith, front.within.some, count, length-lengths own), few, omega (arith, holds.holds.room, count));
        segments_are = ap (λ b. segments_from b reader.segments bytes) begins ∙ segments_there reader.segments bytes few
            ∙ ap (λ k. declared_segments k bytes) count ∙ holds.segments_are;
        begins = begins;
        len = omega (arith, len, ap length front.spelled, length-append front.encoding left);
        limit = limit;
        nesting = nesting;
      }

  pub opens_front : ((kind : ErrorKind) → MessageError options bytes kind → ⊥) → reader.segments ≡ length own → reader.begins ≡ group_begins reader.segments bytes
      → reader.message_len ≡ length bytes - length left → limit_of_number reader.words_left ≡ options.traversal_limit_in_words
      → reader.nesting_limit ≡ options.nesting_limit → OpensMessage options bytes reader 0
  opens_front none count begins len limit nesting = record {
    found = λ zero. is_reader count begins len limit nesting;
    accepted = λ segments rest there. refl;
    errors = λ kind errors. absurd (none kind errors);
    stays = λ more. absurd (omega (arith, more));
  }
