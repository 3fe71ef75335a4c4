-- Where the requests of a message find it, its packed encoding begins what is unread. No packed encoding is the
-- start of a different one.
use Rattle.std.proofs.Common.{◌≡◌, ◌++◌, ℕ, Option, Some, None, IfSome, Result, Ok, Err, IfOk, List}
use Rattle.capnp_frame.specs.declared.error.Error.{Error}
use Rattle.capnp_frame.specs.declared.serialize.segment_table.Padding.{Padding}
use Rattle.capnp_frame.specs.Prelude.{IsWithin, IfKnown, MessageFound, lengths}
use Rattle.capnp_frame.proofs.sources.JoinedRequestPartsLemmas.{IfKnown-weaker}
use Rattle.capnp_frame.proofs.tables.UniqueTableLengthsLemmas.{any_table}
use Rattle.capnp_frame.proofs.encodings.UniqueDivisionIntoEncodingsLemmas.{encodings_part}
use Rattle.capnp_frame.specs.declared.serialize.segment_table.Padding.TheVariants.{Any}
use Rattle.capnp_pack.specs.Prelude.{IsPackedFrame, PackedFound, Unpacks, unpacking}
use Rattle.capnp_pack.proofs.encodings.FoundMessageIsPackedFrameLemmas.{packed_requests}

-- the readers over a packed source, in packed encodings
pub found_packed : (rule : Padding) (r : Result (Option (List (List ℕ))) Error) (old new : Option (List ℕ))
    → IfOk r (λ found. IfSome found (λ segments. IfKnown old new (MessageFound rule Unpacks segments)))
    → IfOk r (λ found. IfSome found (λ segments. IfKnown old new (PackedFound rule segments)))
found_packed rule (Ok None) old new found = tt
found_packed rule (Ok (Some segments)) old new found = IfKnown-weaker old new (λ raw rest. (packed_requests rule segments raw rest).0) found
found_packed rule (Err e) old new found = tt

pub accepted_packed : (rule : Padding) (limit : Option ℕ) (F : List (List ℕ) → Type 0) (old : Option (List ℕ))
    → IfSome old (λ raw. (m : List (List ℕ)) (rest : List ℕ) → MessageFound rule Unpacks m raw rest → IsWithin m limit → F m)
    → IfSome old (λ raw. (m : List (List ℕ)) (rest : List ℕ) → PackedFound rule m raw rest → IsWithin m limit → F m)
accepted_packed rule limit F None accepted = tt
accepted_packed rule limit F (Some raw) accepted = λ m rest is_found within. accepted m rest ((packed_requests rule m raw rest).1 is_found) within

-- a packed encoding by a rule is one of any padding
any_packed : {rule : Padding} (encoding : List ℕ) (segments : List (List ℕ)) → IsPackedFrame rule encoding segments → IsPackedFrame Any encoding segments
any_packed encoding segments frame = record {
  first = frame.first;
  others = frame.others;
  one_word = frame.one_word;
  table = any_table (frame.first ++ frame.others) (lengths segments) frame.table;
  whole = frame.whole;
  first_encoding = frame.first_encoding;
  others_encoding = frame.others_encoding;
  segments_encoding = frame.segments_encoding;
  first_packed = frame.first_packed;
  others_packed = frame.others_packed;
  segments_packed = frame.segments_packed;
  spelled = frame.spelled;
}

-- no packed encoding is the start of a different one
pub packed_frames_part : (rule also : Padding) (encoding other rest left : List ℕ) (segments others : List (List ℕ))
    → IsPackedFrame rule encoding segments → IsPackedFrame also other others → encoding ++ rest ≡ other ++ left
    → (encoding ≡ other) × (segments ≡ others) × (rest ≡ left)
packed_frames_part rule also encoding other rest left segments others is so =
    encodings_part Any unpacking (packed_requests Any) encoding other rest left segments others (any_packed encoding segments is) (any_packed other others so)
