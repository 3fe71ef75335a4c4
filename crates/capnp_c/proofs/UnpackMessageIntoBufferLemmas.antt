-- A packed message that is unpacked into a buffer, whose first bytes are then its framed encoding, or the kind of
-- the error.
use Rattle.std.proofs.Common.{◌≡◌, ℕ, ◌≤◌, ◌⊎◌, inl, inr, Some, List, [], length, take, drop, sym, ap, ◌∙◌, subst, arith, length-append, length-drop}
use Rattle.std.proofs.lemmas.List.{append-nil, take_at}
use Rattle.capnp_frame.specs.declared.error.ErrorKind.{ErrorKind}
use Rattle.capnp_frame.specs.declared.error.ErrorKind.TheVariants.{DeviceFailed}
use Rattle.capnp_frame.specs.declared.message.options.ReaderOptions.{ReaderOptions}
use Rattle.capnp_frame.specs.declared.serialize.segment_table.Padding.TheVariants.{Zero}
use Rattle.capnp_frame.specs.Prelude.{HasFrame, IsWithin, StreamError, Fails}
use Rattle.capnp_frame.proofs.sources.JoinedCallsAdvanceSourceLemmas.{never_fails}
use Rattle.capnp_pack.specs.Prelude.{PackedFound, Unpacks, ChunkError, none_unpacked}
use Rattle.capnp_pack.proofs.encodings.FoundMessageIsPackedFrameLemmas.{packed_requests}
use Rattle.capnp_c.specs.Packing.{IsMessage}

-- the first bytes of a buffer are a framed encoding, and no more
pub front_message : (options : ReaderOptions) (bytes : List ℕ) (segments : List (List ℕ)) (n : ℕ) → HasFrame Zero bytes segments (drop n bytes) → n ≤ length bytes
    → IsWithin segments options.traversal_limit_in_words → IsMessage options (take n bytes) segments
front_message options bytes segments n (encoding, frame, e) room within =
    let long : length encoding ≡ n = omega (arith, ap length e, length-append encoding (drop n bytes), length-drop n bytes) in
    let front : take n bytes ≡ encoding = ap (take n) e ∙ take_at encoding (drop n bytes) n long in
    record { encoding = encoding; is_encoding = frame; within = within; spelled = front ∙ sym (append-nil encoding) }

-- how many packed bytes it took
pub taken : (segments : List (List ℕ)) (packed rest : List ℕ) → PackedFound Zero segments packed rest → length rest ≤ length packed
taken segments packed rest (encoding, frame, e) = omega (arith, ap length e, length-append encoding rest)

-- where there are no bytes, there is no packed message
pub none_found : (segments : List (List ℕ)) (packed rest : List ℕ) → PackedFound Zero segments packed rest → packed ≡ [] → ⊥
none_found segments packed rest is_found none =
    let requests = (packed_requests Zero segments packed rest).1 is_found in
    let first = requests.table.first_given in
    let some = none_unpacked 8 requests.table.first requests.table.between (subst (λ raw. Unpacks raw 8 requests.table.first requests.table.between) none first) in
    absurd (omega (arith, some))

-- a slice fails with the first line that holds
pub own_kind : (own kind : ErrorKind) → (own ≡ DeviceFailed) ⊎ (own ≡ kind) → (own ≡ DeviceFailed → Fails 0 0) → own ≡ kind
own_kind own kind (inl device) failed = absurd (never_fails own failed device)
own_kind own kind (inr same) failed = same

-- a buffer keeps its length
pub in_room : (options : ReaderOptions) (packed left : List ℕ) (kind : ErrorKind) (after before : ℕ) → after ≡ before
    → StreamError Zero Unpacks ChunkError options.traversal_limit_in_words (Some after) kind packed left → StreamError Zero Unpacks ChunkError options.traversal_limit_in_words (Some before) kind packed left
in_room options packed left kind after before same errors = subst (λ room. StreamError Zero Unpacks ChunkError options.traversal_limit_in_words (Some room) kind packed left) same errors
