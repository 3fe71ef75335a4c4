-- A run that transcodes adds the messages' encodings in the other format to a plain sink. What a run says holds
-- for a weaker relation of encodings.
use Rattle.std.proofs.Common.{inl, inr, ℕ, ◌+◌, Option, Some, None, IfSome, Result, Ok, Err, List, [], ◌∷◌}
use Rattle.capnp_frame.specs.declared.serialize.segment_table.Padding.{Padding}
use Rattle.capnp_frame.specs.declared.error.ErrorKind.{ErrorKind}
use Rattle.capnp_frame.specs.declared.io.Read.{Ghosts}
use Rattle.capnp_frame.specs.declared.io.Write.{Ghosts as SinkGhosts}
use Rattle.capnp_frame.specs.Prelude.{Appending}
use Rattle.capnp_frame.proofs.sources.JoinedRequestPartsLemmas.{IfKnown-weaker}
use Rattle.capnp.specs.declared.streams.Format.{Format}
use Rattle.capnp.specs.declared.streams.FailedAt.{FailedAt}
use Rattle.capnp.specs.declared.transcoding.Way.{Way}
use Rattle.capnp.specs.declared.transcoding.Way.TheVariants.{Pack, Unpack}
use Rattle.capnp.specs.Prelude.{IsPlainSink, Writing, WritingErrors, WritesFrom, HasWritten, RanOut, HasFailed, HasRun, WritesEach, Transcodes, IsOtherEncoding}
use Rattle.capnp.proofs.MessageWriteLemmas.{frame_bytes_added, packed_encoding_added}

-- each encoding by the first relation is one by the second
abbrev IsWeaker : Writing → Writing → Type 0
IsWeaker P Q = (index : ℕ) (m : List (List ℕ)) (encoding : List ℕ) → P index m encoding → Q index m encoding

WritesFrom-weaker : (P Q : Writing) → IsWeaker P Q → (index : ℕ) (ms : List (List (List ℕ))) (encoding : List ℕ) → WritesFrom P index ms encoding → WritesFrom Q index ms encoding
WritesFrom-weaker P Q weaker index [] encoding all = all
WritesFrom-weaker P Q weaker index (m ∷ ms) encoding (first, others, here, more, e) = (first, others, weaker index m first here, WritesFrom-weaker P Q weaker (index + 1) ms others more, e)

HasWritten-weaker : (rule : Padding) (format : Format) (limit : Option ℕ) (P Q : Writing) → IsWeaker P Q → (count : ℕ)
    (before after : Option (List ℕ)) (raw rest : List ℕ) → HasWritten rule format limit P count before after raw rest
    → HasWritten rule format limit Q count before after raw rest
HasWritten-weaker rule format limit P Q weaker count before after raw rest written = record {
  messages = written.messages;
  counted = written.counted;
  encodings = written.encodings;
  written = IfKnown-weaker before after (λ x y (encoding, all, e). (encoding, WritesFrom-weaker P Q weaker 0 written.messages encoding all, e)) written.written;
}

-- and so of a run
RanOut-weaker : (rule : Padding) (format : Format) (limit : Option ℕ) (P Q : Writing) → IsWeaker P Q
    → (left before after : Option (List ℕ)) (raw : List ℕ) → RanOut rule format limit P left before after raw
    → RanOut rule format limit Q left before after raw
RanOut-weaker rule format limit P Q weaker left before after raw ran = record {
  count = ran.count;
  rest = ran.rest;
  unread = ran.unread;
  written = HasWritten-weaker rule format limit P Q weaker ran.count before after raw ran.rest ran.written;
  done = ran.done;
}

HasFailed-weaker : (rule : Padding) (format : Format) (limit : Option ℕ) (P Q : Writing) (Errors : WritingErrors)
    → IsWeaker P Q → (count : ℕ) (kind : ErrorKind) (left before after : Option (List ℕ)) (raw : List ℕ)
    → HasFailed rule format limit P Errors count kind left before after raw
    → HasFailed rule format limit Q Errors count kind left before after raw
HasFailed-weaker rule format limit P Q Errors weaker count kind left before after raw (inl failed) = inl (record {
  rest = failed.rest;
  written = HasWritten-weaker rule format limit P Q weaker count before after raw failed.rest failed.written;
  error = failed.error;
})
HasFailed-weaker rule format limit P Q Errors weaker count kind left before after raw (inr failed) = inr (record {
  rest = failed.rest;
  between = failed.between;
  written = HasWritten-weaker rule format limit P Q weaker count before failed.between raw failed.rest failed.written;
  message = failed.message;
  is_found = failed.is_found;
  writable = failed.writable;
  error = failed.error;
  left_of_it = failed.left_of_it;
  untouched = failed.untouched;
})

-- a plain sink gets the encoding of a message in the other format
pub other_encoding_added : (way : Way) (appends : Appending) → IsPlainSink appends → (index : ℕ) (message : List (List ℕ))
    (encoding : List ℕ) → Transcodes way appends index message encoding → IsOtherEncoding way index message encoding
other_encoding_added Pack appends plain index message encoding all = packed_encoding_added appends plain message encoding all
other_encoding_added Unpack appends plain index message encoding all = frame_bytes_added appends plain message encoding all

IfSome-weaker : {P Q : List ℕ → Type 0} (unread : Option (List ℕ)) → ((raw : List ℕ) → P raw → Q raw) → IfSome unread P → IfSome unread Q
IfSome-weaker None weaker p = tt
IfSome-weaker (Some raw) weaker p = weaker raw p

HasRun-weaker : (rule : Padding) (format : Format) (limit : Option ℕ) (P Q : Writing) (Errors : WritingErrors) → IsWeaker P Q
    → (result : Result (Unit {0}) FailedAt) (left before after : Option (List ℕ)) (raw : List ℕ)
    → HasRun rule format limit P Errors result left before after raw → HasRun rule format limit Q Errors result left before after raw
HasRun-weaker rule format limit P Q Errors weaker (Ok done) left before after raw ran = RanOut-weaker rule format limit P Q weaker left before after raw ran
HasRun-weaker rule format limit P Q Errors weaker (Err failure) left before after raw ran =
    HasFailed-weaker rule format limit P Q Errors weaker failure.message failure.error.kind left before after raw ran

-- and of all that a run says
pub WritesEach-weaker : {S T : Type 0} (source : Ghosts S) (old new : S) (sink : SinkGhosts T) (before after : T)
    (rule : Padding) (format : Format) (limit : Option ℕ) (P Q : Writing) (Errors : WritingErrors) → IsWeaker P Q
    → (result : Result (Unit {0}) FailedAt)
    → WritesEach source old new sink before after rule format limit P Errors result
    → WritesEach source old new sink before after rule format limit Q Errors result
WritesEach-weaker source old new sink before after rule format limit P Q Errors weaker result each = record {
  written = IfSome-weaker (source.unread old) (HasRun-weaker rule format limit P Q Errors weaker result
      (source.unread new) (sink.written before) (sink.written after)) each.written;
  exact = each.exact;
  kinds = each.kinds;
  failed = each.failed;
  advances = each.advances;
  grows = each.grows;
}
