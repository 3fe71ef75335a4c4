-- A message that was written and is read back.
use Rattle.std.proofs.Common.{◌≡◌, ◌⊎◌, inl, inr, false, ℕ, ◌+◌, ◌-◌, ◌^◌, ◌<◌, ◌≤◌, Option, Some, None, Result, Ok, Err, IfOk, IfErr, OnOk, List, [], ◌∷◌, ◌++◌, length, min, sym, ap, ◌∙◌, subst, arith}
use Rattle.std.proofs.lemmas.List.{append-nil, length-map}
use Rattle.capnp_frame.specs.declared.serialize.segment_table.Padding.{Padding}
use Rattle.capnp_frame.specs.declared.error.Error.{Error}
use Rattle.capnp_frame.specs.declared.error.ErrorKind.{ErrorKind}
use Rattle.capnp_frame.specs.declared.error.ErrorKind.TheVariants.{DeviceFailed, OutOfMemory, MessageTooLarge}
use Rattle.capnp_frame.specs.declared.message.options.ReaderOptions.{ReaderOptions}
use Rattle.capnp_frame.specs.Prelude.{KeepsLimit, AreWithin, IsTooLarge, word_count, lengths, size_in_words, Adds, IfKnown, ReadsStream, IsWritable, IsWithinSegmentLimit}
use Rattle.capnp_frame.specs.declared.io.Read.{Ghosts}
use Rattle.capnp_frame.proofs.slices.SliceReadersRejectSameBytesLemmas.{limit_cases}
use Rattle.capnp_frame.proofs.tables.ErrorAfterTableLemmas.{past_limit}
use Rattle.capnp_layout.specs.Prelude.{Trees, At, at, root}
use Rattle.capnp_wire.specs.Prelude.{HasWords}
use Rattle.capnp_wire.proofs.forms.ObjectPassesWhereTrimmedLemmas.{pointer_word_is_there}
use Rattle.capnp_build.specs.Prelude.{Space, Built, message, IsSet, IsPut}
use Rattle.capnp_build.specs.declared.allocator.Allocator as allocator
use Rattle.capnp_build.proofs.roots.NullRootTreeLemmas.{root_is_there}
use Rattle.capnp_message.specs.Seen.{ReadMessage}
use Rattle.capnp.specs.declared.streams.Format.{Format}
use Rattle.capnp.specs.Prelude.{ExternalError, by_format, ReadsMessage, OrFailsAtEnd, rules_of, FoundNext, IsEncodingOf, output_of}
use Rattle.capnp.proofs.MessageSequenceReadBackLemmas.{encoding_found}
use Rattle.capnp.proofs.ReaderOutcomeByFormatRulesLemmas.{or_fails_failed}
use Rattle.capnp.proofs.SourceEncodingLemmas.{or_fails_accepted, or_fails_reads}
use Rattle.capnp.proofs.RunOutputMessageByMessageLemmas.{format_lawful, format_requested, format_parts}
use Rattle.capnp_uses.specs.Roots.{HasRootOf, ReadsWritten, ReadAgainError, StaysUnset, StaysUnread}
use Rattle.capnp_uses.proofs.AppendedMessagesReadBackLemmas.{memory_only}

-- where there is a tree at the root, there is a segment
pub has_segment : (spaces : List Space) (trees : Trees) (traversed : ℕ) → At (message spaces) (root ∷ []) trees traversed → 0 < length spaces
has_segment spaces trees traversed (at points inside following) =
    let word = pointer_word_is_there (message spaces) root _ points in (root_is_there spaces word.0 word.1).0

-- what was added to nothing is its encoding, and no more
added_found : (rule : Padding) (format : Format) (limit : Option ℕ) (m : List (List ℕ)) (shown : List ℕ) → IsWritable m
    → IsEncodingOf format m shown → IsWithinSegmentLimit m → KeepsLimit (lengths m) limit → FoundNext rule format limit m shown []
added_found rule format limit m shown writable here few size =
    subst (λ (l : List ℕ). FoundNext rule format limit m l []) (append-nil shown) (encoding_found rule format limit m shown [] writable few size here)

pub added_alone : (format : Format) (m : List (List ℕ)) (start new shown : List ℕ) → start ≡ [] → shown ≡ new
    → Adds (IsEncodingOf format m) start new → IsEncodingOf format m shown
added_alone format m start new shown none same (encoding, here, e) =
    subst (IsEncodingOf format m) (sym (same ∙ e ∙ ap (λ (l : List ℕ). l ++ encoding) none)) here

-- without a limit of words
unlimited : (rule : Padding) (format : Format) (limit : Option ℕ) (m : List (List ℕ)) (raw rest : List ℕ) → FoundNext rule format limit m raw rest
    → FoundNext rule format None m raw rest
unlimited rule format limit m raw rest is_found = let within = is_found.within in record {
  encoding = is_found.encoding;
  is_encoding = is_found.is_encoding;
  within = record { some = within.some; few = within.few; each = within.each; size = tt };
  spelled = is_found.spelled;
}

-- what is read of it is the message, which is within the limit
read_again : (rule : Padding) (format : Format) (limit : Option ℕ) (read m : List (List ℕ)) (shown : List ℕ) (left : Option (List ℕ))
    → FoundNext rule format None m shown [] → IfKnown (Some shown) left (FoundNext rule format limit read) → (read ≡ m) × KeepsLimit (lengths m) limit
read_again rule format limit read m shown None is_found found = absurd found
read_again rule format limit read m shown (Some rest) is_found found =
    let same = ((format_parts rule format None).begins_once read m shown rest [] (unlimited rule format limit read shown rest found) is_found).0 in
    (same, subst (λ m. KeepsLimit (lengths m) limit) same found.within.size)

-- past the limit of words it fails with that line of the table of errors
reads_too_many : {S : Type 0} (rule : Padding) (format : Format) (limit : Option ℕ) (source : Ghosts S) (old new : S) (m : List (List ℕ)) (e : Error)
    (shown : List ℕ) → FoundNext rule format None m shown [] → source.unread old ≡ Some shown → IsTooLarge (lengths m) limit
    → OrFailsAtEnd (ReadsStream source old new (rules_of rule format) limit) (Err e)
    → (e.kind ≡ DeviceFailed) ⊎ (e.kind ≡ OutOfMemory) ⊎ (e.kind ≡ MessageTooLarge (size_in_words m))
reads_too_many rule format limit source old new m e shown is_found unread over reads =
    let requested = (format_requested rule format m shown []).1 (is_found.encoding, is_found.is_encoding, is_found.spelled) in
    let (left, line) = past_limit rule (format_lawful format) limit m shown [] requested (few_segments is_found.within) over in
    elim reads [
      | inl reported ↦ (rw unread at reported.exact) (MessageTooLarge (size_in_words m)) left line
      | inr (end, reported) ↦ absurd ((rw unread at reported.exact) (MessageTooLarge (size_in_words m)) left line)
    ]
  where
    few_segments : AreWithin (lengths m) None → length m < 512
    few_segments within = let few = within.few in omega (arith, few, length-map m word_count)

-- so writing and reading fail only past the limit of words, or when out of memory
again_error : {S : Type 0} (rule : Padding) (format : Format) (limit : Option ℕ) (source : Ghosts S) (old new : S) (m : List (List ℕ)) (e : Error) (shown : List ℕ)
    → IsEncodingOf format m shown → IsWritable m → IsWithinSegmentLimit m → source.unread old ≡ Some shown → source.failures old ≡ 0 → source.failures new ≡ 0
    → (FoundNext rule format limit m shown [] → ExternalError e.kind)
    → OrFailsAtEnd (ReadsStream source old new (rules_of rule format) limit) (Err e)
    → ReadAgainError m limit e.kind
again_error rule format limit source old new m e shown here writable few unread none still accepted reads = elim (limit_cases (lengths m) limit) [
  | inr keeps ↦ inr (inr (memory_only e.kind (accepted (added_found rule format limit m shown writable here few keeps)) never))
  | inl over ↦ elim (reads_too_many rule format limit source old new m e shown (added_found rule format None m shown writable here few tt) unread over reads) [
    | inl device ↦ inr (inr (memory_only e.kind (inl device) never))
    | inr (inl memory) ↦ inr (inr memory)
    | inr (inr size) ↦ inr (inl (over, size))
  ]
]
  where
    never : e.kind ≡ DeviceFailed → min (0 + 1) (2 ^ 64 - 1) ≤ 0
    never device = let fails = or_fails_failed source old new (rules_of rule format) limit e reads device in omega (arith, fails, none, still)

-- what is returned of a message that is written and read
pub written_and_read : {S : Type 0} (rule : Padding) (format : Format) (options : ReaderOptions) (source : Ghosts S) (old new : S) (m : List (List ℕ))
    (r : Result (ReadMessage (List (List ℕ))) Error) (shown : List ℕ)
    → IsEncodingOf format m shown → IsWritable m → IsWithinSegmentLimit m → source.unread old ≡ Some shown → source.failures old ≡ 0 → source.failures new ≡ 0
    → OrFailsAtEnd (ReadsMessage source old new (by_format rule format) options) r
    → ReadsWritten m options (λ reader. reader.segments) (λ reader. reader.options) r
written_and_read rule format options source old new m (Ok x) shown here writable few unread none still reads =
    let limit = options.traversal_limit_in_words in
    let again = read_again rule format limit x.segments m shown (source.unread new) (added_found rule format None m shown writable here few tt) (rw unread at (reads.encodings tt).found) in
    record { back = again.0; size = again.1; few = few; options_are = reads.options_are; errors = tt }
written_and_read rule format options source old new m (Err e) shown here writable few unread none still reads =
    let accepted : (raw : List ℕ) → source.unread old ≡ Some raw → (message : List (List ℕ)) (rest : List ℕ)
    → FoundNext rule format options.traversal_limit_in_words message raw rest → ExternalError e.kind
    = λ raw is. rw is at (or_fails_accepted source old new (by_format rule format) options e tt reads) in
    record {
      back = tt;
      size = tt;
      few = tt;
      options_are = tt;
      errors = again_error rule format options.traversal_limit_in_words source old new m e shown here writable few unread none still (accepted shown unread m [])
          (or_fails_reads source old new (by_format rule format) options e reads);
    }

-- the root that is read is the root that was built
pub tree_again : {X : Type 0} (has_tree : Trees → Type 0) (segments : X → List (List ℕ)) (r : Result X Error) (m : List (List ℕ)) → HasRootOf has_tree m
    → IfOk r (λ x. segments x ≡ m) → IfOk r (λ x. HasRootOf has_tree (segments x))
tree_again has_tree segments (Err e) m is_found back = tt
tree_again has_tree segments (Ok x) m has_root back = subst (HasRootOf has_tree) (sym back) has_root

-- a message whose root is set, and that is not read back
pub unread : {A S X : Type 0} (alloc : allocator.Ghosts A S) (has_tree : Trees → Type 0) (fails : ErrorKind → Type 0) (limit : Option ℕ) (old new : Built A) (r : Result X Error) → IsSet has_tree false new.spaces
    → IsPut alloc (HasWords has_tree false) old new → IfErr r (λ error. ReadAgainError (output_of new) limit error.kind)
    → IfErr r (λ error. StaysUnset alloc has_tree fails old new error.kind ⊎ StaysUnread alloc has_tree limit old new error.kind)
unread alloc has_tree fails limit old new (Ok x) set placed errors = tt
unread alloc has_tree fails limit old new (Err error) set placed errors = inr (record { set = set; placed = placed; errors = errors })

-- what holds either way
pub holds_at_ok : {X E P : Type 0} (r : Result X E) → P → OnOk r P
holds_at_ok (Ok x) holds = holds
holds_at_ok (Err e) holds = tt
