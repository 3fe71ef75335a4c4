-- The message that is read is the one that was written, and the fields are at its root.
use Rattle.std.proofs.Common.{◌≡◌, rules, refl, [], ◌∷◌, inl, inr}
use Rattle.std.proofs.lemmas.Result.{err_from_is_err_and}
use Rattle.capnp_frame.specs.declared.error.ErrorKind.TheVariants.{DeviceFailed}
use Rattle.capnp_frame.specs.declared.message.options.TheConstants.{DEFAULT_READER_OPTIONS}
use Rattle.capnp_frame.specs.declared.serialize.segment_table.Padding.TheVariants.{Zero}
use Rattle.capnp_frame.specs.Prelude.{Fails, default_limit}
use Rattle.capnp_wire.specs.Prelude.{struct, StructFormError}
use Rattle.capnp_message.specs.Seen.{root_of}
use Rattle.capnp.specs.Prelude.{packed}
use Rattle.capnp.proofs.SourceEncodingLemmas.{or_fails_accepted}
use Rattle.capnp_uses.proofs.AppendedMessagesReadBackLemmas.{memory_only}
use Rattle.capnp_uses.proofs.SliceReadAndCanonicalizeOutcomeLemmas.{default_depth, root_is_default}
use Rattle.capnp_uses.proofs.BuiltRootViewLemmas.{read_at_root, root_meets_limit, struct_is_taken}
use Rattle.capnp_uses.proofs.PackedReadBackLemmas.{packed_root, begins_packed, packed_fails, no_struct_error, shows_packed}
use Rattle.capnp_uses.proofs.packed_struct.read_packed_words.Goals as goal

pub returns-in_err-message-clause-found : goal.returns-in_err-message-clause-found
returns-in_err-message-clause-found c message first second writable few size packed_is has_root =
    let p = err_from_is_err_and c.from_residual.result c.from_residual.ensures.1 in
    let failed = elim (c.in_err-message.ensures) as (λ read. c.in_err-message.field-0.0.kind ≡ DeviceFailed → Fails 0 0) [ inl read ↦ read.reads.failed | inr (end, read) ↦ λ device. cc ] in
    let accepted = or_fails_accepted _ _ _ (packed Zero) DEFAULT_READER_OPTIONS c.in_err-message.field-0.0 tt c.in_err-message.ensures in
    rw (p.1, p.2) (inl (memory_only _ (accepted message [] (begins_packed default_limit message _ writable few size packed_is)) failed))

pub returns-in_err-message-clause-errors : goal.returns-in_err-message-clause-errors
returns-in_err-message-clause-errors c =
    let p = err_from_is_err_and c.from_residual.result c.from_residual.ensures.1 in
    rw (p.1, p.2) (elim (c.in_err-message.ensures) [
      | inl read ↦ packed_fails c.in_err-message.field-0.0.kind _ _ read.reads.failed read.reads.errors
      | inr (end, read) ↦ inr (inr (inl (read.reads.none, end)))
    ])

pub returns-in_err-fields-clause-found : goal.returns-in_err-fields-clause-found
returns-in_err-fields-clause-found c message first second writable few size packed has_root =
    let reader = c.in_ok-message.message in
    let here = packed_root default_limit (struct (first ∷ second ∷ [])) reader.segments message c.args.encoding.now _ (c.in_ok-message.ensures.encodings tt).found writable packed has_root in
    let p = err_from_is_err_and c.from_residual-in_err-fields.result c.from_residual-in_err-fields.ensures.1 in
    rw (p.1, p.2) (inr (root_meets_limit (root_of (λ segments. segments) reader) (struct (first ∷ second ∷ [])) StructFormError c.in_err-fields.field-0.0.kind refl here (default_depth reader.options c.in_ok-message.ensures.options_are)
    (struct_is_taken (first ∷ second ∷ []) c.in_err-fields.field-0.0.kind) c.in_err-fields.ensures.returned).2)

pub returns-in_err-fields-clause-errors : goal.returns-in_err-fields-clause-errors
returns-in_err-fields-clause-errors c =
    let reader = c.in_ok-message.message in
    let p = err_from_is_err_and c.from_residual-in_err-fields.result c.from_residual-in_err-fields.ensures.1 in
    let same = root_is_default reader.segments reader.segments reader.options refl c.in_ok-message.ensures.options_are in
    rw (p.1, p.2) (no_struct_error c.args.encoding.now reader.segments _ _ c.in_err-fields.field-0.0.kind same (c.in_ok-message.ensures.encodings tt).found c.in_err-fields.ensures.returned)

pub returns-clause-words : goal.returns-clause-words
returns-clause-words c message first second writable packed has_root =
    let reader = c.in_ok-message.message in
    let here = packed_root default_limit (struct (first ∷ second ∷ [])) reader.segments message c.args.encoding.now _ (c.in_ok-message.ensures.encodings tt).found writable packed has_root in
    let there = read_at_root (root_of (λ segments. segments) reader) (struct (first ∷ second ∷ [])) _ refl here c.in_ok-fields.ensures.returned.shown in
    search rules

pub returns-clause-is_found : goal.returns-clause-is_found
returns-clause-is_found c =
    let reader = c.in_ok-message.message in
    shows_packed reader.segments c.args.encoding.now _ (root_of (λ segments. segments) reader) _ _ _
    (root_is_default reader.segments reader.segments reader.options refl c.in_ok-message.ensures.options_are)
    (c.in_ok-message.ensures.encodings tt).found c.in_ok-fields.ensures.returned c.get_word.ensures c.get_word-2.ensures
