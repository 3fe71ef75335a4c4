-- The groups that were found are unpacked, and no request of them fails.
use Rattle.std.proofs.Common.{◌≡◌, ◌∙◌, ap, length, rules, subst, ◌%◌}
use Rattle.capnp_pack.specs.Prelude.{ChunkError}
use Rattle.capnp_c.proofs.GroupsUnpackedInPartsLemmas.{front_unpacks, part_written}
use Rattle.capnp_c.proofs.PackWordsIntoBufferLemmas.{slice_chunk_error}
use Rattle.capnp_c.proofs.packed_parts.unpack_groups.Goals as goal

pub returns-in_err-unpack_from : goal.returns-in_err-unpack_from
returns-in_err-unpack_from c =
    let failed = c.in_err-unpack_from.ensures in
    let size : length c.unpack_from.new.words ≡ c.in_ok-groups.groups.filled = search (rules, c.in_ok-groups.ensures.front.filled_within) in
    let failing = subst (λ n. ChunkError c.args.packed.now n c.in_err-unpack_from.field-0.0.kind) size (slice_chunk_error c.args.packed.now _ _ failed.errors failed.failed) in
    absurd (front_unpacks c.args.packed.now _ c.in_ok-groups.groups _ c.in_ok-groups.ensures failing)

pub returns : goal.returns
returns c =
    let size : length c.unpack_from.new.words ≡ c.in_ok-groups.groups.filled = search (rules, c.in_ok-groups.ensures.front.filled_within) in
    let (same, part) = part_written c.args.packed.now c.args.words.now c.unpack_from.new.words _ c.in_ok-groups.groups c.in_ok-groups.ensures size c.in_ok-unpack_from.ensures.given in
    (ap (λ k. k % 8) same ∙ c.if-words-ne0.false, part)
