-- A list of pointers has no other words, so what they point to is all that is copied.
use Rattle.std.proofs.Common.{◌-◌, ◌+◌, ℕ, sym, refl, ap, subst}
use Rattle.capnp_layout.specs.Prelude.{words_of, pointers, Trees, message_of, places, run, output}
use Rattle.capnp_wire.specs.Prelude.{IsCopied}
use Rattle.capnp_layout.proofs.words.WordAtPlaceLemmas.{segment_is_there, no_segment_is_there}
use Rattle.capnp_wire.proofs.layouts.TreeCopySequenceLemmas.{copies_none}
use Rattle.capnp_wire.proofs.views.ListValueWriteLemmas.{pointers_opened, pointers_copyable, pointers_written, no_pointers_there, same_list}
use Rattle.capnp_wire.proofs.layout.list_value.write.Goals as goal

pub list_word-pointer-requires-clause-count : goal.list_word-pointer-requires-clause-count
list_word-pointer-requires-clause-count g c =
    let m = message_of (g.S.ReaderSegments.segments c.args.source.now.segments.now) in
    (pointers_opened m c.args.first c.args.count c.args.nesting c.requires.value.0 c.args.source.now.canonical c.args.to.next _ c.requires.value.1).few

pub copy_run-requires-clause-there : goal.copy_run-requires-clause-there
copy_run-requires-clause-there g c =
    let m = message_of (g.S.ReaderSegments.segments c.args.source.now.segments.now) in
    pointers_copyable (pointers_opened m c.args.first c.args.count c.args.nesting c.requires.value.0 c.args.source.now.canonical c.args.to.next _ c.requires.value.1)

pub copy_run-requires-clause-content : goal.copy_run-requires-clause-content
copy_run-requires-clause-content g c some = segment_is_there _ c.args.first.segment _ (sym c.in-Some.ensures)

pub returns-in-Some-clause-written : goal.returns-in-Some-clause-written
returns-in-Some-clause-written g c limit trees is =
    let m = message_of (g.S.ReaderSegments.segments c.args.source.now.segments.now) in
    let first = c.args.first in
    let w = c.requires.value.1 in
    let o = pointers_opened m first c.args.count c.args.nesting c.requires.value.0 c.args.source.now.canonical c.args.to.next _ w in
    let same = same_list pointers m (places first.segment first.word c.args.count) c.args.nesting c.requires.value.0 limit w.trees trees w.tree_is is in
    subst (λ (t : Trees). IsCopied (output c.args.source.now.canonical t) (c.args.to.next - c.args.to.following) c.args.to.next (words_of c.args.block.now) (words_of c.copy_run.new.block)
    (record { pointer = c.list_word-pointer.result; next = c.copy_run.result })) same (pointers_written o refl c.copy_run.ensures.copied c.list_word-pointer.ensures)

pub returns-in-None-clause-written : goal.returns-in-None-clause-written
returns-in-None-clause-written g c limit trees is =
    let m = message_of (g.S.ReaderSegments.segments c.args.source.now.segments.now) in
    let first = c.args.first in
    let n = c.args.count in
    let end : ℕ = c.args.to.next + c.args.count in
    let w = c.requires.value.1 in
    let o = pointers_opened m first n c.args.nesting c.requires.value.0 c.args.source.now.canonical c.args.to.next _ w in
    let none = no_pointers_there m first n c.args.nesting c.args.source.now.canonical end _ (no_segment_is_there _ first.segment (sym c.in-None.ensures)) (pointers_copyable o) in
    let same = same_list pointers m (places first.segment first.word n) c.args.nesting c.requires.value.0 limit w.trees trees w.tree_is is in
    let nothing = copies_none {m = m} {at = places first.segment first.word n} {c = c.args.source.now.canonical} {slots = run c.args.to.next n} {next = end} {free = end} {block = words_of c.args.block.now}
    (ap (places first.segment first.word) none) refl in
    subst (λ (t : Trees). IsCopied (output c.args.source.now.canonical t) (c.args.to.next - c.args.to.following) c.args.to.next (words_of c.args.block.now) (words_of c.args.block.now)
    (record { pointer = c.list_word-pointer.result; next = end })) same (pointers_written o refl nothing c.list_word-pointer.ensures)
