-- A message that has no more segments and bytes than the memory that is kept needs no more of it.
use Rattle.std.proofs.Common.{◌≡◌, ℕ, ◌*◌, ◌<◌, ◌≤◌, inl, inr, max, Option, List, length, subst, ap, arith}
use Rattle.std.proofs.lemmas.List.{length-map}
use Rattle.std.specs.Prelude.{sum}
use Rattle.std.specs.List.{concat}
use Rattle.capnp_frame.specs.Prelude.{lengths, word_count, size_in_words, Giving, Refusing, IsSource, MessageFound, DeclaresCount, Outgrows}
use Rattle.capnp_frame.specs.declared.serialize.segment_table.Padding.{Padding}
use Rattle.capnp_frame.proofs.tables.UniqueTableLengthsLemmas.{TableFound-once}
use Rattle.capnp_frame.proofs.errors.UniqueErrorLineLemmas.{few_tells}

-- a message of no more bytes and segments, or of one, outgrows it nowhere
pub fits_kept : {gives : Giving} {refuses : Refusing} (rule : Padding) (laws : IsSource gives refuses) (limit : Option ℕ)
    (kept m : List (List ℕ)) (raw rest left : List ℕ) → MessageFound rule gives m raw rest → length m < 512
    → length m ≤ max 1 (length kept) → 8 * size_in_words m ≤ length (concat kept)
    → Outgrows (length kept) (length (concat kept)) rule gives limit raw left → ⊥
fits_kept {gives} rule laws limit kept m raw rest left is_found few segments size (inl (there, more)) =
    let table = is_found.table in
    let first = laws.unique raw 8 there.word left table.first table.between there.given table.first_given in
    let tells : DeclaresCount table.first there.count = subst (λ word. DeclaresCount word there.count) first.0 there.declared in
    let long = length-map m word_count in
    let same = few_tells table.first table.others (lengths m) there.count table.table
    (laws.gives_all raw 8 table.first table.between table.first_given) (omega arith) tells in
    absurd (omega arith)
fits_kept {gives} rule laws limit kept m raw rest left is_found few segments size (inr (ns, table, within, more)) =
    let same = TableFound-once gives raw ns left (lengths m) is_found.between laws.unique laws.gives_all table is_found.table in
    let sums : sum ns ≡ size_in_words m = ap sum same.0 in
    absurd (omega arith)
