-- Two requests unpack the table, and each failure is a line of the reader's errors.
use Rattle.std.proofs.Common.{◌≡◌, ◌-◌, ◌*◌, ◌/◌, ◌++◌, ◌∙◌, List, ℕ, length, drop, replicate, inl, inr, refl, sym, ap, subst, arith, rules, append_assoc}
use Rattle.std.proofs.lemmas.List.{take_at}
use Rattle.std.proofs.lemmas.Result.{err_from_is_err_and}
use borrow.Rule.Slice.PartMut.{post_of}
use Rattle.capnp_frame.proofs.errors.UniqueErrorLineLemmas.{in_range}
use Rattle.capnp_pack.specs.Prelude.{ChunkError, Unpacks}
use Rattle.capnp_c.proofs.PackWordsIntoBufferLemmas.{slice_chunk_error}
use Rattle.capnp_c.proofs.PackedTableSizeLemmas.{first_long, put_long}
use Rattle.capnp_c.proofs.sizes.unpacked_table.Goals as goal

pub returns-in_err-count : goal.returns-in_err-count
returns-in_err-count c =
    let p = err_from_is_err_and c.from_residual-in_err-count.result c.from_residual-in_err-count.ensures.1 in
    let packed = c.args.packed.now in
    let first = c.unpack_from.new.words in
    let between = c.unpack_from.new.source.now in
    let long : length first ≡ 8 = search rules in
    let given = subst (λ n. Unpacks packed n first between) long c.in_ok-unpack_from.ensures.given in
    let met = c.in_err-count.ensures in
    rw (p.1, p.2) (between, λ limit. inr (λ short. short, (c.requires, inr (first, between, given, (met.0, met.1, inl (met.2, (met.3, refl)))))))

pub returns-in_err-unpack_from-2 : goal.returns-in_err-unpack_from-2
returns-in_err-unpack_from-2 c =
    let p = err_from_is_err_and c.from_residual-in_err-unpack_from-2.result c.from_residual-in_err-unpack_from-2.ensures.1 in
    let packed = c.args.packed.now in
    let first = c.unpack_from.new.words in
    let between = c.unpack_from.new.source.now in
    let long : length first ≡ 8 = search rules in
    let given = subst (λ n. Unpacks packed n first between) long c.in_ok-unpack_from.ensures.given in
    let count = c.in_ok-count.count in
    let declared = c.in_ok-count.ensures in
    let failed = c.in_err-unpack_from-2.ensures in
    let size : length c.unpack_from-2.new.words ≡ 8 * (count / 2) = search (rules, c.table_len.ensures) in
    let failing = subst (λ n. ChunkError between n c.in_err-unpack_from-2.field-0.0.kind) size (slice_chunk_error between _ _ failed.errors failed.failed) in
    rw (p.1, p.2) (
      between,
      λ limit. inr (
        λ short. short,
        (
          c.requires,
          inr (
            first,
            between,
            given,
            (count, declared.0, inr (in_range count declared.1 declared.2, inr (λ short. short, inl failing))),
          ),
        ),
      ),
    )

pub returns : goal.returns
returns c =
    let packed = c.args.packed.now in
    let first : List ℕ = c.unpack_from.new.words in
    let others : List ℕ = c.unpack_from-2.new.words in
    let between = c.unpack_from.new.source.now in
    let long : length first ≡ 8 = search rules in
    let count : ℕ = c.in_ok-count.count in
    let declared = c.in_ok-count.ensures in
    let word : List ℕ = c.copy_from_slice.new.self in
    let word_is : word ≡ first = c.copy_from_slice.ensures.after in
    let before : List ℕ = word ++ drop 8 (replicate 2048 0) in
    let size : length others ≡ 8 * (count / 2) = search (rules, c.table_len.ensures) in
    let n : ℕ = c.table_len.result - 8 in
    let zeros : List ℕ = post_of 8 n before in
    let whole : length before ≡ 2048 = first_long word (ap length word_is ∙ long) in
    record {
      first = first;
      others = others;
      zeros = zeros;
      between = between;
      rest = c.unpack_from-2.new.source.now;
      count = count;
      first_given = subst (λ k. Unpacks packed k first between) long c.in_ok-unpack_from.ensures.given;
      declared = declared.0;
      some = declared.1;
      few = declared.2;
      others_given = subst (λ k. Unpacks between k others c.unpack_from-2.new.source.now) size c.in_ok-unpack_from-2.ensures.given;
      table_is = ap (λ (l : List ℕ). l ++ (others ++ zeros)) (take_at word (drop 8 (replicate 2048 0)) 8 (ap length word_is ∙ long) ∙ word_is) ∙ sym (append_assoc first others zeros);
      long = put_long before others n (omega (arith, size, c.table_len.ensures)) (omega (arith, c.table_len.ensures, declared.2, whole)) ∙ whole;
    }
