-- Each group begins where the one before it ends.
use Rattle.std.proofs.Common.{◌≡◌, inl, inr, ◌+◌, ◌*◌, get_or, refl, sym, ap, ◌∙◌, subst, arith}
use Rattle.std.proofs.lemmas.Bool.{cases_lt}
use Rattle.std.proofs.lemmas.List.{get_or-replicate, get_or-set_other, length-set}
use Rattle.std.proofs.lemmas.List.Edits.{fill_by_more}
use Rattle.std.proofs.lemmas.List.FromFn.{fill_by_all}
use Rattle.std.specs.Prelude.{sum, set}
use Rattle.capnp_frame.specs.Prelude.{table_size, declared_lengths}
use Rattle.capnp_c.specs.Segments.{group_begin}
use Rattle.capnp_c.proofs.in_place.SegmentsByGroupLemmas.{sum-group, is_group, no_group}
use Rattle.capnp_c.proofs.reading.segments.begins_of.Goals as goal

pub loop-group-init : goal.loop-group-init
loop-group-init c = (
  omega (arith, c.table_len-begin.ensures),
  omega (arith, c.table_len-begin.ensures, c.requires.few.1),
  refl,
  λ k less. absurd (omega (arith, less)),
  λ k from less. get_or-replicate 31 k 0 0 less,
)

pub loop-group-preserved : goal.loop-group-preserved
loop-group-preserved c =
    let bytes = c.args.bytes.now in
    let count = c.args.count in
    let group = c.loop-group.group in
    let begins = c.loop-group.begins in
    let known = c.loop-group.invariant in
    let begin = c.loop-group.begin + 8 * c.words_of_segments.result in
    let further : 16 * group + 16 ≡ 16 * (group + 1) = omega arith in
    let whole = ap (λ k. sum (declared_lengths k bytes)) further in
    let begin_is : begin ≡ table_size count + 8 * sum (declared_lengths (16 * (group + 1)) bytes) =
    omega (arith, known.0, c.words_of_segments.ensures.words, sum-group (16 * group) 16 bytes, whole) in
    let is : begin ≡ group_begin count bytes group = begin_is ∙ sym (is_group count bytes group (omega arith)) in (
      begin_is,
      omega (arith, known.1, c.words_of_segments.ensures.bound),
      length-set begins group begin ∙ known.2,
      λ k less. subst (λ v. get_or (set begins group v) k 0 ≡ group_begin count bytes k) (sym is)
          (fill_by_more (group_begin count bytes) begins group 0 (omega (arith, known.2)) known.3 k less),
      λ k from less. get_or-set_other begins group k begin 0 (λ same. omega (arith, from, same)) ∙ known.4 k (omega (arith, from)) less,
    )

pub returns : goal.returns
returns c =
    let bytes = c.args.bytes.now in
    let count = c.args.count in
    let known = c.loop-group.invariant in
    fill_by_all (group_begin count bytes) c.loop-group.begins 31 0 known.2
    (λ k less. elim (cases_lt k c.loop-group.group) [
      | inl below ↦ known.3 k below
      | inr past ↦ known.4 k past less ∙ sym (no_group count bytes k (omega (arith, past)))
    ])
