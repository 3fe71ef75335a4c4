-- One more pointer is copied, or it is the one that can't be.
use Rattle.std.proofs.Common.{◌≡◌, ℕ, length, arith, refl, sym, subst}
use Rattle.capnp_wire.specs.Prelude.{struct_of, pointer_of}
use Rattle.capnp_orphans.specs.Holds.{word_of}
use Rattle.capnp_orphans.proofs.PointersCopiedUntilErrorLemmas.{ArePointersCopied, one_copied, all_copied, copy_failed, same_failure}
use Rattle.capnp_orphans.proofs.copied.copy_pointers.Goals as goal

pub returns-in_err-copy : goal.returns-in_err-copy
returns-in_err-copy g c =
    copy_failed (struct_of g.R.ReaderSegments.segments c.args.fields.now) (length c.args.pointers.now) c.loop-index.index c.args.objects.now c.loop-index.objects c.set.new.self
    c.loop-index.pointers (pointer_of g.R.ReaderSegments.segments c.pointer_at-pointer.result) _ c.in_err-copy.field-0.0 c.from_residual.result (same_failure _ _ c.from_residual.ensures.1) c.pointer_at-pointer.ensures
    c.loop-index-test.true c.loop-index.invariant c.in_err-copy.ensures.adds.keeps c.in_err-copy.ensures.writes

pub loop-index-preserved : goal.loop-index-preserved
loop-index-preserved g c =
    one_copied (struct_of g.R.ReaderSegments.segments c.args.fields.now) c.loop-index.index c.args.objects.now c.loop-index.objects c.set.new.self c.loop-index.pointers
    (pointer_of g.R.ReaderSegments.segments c.pointer_at-pointer.result) word_of c.in_ok-copy.copy c.pointer_at-pointer.ensures (omega (arith, c.loop-index-test.true, c.loop-index.auto.pointers))
    c.loop-index.invariant c.in_ok-copy.ensures.adds c.in_ok-copy.ensures.writes

pub returns : goal.returns
returns g c =
    let at_end : length c.args.pointers.now ≡ c.loop-index.index = omega (arith, c.loop-index-test.false, c.loop-index.auto.index-end) in
    all_copied (struct_of g.R.ReaderSegments.segments c.args.fields.now) (length c.args.pointers.now) c.args.objects.now c.loop-index.objects c.loop-index.pointers _ _ c.loop-index.auto.pointers refl
    (subst (λ (n : ℕ). ArePointersCopied (struct_of g.R.ReaderSegments.segments c.args.fields.now) n c.args.objects.now c.loop-index.objects c.loop-index.pointers) (sym at_end) c.loop-index.invariant)
