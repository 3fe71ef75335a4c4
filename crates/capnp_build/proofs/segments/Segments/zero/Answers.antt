-- The segments that are out stay as long.
use Rattle.std.proofs.Common.{◌≡◌, suc, ◌∙◌, ◌<◌, ◌≤◌, ◌-◌, replicate, List, length, ap, sym, subst}
use Rattle.capnp_build.specs.Prelude.{Space, with_bytes, BuilderState, index_of, pair, spaces_of, space_at}
use Rattle.capnp_build.proofs.states.OutSegmentListChangesLemmas.{other_edit}
use Rattle.capnp_build.proofs.states.WholeWordSegmentLemmas.{edited_words, zeroed_bytes}
use Rattle.capnp_build.proofs.segments.Segments.zero.Goals as goal

pub invariant_of-self-in-Further : goal.invariant_of-self-in-Further
invariant_of-self-in-Further g c =
    let first = c.self.inside.first in
    let others : List Space = c.self.inside.others.items in
    let within : c.args.index < length (spaces_of first others) = subst (λ (l : List Space). c.args.index < length l) (ap (λ (h : BuilderState g.row.A.Denot). h.spaces)
    (sym c.self.view_is)) c.requires.within in
    let place : c.args.index ≡ suc c.in-Further.other = c.of.ensures ∙ ap index_of c.in-Further.is in
    let kept =
    other_edit (g.A.Allocator.out c.self.inside.allocator) first others c.args.index c.in-Further.other c.index_mut-part.result.now c.zero-in-Further.new.self
    c.self.invariant.0 c.self.invariant.1 c.self.invariant.2 within place c.index_mut-part.ensures.value (ap pair c.zero-in-Further.ensures) in
    let room : c.args.to ≤ length (space_at (spaces_of first others) c.args.index).used = subst (λ (h : BuilderState g.row.A.Denot). c.args.to ≤ length (space_at h.spaces c.args.index).used) (sym c.self.view_is) c.requires.room in (
      kept.0,
      kept.1,
      kept.2,
      edited_words first others c.args.index c.in-Further.other c.index_mut-part.result.now c.zero-in-Further.new.self (λ s. with_bytes s c.args.from (replicate (c.args.to - c.args.from) 0))
          c.self.invariant.3 within place c.index_mut-part.ensures.value c.zero-in-Further.ensures (λ uses. zeroed_bytes (space_at (spaces_of first others) c.args.index) c.args.from c.args.to uses c.requires.order room),
    )
