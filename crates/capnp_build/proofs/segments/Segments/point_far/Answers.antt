-- The landing pad points to the body, and the root's word to the landing pad.
use Rattle.std.proofs.Common.{◌-◌, ◌*◌, ◌∙◌, length, ap, sym, arith}
use Rattle.capnp_build.specs.Prelude.{BuilderState}
use Rattle.capnp_build.proofs.states.StayingBytesLemmas.{kept_past, kept_before}
use Rattle.capnp_build.proofs.layouts.RootPointerToBodyLemmas.{far_points, rewritten_by, rewritten_twice}
use Rattle.capnp_build.proofs.segments.Segments.point_far.Goals as goal

pub returns : goal.returns
returns g c =
    let b = c.requires.body.2 in
    let landing_pad = rewritten_by c.args.self.now c.write_at.new.self c.args.location.segment (8 * (c.args.location.start - 1)) c.to_le_bytes.result
    (omega (arith, b.room, b.following, ap length c.to_le_bytes.ensures)) c.write_at.ensures in
    let root = rewritten_by c.write_at.new.self c.write_at-2.new.self 0 0 c.to_le_bytes-2.result
    (omega (arith, c.requires.first, landing_pad.used 0, ap length c.to_le_bytes-2.ensures)) c.write_at-2.ensures in
    record {
      is_laid = λ form children body.
          far_points c.args.self.now.spaces c.write_at.new.self.spaces c.write_at-2.new.self.spaces c.args.location form children c.far_word-pointer.result c.to_le_bytes.result c.to_le_bytes-2.result
          c.requires.other c.requires.some (omega arith) body c.requires.first c.to_le_bytes.ensures (ap length c.to_le_bytes.ensures)
          (ap (λ (h : BuilderState g.row.A.Denot). h.spaces) c.write_at.ensures) c.far_word-pointer.ensures c.to_le_bytes-2.ensures (ap length c.to_le_bytes-2.ensures)
          (ap (λ (h : BuilderState g.row.A.Denot). h.spaces) c.write_at-2.ensures);
      rewritten = rewritten_twice c.args.self.now c.write_at.new.self c.write_at-2.new.self landing_pad root;
      bytes = λ i from n first before fits. let same = landing_pad.used i in
          kept_past c.write_at.new.self.spaces c.write_at-2.new.self.spaces 0 0 i from n c.to_le_bytes-2.result (ap (λ (h : BuilderState g.row.A.Denot). h.spaces) c.write_at-2.ensures)
          (λ here. let far = first (sym here) in omega (arith, far, ap length c.to_le_bytes-2.ensures)) (omega (arith, fits, same))
          ∙ kept_before c.args.self.now.spaces c.write_at.new.self.spaces c.args.location.segment (8 * (c.args.location.start - 1)) i from n c.to_le_bytes.result
          (ap (λ (h : BuilderState g.row.A.Denot). h.spaces) c.write_at.ensures) (λ here. let room = before (omega (arith, here, c.requires.other)) (sym here) in omega (arith, room))
          (omega (arith, b.room, b.following));
    }
