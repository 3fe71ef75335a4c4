-- The root's word points to the body.
use Rattle.std.proofs.Common.{length, w64, ap, sym, ◌∙◌, arith}
use Rattle.std.specs.Int.{to_le_bytes}
use Rattle.capnp_layout.specs.Prelude.{count}
use Rattle.capnp_build.specs.Prelude.{BuilderState}
use Rattle.capnp_build.proofs.states.StayingBytesLemmas.{kept_past}
use Rattle.capnp_build.proofs.layouts.RootPointerToBodyLemmas.{local_points, first_segment_room, rewritten_by}
use Rattle.capnp_build.proofs.segments.Segments.point_local.Goals as goal

pub returns : goal.returns
returns g c =
    let room = first_segment_room c.args.self.now.spaces c.args.location c.requires.body c.requires.first in
    record {
      is_laid = λ form children b.
          local_points c.args.self.now.spaces c.write_at.new.self.spaces c.args.location form children c.to_le_bytes.result c.requires.first b
          (c.to_le_bytes.ensures ∙ ap (to_le_bytes w64) (c.moved-pointer.ensures form (count children) b.rooms.0 b.tag)) (ap length c.to_le_bytes.ensures)
          (ap (λ (h : BuilderState g.row.A.Denot). h.spaces) c.write_at.ensures);
      rewritten = rewritten_by c.args.self.now c.write_at.new.self 0 0 c.to_le_bytes.result (omega (arith, room, ap length c.to_le_bytes.ensures)) c.write_at.ensures;
      bytes = λ i from n root landing_pad fits. kept_past c.args.self.now.spaces c.write_at.new.self.spaces 0 0 i from n c.to_le_bytes.result (ap (λ (h : BuilderState g.row.A.Denot). h.spaces) c.write_at.ensures)
          (λ same. let far = root (sym same) in omega (arith, far, ap length c.to_le_bytes.ensures)) fits;
    }
