-- A data word of the struct at the root is another one, and all else stays.
use Rattle.std.proofs.Common.{◌≡◌, ◌+◌, ◌*◌, List, length, Option, Some, slice_set, ap, sym, subst, arith}
use Rattle.capnp_build.specs.Prelude.{Space, BuilderState, Built, HasNullRoot, IsBuilt, IsWritten, HasField, IsFieldSet}
use Rattle.capnp_layout.specs.Prelude.{null, struct}
use Rattle.capnp_build.specs.declared.arena.location.RootLocation.{RootLocation}
use Rattle.capnp_build.proofs.writes.RootDataWordLemmas.{field_laid}
use Rattle.capnp_build.proofs.roots.NullRootTreeLemmas.{null_only}
use Rattle.capnp_build.proofs.writes.RootObjectWriteLemmas.{written_at, field_known, field_inside, field_room, root_field_set, no_struct}
use Rattle.capnp_build.proofs.arena.builder_arena.BuilderArena.set_word.Goals as goal

pub write_at-requires-clause-room : goal.write_at-requires-clause-room
write_at-requires-clause-room g c =
    let spaces : List Space = c.self.inside.segments.spaces in
    let f : HasField spaces c.args.index = subst (λ (v : Built g.row.A.Denot). HasField v.spaces c.args.index) (sym c.self.view_is) c.requires in
    let p : IsBuilt spaces (Some c.in-Some.location) = subst (λ (o : Option RootLocation). IsBuilt spaces o) c.in-Some.is c.self.invariant in
    field_room spaces c.in-Some.location c.args.index (length c.to_le_bytes.result) f p (ap length c.to_le_bytes.ensures)

pub invariant_of-self : goal.invariant_of-self
invariant_of-self g c =
    let spaces : List Space = c.self.inside.segments.spaces in
    let f : HasField spaces c.args.index = subst (λ (v : Built g.row.A.Denot). HasField v.spaces c.args.index) (sym c.self.view_is) c.requires in
    let p : IsBuilt spaces (Some c.in-Some.location) = subst (λ (o : Option RootLocation). IsBuilt spaces o) c.in-Some.is c.self.invariant in
    let r = field_known spaces c.in-Some.location c.args.index f p in
    let laid = field_laid spaces c.write_at.new.self.spaces c.in-Some.location f.words f.children c.args.index c.args.word c.to_le_bytes.result r f.within c.ranges.word.fits c.to_le_bytes.ensures
    (ap length c.to_le_bytes.ensures) (ap (λ (h : BuilderState g.row.A.Denot). h.spaces) c.write_at.ensures) in
    let after : IsBuilt c.write_at.new.self.spaces (Some c.in-Some.location) = (struct (slice_set f.words c.args.index c.args.word), f.children, laid) in
    subst (λ (o : Option RootLocation). IsBuilt c.write_at.new.self.spaces o) (sym c.in-Some.is) after

pub returns-in-Some : goal.returns-in-Some
returns-in-Some g c =
    let spaces : List Space = c.self.inside.segments.spaces in
    let f : HasField spaces c.args.index = subst (λ (v : Built g.row.A.Denot). HasField v.spaces c.args.index) (sym c.self.view_is) c.requires in
    let p : IsBuilt spaces (Some c.in-Some.location) = subst (λ (o : Option RootLocation). IsBuilt spaces o) c.in-Some.is c.self.invariant in
    let location : RootLocation = c.in-Some.location in
    let new : Built g.row.A.Denot = record { spaces = c.write_at.new.self.spaces; location = c.self.inside.location; allocator = c.write_at.new.self.allocator } in
    let e = ap (λ (h : BuilderState g.row.A.Denot). h.spaces) c.write_at.ensures in
    let a = root_field_set spaces c.write_at.new.self.spaces c.in-Some.location c.args.index c.args.word c.to_le_bytes.result f p c.ranges.word.fits c.to_le_bytes.ensures (ap length c.to_le_bytes.ensures) e in
    record {
      set = subst (λ (v : Built g.row.A.Denot). IsFieldSet v.spaces c.write_at.new.self.spaces c.args.index c.args.word) c.self.view_is a;
      written = subst (λ (v : Built g.row.A.Denot). IsWritten v new) c.self.view_is
          (written_at c.self.inside.segments c.write_at.new.self c.self.inside.location location (8 * (location.start + c.args.index)) c.to_le_bytes.result c.in-Some.is c.write_at.ensures (omega arith)
          (field_inside spaces location c.args.index (length c.to_le_bytes.result) f p (ap length c.to_le_bytes.ensures))
          (field_room spaces location c.args.index (length c.to_le_bytes.result) f p (ap length c.to_le_bytes.ensures)));
    }

pub returns-in_default : goal.returns-in_default
returns-in_default g c =
    let spaces : List Space = c.self.inside.segments.spaces in
    let f : HasField spaces c.args.index = subst (λ (v : Built g.row.A.Denot). HasField v.spaces c.args.index) (sym c.self.view_is) c.requires in
    let r : HasNullRoot spaces = subst (λ (o : Option RootLocation). IsBuilt spaces o) c.in_default.is c.self.invariant in
    let no : struct f.words ≡ null = null_only spaces (struct f.words) f.children f.traversed r f.is_at in
    absurd (no_struct f.words no)
