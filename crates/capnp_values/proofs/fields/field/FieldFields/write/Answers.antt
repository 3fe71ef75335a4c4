-- The first value is written, its pointer is put, and then the fields after it are written.
use Rattle.std.proofs.Common.{◌≡◌, suc, ◌-◌, arith}
use Rattle.capnp_values.proofs.structs.FieldWriteLemmas.{first_room, fields_step, fields_written, none_fields_written}
use Rattle.capnp_values.proofs.fields.field.FieldFields.write.Goals as goal

pub returns-then-count-eq0-clause-written : goal.returns-then-count-eq0-clause-written
returns-then-count-eq0-clause-written g c = none_fields_written _ c.args.canonical c.args.slot c.args.count c.args.next _ c.if-count-eq0.true

pub write-copied-requires-clause-value : goal.write-copied-requires-clause-value
write-copied-requires-clause-value g c =
    let n : c.args.count ≡ suc (c.args.count - 1) = omega (arith, c.if-count-eq0.false) in
    first_room (g.V.SetterInput.has_tree c.args.self.now.value) (g.F.Fields.has_trees c.args.self.now.rest) c.args.canonical c.args.count (c.args.count - 1) c.args.next _ n c.requires.fields

pub put_word-requires : goal.put_word-requires
put_word-requires g c =
    let n : c.args.count ≡ suc (c.args.count - 1) = omega (arith, c.if-count-eq0.false) in
    let s = fields_step (g.V.SetterInput.has_tree c.args.self.now.value) (g.F.Fields.has_trees c.args.self.now.rest) c.args.canonical c.args.slot c.args.count (c.args.count - 1) c.args.next c.args.block.now
    c.write-copied.new.block c.write-copied.result n c.requires.fields c.requires.free c.requires.before c.write-copied.ensures.written c.write-copied.ensures.len in
    s.put_room

pub write-requires-clause-fields : goal.write-requires-clause-fields
write-requires-clause-fields g c =
    let n : c.args.count ≡ suc (c.args.count - 1) = omega (arith, c.if-count-eq0.false) in
    let s = fields_step (g.V.SetterInput.has_tree c.args.self.now.value) (g.F.Fields.has_trees c.args.self.now.rest) c.args.canonical c.args.slot c.args.count (c.args.count - 1) c.args.next c.args.block.now
    c.write-copied.new.block c.write-copied.result n c.requires.fields c.requires.free c.requires.before c.write-copied.ensures.written c.write-copied.ensures.len in
    s.can c.put_word.new.block c.put_word.ensures.len

pub write-requires-clause-free : goal.write-requires-clause-free
write-requires-clause-free g c =
    let n : c.args.count ≡ suc (c.args.count - 1) = omega (arith, c.if-count-eq0.false) in
    let s = fields_step (g.V.SetterInput.has_tree c.args.self.now.value) (g.F.Fields.has_trees c.args.self.now.rest) c.args.canonical c.args.slot c.args.count (c.args.count - 1) c.args.next c.args.block.now
    c.write-copied.new.block c.write-copied.result n c.requires.fields c.requires.free c.requires.before c.write-copied.ensures.written c.write-copied.ensures.len in
    s.free_from c.put_word.new.block c.put_word.ensures.words c.put_word.ensures.len

pub write-requires-clause-before : goal.write-requires-clause-before
write-requires-clause-before g c =
    let n : c.args.count ≡ suc (c.args.count - 1) = omega (arith, c.if-count-eq0.false) in
    let s = fields_step (g.V.SetterInput.has_tree c.args.self.now.value) (g.F.Fields.has_trees c.args.self.now.rest) c.args.canonical c.args.slot c.args.count (c.args.count - 1) c.args.next c.args.block.now
    c.write-copied.new.block c.write-copied.result n c.requires.fields c.requires.free c.requires.before c.write-copied.ensures.written c.write-copied.ensures.len in
    s.before_it

pub returns-clause-written : goal.returns-clause-written
returns-clause-written g c =
    let n : c.args.count ≡ suc (c.args.count - 1) = omega (arith, c.if-count-eq0.false) in
    fields_written (g.V.SetterInput.has_tree c.args.self.now.value) (g.F.Fields.has_trees c.args.self.now.rest) c.args.canonical c.args.slot c.args.count (c.args.count - 1) c.args.next _ _ _ _ _ c.write-copied.result n
    c.write-copied.ensures.written c.put_word.ensures.words c.write.ensures.written
