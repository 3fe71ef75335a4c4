-- The block is the body of the value's tree.
use Rattle.std.proofs.Common.{rules, ◌≡◌, length, w64, ap, sym, ◌∙◌, arith}
use Rattle.std.specs.Int.{from_le_bytes}
use Rattle.capnp_frame.specs.Prelude.{bytes_of}
use Rattle.capnp_layout.specs.Prelude.{count, pointer}
use Rattle.capnp_build.specs.Prelude.{BuilderState}
use Rattle.capnp_layout.proofs.words.WordsOfBytesLemmas.{number_of_eight}
use Rattle.capnp_build.proofs.layouts.RootPointerToBodyLemmas.{block_there, longer_by}
use Rattle.capnp_build.proofs.layouts.RootIsValueLemmas.{ready}
use Rattle.capnp_build.proofs.segments.Segments.append_value.Goals as goal

pub returns-clause-body : goal.returns-clause-body
returns-clause-body g c =
    let a = c.append-word.ensures in
    let r = ready (g.V.SetterInput.has_tree c.args.value.now) c.args.canonical c.append-word.result c.args.words a.block (g.met.V.SetterInput.one c.args.value.now) c.requires.value a.holds in
    let eight : length (bytes_of c.append-word.result) ≡ 8 = search rules in
    let tag : c.from_le_bytes.result ≡ pointer r.form (count r.children) 0 =
    c.from_le_bytes.ensures ∙ ap (from_le_bytes w64) c.bytes.ensures ∙ sym (number_of_eight (bytes_of c.append-word.result) eight) ∙ r.tag in
    record {
      trees = r.trees;
      tree_is = r.tree_is;
      form = r.form;
      children = r.children;
      same = r.same;
      body_is = block_there c.args.self.now.spaces c.append-word.new.self.spaces c.args.segment c.words-start.result c.args.words c.from_le_bytes.result a.block r.form r.children
          c.requires.within (ap (λ (h : BuilderState g.row.A.Denot). h.spaces) a.state_is) c.words-start.ensures.words (omega (arith, c.requires.following, c.words-start.ensures.words))
          c.words-start.ensures.bound a.len r.size r.few r.rooms tag r.body_is;
    }

pub returns-clause-longer : goal.returns-clause-longer
returns-clause-longer g c =
    let a = c.append-word.ensures in longer_by c.args.self.now c.append-word.new.self c.args.segment c.args.words a.block c.requires.within a.len a.state_is
