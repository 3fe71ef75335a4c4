-- The root that is gotten is the one that was set.
use Rattle.std.proofs.Common.{rules, inl, inr, refl, sym, subst, arith}
use Rattle.std.proofs.lemmas.Result.{err_from_is_err_and}
use Rattle.capnp_wire.specs.Prelude.{struct, Root, pointer_of}
use Rattle.capnp_build.specs.Prelude.{Built, message}
use Rattle.capnp_uses.proofs.RootSetFromPointerTreeLemmas.{root_has_segment, set_form, word_set, set_word_kept, form_error_tree}
use Rattle.capnp_uses.proofs.setting.set_tree_and_word.Goals as goal

pub returns-then-data_words-gt0 : goal.returns-then-data_words-gt0
returns-then-data_words-gt0 g c = record {
  errors = tt;
  is_set =
      let pointer = pointer_of g.S.ReaderSegments.segments c.args.source in
      let set = set_form pointer _ c.in_ok-set_tree.ensures.root.set in
      let same = c.in_ok-fields.ensures.gets.looked.stays (root_has_segment _ set.0 set.1 set.2 set.4) in
      let there = subst (λ (b : Built _). Root (message b.spaces) set.0 set.1 set.2) (sym same) set.4 in
      let taken = c.in_ok-fields.ensures.gets.taken set.0 set.1 set.2 there in
      let after = word_set pointer c.args.word _ _ _ set.0 set.1 set.2 set.3 there taken (c.data_words.ensures.count set.0 set.1 set.2 there) (omega arith) c.set_word.ensures.set in
      search rules;
  set = λ words children some points_to.
      let was_set = c.in_ok-set_tree.ensures.set (struct words) children points_to in
      let same = c.in_ok-fields.ensures.gets.looked.stays (root_has_segment _ _ _ _ was_set.1) in
      let there = subst (λ (b : Built _). Root (message b.spaces) (struct words) children was_set.0) (sym same) was_set.1 in
      let after = c.set_word.ensures.set words children was_set.0 there in
      search rules;
}

pub returns-else-data_words-gt0 : goal.returns-else-data_words-gt0
returns-else-data_words-gt0 g c = record {
  errors = tt;
  is_set =
      let pointer = pointer_of g.S.ReaderSegments.segments c.args.source in
      let set = set_form pointer _ c.in_ok-set_tree.ensures.root.set in
      let same = c.in_ok-fields.ensures.gets.looked.stays (root_has_segment _ set.0 set.1 set.2 set.4) in
      let there = subst (λ (b : Built _). Root (message b.spaces) set.0 set.1 set.2) (sym same) set.4 in
      let taken = c.in_ok-fields.ensures.gets.taken set.0 set.1 set.2 there in
      let kept = set_word_kept pointer c.args.word _ _ set.0 set.1 set.2 set.3 there taken (c.data_words.ensures.count set.0 set.1 set.2 there) (omega arith) in
      search rules;
  set = λ words children some points_to.
      let was_set = c.in_ok-set_tree.ensures.set (struct words) children points_to in
      let same = c.in_ok-fields.ensures.gets.looked.stays (root_has_segment _ _ _ _ was_set.1) in
      let there = subst (λ (b : Built _). Root (message b.spaces) (struct words) children was_set.0) (sym same) was_set.1 in
      let counted = c.data_words.ensures.count (struct words) children was_set.0 there words refl in
      absurd (omega (arith, counted, some));
}

pub returns-in_err-set_tree-clause-errors : goal.returns-in_err-set_tree-clause-errors
returns-in_err-set_tree-clause-errors g c =
    let p = err_from_is_err_and c.from_residual.result c.from_residual.ensures.1 in
    rw (p.1, p.2) (inl (record { cleared = c.in_err-set_tree.ensures.root.nulled; errors = c.in_err-set_tree.ensures.root.kind }))

pub returns-in_err-fields-clause-errors : goal.returns-in_err-fields-clause-errors
returns-in_err-fields-clause-errors g c =
    let p = err_from_is_err_and c.from_residual-in_err-fields.result c.from_residual-in_err-fields.ensures.1 in
    rw (p.1, p.2) (inr (form_error_tree g.A.Allocator _ c.set_tree.new.built _ c.in_ok-set_tree.ensures.root.set c.in_err-fields.ensures.gets.kind))
