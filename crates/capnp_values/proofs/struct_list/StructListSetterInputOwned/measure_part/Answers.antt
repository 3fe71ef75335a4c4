-- The words of a list are the words of its tree.
use Rattle.std.specs.Prelude.{MatchResult}
use Rattle.std.proofs.Common.{rules, ◌≡◌, Err, Result, false, inl, sym, subst}
use Rattle.capnp_frame.specs.declared.error.Error.{Error}
use Rattle.capnp_frame.specs.declared.error.ErrorKind.{ErrorKind}
use Rattle.capnp_layout.specs.Prelude.{Trees}
use Rattle.capnp_wire.specs.Prelude.{HasPart, WordsError}
use Rattle.capnp_wire.specs.declared.traits.TreeWords.{TreeWords}
use Rattle.capnp_values.specs.StructLists.{IsStructListTree, StructListError}
use Rattle.capnp_values.proofs.values.MeasureWithinBoundElseErrorLemmas.{part_returned, part_found, part_exact}
use Rattle.capnp_values.proofs.struct_list.StructListSetterInputOwned.measure_part.Goals as goal

pub returns-clause-returned : goal.returns-clause-returned
returns-clause-returned g c =
    part_returned (λ t. IsStructListTree g.E.Element.words g.E.Fields.has_trees g.E.Element.data_words g.E.Fields.size c.args.self.now.items.now t) (λ k. StructListError g.E.Fields.has_trees g.E.Fields.fails g.E.Element.data_words g.E.Fields.size c.args.self.now.items.now k) c.args.canonical c.in_ok-words.words c.checked_part_words.result c.in_ok-words.ensures.returned c.checked_part_words.ensures

pub returns-clause-found : goal.returns-clause-found
returns-clause-found g c =
    part_found (λ t. IsStructListTree g.E.Element.words g.E.Fields.has_trees g.E.Element.data_words g.E.Fields.size c.args.self.now.items.now t) (λ k. StructListError g.E.Fields.has_trees g.E.Fields.fails g.E.Element.data_words g.E.Fields.size c.args.self.now.items.now k) c.args.canonical c.in_ok-words.words c.measure_list.result c.checked_part_words.result c.in_ok-words.was c.measure_list.ensures c.checked_part_words.ensures

pub returns-clause-exact : goal.returns-clause-exact
returns-clause-exact g c =
    part_exact (λ t. IsStructListTree g.E.Element.words g.E.Fields.has_trees g.E.Element.data_words g.E.Fields.size c.args.self.now.items.now t) (λ k. StructListError g.E.Fields.has_trees g.E.Fields.fails g.E.Element.data_words g.E.Fields.size c.args.self.now.items.now k) c.args.canonical c.in_ok-words.words c.measure_list.result c.checked_part_words.result c.in_ok-words.was c.measure_list.ensures c.checked_part_words.ensures

pub returns-in_err-words-clause-returned : goal.returns-in_err-words-clause-returned
returns-in_err-words-clause-returned g c =
    let h = λ (t : Trees). IsStructListTree g.E.Element.words g.E.Fields.has_trees g.E.Element.data_words g.E.Fields.size c.args.self.now.items.now t in
    let r = λ (k : ErrorKind). StructListError g.E.Fields.has_trees g.E.Fields.fails g.E.Element.data_words g.E.Fields.size c.args.self.now.items.now k in
    let was : c.from_residual.result ≡ Err c.in_err-words.field-0.0 = search rules in
    subst (λ (x : Result TreeWords Error). MatchResult x (λ words. HasPart h c.args.canonical words) (λ error. WordsError h r false error.kind)) (sym was) (inl c.in_err-words.ensures.returned)
