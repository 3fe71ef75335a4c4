-- The words of a list are the words of its tree.
use Rattle.std.specs.Prelude.{MatchResult}
use Rattle.std.proofs.Common.{rules, ◌≡◌, ℕ, Err, Result, inl, sym, subst}
use Rattle.capnp_frame.specs.declared.error.Error.{Error}
use Rattle.capnp_frame.specs.declared.error.ErrorKind.{ErrorKind}
use Rattle.capnp_layout.specs.Prelude.{Trees}
use Rattle.capnp_wire.specs.Prelude.{HasWords, WordsError}
use Rattle.capnp_values.specs.StructLists.{IsStructListTree, StructListError}
use Rattle.capnp_values.proofs.values.MeasureWithinBoundElseErrorLemmas.{whole_returned, whole_found, whole_exact}
use Rattle.capnp_values.proofs.struct_list.StructListSetterInputOwned.measure.Goals as goal

pub returns-clause-returned : goal.returns-clause-returned
returns-clause-returned g c =
    whole_returned (λ t. IsStructListTree g.E.Element.words g.E.Fields.has_trees g.E.Element.data_words g.E.Fields.size c.args.self.now.items.now t) (λ k. StructListError g.E.Fields.has_trees g.E.Fields.fails g.E.Element.data_words g.E.Fields.size c.args.self.now.items.now k) c.args.canonical c.in_ok-words.words c.checked_word_count.result c.in_ok-words.ensures.returned c.checked_word_count.ensures

pub returns-clause-found : goal.returns-clause-found
returns-clause-found g c =
    whole_found (λ t. IsStructListTree g.E.Element.words g.E.Fields.has_trees g.E.Element.data_words g.E.Fields.size c.args.self.now.items.now t) (λ k. StructListError g.E.Fields.has_trees g.E.Fields.fails g.E.Element.data_words g.E.Fields.size c.args.self.now.items.now k) c.args.canonical c.in_ok-words.words c.measure_list.result c.checked_word_count.result c.in_ok-words.was c.measure_list.ensures c.checked_word_count.ensures

pub returns-clause-exact : goal.returns-clause-exact
returns-clause-exact g c =
    whole_exact (λ t. IsStructListTree g.E.Element.words g.E.Fields.has_trees g.E.Element.data_words g.E.Fields.size c.args.self.now.items.now t) (λ k. StructListError g.E.Fields.has_trees g.E.Fields.fails g.E.Element.data_words g.E.Fields.size c.args.self.now.items.now k) c.args.canonical c.in_ok-words.words c.measure_list.result c.checked_word_count.result c.in_ok-words.was c.measure_list.ensures c.checked_word_count.ensures

pub returns-in_err-words-clause-returned : goal.returns-in_err-words-clause-returned
returns-in_err-words-clause-returned g c =
    let h = λ (t : Trees). IsStructListTree g.E.Element.words g.E.Fields.has_trees g.E.Element.data_words g.E.Fields.size c.args.self.now.items.now t in
    let r = λ (k : ErrorKind). StructListError g.E.Fields.has_trees g.E.Fields.fails g.E.Element.data_words g.E.Fields.size c.args.self.now.items.now k in
    let was : c.from_residual.result ≡ Err c.in_err-words.field-0.0 = search rules in
    subst (λ (x : Result ℕ Error). MatchResult x (λ words. HasWords h c.args.canonical words) (λ error. WordsError h r c.args.canonical error.kind)) (sym was) (inl c.in_err-words.ensures.returned)
