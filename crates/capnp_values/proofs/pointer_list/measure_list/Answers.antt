-- A list of pointers has a word for each value, and the words of the values.
use Rattle.std.proofs.Common.{rules, ◌≡◌, ◌+◌, ◌-◌, ◌^◌, ◌∙◌, ℕ, min, length, Ok, Err, Result, subst, sym, ap, arith}
use Rattle.capnp_frame.specs.declared.error.Error.{Error}
use Rattle.capnp_frame.specs.declared.error.ErrorKind.TheVariants.{AllocationTooLarge}
use Rattle.capnp_values.specs.Measured.{MeasuresValue}
use Rattle.capnp_values.specs.Lists.{AreItems, IsPointerListTree, PointerListError}
use Rattle.capnp_wire.specs.declared.traits.TreeWords.{TreeWords}
use Rattle.capnp_values.proofs.lists.ItemMeasureLemmas.{items_settled, measured_few}
use Rattle.capnp_values.proofs.lists.PointerListMeasureLemmas.{pointer_list_measured, list_too_long, pointer_list_error}
use Rattle.capnp_values.proofs.pointer_list.measure_list.Goals as goal

pub returns-then-count : goal.returns-then-count
returns-then-count g c = list_too_long (g.S.ValueSource.has_tree c.args.items.now) (g.S.ValueSource.fails c.args.items.now) (g.S.ValueSource.items c.args.items.now) c.args.canonical c.allocation_too_large.result (omega arith) (c.allocation_too_large.ensures ∙ ap (λ (k : ℕ). AllocationTooLarge (min k (2 ^ 32 - 1))) c.len-count.ensures)

pub returns-in_err-words : goal.returns-in_err-words
returns-in_err-words g c =
    let h = (g.S.ValueSource.has_tree c.args.items.now) in
    let r = (g.S.ValueSource.fails c.args.items.now) in
    let was : c.from_residual.result ≡ Err c.in_err-words.field-0.0 = search rules in
    subst (λ (x : Result TreeWords Error). MeasuresValue (λ t. IsPointerListTree h (g.S.ValueSource.items c.args.items.now) t) (λ k. PointerListError h r (g.S.ValueSource.items c.args.items.now) k) c.args.canonical x) (sym was)
    (pointer_list_error h r (g.S.ValueSource.items c.args.items.now) c.args.canonical c.measure_items.result c.in_err-words.field-0.0 (omega arith) c.in_err-words.was c.measure_items.ensures)

pub overflow_add-untrimmed : goal.overflow_add-untrimmed
overflow_add-untrimmed g c =
    let few = measured_few (λ t. AreItems (g.S.ValueSource.has_tree c.args.items.now) (g.S.ValueSource.items c.args.items.now) t) c.args.canonical (length (g.S.ValueSource.items c.args.items.now)) c.in_ok-words.words
    (items_settled (g.S.ValueSource.has_tree c.args.items.now) (g.S.ValueSource.items c.args.items.now)) c.in_ok-words.ensures.returned in
    record { fits = omega (arith, few.0, c.if-count.false, c.len-count.ensures) }

pub overflow_add-output : goal.overflow_add-output
overflow_add-output g c =
    let few = measured_few (λ t. AreItems (g.S.ValueSource.has_tree c.args.items.now) (g.S.ValueSource.items c.args.items.now) t) c.args.canonical (length (g.S.ValueSource.items c.args.items.now)) c.in_ok-words.words
    (items_settled (g.S.ValueSource.has_tree c.args.items.now) (g.S.ValueSource.items c.args.items.now)) c.in_ok-words.ensures.returned in
    record { fits = omega (arith, few.1, c.if-count.false, c.len-count.ensures) }

pub returns : goal.returns
returns g c =
    let h = g.S.ValueSource.has_tree c.args.items.now in
    let r = g.S.ValueSource.fails c.args.items.now in
    let values = g.S.ValueSource.items c.args.items.now in
    let own = c.in_ok-words.words in
    subst (λ (k : ℕ). MeasuresValue (λ t. IsPointerListTree h values t) (λ e. PointerListError h r values e) c.args.canonical (Ok (record { untrimmed = k + own.untrimmed; output = k + own.output }))) (sym c.len-count.ensures)
    (pointer_list_measured h r values c.args.canonical c.measure_items.result own (omega (arith, c.if-count.false, c.len-count.ensures)) c.in_ok-words.was c.measure_items.ensures)
