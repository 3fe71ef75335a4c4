-- The table of one segment is its first word: no more is asked for.
use Rattle.std.proofs.Common.{rules, ◌≡◌, ◌-◌, ℕ, List, [], Option, length, take, drop, refl, inr, arith}
use Rattle.std.proofs.lemmas.List.{take_all, length-drop, nil_from_length}
use Rattle.std.proofs.lemmas.Result.{on_ok_weaker, IfErr-weaker}
use Rattle.capnp_frame.specs.Prelude.{table_size, Giving, Refusing, IsSource, IsTail, IfKnown}
use Rattle.capnp_frame.proofs.sources.JoinedRequestPartsLemmas.{IfKnown-refl}
use Rattle.capnp_frame.proofs.errors.ReaderErrorLineLemmas.{complete_error, complete_kind}
use Rattle.capnp_frame.proofs.tables.TableFromTwoRequestsLemmas.{rest_found}
use Rattle.capnp_frame.proofs.serialize.stream_table.read_lengths.Goals as goal

no_more : {gives : Giving} {refuses : Refusing} → IsSource gives refuses → (word : List ℕ) → length word ≡ 8
    → (unread : Option (List ℕ)) → IfKnown unread unread (λ raw rest. gives raw (length word - 8) (drop 8 word) rest)
no_more source word long unread =
    let none : drop 8 word ≡ [] = nil_from_length (drop 8 word) (omega (arith, length-drop 8 word)) in
    let nothing : length word - 8 ≡ 0 = omega arith in
    IfKnown-refl _ unread (λ raw. rw (none, nothing) (source.takes_nothing raw))

pub returns-then-size-eq8 : goal.returns-then-size-eq8
returns-then-size-eq8 g c =
    let word = c.args.first.now in
    let source = c.args.source.now in
    let long : length word ≡ 8 = search rules in
    let front : take 8 word ≡ word = take_all 8 word (omega arith) in
    let size : length word ≡ table_size (length c.fill_lengths.new.indices) = search rules in
    let given = no_more g.met.R.Read.lawful word long (g.R.Read.unread source) in
    let reported = c.fill_lengths.ensures in
    let read = c.fill_lengths.result in
    record {
      table = on_ok_weaker read (λ kept. rw reported.declared (rest_found c.args.rules.now.padding g.R.Read.gives word word _ _ _ front size reported.tells kept given)) reported.padding;
      ranges = reported.ranges;
      bound = reported.bound;
      each = on_ok_weaker read (λ kept. rw reported.declared reported.tells.lengths.each) reported.padding;
      within = reported.within;
      errors = IfErr-weaker read _ _ (λ error met. inr (complete_error c.args.rules.now.padding g.R.Read.gives g.R.Read.refuses c.args.rules.now.limit_in_words error.kind word word _ _ _
          front size given met)) reported.errors;
      kinds = IfErr-weaker read _ _ (λ error met. (complete_kind c.args.rules.now.padding g.R.Read.refuses c.args.rules.now.limit_in_words error.kind word met).0) reported.errors;
      asked = record {
        failed = IfErr-weaker read _ _ (λ error met device. absurd ((complete_kind c.args.rules.now.padding g.R.Read.refuses c.args.rules.now.limit_in_words error.kind word met).1 device)) reported.errors;
        advances = record {
          tail = IfKnown-refl IsTail _ (λ raw. ([], refl));
          counted = omega arith;
          same_source = g.met.R.Read.keeps.reflexive source;
        };
      };
    }
