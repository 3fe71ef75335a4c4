-- Each run is shown after what came before it, and then the character at its end.
use Rattle.std.proofs.Common.{rules, ◌≡◌, ℕ, List, [], ◌∷◌, ◌++◌, refl, sym, subst, ap, ◌∙◌, string_bytes, append-nil}
use Rattle.std.specs.Str.{chars}
use Rattle.std.proofs.lemmas.Result.{on_ok_weaker}
use Rattle.capnp_show.specs.Output.{AreJsonEscaped, none_shown, json_escaped}
use Rattle.capnp_show.proofs.JoinedAddedStringsLemmas.{added_after, ended, pushed}
use Rattle.capnp_show.proofs.UnescapedRunLemmas.{escaped_more, escaped_last, characters_more}
use Rattle.capnp_show.proofs.escapes.push_escaped.Goals as goal

pub loop-plain-init : goal.loop-plain-init
loop-plain-init c = ([], [], sym (append-nil _), none_shown, refl, c.utf8.shown)

pub loop-plain-preserved : goal.loop-plain-preserved
loop-plain-preserved c =
    let before = c.loop-plain.invariant in
    let added = json_escaped c.in-Some.character c.escape_of.result in (
      (before.0 ++ chars c.in-Some.plain.now) ++ c.in-Some.character ∷ [],
      (before.1 ++ c.in-Some.plain.now) ++ added,
      added_after _ (before.1 ++ c.in-Some.plain.now) _ _ added (added_after _ before.1 _ _ c.in-Some.plain.now before.2 c.in_ok-push_run.ensures) c.in_ok-push_escape.ensures,
      escaped_more before.0 before.1 c.in-Some.plain.now c.in-Some.character c.escape_of.result before.3 c.in-Some.ensures.plain.0 c.in-Some.ensures.plain.1 c.escape_of.ensures,
      characters_more (chars c.args.shown.now) before.0 c.loop-plain.rest.now c.in-Some.plain.now c.in-Some.after.now c.in-Some.character before.4 c.in-Some.ensures.rest.1,
      c.in-Some.ensures.after,
    )

pub returns : goal.returns
returns c =
    let before = c.loop-plain.invariant in
    let all = escaped_last before.0 before.1 c.loop-plain.rest.now before.3 before.5 (c.in_default.ensures.whole refl).1 in
    on_ok_weaker c.push_str.result (λ is. (
      before.1 ++ c.loop-plain.rest.now,
      ended _ (before.1 ++ c.loop-plain.rest.now) _ (added_after _ before.1 _ _ c.loop-plain.rest.now before.2 is),
      subst (λ (characters : List ℕ). AreJsonEscaped characters (before.1 ++ c.loop-plain.rest.now)) (sym before.4) all,
    )) (pushed c.push_str.result _ c.loop-plain.rest.now _ c.push_str.ensures.bytes)
