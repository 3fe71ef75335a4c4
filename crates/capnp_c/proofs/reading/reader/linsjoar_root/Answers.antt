-- The root is the first word, where it is there.
use Rattle.std.proofs.Common.{◌≡◌, ◌∙◌, refl, ap, subst, arith}
use Rattle.capnp_frame.specs.Prelude.{kind_number}
use Rattle.capnp_layout.specs.Prelude.{root, NoWord, no_word}
use Rattle.capnp_layout.proofs.pointers.ErrorExcludesObjectLemmas.{no_word_there}
use Rattle.capnp_layout.proofs.pointers.UniquePointerErrorLemmas.{one_error}
use Rattle.capnp_c.specs.Entering.{message_among}
use Rattle.capnp_c.specs.Reading.{message_in}
use Rattle.capnp_c.proofs.in_place.FollowedPointerResultLemmas.{kind_positive}
use Rattle.capnp_c.proofs.reading.reader.linsjoar_root.Goals as goal

pub returns-in-Err : goal.returns-in-Err
returns-in-Err c =
    let known = c.in-Some.ensures in
    let kind = c.in-Err.error.kind in
    let m = message_in c.args.reader.now c.args.bytes.now in
    let same : message_among c.in-Some.segments ≡ m = rw (known.1, known.2, known.3) refl in
    let own = subst (λ there. NoWord there root kind) same c.in-Err.ensures in
    record {
      no_table = λ none. absurd (none known.0);
      found = λ zero. absurd (omega (arith, zero, c.number.ensures, kind_positive kind));
      accepted = λ table word there. let none = no_word_there m root kind own in absurd (cc);
      errors = λ table error none. c.number.ensures ∙ ap kind_number (one_error m root 0 kind error (no_word own) (no_word none));
      stays = λ more. c.nowhere.ensures;
    }
