-- Three strings are added one after the other.
use Rattle.std.proofs.Common.{string_bytes, codes}
use Rattle.std.proofs.lemmas.Result.{on_ok_weaker}
use Rattle.capnp_show.proofs.JoinedAddedStringsLemmas.{three_added, pushed}
use Rattle.capnp_show.proofs.html.push_object_front.Goals as goal

pub returns : goal.returns
returns c =
    on_ok_weaker c.push_str-2.result (λ end. three_added _ _ _ _ _ _ _ c.in_ok-push_str.ensures.bytes c.in_ok-push_object_classes.ensures end)
    (pushed c.push_str-2.result (string_bytes c.push_object_classes.new.markup) (codes "\">") _ c.push_str-2.ensures.bytes)
