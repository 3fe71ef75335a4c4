-- The line is between its front and its end.
use Rattle.std.proofs.Common.{string_bytes, codes}
use Rattle.std.proofs.lemmas.Result.{on_ok_weaker}
use Rattle.capnp_show.proofs.JoinedAddedStringsLemmas.{marked_between, pushed}
use Rattle.capnp_show.proofs.html.push_object.Goals as goal

pub returns : goal.returns
returns c =
    on_ok_weaker c.push_str.result (λ end. marked_between _ _ _ _ _ _ _ c.in_ok-push_object_front.ensures c.in_ok-push_markup.ensures end)
    (pushed c.push_str.result (string_bytes c.push_markup.new.markup) (codes "</li>\n") _ c.push_str.ensures.bytes)
