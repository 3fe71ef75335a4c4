-- Three strings are added one after the other.
use Rattle.std.proofs.Common.{string_bytes, codes}
use Rattle.std.proofs.lemmas.Result.{on_ok_weaker}
use Rattle.capnp_show.proofs.JoinedAddedStringsLemmas.{three_added, pushed}
use Rattle.capnp_show.proofs.html.push_section.Goals as goal

pub returns : goal.returns
returns c =
    on_ok_weaker c.push_str-2.result (λ end. three_added _ _ _ _ _ _ _ c.in_ok-push_str.ensures.bytes c.in_ok-push.ensures end)
    (pushed c.push_str-2.result (string_bytes c.push.new.markup) (codes "\">\n<h2>") _ c.push_str-2.ensures.bytes)
