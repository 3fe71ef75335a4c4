-- The first word is in front of the words that are read.
use Rattle.std.proofs.Common.{◌≡◌, ◌-◌, ◌++◌, rules, take, drop, length, ap, ◌∙◌}
use Rattle.std.proofs.lemmas.List.{take_at}
use Rattle.std.proofs.lemmas.Result.{on_ok_weaker}
use borrow.Rule.Slice.PartMut.{put_mid}
use Rattle.capnp_frame.proofs.tables.TableFromTwoRequestsLemmas.{completed, completed_given}
use Rattle.capnp_frame.proofs.serialize.stream_table.complete_table.Goals as goal

pub returns-clause-front : goal.returns-clause-front
returns-clause-front g c =
    let word = c.copy_from_slice.new.self in
    let following = drop 8 c.args.table.now in
    let chunk = c.read_chunk.new.chunk in
    let long : length word ≡ 8 = ap length c.copy_from_slice.ensures.after ∙ c.told-first in
    let is = completed word following chunk long (search rules) in
    on_ok_weaker c.read_chunk.result (λ read. ap (take 8) is ∙ take_at word chunk 8 long ∙ c.copy_from_slice.ensures.after) c.read_chunk.ensures.given

pub returns-clause-others : goal.returns-clause-others
returns-clause-others g c =
    let word = c.copy_from_slice.new.self in
    let following = drop 8 c.args.table.now in
    let chunk = c.read_chunk.new.chunk in
    let long : length word ≡ 8 = ap length c.copy_from_slice.ensures.after ∙ c.told-first in
    let is = completed word following chunk long (search rules) in
    on_ok_weaker c.read_chunk.result (completed_given g.R.Read.gives word chunk (put_mid 8 (length (word ++ following) - 8) (word ++ following) chunk) _ _ long is) c.read_chunk.ensures.given
