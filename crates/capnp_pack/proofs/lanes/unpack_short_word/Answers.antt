-- The marked bytes are the front of those that are copied.
use Rattle.std.proofs.Common.{rules, arith, ◌≤◌, ◌≡◌, ◌∙◌, sym, ap, take}
use Rattle.std.proofs.lemmas.List.{take-take}
use Rattle.capnp_pack.proofs.tables.ExpandShuffleLemmas.{spread_front}
use Rattle.capnp_pack.proofs.lanes.unpack_short_word.Goals as goal

pub returns-clause-taken : goal.returns-clause-taken
returns-clause-taken c =
    let shown = c.args.shown.now in
    let front = c.copy_bytes.new.buffer in
    let used = c.unpack_word.result in
    let count = c.min.result in
    let few : used ≤ 8 = c.unpack_word.ensures.taken.used_within in
    let within : used ≤ count = omega arith in
    let same : take used front ≡ take used shown = sym (take-take used count front within) ∙ ap (take used) c.copy_bytes.ensures ∙ take-take used count shown within in
    record {
      used_within = few;
      marked = spread_front c.args.tag used shown front _ (search rules) same c.unpack_word.ensures.taken.marked;
    }
