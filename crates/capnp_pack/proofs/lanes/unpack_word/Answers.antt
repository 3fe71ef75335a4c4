-- The table has each lane's place.
use Rattle.std.proofs.Common.{rules, arith, ◌<◌, sym, subst, w8}
use borrow.Rule.Simd.Moves.{SwzOk}
use Rattle.capnp_pack.proofs.tables.StoredLanesPackOrSpreadLemmas.{spread_lanes}
use Rattle.capnp_pack.proofs.tables.ExpandShuffleLemmas.{entry_of, entry_ok}
use Rattle.capnp_pack.proofs.lanes.unpack_word.Goals as goal

pub swizzle : goal.swizzle
swizzle c =
    let low : c.args.tag < 256 = omega arith in
    subst (SwzOk w8 16 16 0) (sym (entry_of c.args.tag _ low)) (entry_ok c.args.tag)

pub returns-clause-taken : goal.returns-clause-taken
returns-clause-taken c =
    let low : c.args.tag < 256 = omega arith in
    record { used_within = search rules; marked = spread_lanes c.args.tag c.args.shown.now c.args.word.now _ low c.requires.long c.requires.word (entry_of c.args.tag _ low) }
