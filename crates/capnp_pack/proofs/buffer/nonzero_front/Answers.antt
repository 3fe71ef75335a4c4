-- The table has each byte's place.
use Rattle.std.proofs.Common.{rules, arith, ◌≡◌, ◌<◌, ◌∙◌, sym, ap, subst, length, w8}
use lib.Count.{ones}
use borrow.Rule.Simd.Moves.{SwzOk}
use Rattle.capnp_pack.proofs.tables.StoredLanesPackOrSpreadLemmas.{front_lanes, front_zero}
use Rattle.capnp_pack.proofs.tables.CompactShuffleLemmas.{mark_entry_of, mark_entry_ok, ones_tag}
use Rattle.capnp_pack.proofs.buffer.nonzero_front.Goals as goal

pub swizzle : goal.swizzle
swizzle c =
    let low : c.args.tag < 256 = omega arith in
    subst (SwzOk w8 16 16 0) (sym (mark_entry_of c.args.tag _ low)) (mark_entry_ok c.args.tag)

pub returns-clause-counted : goal.returns-clause-counted
returns-clause-counted c = ap ones c.requires ∙ ones_tag c.args.word.now

pub returns-clause-front : goal.returns-clause-front
returns-clause-front c =
    let low : c.args.tag < 256 = omega arith in
    let is : length c.args.word.now ≡ 8 = search rules in
    front_lanes c.args.tag c.args.word.now _ (mark_entry_of c.args.tag _ low) is c.requires

pub returns-clause-zero : goal.returns-clause-zero
returns-clause-zero c none =
    let low : c.args.tag < 256 = omega arith in
    front_zero c.args.tag c.args.word.now _ (mark_entry_of c.args.tag _ low) none
