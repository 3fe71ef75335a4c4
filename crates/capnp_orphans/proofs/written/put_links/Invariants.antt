-- The pointers so far are put.
use Rattle.std.proofs.Common.{◌≡◌, take, map}
use Rattle.capnp_layout.specs.Prelude.{words_of, put}
use Rattle.capnp_orphans.specs.Orphans.{links}
use Rattle.capnp_orphans.proofs.written.put_links.Given as goal

abbrev pub invariant-loop-index : goal.invariant-loop-index
invariant-loop-index g l = words_of l.block ≡ put 0 (take l.index (links (map g.W.OrphanWord.word l.items) l.place)) (words_of l.fn.block)
