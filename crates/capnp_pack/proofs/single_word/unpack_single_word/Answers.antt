-- The table says how many bytes the group has, and its last one that no word follows.
use Rattle.std.proofs.Common.{rules, arith, ◌<◌, ◌≡◌, ◌-◌, ◌∷◌, take, drop, length, get_or, subst, length-drop}
use Rattle.std.proofs.lemmas.List.{take_all, take_at}
use lib.Count.{ones}
use Rattle.capnp_pack.specs.Prelude.{MarkedAt}
use Rattle.capnp_pack.proofs.unpacking.SingleWordGroupsExtendUnpackedLemmas.{single_word_unpacked}
use Rattle.capnp_pack.proofs.single_word.unpack_single_word.Goals as goal

pub returns-clause-group : goal.returns-clause-group
returns-clause-group c =
    let shown = c.args.shown.now in
    let tag = get_or shown 0 0 in
    let low : tag < 256 = omega arith in
    let word : length c.unpack_word.new.word ≡ 8 = search rules in
    let all : take (length shown - 1) (drop 1 shown) ≡ drop 1 shown = take_all (length shown - 1) (drop 1 shown) (omega (arith, length-drop 1 shown)) in
    let at : MarkedAt tag c.unpack_word.new.word (drop 1 shown) (drop (ones tag) (drop 1 shown)) =
    subst (λ k. MarkedAt tag c.unpack_word.new.word (drop 1 shown) (drop k (drop 1 shown))) c.unpack_word.ensures.count
    (subst (λ l. MarkedAt tag c.unpack_word.new.word l (drop c.unpack_word.result l)) all c.unpack_word.ensures.taken.marked) in
    let parts : shown ≡ tag ∷ drop 1 shown = search rules in
    single_word_unpacked tag c.group_bytes-used.result shown (drop 1 shown) c.unpack_word.new.word _ low
    c.group_bytes-used.ensures.zero c.group_bytes-used.ensures.full c.group_bytes-used.ensures.tagged (λ none. omega (arith, c.largest_end.ensures.zero none)) (λ full. omega (arith, c.largest_end.ensures.full full))
    parts c.requires.long word (search rules) (take_at c.unpack_word.new.word _ 8 word) at
