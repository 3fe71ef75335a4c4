-- The object's block replaces the bytes from this one on.
use Rattle.std.proofs.Common.{◌≡◌, ◌∙◌, ◌+◌, ◌-◌, ◌*◌, ◌≤◌, ◌++◌, ℕ, List, length, take, drop, sym, ap, subst, arith, length-take, length-drop}
use Rattle.std.specs.Prelude.{replicate}
use Rattle.capnp_orphans.proofs.WrittenBlockIsOrphanLemmas.{middle_part, middle_long}
use Rattle.capnp_orphans.proofs.segment.write_over.Goals as goal

part_long : (from added : ℕ) (bytes : List ℕ) → from + added ≤ length bytes → length (take (from + added - from) (drop from bytes)) ≡ added
part_long from added bytes within = omega (arith, length-take (from + added - from) (drop from bytes), length-drop from bytes, within)

pub write-requires-clause-whole : goal.write-requires-clause-whole
write-requires-clause-whole g c =
    omega (arith, part_long c.args.from (8 * c.args.words) c.prepare.new.bytes (omega (arith, c.requires.within, c.prepare.ensures.len)))

pub write-requires-clause-takes : goal.write-requires-clause-takes
write-requires-clause-takes g c =
    subst (λ (n : ℕ). g.O.Object.takes c.args.object.now n) (omega (arith, part_long c.args.from (8 * c.args.words) c.prepare.new.bytes (omega (arith, c.requires.within, c.prepare.ensures.len))))
    c.requires.takes

pub write-requires-clause-zero : goal.write-requires-clause-zero
write-requires-clause-zero g c wants =
    let within : c.args.from + 8 * c.args.words ≤ length c.prepare.new.bytes = omega (arith, c.requires.within, c.prepare.ensures.len) in
    let size : c.args.from + 8 * c.args.words - c.args.from ≡ 8 * c.args.words = omega arith in
    ap (λ (n : ℕ). take n (drop c.args.from c.prepare.new.bytes)) size ∙ c.prepare.ensures.zero (c.wants_zeros.ensures ∙ wants)
    ∙ ap (λ (n : ℕ). replicate n 0) (sym (part_long c.args.from (8 * c.args.words) c.prepare.new.bytes within))

pub write-requires-clause-few : goal.write-requires-clause-few
write-requires-clause-few g c =
    omega (arith, part_long c.args.from (8 * c.args.words) c.prepare.new.bytes (omega (arith, c.requires.within, c.prepare.ensures.len)), c.requires.few)

pub returns : goal.returns
returns g c =
    let within : c.args.from + 8 * c.args.words ≤ length c.prepare.new.bytes = omega (arith, c.requires.within, c.prepare.ensures.len) in
    let size : c.args.from + 8 * c.args.words ≡ c.args.from + (c.args.from + 8 * c.args.words - c.args.from) = omega arith in
    let long : length c.write.new.block ≡ c.args.from + 8 * c.args.words - c.args.from =
    omega (arith, c.write.auto.block, part_long c.args.from (8 * c.args.words) c.prepare.new.bytes within) in
    record {
      block = c.write.new.block;
      block_long = omega (arith, long);
      bytes_are = ap (λ (n : ℕ). take n (take c.args.from c.prepare.new.bytes ++ (c.write.new.block ++ drop (c.args.from + 8 * c.args.words - c.args.from) (drop c.args.from c.prepare.new.bytes)))) size
          ∙ middle_part c.args.from (c.args.from + 8 * c.args.words - c.args.from) c.prepare.new.bytes c.write.new.block (omega (arith, within)) long
          ∙ ap (λ (l : List ℕ). l ++ c.write.new.block) c.prepare.ensures.front;
      len = middle_long c.args.from (c.args.from + 8 * c.args.words - c.args.from) c.prepare.new.bytes c.write.new.block (omega (arith, within)) long ∙ c.prepare.ensures.len;
      holds_is = c.write.ensures;
    }
