-- The bytes of a list are in its words.
use Rattle.std.proofs.Common.{◌≡◌, ◌+◌, ◌-◌, ◌*◌, ℕ, take, drop, ap, ◌∙◌, arith}
use Rattle.capnp_layout.proofs.objects.ByteListElementLemmas.{elements_are_bytes}
use Rattle.capnp_wire.proofs.object_content.bytes_at.Goals as goal

pub returns : goal.returns
returns c =
    let bytes = c.args.segment.now in
    let start = c.args.start in
    let count : 8 * start + c.args.count - 8 * start ≡ c.args.count = omega arith in
    ap (λ (n : ℕ). take n (drop (8 * start) bytes)) count
    ∙ elements_are_bytes bytes start c.args.count (λ i. omega (arith, c.type_inv.segment i)) c.requires
