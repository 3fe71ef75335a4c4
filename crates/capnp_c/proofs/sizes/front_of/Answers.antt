-- What is copied is followed by zeros.
use Rattle.std.proofs.Common.{◌≡◌, ◌-◌, ◌++◌, ◌∙◌, List, ℕ, length, take, drop, replicate, ap, arith}
use Rattle.std.proofs.lemmas.List.{drop-replicate, take_min}
use Rattle.std.specs.Prelude.{min}
use Rattle.capnp_c.proofs.sizes.front_of.Goals as goal

pub returns : goal.returns
returns c =
    let bytes : List ℕ = c.args.bytes.now in
    let there : ℕ = c.min-there.result in
    let zeros : List ℕ = replicate 2048 0 in
    let least : there ≡ min 2048 (length bytes) = omega (arith, c.min-there.ensures) in
    let left : 2048 - there ≡ 2048 - length bytes = omega (arith, c.min-there.ensures) in
    ap (λ (l : List ℕ). l ++ drop there zeros) c.copy_from_slice.ensures.after
    ∙ ap (λ (l : List ℕ). take there bytes ++ l) (drop-replicate there 2048 0)
    ∙ ap (λ (k : ℕ). take there bytes ++ replicate k 0) left
    ∙ ap (λ (l : List ℕ). l ++ replicate (2048 - length bytes) 0) (ap (λ (k : ℕ). take k bytes) least ∙ take_min 2048 bytes)
