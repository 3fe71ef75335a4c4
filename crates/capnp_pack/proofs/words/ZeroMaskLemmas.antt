-- What the comparison of a word's bytes with zero says, as a mask.
use Rattle.std.proofs.Common.{◌<◌, ◌≡◌, ℕ, ◌+◌, ◌*◌, ◌%◌, ◌^◌, ◌≤◌, Bool, true, false, not, cond, eqb, List, [], ◌∷◌, length, map, replicate, refl, sym, subst, ap, ◌∙◌, arith, w8}
use Rattle.std.specs.Prelude.{if◌then◌else◌}
use Rattle.std.specs.Int.RustNames.{count_ones}
use Rattle.std.specs.Simd.Lanes.{zip2, mask_l, top}
use Rattle.std.specs.List.{prefix_len}
use lib.Count.{count_trailing_zeros}
use Rattle.std.proofs.lemmas.Simd.{bitmask_splat, ones-mask_l, trailing_mask_l}
use Rattle.capnp_pack.specs.Prelude.{zero_bytes, tag_of}

bit_is : (b : Bool) → ◌≡◌ {A = ℕ} (cond (not b) 1 0) (if b then 0 else 1)
bit_is true = refl
bit_is false = refl

mask_tag : (w : List ℕ) → mask_l (map (λ x. not (eqb x 0)) w) ≡ tag_of w
mask_tag [] = refl
mask_tag (b ∷ w) = ap (λ n. cond (not (eqb b 0)) 1 0 + 2 * n) (mask_tag w) ∙ ap (λ n. n + 2 * tag_of w) (bit_is (eqb b 0))

-- the lanes that aren't zero
pub marks_lanes : (n : ℕ) (w : List ℕ) → length w ≡ n → n ≤ 64 → mask_l (map (top 7) (zip2 (λ a b. cond (not (eqb a b)) 255 0) w (replicate n 0))) % 2 ^ 64 ≡ tag_of w
marks_lanes n w is few = bitmask_splat w8 (λ a b. not (eqb a b)) w n 0 is few ∙ mask_tag w

-- how many lanes are zero
pub zeros_lanes : (n : ℕ) (w : List ℕ) → length w ≡ n → n ≤ 64 → count_ones (mask_l (map (top 7) (zip2 (λ a b. cond (eqb a b) 255 0) w (replicate n 0))) % 2 ^ 64) ≡ zero_bytes w
zeros_lanes n w is few = ap count_ones (bitmask_splat w8 eqb w n 0 is few) ∙ ones-mask_l (λ x. eqb x 0) w

-- the lowest mark is after the zeros at the front
pub trailing_tag : (bytes : List ℕ) → length bytes ≡ 64 → 0 < tag_of bytes → count_trailing_zeros 64 (tag_of bytes) ≡ prefix_len (λ x. not (not (eqb x 0))) bytes
trailing_tag bytes long some = ap (count_trailing_zeros 64) (sym (mask_tag bytes))
    ∙ trailing_mask_l (λ x. not (eqb x 0)) 64 bytes (omega (arith, long)) (subst (λ n. 0 < n) (sym (mask_tag bytes)) some)
