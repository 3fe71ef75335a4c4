-- Each word is a copy of the zero word.
use Rattle.std.proofs.Common.{◌≡◌, ℕ, ◌∷◌, map, replicate, zero, suc, refl, ap, ◌∙◌}
use Rattle.capnp_frame.specs.Prelude.{bytes_of}
use Rattle.capnp_frame.proofs.words.Word.allocate_zeroed_vec.Goals as goal

map-replicate : {X Y : Type 0} (f : X → Y) (n : ℕ) (x : X) → map f (replicate n x) ≡ replicate n (f x)
map-replicate f zero x = refl
map-replicate f (suc n) x = ap (λ l. f x ∷ l) (map-replicate f n x)

pub returns-clause-zero : goal.returns-clause-zero
returns-clause-zero c =
    let same : c.in_ok-vec.field-0.items ≡ replicate c.args.length c.from_bytes.result = c.in_ok-vec.ensures.items_if_clones_equal (λ y same. same) in
    ap (map bytes_of) same ∙ map-replicate bytes_of c.args.length c.from_bytes.result ∙ ap (replicate c.args.length) c.from_bytes.ensures
