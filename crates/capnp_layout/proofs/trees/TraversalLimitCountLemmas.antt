-- What trees at places count against the traversal limit, one after the other, and how many and how deep they are.
use Rattle.std.proofs.Common.{◌≡◌, ℕ, ◌+◌, ◌-◌, ◌<◌, ◌≤◌, max, Bool, true, false, if◌then◌else◌, List, ◌++◌, length, Option, Some, None, refl, sym, ap, subst, arith, zero-add}
use Rattle.capnp_layout.specs.Prelude.{Trees, none, tree, count, depth, before, At, nowhere, at, Within, less}
use Rattle.capnp_layout.specs.declared.place.Place.{Place}

-- limits
pub within_none : (limit : Option ℕ) → Within limit 0
within_none None = tt
within_none (Some most) = omega arith

pub less_none : (limit : Option ℕ) → less limit 0 ≡ limit
less_none None = refl
less_none (Some most) = ap (λ (n : ℕ). Some n) (omega arith)

pub within_both : (limit : Option ℕ) (x y : ℕ) → Within limit x → Within (less limit x) y → Within limit (x + y)
within_both None x y p q = tt
within_both (Some most) x y p q = omega arith

pub within_first : (limit : Option ℕ) (x y : ℕ) → Within limit (x + y) → Within limit x
within_first None x y p = tt
within_first (Some most) x y p = omega arith

pub within_rest : (limit : Option ℕ) (x y : ℕ) → Within limit (x + y) → Within (less limit x) y
within_rest None x y p = tt
within_rest (Some most) x y p = omega arith

pub less_both : (limit : Option ℕ) (x y : ℕ) → less (less limit x) y ≡ less limit (x + y)
less_both None x y = refl
less_both (Some most) x y = ap (λ (n : ℕ). Some n) (omega arith)

-- trees at places, and others after them
pub at_both : (m : List (List ℕ)) (ps qs : List Place) (a b : Trees) (x y : ℕ) → At m ps a x → At m qs b y → At m (ps ++ qs) (before a b) (x + y)
at_both m ps qs a b x y nowhere q = subst (λ (n : ℕ). At m qs b n) (sym (zero-add y)) q
at_both m ps qs a b x y (at {others = others} {shape = s} {children = h} {rest = r} {inside = i} {following = n} o inner after) q =
    subst (At m (ps ++ qs) (before a b)) (omega arith) (at o inner (at_both m others qs r b n y after q))

pub depth_both : (a b : Trees) (nesting : ℕ) → depth a ≤ nesting → depth b ≤ nesting → depth (before a b) ≤ nesting
depth_both none b nesting p q = q
depth_both (tree form children rest) b nesting p q = let rest_too = depth_both rest b nesting (omega arith) q in omega arith

-- as many trees as places
pub count_at : (m : List (List ℕ)) (ps : List Place) (t : Trees) (c : ℕ) → At m ps t c → count t ≡ length ps
count_at m ps t c nowhere = refl
count_at m ps t c (at {others = others} {rest = r} {following = n} o inner after) = omega (arith, count_at m others r n after)

pub one_deeper : (b : Bool) (d nesting : ℕ) → d ≤ nesting - 1 → 0 < nesting → max (if b then 0 else d + 1) 0 ≤ nesting
one_deeper true d nesting p q = omega arith
one_deeper false d nesting p q = omega arith
