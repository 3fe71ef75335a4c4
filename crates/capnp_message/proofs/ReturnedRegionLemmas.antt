-- A caller-provided region goes out once, and comes back all zero.
use Rattle.std.proofs.Common.{◌≡◌, ℕ, ◌≤◌, Bool, true, false, List, [], ◌∷◌, ◌++◌, length, drop, take, replicate, Option, Some, None, MatchOption, All, refl, sym, ap, subst, arith, MutBor}
use Rattle.std.proofs.Common.{length-append, length-take, length-drop}
use Rattle.std.proofs.lemmas.List.Elements.{All-append, All-replicate}
use Rattle.capnp_build.specs.Prelude.{Out, Removed, here, there, provided_of, provided_before, ZeroFrom}
use Rattle.capnp_message.specs.declared.scratch_space.ScratchSegment.{ScratchSegment}
use Rattle.capnp_message.specs.declared.scratch_space.ScratchSegment.TheVariants.{Lent}
use Rattle.capnp_message.specs.Scratch.{scratch_bytes, scratch_provided}

removed_none : (pair : Out) (list left : List Out) → list ≡ [] → Removed pair list left → ⊥
removed_none pair list left e here = cc
removed_none pair list left e (there r) = cc

removed_one : (pair other : Out) (list left : List Out) → list ≡ other ∷ [] → Removed pair list left → (pair ≡ other) × (left ≡ [])
removed_one pair other list left e here = (cc, cc)
removed_one pair other list left e (there {rest = rest} {left = l} r) = let none : rest ≡ [] = cc in absurd (removed_none pair rest l none r)

-- what comes back to an allocator of one region is that region
pub comes_back : {X : Type 0} (region : Option X) (pair provided : Out) (list left : List Out)
    → MatchOption region (list ≡ provided ∷ []) (λ _. list ≡ []) → Removed pair list left → (pair ≡ provided) × (left ≡ [])
comes_back None pair provided list left out removed = removed_one pair provided list left out removed
comes_back (Some x) pair provided list left out removed = absurd (removed_none pair list left out removed)

-- a front that is filled with zeros, before a part that is zero
pub front_is_zero : (n k : ℕ) (front bytes : List ℕ) → front ≡ replicate k 0 → ZeroFrom n bytes → All (λ b. b ≡ 0) (front ++ drop n bytes)
front_is_zero n k front bytes e zero =
    let P : ℕ → Type 0 = λ b. b ≡ 0 in
    All-append P front (drop n bytes) (subst (All P) (sym e) (All-replicate P k 0 refl)) zero

-- the first and the rest of a list of one
tail_of_one : (n m : ℕ) (rest : List ℕ) → n ∷ rest ≡ m ∷ [] → (n ≡ m) × (rest ≡ [])
tail_of_one n m rest e = (cc, cc)

-- taking off a segment that is not caller-provided leaves the list of caller-provided ones the same
pub keeps_provided : (n : ℕ) (list left : List Out) → Removed (record { length = n; is_provided = false }) list left → provided_of left ≡ provided_of list
keeps_provided n list left here = refl
keeps_provided n list left (there {other = other} {rest = rest} {left = l} r) = ap (λ (x : List ℕ). provided_before other.is_provided other.length x) (keeps_provided n rest l r)

none_after : (b : Bool) (m : ℕ) (xs : List ℕ) → provided_before b m xs ≡ [] → xs ≡ []
none_after true m xs e = cc
none_after false m xs e = e

-- no caller-provided segment comes off where none is out
none_off : (n : ℕ) (list left : List Out) → provided_of list ≡ [] → Removed (record { length = n; is_provided = true }) list left → ⊥
none_off n list left e here = cc
none_off n list left e (there {other = other} {rest = rest} {left = l} r) = none_off n rest l (none_after other.is_provided other.length (provided_of rest) e) r

one_step : (b : Bool) (k n m : ℕ) (rest left : List Out) → provided_before b k (provided_of rest) ≡ m ∷ [] → Removed (record { length = n; is_provided = true }) rest left
    → (provided_of rest ≡ m ∷ [] → (n ≡ m) × (provided_of left ≡ [])) → (n ≡ m) × (provided_before b k (provided_of left) ≡ [])
one_step true k n m rest left e r f = absurd (none_off n rest left (tail_of_one k m (provided_of rest) e).1 r)
one_step false k n m rest left e r f = f e

-- the one caller-provided segment comes off
one_off : (n m : ℕ) (list left : List Out) → provided_of list ≡ m ∷ [] → Removed (record { length = n; is_provided = true }) list left → (n ≡ m) × (provided_of left ≡ [])
one_off n m list left e here = tail_of_one n m (provided_of left) e
one_off n m list left e (there {other = other} {rest = rest} {left = l} r) = one_step other.is_provided other.length n m rest l e r (λ (e' : provided_of rest ≡ m ∷ []). one_off n m rest l e' r)

-- what comes back as caller-provided is the region
pub comes_home : {X : Type 0} (region : Option X) (n m : ℕ) (list left : List Out) → MatchOption region (provided_of list ≡ m ∷ []) (λ _. provided_of list ≡ [])
    → Removed (record { length = n; is_provided = true }) list left → (n ≡ m) × (provided_of left ≡ [])
comes_home None n m list left out removed = one_off n m list left out removed
comes_home (Some x) n m list left out removed = absurd (none_off n list left out removed)

-- a segment of the heap that comes back leaves the region where it is
pub stays_out : {X : Type 0} (region : Option X) (n m : ℕ) (list left : List Out) → MatchOption region (provided_of list ≡ m ∷ []) (λ _. provided_of list ≡ [])
    → Removed (record { length = n; is_provided = false }) list left → MatchOption region (provided_of left ≡ m ∷ []) (λ _. provided_of left ≡ [])
stays_out region n m list left out removed = subst (λ (x : List ℕ). MatchOption region (x ≡ m ∷ []) (λ _. x ≡ [])) (sym (keeps_provided n list left removed)) out

-- the same, for a segment that is known to be caller-provided or not
pub comes_home_as : {X : Type 0} (region : Option X) (segment : ScratchSegment) (provided : MutBor (List ℕ)) (m : ℕ) (list left : List Out) → segment ≡ Lent provided
    → MatchOption region (provided_of list ≡ m ∷ []) (λ _. provided_of list ≡ [])
    → Removed (record { length = length (scratch_bytes segment); is_provided = scratch_provided segment }) list left → (length provided.now ≡ m) × (provided_of left ≡ [])
comes_home_as region segment provided m list left is out removed =
    comes_home region (length provided.now) m list left out
    (subst (λ (s : ScratchSegment). Removed (record { length = length (scratch_bytes s); is_provided = scratch_provided s }) list left) is removed)

-- equal options of borrowed bytes have the same bytes
pub children : (a x : MutBor (List ℕ)) → Some a ≡ Some x → a.now ≡ x.now
children a x e = let same : a ≡ x = cc in ap (λ (m : MutBor (List ℕ)). m.now) same

-- a front that is filled keeps the length
pub filled_length : (n : ℕ) (front bytes : List ℕ) → length front ≡ length (take n bytes) → n ≤ length bytes → length (front ++ drop n bytes) ≡ length bytes
filled_length n front bytes long within = omega (arith, long, length-append front (drop n bytes), length-take n bytes, length-drop n bytes)
