-- A walk that tests for the canonical form ends in only one way: it passes, comes to what is not canonical, or
-- fails with one error.
use Rattle.std.proofs.Common.{◌≡◌, ℕ, ◌+◌, ◌-◌, ◌^◌, ◌<◌, ◌≤◌, List, [], ◌∷◌, length, Option, Some, sym, ◌∙◌, ap, subst, arith}
use Rattle.std.specs.Prelude.{All}
use Rattle.capnp_frame.specs.declared.error.ErrorKind.{ErrorKind}
use Rattle.capnp_layout.specs.Prelude.{object_size, total_words, Shape, Within, less}
use Rattle.capnp_wire.specs.Prelude.{IsLaidOut, MeetsObject, Passes, fails_with, not_canonical, Ends, far, at_pointer, over_limit, elsewhere, inside, later}
use Rattle.capnp_layout.specs.declared.place.Place.{Place}
use Rattle.capnp_layout.proofs.objects.UniqueObjectLemmas.{one_object, one_tree}
use Rattle.capnp_layout.proofs.pointers.ErrorExcludesObjectLemmas.{invalid_pointer_has_no_object}
use Rattle.capnp_wire.proofs.walks.WalkErrorExcludesTreesLemmas.{walk_error_has_no_trees, one_walk_error}
use Rattle.capnp_wire.proofs.forms.ObjectPassesWhereTrimmedLemmas.{laid_room}
use Rattle.capnp_wire.proofs.walks.StoppedTestExcludesCanonicalTreesLemmas.{AllBefore, ends_error, ends_not, children_before, before_later, in_first}

-- a walk that fails does not pass
pub error_passes : (segment : List ℕ) (places : List Place) (nesting traversed next start after : ℕ) (limit : Option ℕ) (kind : ErrorKind) → Ends segment places nesting limit next (fails_with kind)
    → Passes segment places nesting traversed start after → Within limit traversed → ⊥
error_passes segment places nesting traversed next start after limit kind ends p fits =
    walk_error_has_no_trees (segment ∷ []) places nesting traversed limit kind p.trees (ends_error segment places nesting next limit kind ends) p.are_at p.shallow fits

-- nor does one that meets what is not canonical
pub not_passes : (segment : List ℕ) (places : List Place) (nesting traversed next after : ℕ) (limit : Option ℕ) → All (λ w. w < 2 ^ 64) segment → AllBefore next places → next ≤ length segment
    → Ends segment places nesting limit next not_canonical → Passes segment places nesting traversed next after → ⊥
not_passes segment places nesting traversed next after limit all before within ends p =
    ends_not segment places nesting next limit p.trees traversed all ends p.are_at before within p.in_preorder p.trimmed

within_or_past : (most traversed : ℕ) → most < traversed → Within (Some most) traversed → ⊥
within_or_past most traversed past fits = omega arith

pub one_way_to_end : (segment : List ℕ) (places : List Place) (nesting next : ℕ) (limit : Option ℕ) (kind : ErrorKind) → All (λ w. w < 2 ^ 64) segment → AllBefore next places → next ≤ length segment
    → Ends segment places nesting limit next (fails_with kind) → Ends segment places nesting limit next not_canonical → ⊥
one_way_to_end segment places nesting next limit kind all before within (at_pointer n f) (far x) = n x
one_way_to_end segment places nesting next limit kind all before within (at_pointer {place = place} n f) (elsewhere {shape = s} meets not_laid) = invalid_pointer_has_no_object
    (segment ∷ []) place nesting kind s f meets.object (λ some. meets.deep)
one_way_to_end segment places nesting next limit kind all before within (at_pointer {place = place} n f) (inside {shape = s} meets laid e) = invalid_pointer_has_no_object
    (segment ∷ []) place nesting kind s f meets.object (λ some. meets.deep)
one_way_to_end segment places nesting next limit kind all before within (at_pointer {place = place} n f) (later {traversed = traversed} {after = after} p w e) =
    error_passes segment (place ∷ []) nesting traversed next next after limit kind (at_pointer n f) p w
one_way_to_end segment places nesting next limit kind all before within (over_limit n o d past) (far x) = n x
one_way_to_end segment places nesting next limit kind all before within (over_limit {place = place} {most = most} {shape = s} n o d past) (elsewhere {shape = t} meets not_laid) =
    let same : t ≡ s = one_object (segment ∷ []) place t s meets.object o in
    within_or_past most s.traversed past (subst (λ (x : Shape). Within (Some most) x.traversed) same meets.within)
one_way_to_end segment places nesting next limit kind all before within (over_limit {place = place} {most = most} {shape = s} n o d past) (inside {shape = t} meets laid e) =
    let same : t ≡ s = one_object (segment ∷ []) place t s meets.object o in
    within_or_past most s.traversed past (subst (λ (x : Shape). Within (Some most) x.traversed) same meets.within)
one_way_to_end segment places nesting next limit kind all before within (over_limit {place = place} {most = most} n o d past) (later {traversed = traversed} {after = after} p w e) =
    error_passes segment (place ∷ []) nesting traversed next next after (Some most) _ (over_limit n o d past) p w
one_way_to_end segment places nesting next limit kind all before within (inside meets laid e) (far x) = meets.not_far x
one_way_to_end segment places nesting next limit kind all before within (inside {place = place} {shape = s} meets laid e) (elsewhere {shape = t} others not_laid) =
    let same : s ≡ t = one_object (segment ∷ []) place s t meets.object others.object in
    not_laid (subst (λ (x : Shape). IsLaidOut segment place next x) same laid)
one_way_to_end segment places nesting next limit kind all before within (inside {place = place} {shape = s} meets laid e) (inside {shape = t} others laid_too f) =
    let same : t ≡ s = one_object (segment ∷ []) place t s others.object meets.object in
    let there : Ends segment s.children (nesting - 1) (less limit s.traversed) (next + object_size s.form (length s.children)) not_canonical =
    subst (λ (x : Shape). Ends segment x.children (nesting - 1) (less limit x.traversed) (next + object_size x.form (length x.children)) not_canonical) same f in
    let meets_first = in_first (λ (x : Place). MeetsObject segment x nesting limit s) place before.0 meets in
    let laid_first = in_first (λ (x : Place). IsLaidOut segment x next s) place before.0 laid in
    one_way_to_end segment s.children (nesting - 1) (next + object_size s.form (length s.children)) (less limit s.traversed) kind all
    (children_before segment place.word nesting next limit s all before.1 within meets_first laid_first)
    (laid_room segment place.word nesting next limit s meets_first laid_first before.1 within) e there
one_way_to_end segment places nesting next limit kind all before within (inside {place = place} meets laid e) (later {traversed = traversed} {after = after} p w f) =
    error_passes segment (place ∷ []) nesting traversed next next after limit kind (inside meets laid e) p w
one_way_to_end segment places nesting next limit kind all before within (later {place = place} {traversed = traversed} {after = after} p w e) (far x) =
    not_passes segment (place ∷ []) nesting traversed next after limit all (before.0, before.1, tt) within (far x) p
one_way_to_end segment places nesting next limit kind all before within (later {place = place} {traversed = traversed} {after = after} p w e) (elsewhere meets not_laid) =
    not_passes segment (place ∷ []) nesting traversed next after limit all (before.0, before.1, tt) within (elsewhere meets not_laid) p
one_way_to_end segment places nesting next limit kind all before within (later {place = place} {traversed = traversed} {after = after} p w e) (inside meets laid f) =
    not_passes segment (place ∷ []) nesting traversed next after limit all (before.0, before.1, tt) within (inside meets laid f) p
one_way_to_end segment places nesting next limit kind all before within (later {place = place} {others = others} {traversed = x} {after = after} p w e) (later {traversed = y} {after = end} q v f) =
    let same = one_tree (segment ∷ []) (place ∷ []) q.trees p.trees y x q.are_at p.are_at in
    let ends_same : end ≡ after = q.after_is ∙ ap (λ t. next + total_words t) same.0 ∙ sym p.after_is in
    let there : Ends segment others nesting (less limit x) after not_canonical =
    subst (λ (k : ℕ). Ends segment others nesting (less limit x) k not_canonical) ends_same (subst (λ (k : ℕ). Ends segment others nesting (less limit k) end not_canonical) same.1 f) in
    one_way_to_end segment others nesting after (less limit x) kind all (before_later next after others (omega (arith, p.after_is)) before.2) p.room e there

-- with only one error
pub one_error_ends : (segment : List ℕ) (places : List Place) (nesting next : ℕ) (limit : Option ℕ) (a b : ErrorKind) → Ends segment places nesting limit next (fails_with a)
    → Ends segment places nesting limit next (fails_with b) → a ≡ b
one_error_ends segment places nesting next limit a b x y =
    one_walk_error (segment ∷ []) places nesting limit a b (ends_error segment places nesting next limit a x) (ends_error segment places nesting next limit b y)
