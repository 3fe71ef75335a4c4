-- Where a walk over some places stops at one of them, there are no trees within the limits. It stops with only one
-- error.
use Rattle.std.proofs.Common.{◌≡◌, ℕ, ◌+◌, ◌-◌, ◌<◌, ◌≤◌, max, Bool, true, false, if◌then◌else◌, List, [], ◌∷◌, ◌++◌, Option, Some, refl, sym, ◌∙◌, ap, subst, arith}
use Rattle.capnp_frame.specs.declared.error.ErrorKind.{ErrorKind}
use Rattle.capnp_frame.specs.declared.error.ErrorKind.TheVariants.{ReadLimitExceeded}
use Rattle.capnp_layout.specs.Tree.{is_null}
use Rattle.capnp_layout.specs.Prelude.{Trees, none, tree, depth, total_words, Shape, PointsTo, places, is_null as null_there, is_object, At, nowhere, at, Within, IsPastLimit, less, TreesAt, WalkError, at_pointer, over_limit, inside, later}
use Rattle.capnp_layout.specs.declared.place.Place.{Place}
use Rattle.capnp_layout.proofs.objects.UniqueObjectLemmas.{one_object, one_tree}
use Rattle.capnp_layout.proofs.pointers.ErrorExcludesObjectLemmas.{invalid_pointer_has_no_object, not_null}
use Rattle.capnp_layout.proofs.pointers.UniquePointerErrorLemmas.{one_error}
use Rattle.capnp_layout.proofs.trees.TraversalLimitCountLemmas.{less_none, within_first, within_rest, less_both}

-- a walk that stops at the first of some places stops
pub walk_error_more : (m : List (List ℕ)) (place : Place) (rest : List Place) (nesting : ℕ) (limit : Option ℕ) (kind : ErrorKind)
    → WalkError m (place ∷ []) nesting limit kind → WalkError m (place ∷ rest) nesting limit kind
walk_error_more m place rest nesting limit kind (at_pointer invalid) = at_pointer invalid
walk_error_more m place rest nesting limit kind (over_limit o deep past) = over_limit o deep past
walk_error_more m place rest nesting limit kind (inside o deep fits walk_error) = inside o deep fits walk_error
walk_error_more m place rest nesting limit kind (later s fits walk_error) = elim walk_error [ ]

-- and one that stops after them
walk_error_following : (m : List (List ℕ)) (front rest : List Place) (trees : Trees) (nesting traversed : ℕ) (limit : Option ℕ) (kind : ErrorKind)
    → At m front trees traversed → depth trees ≤ nesting → Within limit traversed → WalkError m rest nesting (less limit traversed) kind → WalkError m (front ++ rest) nesting limit kind
walk_error_following m front rest trees nesting traversed limit kind nowhere shallow fits walk_error =
    subst (λ (o : Option ℕ). WalkError m rest nesting o kind) (less_none limit) walk_error
walk_error_following m front rest trees nesting traversed limit kind (at {place = p} {others = others} {shape = s} {children = h} {rest = r} {inside = i} {following = n} o inner after) shallow fits walk_error =
    let one : TreesAt m (p ∷ []) nesting (s.traversed + i) (total_words (tree s.form h none)) = record {
      trees = tree s.form h none;
      are_at = subst (At m (p ∷ []) (tree s.form h none)) (omega arith) (at o inner nowhere);
      shallow = omega arith;
      words_are = refl;
    } in
    let first : Within limit (s.traversed + i) = within_first limit (s.traversed + i) n fits in
    let others_fit : Within (less limit (s.traversed + i)) n = within_rest limit (s.traversed + i) n fits in
    let left : less limit (s.traversed + i + n) ≡ less (less limit (s.traversed + i)) n = sym (less_both limit (s.traversed + i) n) in
    let error_there : WalkError m rest nesting (less (less limit (s.traversed + i)) n) kind = subst (λ (x : Option ℕ). WalkError m rest nesting x kind) left walk_error in
    later one first (walk_error_following m others rest r nesting n (less limit (s.traversed + i)) kind after (omega arith) others_fit error_there)

pub walk_error_after : (m : List (List ℕ)) (front rest : List Place) (nesting traversed words : ℕ) (limit : Option ℕ) (kind : ErrorKind)
    → TreesAt m front nesting traversed words → Within limit traversed → WalkError m rest nesting (less limit traversed) kind → WalkError m (front ++ rest) nesting limit kind
walk_error_after m front rest nesting traversed words limit kind s fits walk_error = walk_error_following m front rest s.trees nesting traversed limit kind s.are_at s.shallow fits walk_error

-- where a walk stops, no trees are within the nesting depth left and the limit
null_or_deeper : (b : Bool) (d e nesting : ℕ) → max (if b then 0 else d + 1) e ≤ nesting → b ≡ false → 0 < nesting
null_or_deeper true d e nesting p q = cc
null_or_deeper false d e nesting p q = omega arith

deeper_children : (b : Bool) (d e nesting : ℕ) → max (if b then 0 else d + 1) e ≤ nesting → b ≡ false → d ≤ nesting - 1
deeper_children true d e nesting p q = cc
deeper_children false d e nesting p q = omega arith

-- one of some places, and those after it
record Split (m : List (List ℕ)) (place : Place) (others : List Place) (nesting traversed : ℕ) (shape : Shape) : Type 0 where
  children : Trees
  rest : Trees
  inner : ℕ
  following : ℕ
  children_are_at : At m shape.children children inner
  rest_is_at : At m others rest following
  total : shape.traversed + inner + following ≡ traversed
  rest_shallow : depth rest ≤ nesting
  children_shallow : is_null shape.form ≡ false → depth children ≤ nesting - 1
  deep : is_null shape.form ≡ false → 0 < nesting
  object : PointsTo m place shape

split : (m : List (List ℕ)) (place : Place) (others : List Place) (nesting traversed : ℕ) (trees : Trees) → At m (place ∷ others) trees traversed → depth trees ≤ nesting
    → (shape : Shape) × Split m place others nesting traversed shape
split m place others nesting traversed trees (at {shape = s} {children = h} {rest = r} {inside = i} {following = n} o inner after) shallow = (
  s,
  record {
    children = h;
    rest = r;
    inner = i;
    following = n;
    children_are_at = inner;
    rest_is_at = after;
    total = refl;
    rest_shallow = omega arith;
    children_shallow = deeper_children (is_null s.form) (depth h) (depth r) nesting shallow;
    deep = null_or_deeper (is_null s.form) (depth h) (depth r) nesting shallow;
    object = o;
  },
)

holds_not_null : (m : List (List ℕ)) (place : Place) (shape : Shape) → PointsTo m place shape → (shape.children ≡ [] → ⊥) → is_null shape.form ≡ false
holds_not_null m place shape (null_there e) some = absurd (some refl)
holds_not_null m place shape (is_object {landing = c} {words = w} {start = i} {shape = s} _ _ _ is_at) some = not_null w (record { segment = c.segment; word = i }) c.tag s is_at

walk_error_somewhere : (m : List (List ℕ)) (places : List Place) (nesting : ℕ) (limit : Option ℕ) (kind : ErrorKind) → WalkError m places nesting limit kind → places ≡ [] → ⊥
walk_error_somewhere m places nesting limit kind (at_pointer _) e = cc
walk_error_somewhere m places nesting limit kind (over_limit _ _ _) e = cc
walk_error_somewhere m places nesting limit kind (inside _ _ _ _) e = cc
walk_error_somewhere m places nesting limit kind (later _ _ _) e = cc

pub walk_error_has_no_trees : (m : List (List ℕ)) (places : List Place) (nesting traversed : ℕ) (limit : Option ℕ) (kind : ErrorKind) (trees : Trees)
    → WalkError m places nesting limit kind → At m places trees traversed → depth trees ≤ nesting → Within limit traversed → ⊥
walk_error_has_no_trees m places nesting traversed limit kind trees (at_pointer {place = p} {others = others} invalid) are_at shallow fits =
    let s = split m p others nesting traversed trees are_at shallow in
    invalid_pointer_has_no_object m p nesting kind s.0 invalid s.1.object s.1.deep
walk_error_has_no_trees m places nesting traversed limit kind trees (over_limit {place = p} {others = others} {most = most} {shape = t} o deep past) are_at shallow fits =
    let s = split m p others nesting traversed trees are_at shallow in
    let same : t ≡ s.0 = one_object m p t s.0 o s.1.object in
    let traversal : t.traversed ≡ s.0.traversed = ap (λ (x : Shape). x.traversed) same in
    omega (arith, s.1.total, fits)
walk_error_has_no_trees m places nesting traversed limit kind trees (inside {place = p} {others = others} {shape = t} o deep within walk_error) are_at shallow fits =
    let s = split m p others nesting traversed trees are_at shallow in
    let same : t ≡ s.0 = one_object m p t s.0 o s.1.object in
    let children : At m t.children s.1.children s.1.inner = subst (λ (x : Shape). At m x.children s.1.children s.1.inner) (sym same) s.1.children_are_at in
    let not_null = holds_not_null m p t o (walk_error_somewhere m t.children (nesting - 1) (less limit t.traversed) kind walk_error) in
    let form : is_null s.0.form ≡ false = ap (λ (x : Shape). is_null x.form) (sym same) ∙ not_null in
    let traversal : t.traversed + s.1.inner + s.1.following ≡ traversed = ap (λ (x : Shape). x.traversed + s.1.inner + s.1.following) same ∙ s.1.total in
    let fits_all : Within limit (t.traversed + s.1.inner + s.1.following) = subst (Within limit) (sym traversal) fits in
    let fits_inner : Within (less limit t.traversed) s.1.inner = within_rest limit t.traversed s.1.inner (within_first limit (t.traversed + s.1.inner) s.1.following fits_all) in
    walk_error_has_no_trees m t.children (nesting - 1) s.1.inner (less limit t.traversed) kind s.1.children walk_error children (s.1.children_shallow form) fits_inner
walk_error_has_no_trees m places nesting traversed limit kind trees (later {place = p} {others = others} {traversed = c} {words = w} one within walk_error) are_at shallow fits =
    let s = split m p others nesting traversed trees are_at shallow in
    let alone : At m (p ∷ []) (tree s.0.form s.1.children none) (s.0.traversed + s.1.inner) =
    subst (At m (p ∷ []) (tree s.0.form s.1.children none)) (omega arith) (at s.1.object s.1.children_are_at nowhere) in
    let same : s.0.traversed + s.1.inner ≡ c = (one_tree m (p ∷ []) (tree s.0.form s.1.children none) one.trees (s.0.traversed + s.1.inner) c alone one.are_at).1 in
    let all : c + s.1.following ≡ traversed = omega (arith, s.1.total) in
    let fits_all : Within limit (c + s.1.following) = subst (Within limit) (sym all) fits in
    walk_error_has_no_trees m others nesting s.1.following (less limit c) kind s.1.rest walk_error s.1.rest_is_at s.1.rest_shallow (within_rest limit c s.1.following fits_all)

-- an object past the limit
pub past_limit_error : (m : List (List ℕ)) (place : Place) (shape : Shape) (nesting : ℕ) (limit : Option ℕ) (kind : ErrorKind) → PointsTo m place shape → 0 < nesting
    → IsPastLimit limit shape.traversed → kind ≡ ReadLimitExceeded → WalkError m (place ∷ []) nesting limit kind
past_limit_error m place shape nesting limit kind object deep past is =
    subst (λ (r : ErrorKind). WalkError m (place ∷ []) nesting limit r) (sym is)
    (subst (λ (l : Option ℕ). WalkError m (place ∷ []) nesting l ReadLimitExceeded) (sym past.1) (over_limit object deep past.2))

-- at most one error stops a walk
past_and_within : (m : List (List ℕ)) (place : Place) (most : ℕ) (s t : Shape) → PointsTo m place s → PointsTo m place t → most < s.traversed → t.traversed ≤ most → ⊥
past_and_within m place most s t o p past fits =
    let same : s ≡ t = one_object m place s t o p in
    let traversal : s.traversed ≡ t.traversed = ap (λ (x : Shape). x.traversed) same in
    omega arith

pub one_walk_error : (m : List (List ℕ)) (places : List Place) (nesting : ℕ) (limit : Option ℕ) (a b : ErrorKind) → WalkError m places nesting limit a → WalkError m places nesting limit b → a ≡ b
one_walk_error m places nesting limit a b (at_pointer {place = p} invalid) (at_pointer other) = one_error m p nesting a b invalid other
one_walk_error m places nesting limit a b (at_pointer {place = p} invalid) (over_limit {shape = t} o deep _) = absurd (invalid_pointer_has_no_object m p nesting a t invalid o (λ _. deep))
one_walk_error m places nesting limit a b (at_pointer {place = p} invalid) (inside {shape = t} o deep _ _) = absurd (invalid_pointer_has_no_object m p nesting a t invalid o (λ _. deep))
one_walk_error m places nesting limit a b (at_pointer {place = p} invalid) (later {traversed = d} one fits _) =
    absurd (walk_error_has_no_trees m (p ∷ []) nesting d limit a one.trees (at_pointer invalid) one.are_at one.shallow fits)
one_walk_error m places nesting limit a b (over_limit {place = p} {shape = s} o deep _) (at_pointer other) = absurd (invalid_pointer_has_no_object m p nesting b s other o (λ _. deep))
one_walk_error m places nesting limit a b (over_limit _ _ _) (over_limit _ _ _) = refl
one_walk_error m places nesting limit a b (over_limit {place = p} {most = most} {shape = s} o _ past) (inside {shape = t} q _ fits _) = absurd (past_and_within m p most s t o q past fits)
one_walk_error m places nesting limit a b (over_limit {place = p} {most = most} o deep past) (later {traversed = d} one fits _) =
    absurd (walk_error_has_no_trees m (p ∷ []) nesting d (Some most) ReadLimitExceeded one.trees (over_limit o deep past) one.are_at one.shallow fits)
one_walk_error m places nesting limit a b (inside {place = p} {shape = s} o deep _ _) (at_pointer other) = absurd (invalid_pointer_has_no_object m p nesting b s other o (λ _. deep))
one_walk_error m places nesting limit a b (inside {place = p} {shape = s} o _ fits _) (over_limit {most = most} {shape = t} q _ past) = absurd (past_and_within m p most t s q o past fits)
one_walk_error m places nesting limit a b (inside {place = p} {shape = s} o _ _ walk_error) (inside {shape = t} q _ _ error_too) =
    let same : t ≡ s = one_object m p t s q o in
    one_walk_error m s.children (nesting - 1) (less limit s.traversed) a b walk_error (subst (λ (x : Shape). WalkError m x.children (nesting - 1) (less limit x.traversed) b) same error_too)
one_walk_error m places nesting limit a b (inside {place = p} o deep within walk_error) (later {traversed = d} one fits _) =
    absurd (walk_error_has_no_trees m (p ∷ []) nesting d limit a one.trees (inside o deep within walk_error) one.are_at one.shallow fits)
one_walk_error m places nesting limit a b (later {place = p} {traversed = c} one fits _) (at_pointer other) =
    absurd (walk_error_has_no_trees m (p ∷ []) nesting c limit b one.trees (at_pointer other) one.are_at one.shallow fits)
one_walk_error m places nesting limit a b (later {place = p} {traversed = c} one fits _) (over_limit {most = most} o deep past) =
    absurd (walk_error_has_no_trees m (p ∷ []) nesting c (Some most) ReadLimitExceeded one.trees (over_limit o deep past) one.are_at one.shallow fits)
one_walk_error m places nesting limit a b (later {place = p} {traversed = c} one fits _) (inside o deep within walk_error) =
    absurd (walk_error_has_no_trees m (p ∷ []) nesting c limit b one.trees (inside o deep within walk_error) one.are_at one.shallow fits)
one_walk_error m places nesting limit a b (later {place = p} {others = others} {traversed = c} one _ walk_error) (later {traversed = d} another _ error_too) =
    let same : d ≡ c = (one_tree m (p ∷ []) another.trees one.trees d c another.are_at one.are_at).1 in
    one_walk_error m others nesting (less limit c) a b walk_error (subst (λ (x : ℕ). WalkError m others nesting (less limit x) b) same error_too)
