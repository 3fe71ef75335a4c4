-- The trees that trimming keeps are at the first places of their section, are no deeper, and have room for their
-- fields.
use Rattle.std.proofs.Common.{◌≡◌, ℕ, zero, suc, ◌+◌, ◌-◌, ◌≤◌, if◌then◌else◌, List, ◌∷◌, ◌++◌, length, refl, []}
use Rattle.std.proofs.Common.{◌∙◌, ap, subst, arith}
use Rattle.capnp_layout.specs.Prelude.{Form, Trees, none, tree, depth, first, following, before, narrowed, places, pointer_places, At, nowhere, at, kept_places, AllHaveRoom}
use Rattle.capnp_layout.specs.Tree.{is_null}
use Rattle.capnp_layout.specs.declared.place.Place.{Place}
use Rattle.capnp_layout.proofs.trees.TreePartsSizeAndPropertiesLemmas.{Each, each_first, each_after, each_narrowed}
use Rattle.capnp_layout.proofs.trees.TrimIdempotenceAndSizeLemmas.{RoomOne, each_room, room_each}

-- trees at places, in two parts
pub record Halves (m : List (List ℕ)) (ps qs : List Place) (n : ℕ) (t : Trees) : Type 0 where
  pub one : ℕ
  pub two : ℕ
  pub front : At m ps (first n t) one
  pub back : At m qs (following n t) two

pub halves : (m : List (List ℕ)) (ps qs : List Place) (n : ℕ) (t : Trees) (traversed : ℕ) → length ps ≡ n → At m (ps ++ qs) t traversed → Halves m ps qs n t
halves m [] qs zero t traversed long are_at = record { one = 0; two = traversed; front = nowhere; back = are_at }
halves m [] qs (suc n) t traversed long are_at = absurd (omega arith)
halves m (place ∷ ps) qs zero t traversed long are_at = absurd (omega arith)
halves m (place ∷ ps) qs (suc n) t traversed long (at {shape = s} {children = h} {rest = r} {inside = i} {following = b} object inner after) =
    let h2 = halves m ps qs n r b (omega arith) after in
    record { one = s.traversed + i + h2.one; two = h2.two; front = at object inner h2.front; back = h2.back }

places_split : (segment start q k : ℕ) → places segment start (q + k) ≡ places segment start q ++ places segment (start + q) k
places_split segment start zero k =
    let all : 0 + k ≡ k = omega arith in
    let here : start ≡ start + 0 = omega arith in
    ap (λ (n : ℕ). places segment start n) all ∙ ap (λ (n : ℕ). places segment n k) here
places_split segment start (suc q) k =
    let next : suc q + k ≡ suc (q + k) = omega arith in
    let on : start + 1 + q ≡ start + suc q = omega arith in
    ap (λ (n : ℕ). places segment start n) next
    ∙ ap (λ (l : List Place). record { segment = segment; word = start } ∷ l) (places_split segment (start + 1) q k ∙ ap (λ (n : ℕ). places segment (start + 1) q ++ places segment n k) on)

pub long_places : (segment start n : ℕ) → length (places segment start n) ≡ n
long_places segment start zero = refl
long_places segment start (suc n) = ap (λ (k : ℕ). suc k) (long_places segment (start + 1) n)

pub front_is_at : (m : List (List ℕ)) (segment start q p : ℕ) (t : Trees) (traversed : ℕ) → q ≤ p → At m (places segment start p) t traversed → (c : ℕ) × At m (places segment start q) (first q t) c
front_is_at m segment start q p t traversed le are_at =
    let whole : p ≡ q + (p - q) = omega arith in
    let h = halves m (places segment start q) (places segment (start + q) (p - q)) q t traversed (long_places segment start q)
    (subst (λ (l : List Place). At m l t traversed) (ap (λ (n : ℕ). places segment start n) whole ∙ places_split segment start q (p - q)) are_at) in
    (h.one, h.front)

both_are_at : (m : List (List ℕ)) (ps qs : List Place) (a b : Trees) (x y : ℕ) → At m ps a x → At m qs b y → (c : ℕ) × At m (ps ++ qs) (before a b) c
both_are_at m ps qs a b x y nowhere q = (y, q)
both_are_at m ps qs a b x y (at {others = others} {shape = s} {children = h} {rest = r} {inside = i} {following = n} o inner after) q =
    let rest = both_are_at m others qs r b n y after q in (s.traversed + i + rest.0, at o inner rest.1)

pub kept_are_at : (m : List (List ℕ)) (segment start d p q : ℕ) (elements : List (List ℕ)) (t : Trees) (traversed : ℕ) → q ≤ p → At m (pointer_places segment start d p (length elements)) t traversed
    → (c : ℕ) × At m (kept_places segment start d p q (length elements)) (narrowed q p elements t) c
kept_are_at m segment start d p q [] t traversed le are_at = (0, nowhere)
kept_are_at m segment start d p q (element ∷ elements) t traversed le are_at =
    let h = halves m (places segment (start + d) p) (pointer_places segment (start + d + p) d p (length elements)) p t traversed (long_places segment (start + d) p) are_at in
    let one = front_is_at m segment (start + d) q p (first p t) h.one le h.front in
    let rest = kept_are_at m segment (start + d + p) d p q elements (following p t) h.two le h.back in
    both_are_at m (places segment (start + d) q) (kept_places segment (start + d + p) d p q (length elements)) (first q (first p t)) (narrowed q p elements (following p t)) one.0 rest.0 one.1 rest.1

-- depth and room of what is kept
abbrev Shallow : ℕ → Form → Trees → Type 0
Shallow nesting form children = (if is_null form then 0 else depth children + 1) ≤ nesting

each_shallow : (nesting : ℕ) (t : Trees) → depth t ≤ nesting → Each (Shallow nesting) t
each_shallow nesting none le = tt
each_shallow nesting (tree form children rest) le = (omega arith, each_shallow nesting rest (omega arith))

shallow_each : (nesting : ℕ) (t : Trees) → Each (Shallow nesting) t → depth t ≤ nesting
shallow_each nesting none all = omega arith
shallow_each nesting (tree form children rest) all = omega (arith, all.0, shallow_each nesting rest all.1)

pub shallow_first : (nesting n : ℕ) (t : Trees) → depth t ≤ nesting → depth (first n t) ≤ nesting
shallow_first nesting n t le = shallow_each nesting (first n t) (each_first (Shallow nesting) n t (each_shallow nesting t le))

pub shallow_narrowed : (nesting q p : ℕ) (elements : List (List ℕ)) (t : Trees) → depth t ≤ nesting → depth (narrowed q p elements t) ≤ nesting
shallow_narrowed nesting q p elements t le = shallow_each nesting (narrowed q p elements t) (each_narrowed (Shallow nesting) q p elements t (each_shallow nesting t le))

pub rooms_first : (n : ℕ) (t : Trees) → AllHaveRoom t → AllHaveRoom (first n t)
rooms_first n t rooms = room_each (first n t) (each_first RoomOne n t (each_room t rooms))

pub rooms_narrowed : (q p : ℕ) (elements : List (List ℕ)) (t : Trees) → AllHaveRoom t → AllHaveRoom (narrowed q p elements t)
rooms_narrowed q p elements t rooms = room_each (narrowed q p elements t) (each_narrowed RoomOne q p elements t (each_room t rooms))

pub rooms_after : (n : ℕ) (t : Trees) → AllHaveRoom t → AllHaveRoom (following n t)
rooms_after n t rooms = room_each (following n t) (each_after RoomOne n t (each_room t rooms))
