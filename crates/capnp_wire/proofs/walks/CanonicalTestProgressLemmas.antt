-- How far a walk that tests for the canonical form has come over what is below an object: what has passed so far
-- passes with what comes next, or it ends there.
use Rattle.std.proofs.Common.{◌≡◌, ℕ, ◌+◌, ◌-◌, ◌<◌, ◌≤◌, List, [], ◌∷◌, ◌++◌, length, Bool, true, false, Option, Some, slice_get, Result, Ok, Err, IfOk, IfErr, refl, sym, ◌∙◌, ap, subst}
use Rattle.std.proofs.Common.{arith, append_assoc, ◌^◌}
use Rattle.std.proofs.lemmas.List.{append-nil}
use Rattle.std.specs.Prelude.{All}
use Rattle.capnp_frame.specs.declared.error.Error.{Error}
use Rattle.capnp_layout.specs.Prelude.{Trees, none, tree, null, count, depth, object_size, total_words, before, nothing, is_null, At, nowhere, at, Within, less, places_in, Trimmed}
use Rattle.capnp_wire.specs.Prelude.{IsInPreorder, Passes, PassesAt, MeetsPointers, Ending, fails_with, not_canonical, Ends, far, at_pointer, over_limit, elsewhere, inside, later}
use Rattle.capnp_layout.specs.declared.place.Place.{Place}
use Rattle.capnp_layout.specs.declared.pointer_slots.PointerSlots.{PointerSlots}
use Rattle.capnp_layout.proofs.trees.TraversalLimitCountLemmas.{within_none, less_none, within_both, within_first, within_rest, less_both, at_both, depth_both}
use Rattle.capnp_wire.proofs.forms.ObjectPassesWhereTrimmedLemmas.{passes_over}
use Rattle.capnp_layout.proofs.trees.TreePartsSizeAndPropertiesLemmas.{total-before}

-- trees that pass, and others after them
preorder_both : (segment : List ℕ) (ps qs : List Place) (a b : Trees) (traversed next middle : ℕ) → At (segment ∷ []) ps a traversed → IsInPreorder segment ps next a → middle ≡ next + total_words a
    → IsInPreorder segment qs middle b
    → IsInPreorder segment (ps ++ qs) next (before a b)
preorder_both segment ps qs a b traversed next middle nowhere t is u = let same : middle ≡ next = omega arith in subst (λ (n : ℕ). IsInPreorder segment qs n b) same u
preorder_both segment ps qs a b traversed next middle (at {others = others} {shape = s} {children = h} {rest = r} {following = n} o inner after) t is u =
    (t.0, t.1, t.2, t.3, preorder_both segment others qs r b n (next + object_size s.form (count h) + total_words h) middle after t.4 (omega arith) u)

trimmed_both : (a b : Trees) → Trimmed a → Trimmed b → Trimmed (before a b)
trimmed_both none b p q = q
trimmed_both (tree form children rest) b p q = (p.0, trimmed_both rest b p.1 q)

pub passes_both : (segment : List ℕ) (ps qs : List Place) (nesting x y next middle after : ℕ) → Passes segment ps nesting x next middle → Passes segment qs nesting y middle after
    → Passes segment (ps ++ qs) nesting (x + y) next after
passes_both segment ps qs nesting x y next middle after p q = record {
  trees = before p.trees q.trees;
  are_at = at_both (segment ∷ []) ps qs p.trees q.trees x y p.are_at q.are_at;
  shallow = depth_both p.trees q.trees nesting p.shallow q.shallow;
  in_preorder = preorder_both segment ps qs p.trees q.trees x next middle p.are_at p.in_preorder p.after_is q.in_preorder;
  trimmed = trimmed_both p.trees q.trees p.trimmed q.trimmed;
  after_is = omega (arith, total-before p.trees q.trees, p.after_is, q.after_is);
  room = q.room;
}

passes_nowhere : (segment : List ℕ) (nesting next : ℕ) → next ≤ length segment → Passes segment [] nesting 0 next next
passes_nowhere segment nesting next room = record {
  trees = none;
  are_at = nowhere;
  shallow = omega arith;
  in_preorder = tt;
  trimmed = tt;
  after_is = omega arith;
  room = room;
}

-- a null pointer
pub null_passes : {segment : List ℕ} {word nesting next after : ℕ} {limit left : Option ℕ} → (slice_get segment word ≡ Some 0) × (left ≡ limit) × (after ≡ next) → next ≤ length segment
    → PassesAt segment (record { segment = 0; word = word } ∷ []) nesting limit left next after
null_passes {segment} {word} {nesting} {next} {after} {limit} {left} met room = record {
  traversed = 0;
  passes = record {
    trees = tree null none none;
    are_at = at {shape = nothing} (is_null met.0) nowhere nowhere;
    shallow = omega arith;
    in_preorder = (met.0, tt, tt, tt, tt);
    trimmed = ((refl, refl, tt), tt);
    after_is = omega (arith, met.2);
    room = omega (arith, met.2, room);
  };
  within = within_none limit;
  left_is = met.1 ∙ sym (less_none limit);
}

-- How far a walk over the trees at some places has come, where all pass so far: which are done, and
-- which are left.
pub record PassesSoFar (segment : List ℕ) (children rest : List Place) (nesting : ℕ) (limit left : Option ℕ) (next now : ℕ) : Type 0 where
  pub front : List Place
  pub children_is : children ≡ front ++ rest
  pub traversed : ℕ
  pub passes : Passes segment front nesting traversed next now
  pub within : Within limit traversed
  pub left_is : left ≡ less limit traversed

pub passing_begins : (segment : List ℕ) (children : List Place) (nesting : ℕ) (limit : Option ℕ) (next : ℕ) → next ≤ length segment → PassesSoFar segment children children nesting limit limit next next
passing_begins segment children nesting limit next room = record {
  front = [];
  children_is = refl;
  traversed = 0;
  passes = passes_nowhere segment nesting next room;
  within = within_none limit;
  left_is = sym (less_none limit);
}

-- a place of the one segment
place_is : (place : Place) → place.segment ≡ 0 → ◌≡◌ {A = Place} (record { segment = 0; word = place.word }) place
place_is place e = ap (λ (n : ℕ). record { segment = n; word = place.word }) (sym e)

pub going_next : {segment : List ℕ} {children rest others : List Place} {place : Place} {nesting : ℕ} {limit left left_after : Option ℕ} {next now after : ℕ}
    → rest ≡ place ∷ others → place.segment ≡ 0 → PassesSoFar segment children rest nesting limit left next now → PassesAt segment (record { segment = 0; word = place.word } ∷ []) nesting left left_after now after
    → PassesSoFar segment children others nesting limit left_after next after
going_next {segment} {children} {rest} {others} {place} {nesting} {limit} {left} {left_after} {next} {now} {after} is first g passes =
    let p = subst (λ (x : Place). PassesAt segment (x ∷ []) nesting left left_after now after) (place_is place first) passes in
    let fits : Within (less limit g.traversed) p.traversed = subst (λ (l : Option ℕ). Within l p.traversed) g.left_is p.within in
    record {
      front = g.front ++ place ∷ [];
      children_is = g.children_is ∙ ap (λ (l : List Place). g.front ++ l) is ∙ sym (append_assoc g.front (place ∷ []) others);
      traversed = g.traversed + p.traversed;
      passes = passes_both segment g.front (place ∷ []) nesting g.traversed p.traversed next now after g.passes p.passes;
      within = within_both limit g.traversed p.traversed g.within fits;
      left_is = p.left_is ∙ ap (λ (l : Option ℕ). less l p.traversed) g.left_is ∙ less_both limit g.traversed p.traversed;
    }

pub passing_done : {segment : List ℕ} {children rest : List Place} {nesting : ℕ} {limit left : Option ℕ} {next now : ℕ}
    → rest ≡ [] → PassesSoFar segment children rest nesting limit left next now → PassesAt segment children nesting limit left next now
passing_done {segment} {children} {rest} {nesting} {limit} {left} {next} {now} done g =
    let all : children ≡ g.front = g.children_is ∙ ap (λ (l : List Place). g.front ++ l) done ∙ append-nil g.front in
    record {
      traversed = g.traversed;
      passes = subst (λ (l : List Place). Passes segment l nesting g.traversed next now) (sym all) g.passes;
      within = g.within;
      left_is = g.left_is;
    }

-- a walk that ends at the first of some places ends
pub ends_more : (segment : List ℕ) (place : Place) (rest : List Place) (nesting next : ℕ) (limit : Option ℕ) (ending : Ending)
    → Ends segment (place ∷ []) nesting limit next ending → Ends segment (place ∷ rest) nesting limit next ending
ends_more segment place rest nesting next limit ending (far f) = far f
ends_more segment place rest nesting next limit ending (at_pointer n f) = at_pointer n f
ends_more segment place rest nesting next limit ending (over_limit n o d p) = over_limit n o d p
ends_more segment place rest nesting next limit ending (elsewhere m n) = elsewhere m n
ends_more segment place rest nesting next limit ending (inside m l e) = inside m l e
ends_more segment place rest nesting next limit ending (later p w e) = elim e [ ]

-- and one that ends after them
ends_after : (segment : List ℕ) (front rest : List Place) (trees : Trees) (nesting traversed next after : ℕ) (limit : Option ℕ) (ending : Ending) → At (segment ∷ []) front trees traversed
    → depth trees ≤ nesting
    → IsInPreorder segment front next trees → Trimmed trees → after ≡ next + total_words trees → after ≤ length segment → Within limit traversed
    → Ends segment rest nesting (less limit traversed) after ending → Ends segment (front ++ rest) nesting limit next ending
ends_after segment front rest trees nesting traversed next after limit ending nowhere shallow in_preorder trimmed is room fits ends =
    let same : after ≡ next = omega arith in
    subst (λ (n : ℕ). Ends segment rest nesting limit n ending) same (subst (λ (o : Option ℕ). Ends segment rest nesting o after ending) (less_none limit) ends)
ends_after segment front rest trees nesting traversed next after limit ending (at {place = p} {others = others} {shape = s} {children = h} {rest = r} {inside = i} {following = n} o inner tail) shallow in_preorder
    trimmed is room fits ends =
    let middle = next + object_size s.form (count h) + total_words h in
    let one : Passes segment (p ∷ []) nesting (s.traversed + i) next (next + object_size s.form (count h) + total_words h) = record {
      trees = tree s.form h none;
      are_at = subst (At (segment ∷ []) (p ∷ []) (tree s.form h none)) (omega arith) (at o inner nowhere);
      shallow = omega arith;
      in_preorder = (in_preorder.0, in_preorder.1, in_preorder.2, in_preorder.3, tt);
      trimmed = (trimmed.0, tt);
      after_is = omega arith;
      room = omega arith;
    } in
    let first : Within limit (s.traversed + i) = within_first limit (s.traversed + i) n fits in
    let others_fit : Within (less limit (s.traversed + i)) n = within_rest limit (s.traversed + i) n fits in
    let left : less limit (s.traversed + i + n) ≡ less (less limit (s.traversed + i)) n = sym (less_both limit (s.traversed + i) n) in
    let ends_there : Ends segment rest nesting (less (less limit (s.traversed + i)) n) after ending = subst (λ (x : Option ℕ). Ends segment rest nesting x after ending) left ends in
    later one first (ends_after segment others rest r nesting n (next + object_size s.form (count h) + total_words h) after (less limit (s.traversed + i)) ending tail (omega arith)
    in_preorder.4 trimmed.1 (omega arith) room others_fit ends_there)

pub going_ends : {segment : List ℕ} {children rest others : List Place} {place : Place} {nesting : ℕ} {limit left : Option ℕ} {next now : ℕ} {ending : Ending}
    → rest ≡ place ∷ others → place.segment ≡ 0 → PassesSoFar segment children rest nesting limit left next now → Ends segment (record { segment = 0; word = place.word } ∷ []) nesting left now ending
    → Ends segment children nesting limit next ending
going_ends {segment} {children} {rest} {others} {place} {nesting} {limit} {left} {next} {now} {ending} is first g ends_there =
    let ends = subst (λ (x : Place). Ends segment (x ∷ []) nesting left now ending) (place_is place first) ends_there in
    let there : Ends segment (place ∷ others) nesting (less limit g.traversed) now ending =
    subst (λ (l : Option ℕ). Ends segment (place ∷ others) nesting l now ending) g.left_is (ends_more segment place others nesting now left ending ends) in
    subst (λ (l : List Place). Ends segment l nesting limit next ending) (sym (g.children_is ∙ ap (λ (l : List Place). g.front ++ l) is))
    (ends_after segment g.front (place ∷ others) g.passes.trees nesting g.traversed next now limit ending
    g.passes.are_at g.passes.shallow g.passes.in_preorder g.passes.trimmed g.passes.after_is g.passes.room g.within there)

-- An object is met, and then what its pointers point to.
pub met_passes : {segment : List ℕ} {word nesting : ℕ} {limit left left_after : Option ℕ} {next now after : ℕ} {pointers : PointerSlots} → All (λ w. w < 2 ^ 64) segment → word < next
    → next ≤ length segment
    → MeetsPointers segment (record { segment = 0; word = word }) nesting limit left next now pointers → PassesAt segment (places_in pointers) (nesting - 1) left left_after now after
    → PassesAt segment (record { segment = 0; word = word } ∷ []) nesting limit left_after next after
met_passes {segment} {word} {nesting} {limit} {left} {left_after} {next} {now} {after} {pointers} all before within m p =
    let children : Passes segment m.shape.children (nesting - 1) p.traversed (next + object_size m.shape.form (length m.shape.children)) after =
    subst (λ (l : List Place). Passes segment l (nesting - 1) p.traversed (next + object_size m.shape.form (length m.shape.children)) after) m.all
    (subst (λ (n : ℕ). Passes segment (places_in pointers) (nesting - 1) p.traversed n after) m.after_is p.passes) in
    let fits : Within (less limit m.shape.traversed) p.traversed = subst (λ (l : Option ℕ). Within l p.traversed) m.left_is p.within in
    record {
      traversed = m.shape.traversed + p.traversed;
      passes = passes_over segment word nesting next p.traversed after limit m.shape all before within m.meets m.laid_out children;
      within = within_both limit m.shape.traversed p.traversed m.meets.within fits;
      left_is = p.left_is ∙ ap (λ (l : Option ℕ). less l p.traversed) m.left_is ∙ less_both limit m.shape.traversed p.traversed;
    }

pub met_ends : {segment : List ℕ} {place : Place} {nesting : ℕ} {limit left : Option ℕ} {next now : ℕ} {pointers : PointerSlots} {ending : Ending}
    → MeetsPointers segment place nesting limit left next now pointers → Ends segment (places_in pointers) (nesting - 1) left now ending → Ends segment (place ∷ []) nesting limit next ending
met_ends {segment} {place} {nesting} {limit} {left} {next} {now} {pointers} {ending} m ends =
    inside m.meets m.laid_out (subst (λ (l : List Place). Ends segment l (nesting - 1) (less limit m.shape.traversed) (next + object_size m.shape.form (length m.shape.children)) ending) m.all
    (subst (λ (n : ℕ). Ends segment (places_in pointers) (nesting - 1) (less limit m.shape.traversed) n ending) m.after_is
    (subst (λ (l : Option ℕ). Ends segment (places_in pointers) (nesting - 1) l now ending) m.left_is ends)))

-- what the test of these returns
pub pointers_pass : {segment : List ℕ} {word nesting : ℕ} {limit left : Option ℕ} {next now : ℕ} {pointers : PointerSlots} (left_after : Option ℕ) (after : ℕ) (result : Result Bool Error)
    → All (λ w. w < 2 ^ 64) segment → word < next
    → next ≤ length segment → MeetsPointers segment (record { segment = 0; word = word }) nesting limit left next now pointers
    → IfOk result (λ passes. passes ≡ true → PassesAt segment (places_in pointers) (nesting - 1) left left_after now after)
    → IfOk result (λ passes. passes ≡ true → PassesAt segment (record { segment = 0; word = word } ∷ []) nesting limit left_after next after)
pointers_pass left_after after (Ok passes) all before within m p = λ is. met_passes all before within m (p is)
pointers_pass left_after after (Err error) all before within m p = tt

pub pointers_end : {segment : List ℕ} {place : Place} {nesting : ℕ} {limit left : Option ℕ} {next now : ℕ} {pointers : PointerSlots} (result : Result Bool Error)
    → MeetsPointers segment place nesting limit left next now pointers
    → IfOk result (λ passes. passes ≡ false → Ends segment (places_in pointers) (nesting - 1) left now not_canonical)
    → IfOk result (λ passes. passes ≡ false → Ends segment (place ∷ []) nesting limit next not_canonical)
pointers_end (Ok passes) m ends = λ is. met_ends m (ends is)
pointers_end (Err error) m ends = tt

pub pointers_error : {segment : List ℕ} {place : Place} {nesting : ℕ} {limit left : Option ℕ} {next now : ℕ} {pointers : PointerSlots} (result : Result Bool Error)
    → MeetsPointers segment place nesting limit left next now pointers
    → IfErr result (λ error. Ends segment (places_in pointers) (nesting - 1) left now (fails_with error.kind)) → IfErr result (λ error. Ends segment (place ∷ []) nesting limit next (fails_with error.kind))
pointers_error (Ok passes) m ends = tt
pointers_error (Err error) m ends = met_ends m ends
