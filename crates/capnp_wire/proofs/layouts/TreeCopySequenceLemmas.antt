-- The trees at consecutive pointers are copied one after the other: the first, then the others, until none is
-- left.
use Rattle.std.proofs.Common.{◌≡◌, ◌≢◌, ℕ, ◌+◌, ◌-◌, ◌<◌, ◌≤◌, Bool, true, false, List, [], ◌∷◌, length, Some, slice_get, refl, sym, ◌∙◌, ap, subst, arith}
use Rattle.capnp_layout.specs.Prelude.{Form, Trees, none, tree, count, depth, object_size, total_words, trim, trim_form, trim_children, At, nowhere, at, pointer, body, pointer_to, output, AllHaveRoom, put, fill, places_in, slots_in, end_of}
use Rattle.capnp_wire.specs.Prelude.{CanCopy, Copies, CopiesAll, CanCopyByCursor, ArePaired, TakesPair}
use Rattle.capnp_wire.specs.declared.layout.copy_cursor.CopyCursor.{CopyCursor}
use Rattle.capnp_layout.specs.declared.place.Place.{Place}
use Rattle.capnp_wire.specs.declared.layout.copy.Copied.{Copied}
use Rattle.capnp_layout.proofs.objects.UniqueObjectLemmas.{one_tree}
use Rattle.capnp_wire.proofs.walks.WalkProgressLemmas.{some_left}

-- the first of some trees, and those after it
pub totals_step : (c : Bool) (form : Form) (children rest : Trees) → total_words (output c (tree form children rest)) ≡ total_words (output c (tree form children none)) + total_words (output c rest)
totals_step true form children rest = omega arith
totals_step false form children rest = omega arith

fill_one : (slot : ℕ) (slots : List ℕ) (next : ℕ) (form : Form) (children rest : Trees) (block : List ℕ)
    → fill (slot ∷ slots) next (tree form children rest) block
    ≡ fill slots (next + total_words (tree form children none)) rest (put slot (pointer_to (tree form children none) (next - (slot + 1)) ∷ []) (put next (body (tree form children none)) block))
fill_one slot slots next form children rest block =
    let same : next + object_size form (count children) + total_words children ≡ next + total_words (tree form children none) = omega arith in
    ap (λ (n : ℕ). fill slots n rest (put slot (pointer form (count children) (next - (slot + 1)) ∷ []) (put next (body (tree form children none)) block))) same

pub fill_step : (c : Bool) (slot : ℕ) (slots : List ℕ) (next : ℕ) (form : Form) (children rest : Trees) (block : List ℕ)
    → fill (slot ∷ slots) next (output c (tree form children rest)) block
    ≡ fill slots (next + total_words (output c (tree form children none))) (output c rest)
    (put slot (pointer_to (output c (tree form children none)) (next - (slot + 1)) ∷ []) (put next (body (output c (tree form children none))) block))
fill_step true slot slots next form children rest block = fill_one slot slots next (trim_form form (trim children)) (trim_children form (trim children)) (trim rest) block
fill_step false slot slots next form children rest block = fill_one slot slots next form children rest block

-- what is to be copied, split into the first and the others
pub record Split (m : List (List ℕ)) (place : Place) (others : List Place) (nesting : ℕ) (c : Bool) (next room : ℕ) (trees : Trees) : Type 0 where
  pub first : CanCopy m (place ∷ []) nesting c next room
  pub following : CanCopy m others nesting c (next + total_words (output c first.trees)) room
  pub fills : (slot : ℕ) (slots : List ℕ) (block : List ℕ) → fill (slot ∷ slots) next (output c trees) block
      ≡ fill slots (next + total_words (output c first.trees)) (output c following.trees)
      (put slot (pointer_to (output c first.trees) (next - (slot + 1)) ∷ []) (put next (body (output c first.trees)) block))
  pub totals : total_words (output c trees) ≡ total_words (output c first.trees) + total_words (output c following.trees)

split_tree : (m : List (List ℕ)) (place : Place) (others : List Place) (nesting : ℕ) (c : Bool) (next room : ℕ) (trees : Trees) (traversed : ℕ)
    → At m (place ∷ others) trees traversed → depth trees ≤ nesting → AllHaveRoom trees → next + total_words (output c trees) ≤ room → Split m place others nesting c next room trees
split_tree m place others nesting c next room trees traversed (at {shape = s} {children = h} {rest = r} {inside = i} {following = b} object inner after) shallow rooms fits = record {
  first = record {
    trees = tree s.form h none;
    traversed = s.traversed + i + 0;
    are_at = at object inner nowhere;
    shallow = omega arith;
    rooms = (rooms.0, rooms.1, tt);
    fits = omega (arith, totals_step c s.form h r);
  };
  following = record { trees = r; traversed = b; are_at = after; shallow = omega arith; rooms = rooms.2; fits = omega (arith, totals_step c s.form h r) };
  fills = λ slot slots block. fill_step c slot slots next s.form h r block;
  totals = totals_step c s.form h r;
}

pub split_first : (m : List (List ℕ)) (place : Place) (others : List Place) (nesting : ℕ) (c : Bool) (next room : ℕ) (can : CanCopy m (place ∷ others) nesting c next room)
    → Split m place others nesting c next room can.trees
split_first m place others nesting c next room can = split_tree m place others nesting c next room can.trees can.traversed can.are_at can.shallow can.rooms can.fits

pub none_at : (m : List (List ℕ)) (trees : Trees) (traversed : ℕ) → At m [] trees traversed → trees ≡ none
none_at m trees traversed nowhere = refl

pub none_output : (c : Bool) → output c none ≡ none
none_output true = refl
none_output false = refl

pub fill_nothing : (next : ℕ) (trees : Trees) (block : List ℕ) → fill [] next trees block ≡ block
fill_nothing next none block = refl
fill_nothing next (tree form children rest) block = refl

-- where no pointers are, nothing is copied
pub copies_none : {m : List (List ℕ)} {at : List Place} {c : Bool} {slots : List ℕ} {next free : ℕ} {block : List ℕ} → at ≡ [] → free ≡ next → CopiesAll m at c slots next block block free
copies_none {m} {at} {c} {slots} {next} {free} {block} none_there free_is =
    let is : (trees : Trees) (traversed : ℕ) → At m at trees traversed → output c trees ≡ none = λ trees traversed are_at.
    ap (output c) (none_at m trees traversed (subst (λ (l : List Place). At m l trees traversed) none_there are_at)) ∙ none_output c in
    record {
      words_are = λ trees traversed are_at. sym (ap (λ (t : Trees). fill slots next t block) (is trees traversed are_at));
      next_is = λ trees traversed are_at. omega (arith, free_is, ap total_words (is trees traversed are_at));
    }

-- the first is copied, and then the others
copies_both : {m : List (List ℕ)} {place : Place} {others : List Place} {nesting : ℕ} {c : Bool} {slot : ℕ} {slots : List ℕ} {free room after : ℕ} {now mid new last : List ℕ} {inner : Copied}
    → CanCopy m (place ∷ others) nesting c free room → Copies m place c (free - (slot + 1)) free now mid inner → new ≡ put slot (inner.pointer ∷ []) mid
    → CopiesAll m others c slots inner.next new last after → CopiesAll m (place ∷ others) c (slot ∷ slots) free now last after
copies_both {m} {place} {others} {nesting} {c} {slot} {slots} {free} {room} {after} {now} {mid} {new} {last} {inner} can first new_is rest =
    let s = split_first m place others nesting c free room can in
    let d = first.is s.first.trees s.first.traversed s.first.are_at in
    let words_are : mid ≡ put free (body (output c s.first.trees)) now = d.words_are in
    let pointer_there : inner.pointer ≡ pointer_to (output c s.first.trees) (free - (slot + 1)) = d.pointer_is in
    let next_is : inner.next ≡ free + total_words (output c s.first.trees) = d.next_is in
    let filled : fill slots inner.next (output c s.following.trees) new ≡ fill (slot ∷ slots) free (output c can.trees) now =
    rw (new_is, words_are, pointer_there, next_is) (sym (s.fills slot slots now)) in
    let same : (trees : Trees) (traversed : ℕ) → At m (place ∷ others) trees traversed → can.trees ≡ trees = λ trees traversed are_at.
    (one_tree m (place ∷ others) can.trees trees can.traversed traversed can.are_at are_at).0 in
    record {
      words_are = λ trees traversed are_at. rest.words_are s.following.trees s.following.traversed s.following.are_at ∙ filled ∙ ap (λ (t : Trees). fill (slot ∷ slots) free (output c t) now) (same trees traversed are_at);
      next_is = λ trees traversed are_at. omega (
        arith,
        rest.next_is s.following.trees s.following.traversed s.following.are_at,
        next_is,
        s.totals,
        ap (λ (t : Trees). total_words (output c t)) (same trees traversed are_at),
      );
    }

-- How far the copying of what some pointers point to has come: those that are left can be copied,
-- and then all are copied.
pub record Copying (m : List (List ℕ)) (words : List ℕ) (nesting : ℕ) (c : Bool) (whole : CopyCursor) (start : ℕ) (old : List ℕ) (cursor : CopyCursor) (free : ℕ) (now : List ℕ) : Type 0 where
  pub can : CanCopyByCursor m words cursor nesting c free (length now)
  pub long : length now ≡ length old
  pub ends : (new : List ℕ) (after : ℕ) → CopiesAll m (places_in cursor.from) c (slots_in cursor.to) free now new after
      → CopiesAll m (places_in whole.from) c (slots_in whole.to) start old new after

-- what is to be copied next
pub record CanCopyNext (m : List (List ℕ)) (words : List ℕ) (place : Place) (nesting : ℕ) (c : Bool) (slot free room : ℕ) : Type 0 where
  pub there : CanCopy m (place ∷ []) nesting c free room
  pub content : slice_get m place.segment ≡ Some words
  pub following : slot + 1 ≤ free
  pub within : slot < room

left_at : {m : List (List ℕ)} {words : List ℕ} {nesting : ℕ} {c : Bool} {cursor others : CopyCursor} {place : Place} {slot free room : ℕ}
    → TakesPair cursor others place slot → CanCopyByCursor m words cursor nesting c free room → CanCopy m (place ∷ places_in others.from) nesting c free room
left_at {m} {nesting = nesting} {c = c} {free = free} {room = room} takes can = subst (λ (l : List Place). CanCopy m l nesting c free room) takes.from.places_are can.there

pub copying_first : {m : List (List ℕ)} {words : List ℕ} {nesting : ℕ} {c : Bool} {whole cursor others : CopyCursor} {place : Place} {slot start free : ℕ} {old now : List ℕ}
    → Copying m words nesting c whole start old cursor free now → TakesPair cursor others place slot → CanCopyNext m words place nesting c slot free (length now)
copying_first {m} {words} {nesting} {c} {whole} {cursor} {others} {place} {slot} {start} {free} {old} {now} so_far takes =
    let s = split_first m place (places_in others.from) nesting c free (length now) (left_at takes so_far.can) in
    record {
      there = s.first;
      content = ap (slice_get m) takes.in_segment ∙ so_far.can.content (some_left takes.from.places_are);
      following = omega (arith, takes.before, so_far.can.before);
      within = omega (arith, takes.before, so_far.can.before, s.first.fits);
    }

pub copying_next : {m : List (List ℕ)} {words : List ℕ} {nesting : ℕ} {c : Bool} {whole cursor others : CopyCursor} {place : Place} {slot start free : ℕ} {old now mid new : List ℕ} {inner : Copied}
    → Copying m words nesting c whole start old cursor free now → TakesPair cursor others place slot → Copies m place c (free - (slot + 1)) free now mid inner → length mid ≡ length now
    → new ≡ put slot (inner.pointer ∷ []) mid → length new ≡ length mid → Copying m words nesting c whole start old others inner.next new
copying_next {m} {words} {nesting} {c} {whole} {cursor} {others} {place} {slot} {start} {free} {old} {now} {mid} {new} {inner} so_far takes copied mid_long new_is new_long =
    let left = left_at takes so_far.can in
    let s = split_first m place (places_in others.from) nesting c free (length now) left in
    let next_is : inner.next ≡ free + total_words (output c s.first.trees) = (copied.is s.first.trees s.first.traversed s.first.are_at).next_is in
    record {
      can = record {
        there = record {
          trees = s.following.trees;
          traversed = s.following.traversed;
          are_at = s.following.are_at;
          shallow = s.following.shallow;
          rooms = s.following.rooms;
          fits = omega (arith, s.following.fits, next_is, mid_long, new_long);
        };
        content = λ some. ap (slice_get m) takes.same_segment ∙ so_far.can.content (some_left takes.from.places_are);
        as_many = omega (arith, so_far.can.as_many, ap length takes.from.places_are, takes.as_many);
        before = omega (arith, takes.same_end, so_far.can.before, next_is);
      };
      long = new_long ∙ mid_long ∙ so_far.long;
      ends = λ last after rest.
          let both = copies_both left copied new_is rest in
          so_far.ends last after (subst (λ (l : List Place). CopiesAll m l c (slots_in cursor.to) free now last after) (sym takes.from.places_are)
          (subst (λ (l : List ℕ). CopiesAll m (place ∷ places_in others.from) c l free now last after) (sym takes.slots_are) both));
    }

pub copying_ends : {m : List (List ℕ)} {words : List ℕ} {nesting : ℕ} {c : Bool} {whole cursor : CopyCursor} {start free : ℕ} {old now : List ℕ}
    → Copying m words nesting c whole start old cursor free now → places_in cursor.from ≡ [] → CopiesAll m (places_in whole.from) c (slots_in whole.to) start old now free
copying_ends {free = free} {now = now} so_far done = so_far.ends now free (copies_none done refl)

-- a cursor by the places and the slots that it goes over
pub paired : {cursor : CopyCursor} {at : List Place} {segment : ℕ} {slots : List ℕ} {end : ℕ} → places_in cursor.from ≡ at → slots_in cursor.to ≡ slots → length at ≡ length (places_in cursor.to)
    → cursor.from.next.segment ≡ segment → end_of cursor.to ≤ end → ArePaired cursor at segment slots end
paired {cursor} {at} {segment} {slots} {end} places_are slots_are many segment_is ends = record {
  can = λ m words nesting c next room can content following. record {
    there = subst (λ (l : List Place). CanCopy m l nesting c next room) (sym places_are) can;
    content = λ some. ap (slice_get m) segment_is ∙ content (subst (λ (l : List Place). l ≢ []) places_are some);
    as_many = ap length places_are ∙ many;
    before = omega arith;
  };
  copied = λ m c next old new free done. subst (λ (l : List ℕ). CopiesAll m at c l next old new free) slots_are
      (subst (λ (l : List Place). CopiesAll m l c (slots_in cursor.to) next old new free) places_are done);
}
