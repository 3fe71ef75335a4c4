-- A list of numbers is copied by its own words alone. The copy of a list of pointers begins without words of its
-- own, and what these point to is still to be copied.
use Rattle.std.proofs.Common.{◌≡◌, ℕ, ◌+◌, ◌-◌, Bool, List, [], ◌∷◌, ◌<◌, ◌^◌, length, refl, sym, subst, arith}
use Rattle.capnp_layout.specs.Prelude.{words_of, code_of, width, words_for, places, IsObject, run, slots_of, object_of, pointers_of, pointer_of_body}
use Rattle.capnp_wire.specs.Prelude.{CanCopy, Copies, BeginsCopy, BeginsRun, put_own}
use Rattle.capnp_layout.specs.declared.place.Place.{Place}
use Rattle.capnp_layout.specs.declared.number_list.NumberList.{NumberList}
use Rattle.capnp_layout.specs.declared.pointer_run.PointerRun.{PointerRun}
use Rattle.capnp_layout.specs.declared.object.Body.TheVariants.{Numbers, Pointers}
use Rattle.capnp_wire.proofs.layouts.TreeCopySequenceLemmas.{copies_none}
use Rattle.capnp_wire.proofs.layouts.CopyBeginsWithOwnWordsLemmas.{opened_here, object_begins, in_run}
use Rattle.capnp_layout.proofs.pointers.LocalObjectIsAtLemmas.{list_output}
use Rattle.capnp_wire.proofs.layouts.CopyPlanFillsLayoutLemmas.{Opened}

pub number_list_opened : {m : List (List ℕ)} {place : Place} {nesting : ℕ} {c : Bool} {next room : ℕ} (list : NumberList) (can : CanCopy m (place ∷ []) nesting c next room)
    → IsObject m place (object_of list)
    → Opened m (words_of list.segment.now) list.start (Numbers list.size list.count) (Numbers list.size list.count) (nesting - 1) c next room can.trees
number_list_opened {c = c} list can is = opened_here can is (list_output c (words_of list.segment.now) list.start.word (Numbers list.size list.count) tt)

-- it has no pointers, so its own words are its copy
pub number_list_copied : {m : List (List ℕ)} {place : Place} {nesting : ℕ} {c : Bool} {gap next free pointer : ℕ} {old new : List ℕ}
    (list : NumberList) (can : CanCopy m (place ∷ []) nesting c next (length old))
    → IsObject m place (object_of list) → new ≡ put_own (words_of list.segment.now) list.start.word (Numbers list.size list.count) (Numbers list.size list.count) next old
    → length new ≡ length old → pointer ≡ pointer_of_body (Numbers list.size list.count) gap
    → free ≡ next + words_for list.count (width (code_of list.size))
    → Copies m place c gap next old new (record { pointer = pointer; next = free })
number_list_copied {free = free} {new = new} list can is new_is long pointer_is free_is =
    (object_begins can (number_list_opened list can is) new_is long pointer_is).ends new free (copies_none refl free_is)

-- a list of pointers
pub pointer_list_opened : {m : List (List ℕ)} {place : Place} {nesting : ℕ} {c : Bool} {next room : ℕ} (list : PointerRun) (can : CanCopy m (place ∷ []) nesting c next room)
    → IsObject m place (pointers_of list)
    → Opened m (words_of list.segment.now) list.first (Pointers list.count) (Pointers list.count) (nesting - 1) c next room can.trees
pointer_list_opened {c = c} list can is = opened_here can is (list_output c (words_of list.segment.now) list.first.word (Pointers list.count) tt)

-- it has no other words, so nothing is written when its copy begins
pub pointer_list_begins : {m : List (List ℕ)} {place : Place} {nesting : ℕ} {c : Bool} {gap next following pointer : ℕ} {old : List ℕ}
    (list : PointerRun) (can : CanCopy m (place ∷ []) nesting c next (length old))
    → IsObject m place (pointers_of list) → pointer ≡ pointer_of_body (Pointers list.count) gap → following ≡ next + list.count → list.first.word + list.count < 2 ^ 61
    → BeginsRun m place (words_of list.segment.now) nesting c gap next old old (record {
      pointer = pointer;
      first = list.first;
      count = list.count;
      slot = next;
      next = following;
    })
pointer_list_begins {m} {place} {nesting} {c} {gap} {next} {following} {pointer} {old} list can is pointer_is following_is bound =
    let b = object_begins can (pointer_list_opened list can is) refl refl pointer_is in
    let r = in_run list.first (Pointers list.count) (Pointers list.count) next list.count refl refl in
    record {
      begins = subst (λ (f : ℕ). BeginsCopy m place (places list.first.segment list.first.word list.count) (run next list.count) nesting c gap next f old old pointer) (sym following_is)
          (subst (λ (s : List ℕ). BeginsCopy m place (places list.first.segment list.first.word list.count) s nesting c gap next (next + list.count) old old pointer) r.slots_are
          (subst (λ (l : List Place). BeginsCopy m place l (slots_of next (Pointers list.count)) nesting c gap next (next + list.count) old old pointer) r.places_are b));
      content = is.content;
      bound = bound;
      before = omega (arith, following_is);
    }
