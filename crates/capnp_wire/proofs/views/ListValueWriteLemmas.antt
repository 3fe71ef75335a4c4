-- Lists of structs and of pointers, as values: where there is room for its tree, a list can be copied, and what is
-- then written is its tree.
use Rattle.std.proofs.Common.{◌≡◌, ℕ, zero, suc, ◌+◌, ◌-◌, ◌*◌, ◌≤◌, Bool, true, false, List, ◌∷◌, length, Option, None, slice_get, []}
use Rattle.std.proofs.Common.{refl, sym, ◌∙◌, ap, subst, arith}
use Rattle.capnp_layout.specs.Prelude.{Form, pointers, Trees, none, tree, count, places, elements_from, At, no_word, no_segment, run, output, struct_pointer, list_pointer, AllHaveRoom, put, put_data_sections, fill, kept_places, section_slots}
use Rattle.capnp_wire.specs.Prelude.{CanCopy, CopiesAll, IsCopied, HasRoomAt, HasPointersSegment, IsListTree, pointers_along, pointers_of_structs, structs_along}
use Rattle.capnp_wire.specs.declared.layout.copy.Copied.{Copied}
use Rattle.capnp_layout.specs.declared.place.Place.{Place}
use Rattle.capnp_layout.specs.declared.pointer.Elements.{Elements}
use Rattle.capnp_layout.specs.declared.pointer.StructSize.{StructSize}
use Rattle.capnp_layout.specs.declared.object.Body.TheVariants.{Pointers}
use Rattle.capnp_layout.proofs.objects.UniqueObjectLemmas.{one_tree}
use Rattle.capnp_layout.proofs.trees.TraversalLimitCountLemmas.{count_at}
use Rattle.capnp_layout.proofs.trees.KeptTreesPlacedNoDeeperLemmas.{long_places}
use Rattle.capnp_layout.proofs.trees.TrimIdempotenceAndSizeLemmas.{count-trim, room_trim}
use Rattle.capnp_wire.proofs.layouts.TreeCopySequenceLemmas.{split_first}
use Rattle.capnp_layout.proofs.pointers.ErrorExcludesTreeLemmas.{error_no_tree}
use Rattle.capnp_wire.proofs.layouts.CopyBeginsWithOwnWordsLemmas.{in_run}
use Rattle.capnp_wire.proofs.layouts.CopyPlanFillsLayoutLemmas.{Opened, OpenedElements, pointers_open, room_output}
use Rattle.capnp_wire.proofs.layouts.ReadObjectHasCopyPlanLemmas.{elements_plain, elements_trimmed}
use Rattle.capnp_wire.proofs.views.ListValueMeasureLemmas.{kept_size}

-- and the same whatever the limit
pub same_list : (form : Form) (m : List (List ℕ)) (at : List Place) (nesting : ℕ) (limit other : Option ℕ) (a b : Trees)
    → IsListTree form (record { message = m; children = at; nesting = nesting; limit = limit }) a → IsListTree form (record { message = m; children = at; nesting = nesting; limit = other }) b → a ≡ b
same_list form m at nesting limit other a b x y =
    x.whole ∙ ap (λ (t : Trees). tree form t none) (one_tree m at x.children y.children x.traversed y.traversed x.are_at y.are_at).0 ∙ sym y.whole

output_pointers : (c : Bool) (children : Trees) → output c (tree pointers children none) ≡ tree pointers (output c children) none
output_pointers true children = refl
output_pointers false children = refl

output_count : (c : Bool) (children : Trees) → count (output c children) ≡ count children
output_count true children = count-trim children
output_count false children = refl

pub pointers_opened : (m : List (List ℕ)) (first : Place) (n nesting : ℕ) (limit : Option ℕ) (c : Bool) (next room : ℕ)
    (w : HasRoomAt (IsListTree pointers (pointers_along m first n nesting limit)) c next room) → Opened m [] first (Pointers n) (Pointers n) nesting c next room w.trees
pointers_opened m first n nesting limit c next room w =
    let t = w.tree_is in
    pointers_open m [] first n nesting c next room w.trees t.children (output c t.children) t.traversed (ap (output c) t.whole ∙ output_pointers c t.children) refl t.are_at t.shallow
    (subst AllHaveRoom t.whole w.rooms).1 (room_output c w.trees w.rooms)
    (output_count c t.children ∙ count_at m (places first.segment first.word n) t.children t.traversed t.are_at ∙ long_places first.segment first.word n) w.fits

pub pointers_copyable : {m : List (List ℕ)} {first : Place} {n nesting : ℕ} {c : Bool} {next room : ℕ} {trees : Trees} → Opened m [] first (Pointers n) (Pointers n) nesting c next room trees
    → CanCopy m (places first.segment first.word n) nesting c (next + n) room
pointers_copyable {m} {first} {n} {nesting} {c} {next} {room} o =
    subst (λ (l : List Place). CanCopy m l nesting c (next + n) room) (in_run first (Pointers n) (Pointers n) next n refl refl).places_are o.kept

-- where there is no segment, a list whose pointers can be copied has no pointers
pub no_pointers_there : (m : List (List ℕ)) (first : Place) (n nesting : ℕ) (c : Bool) (next room : ℕ) → slice_get m first.segment ≡ None
    → CanCopy m (places first.segment first.word n) nesting c next room → n ≡ 0
no_pointers_there m first zero nesting c next room missing can = refl
no_pointers_there m first (suc n) nesting c next room missing can =
    let place : Place = record { segment = first.segment; word = first.word } in
    let s = split_first m place (places first.segment (first.word + 1) n) nesting c next room can in
    absurd (error_no_tree m place nesting _ s.first.trees s.first.traversed (no_word (no_segment missing)) s.first.are_at s.first.shallow)

pub pointers_written : {m : List (List ℕ)} {first : Place} {n nesting : ℕ} {c : Bool} {gap next room : ℕ} {trees : Trees} {old new : List ℕ} {done : Copied}
    → Opened m [] first (Pointers n) (Pointers n) nesting c next room trees → length old ≡ room
    → CopiesAll m (places first.segment first.word n) c (run next n) (next + n) old new done.next → done.pointer ≡ list_pointer gap 6 n → IsCopied (output c trees) gap next old new done
pointers_written {m} {first} {n} {nesting} {c} {gap} {next} {room} {trees} {old} {new} {done} o long all pointer_is =
    let k = o.kept in
    let r = in_run first (Pointers n) (Pointers n) next n refl refl in
    let there : At m (places first.segment first.word n) k.trees k.traversed = subst (λ (l : List Place). At m l k.trees k.traversed) r.places_are k.are_at in
    record {
      words_are = all.words_are k.trees k.traversed there ∙ ap (λ (l : List ℕ). fill l (next + n) (output c k.trees) old) (sym r.slots_are) ∙ o.fills old long;
      pointer_is = pointer_is ∙ o.pointers_are gap;
      next_is = omega (arith, all.next_is k.trees k.traversed there, o.totals);
    }

elements_opened_as : (m : List (List ℕ)) (words : List ℕ) (first : Place) (elements : Elements) (nesting : ℕ) (limit : Option ℕ) (c : Bool) (next room : ℕ) → HasPointersSegment m words first elements.size
    → first.word + elements.count * (elements.size.data_words + elements.size.pointers) ≤ length words
    → (w : HasRoomAt (IsListTree (structs_along words first elements) (pointers_of_structs m first elements nesting limit)) c next room)
    → OpenedElements m words first.segment first.word elements.size (kept_size c words first elements) elements.count nesting c next room w.trees
elements_opened_as m words first elements nesting limit false next room content there w =
    let t = w.tree_is in
    elements_plain m words first.segment first.word elements nesting next room w.trees t.children t.traversed t.whole t.are_at t.shallow (subst AllHaveRoom t.whole w.rooms).1 w.rooms there w.fits
elements_opened_as m words first elements nesting limit true next room content there w =
    let t = w.tree_is in
    elements_trimmed m words first.segment first.word elements nesting next room w.trees t.children t.traversed content t.whole t.are_at t.shallow (subst AllHaveRoom t.whole w.rooms).1
    (room_trim w.trees w.rooms) there w.fits

pub elements_opened : {m : List (List ℕ)} {words : List ℕ} {first : Place} {elements kept : Elements} {nesting : ℕ} {limit : Option ℕ} {c : Bool} {next room : ℕ}
    → HasPointersSegment m words first elements.size → first.word + elements.count * (elements.size.data_words + elements.size.pointers) ≤ length words
    → kept.size ≡ kept_size c words first elements → kept.count ≡ elements.count
    → (w : HasRoomAt (IsListTree (structs_along words first elements) (pointers_of_structs m first elements nesting limit)) c next room)
    → OpenedElements m words first.segment first.word elements.size kept.size kept.count nesting c next room w.trees
elements_opened {m} {words} {first} {elements} {kept} {nesting} {limit} {c} {next} {room} content there size_is count_is w =
    subst (λ (k : ℕ). OpenedElements m words first.segment first.word elements.size kept.size k nesting c next room w.trees) (sym count_is)
    (subst (λ (k : StructSize). OpenedElements m words first.segment first.word elements.size k elements.count nesting c next room w.trees) (sym size_is)
    (elements_opened_as m words first elements nesting limit c next room content there w))

pub elements_written : {m : List (List ℕ)} {words : List ℕ} {segment begin : ℕ} {from size : StructSize} {n nesting : ℕ} {c : Bool} {gap next room end : ℕ} {trees : Trees} {old tagged mid new : List ℕ}
    {done : Copied} → OpenedElements m words segment begin from size n nesting c next room trees → length old ≡ room
    → tagged ≡ put next (struct_pointer n size.data_words size.pointers ∷ []) old
    → mid ≡ put_data_sections (next + 1) size.pointers (elements_from words begin size.data_words (from.data_words + from.pointers - size.data_words) n) tagged
    → end ≡ next + (1 + n * (size.data_words + size.pointers))
    → CopiesAll m (kept_places segment begin from.data_words from.pointers size.pointers n) c (section_slots (next + 1) size.data_words size.pointers n) end mid new done.next
    → done.pointer ≡ list_pointer gap 7 (n * (size.data_words + size.pointers)) → IsCopied (output c trees) gap next old new done
elements_written {m} {words} {segment} {begin} {from} {size} {n} {nesting} {c} {gap} {next} {room} {end} {trees} {old} {tagged} {mid} {new} {done} o long tagged_is mid_is end_is all pointer_is =
    let k = o.kept in
    let slots = section_slots (next + 1) size.data_words size.pointers n in
    let sections = elements_from words begin size.data_words (from.data_words + from.pointers - size.data_words) n in
    record {
      words_are = all.words_are k.trees k.traversed k.are_at
          ∙ ap (λ (b : List ℕ). fill slots end (output c k.trees) b) (mid_is ∙ ap (put_data_sections (next + 1) size.pointers sections) tagged_is)
          ∙ ap (λ (e : ℕ). fill slots e (output c k.trees) (put_data_sections (next + 1) size.pointers sections (put next (struct_pointer n size.data_words size.pointers ∷ []) old))) end_is
          ∙ o.fills old long;
      pointer_is = pointer_is ∙ o.pointers_are gap;
      next_is = omega (arith, all.next_is k.trees k.traversed k.are_at, o.totals, end_is);
    }
