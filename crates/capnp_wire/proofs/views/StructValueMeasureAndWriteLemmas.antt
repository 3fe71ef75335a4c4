-- A struct that is read is a value: it is one tree, whose words are measured, and then written.
use Rattle.std.proofs.Common.{◌≡◌, ◌≢◌, ℕ, zero, suc, [], ◌+◌, ◌<◌, ◌≤◌, ◌^◌, Bool, true, false, List, length, Option, Result, Ok, Err, MatchResult, inl, inr, refl, sym, ◌∙◌, ap}
use Rattle.std.proofs.Common.{subst, arith, Some, slice_get}
use Rattle.std.specs.Prelude.{All}
use Rattle.capnp_frame.specs.declared.error.Error.{Error}
use Rattle.capnp_layout.specs.Prelude.{words_from, struct, Trees, none, tree, object_size, total_words, places, words_in, At, output, AllHaveRoom, fill, output_body_of, pointer_of_body, section_sizes, kept_in, slots_of, too_large}
use Rattle.capnp_wire.specs.Prelude.{WalkedAll, put_own, IsCopied, CopiesAll, HasWords, WordsError, HasRoomAt, IsTreeOf, WalkErrorInside, HasPointersSegment, fields_at}
use Rattle.capnp_wire.specs.declared.layout.copy.Copied.{Copied}
use Rattle.capnp_layout.specs.declared.place.Place.{Place}
use Rattle.capnp_layout.specs.declared.pointer.StructSize.{StructSize}
use Rattle.capnp_layout.specs.declared.object.Body.{Body}
use Rattle.capnp_layout.specs.declared.object.Body.TheVariants.{Struct}
use Rattle.capnp_layout.proofs.pointers.KeptPointerPlacesBySectionLemmas.{kept_nothing}
use Rattle.capnp_layout.proofs.objects.UniqueObjectLemmas.{one_tree}
use Rattle.capnp_layout.proofs.trees.TraversalLimitCountLemmas.{count_at}
use Rattle.capnp_layout.proofs.trees.TrimIdempotenceAndSizeLemmas.{room_trim}
use Rattle.capnp_layout.proofs.objects.ReadObjectSizeFromShapeLemmas.{own_words_are}
use Rattle.capnp_layout.proofs.trees.TreeSizeUntrimmedAndTrimmedLemmas.{struct_total}
use Rattle.capnp_wire.proofs.layouts.CopyPlanFillsLayoutLemmas.{Opened}
use Rattle.capnp_wire.proofs.layouts.ReadObjectHasCopyPlanLemmas.{struct_plain, struct_trimmed}
use Rattle.capnp_layout.proofs.objects.ReadStructSizesAndWordsBoundedLemmas.{struct_room}

-- its own words, with the words of the trees below it
output_total : (m : List (List ℕ)) (words : List ℕ) (start : Place) (size : StructSize) (c : Bool) (children : Trees) (inside : ℕ) → HasPointersSegment m words start size
    → start.word + (size.data_words + size.pointers) ≤ length words → At m (places start.segment (start.word + size.data_words) size.pointers) children inside → AllHaveRoom children
    → words_in (output_body_of c words start.word (Struct size)) + total_words (output c children) ≡ total_words (output c (tree (struct (words_from words start.word size.data_words)) children none))
output_total m words start size false children inside here room are_at rooms =
    let own = own_words_are words start (Struct size) room in
    let many = count_at m (places start.segment (start.word + size.data_words) size.pointers) children inside are_at in
    omega (arith, own, ap (object_size (struct (words_from words start.word size.data_words))) many)
output_total m words start size true children inside here room are_at rooms =
    struct_total m words start.segment start.word size.data_words size.pointers children inside here are_at (room_trim children rooms)

tree_of : (m : List (List ℕ)) (words : List ℕ) (start : Place) (size : StructSize) (nesting : ℕ) (limit left : Option ℕ) (c : Bool) (counted_then counted_now : Option ℕ)
    → (w : WalkedAll m c (places start.segment (start.word + size.data_words) size.pointers) nesting limit left counted_then counted_now)
    → IsTreeOf (fields_at m words start size nesting limit) (tree (struct (words_from words start.word size.data_words)) w.are_at.trees none)
tree_of m words start size nesting limit left c counted_then counted_now w =
    record { children = w.are_at.trees; traversed = w.traversed; are_at = w.are_at.are_at; shallow = w.are_at.shallow; within = w.within; whole = refl }

-- what is measured of it
pub struct_measured : (m : List (List ℕ)) (words : List ℕ) (start : Place) (size : StructSize) (nesting : ℕ) (limit left : Option ℕ) (c : Bool) (counted_then counted_now : Option ℕ)
    → HasPointersSegment m words start size → start.word + (size.data_words + size.pointers) ≤ length words → size.data_words < 2 ^ 16 → size.pointers < 2 ^ 16 → All (λ w. w < 2 ^ 64) words
    → (w : WalkedAll m c (places start.segment (start.word + size.data_words) size.pointers) nesting limit left counted_then counted_now) → (total : ℕ)
    → total ≡ words_in (output_body_of c words start.word (Struct size)) + w.words → (r : Result ℕ Error)
    → MatchResult r (λ number. (number ≡ total) × (number < 2 ^ 29)) (λ error. (2 ^ 29 ≤ total) × (error.kind ≡ too_large c total))
    → MatchResult r (λ number. HasWords (IsTreeOf (fields_at m words start size nesting limit)) c number)
    (λ error. WordsError (IsTreeOf (fields_at m words start size nesting limit)) (WalkErrorInside (fields_at m words start size nesting limit)) c error.kind)
struct_measured m words start size nesting limit left c counted_then counted_now here room d p all w total total_is (Ok number) returned =
    let sum = output_total m words start size c w.are_at.trees w.traversed here room w.are_at.are_at w.are_at.rooms in
    record {
      trees = tree (struct (words_from words start.word size.data_words)) w.are_at.trees none;
      tree_is = tree_of m words start size nesting limit left c counted_then counted_now w;
      rooms = (struct_room m words start size w.are_at.trees w.traversed d p all w.are_at.are_at, w.are_at.rooms, tt);
      words_are = returned.0 ∙ total_is ∙ ap (λ (k : ℕ). words_in (output_body_of c words start.word (Struct size)) + k) (sym w.are_at.words_are) ∙ sum;
      few = returned.1;
    }
struct_measured m words start size nesting limit left c counted_then counted_now here room d p all w total total_is (Err error) returned =
    let sum = output_total m words start size c w.are_at.trees w.traversed here room w.are_at.are_at w.are_at.rooms in
    let whole : total ≡ total_words (output c (tree (struct (words_from words start.word size.data_words)) w.are_at.trees none)) =
    total_is ∙ ap (λ (k : ℕ). words_in (output_body_of c words start.word (Struct size)) + k) (sym w.are_at.words_are) ∙ sum in
    inr (
      tree (struct (words_from words start.word size.data_words)) w.are_at.trees none,
      tree_of m words start size nesting limit left c counted_then counted_now w,
      subst (λ (k : ℕ). 2 ^ 29 ≤ k) whole returned.0,
      returned.1 ∙ ap (too_large c) whole,
    )

-- what is copied of it
struct_opened : (m : List (List ℕ)) (words : List ℕ) (start : Place) (size : StructSize) (nesting : ℕ) (limit : Option ℕ) (c : Bool) (next room : ℕ) → HasPointersSegment m words start size
    → start.word + (size.data_words + size.pointers) ≤ length words → (w : HasRoomAt (IsTreeOf (fields_at m words start size nesting limit)) c next room)
    → Opened m words start (Struct size) (output_body_of c words start.word (Struct size)) nesting c next room w.trees
struct_opened m words start size nesting limit false next room here there w =
    struct_plain m words start size nesting next room w.trees w.tree_is.children w.tree_is.traversed w.tree_is.whole w.tree_is.are_at w.tree_is.shallow (subst AllHaveRoom w.tree_is.whole w.rooms).1 w.rooms there
    w.fits
struct_opened m words start size nesting limit true next room here there w =
    struct_trimmed m words start size nesting next room w.trees w.tree_is.children w.tree_is.traversed here w.tree_is.whole w.tree_is.are_at w.tree_is.shallow (subst AllHaveRoom w.tree_is.whole w.rooms).1
    (room_trim w.trees w.rooms) there w.fits

pub struct_opened_as : (m : List (List ℕ)) (words : List ℕ) (start : Place) (size : StructSize) (copied : Body) (nesting : ℕ) (limit : Option ℕ) (c : Bool) (next room : ℕ)
    → HasPointersSegment m words start size → start.word + (size.data_words + size.pointers) ≤ length words → copied ≡ output_body_of c words start.word (Struct size)
    → (w : HasRoomAt (IsTreeOf (fields_at m words start size nesting limit)) c next room)
    → Opened m words start (Struct size) copied nesting c next room w.trees
struct_opened_as m words start size copied nesting limit c next room here there is w =
    subst (λ (b : Body). Opened m words start (Struct size) b nesting c next room w.trees) (sym is)
    (struct_opened m words start size nesting limit c next room here there w)

pub struct_written : {m : List (List ℕ)} {words : List ℕ} {start : Place} {size : StructSize} {copied : Body} {nesting : ℕ} {c : Bool} {gap next room : ℕ} {trees : Trees} {old mid new : List ℕ}
    {done : Copied} → Opened m words start (Struct size) copied nesting c next room trees → length old ≡ room → mid ≡ put_own words start.word (Struct size) copied next old
    → CopiesAll m (kept_in start (Struct size) (section_sizes copied).pointers) c (slots_of next copied) (next + words_in copied) mid new done.next
    → done.pointer ≡ pointer_of_body copied gap → IsCopied (output c trees) gap next old new done
struct_written {m} {words} {start} {size} {copied} {nesting} {c} {gap} {next} {room} {trees} {old} {mid} {new} {done} o long mid_is all pointer_is =
    let k = o.kept in
    record {
      words_are = all.words_are k.trees k.traversed k.are_at ∙ ap (λ (b : List ℕ). fill (slots_of next copied) (next + words_in copied) (output c k.trees) b) mid_is ∙ o.fills old long;
      pointer_is = pointer_is ∙ o.pointers_are gap;
      next_is = omega (arith, all.next_is k.trees k.traversed k.are_at, o.totals);
    }

-- one struct is one tree, whatever the limit
pub same_struct : (m : List (List ℕ)) (words : List ℕ) (start : Place) (size : StructSize) (nesting : ℕ) (limit other : Option ℕ) (a b : Trees)
    → IsTreeOf (fields_at m words start size nesting limit) a → IsTreeOf (fields_at m words start size nesting other) b → a ≡ b
same_struct m words start size nesting limit other a b x y =
    x.whole
    ∙ ap (λ (t : Trees). tree (struct (words_from words start.word size.data_words)) t none)
    (one_tree m (places start.segment (start.word + size.data_words) size.pointers) x.children y.children x.traversed y.traversed x.are_at y.are_at).0
    ∙ sym y.whole

-- a struct that has pointers to keep is in a segment of the message
pub struct_children : (m : List (List ℕ)) (words : List ℕ) (start : Place) (size : StructSize) (q : ℕ) → HasPointersSegment m words start size → q ≤ size.pointers
    → kept_in start (Struct size) q ≢ [] → slice_get m start.segment ≡ Some words
struct_children m words start size zero holds le some = absurd (some (kept_nothing {B = ℕ} start.segment start.word size.data_words size.pointers 0 1 (inl refl)))
struct_children m words start size (suc q) holds le some = holds (omega arith)
