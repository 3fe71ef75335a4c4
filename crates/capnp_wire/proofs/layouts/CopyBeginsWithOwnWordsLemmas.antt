-- The copy of a pointer's target begins with the object's own words, and goes on with what its pointers point to.
-- Null is copied at once.
use Rattle.std.proofs.Common.{◌≡◌, ℕ, zero, suc, ◌+◌, ◌-◌, ◌*◌, ◌≤◌, Bool, true, false, List, [], ◌∷◌, ◌++◌, ◌<◌, ◌^◌, length, Some, slice_get, refl, sym, ◌∙◌, ap, subst, arith, length-append}
use Rattle.std.proofs.lemmas.List.{append-nil}
use Rattle.capnp_layout.specs.Prelude.{words_of, words_from, null, Trees, none, tree, total_words, nothing, places, word_at, is_null as null_there, IsObject, words_in, At, body, run, pointer_to, output, put, fill, section_sizes, section_count, first_section, kept_places, kept_in, slots_of, IsNarrower, output_body_of, pointer_of_body, local_struct_of}
use Rattle.capnp_wire.specs.Prelude.{CanCopy, IsCopied, Copies, IsCopyable, BeginsCopy, BeginsRun, put_own}
use Rattle.capnp_layout.specs.declared.place.Place.{Place}
use Rattle.capnp_layout.specs.declared.fast_path.LocalStruct.{LocalStruct}
use Rattle.capnp_layout.specs.declared.pointer.StructSize.{StructSize}
use Rattle.capnp_layout.specs.declared.object.Body.{Body}
use Rattle.capnp_layout.specs.declared.object.Body.TheVariants.{Struct, Numbers, Pointers, Structs}
use Rattle.capnp_layout.specs.declared.object.Object.{Object as ReadObject}
use Rattle.capnp_layout.proofs.words.WordsOfBytesLemmas.{length-words_of}
use Rattle.capnp_layout.proofs.objects.SectionWordByIndexLemmas.{length-places}
use Rattle.capnp_layout.proofs.layouts.PutWordsCombinedLemmas.{put_none}
use Rattle.capnp_layout.proofs.objects.UniqueObjectLemmas.{one_tree}
use Rattle.capnp_wire.proofs.layouts.TreeCopySequenceLemmas.{none_at}
use Rattle.capnp_wire.proofs.layouts.CopyPlanFillsLayoutLemmas.{Opened, under}
use Rattle.capnp_wire.proofs.layouts.ReadObjectHasCopyPlanLemmas.{opened}
use Rattle.capnp_layout.proofs.pointers.KeptPointerPlacesBySectionLemmas.{kept_children}

-- the object that is read
pub opened_here : {m : List (List ℕ)} {place : Place} {object : ReadObject} {copied : Body} {nesting : ℕ} {c : Bool} {next room : ℕ} (can : CanCopy m (place ∷ []) nesting c next room)
    → IsObject m place object → copied ≡ output_body_of c (words_of object.segment.now) object.start.word object.body
    → Opened m (words_of object.segment.now) object.start object.body copied (nesting - 1) c next room can.trees
opened_here {m} {place} {object} {copied} {nesting} {c} {next} {room} can is copied_is =
    let o = opened m (words_of object.segment.now) place object.start object.body object.traversed nesting c next room can is.content is.object (omega (
      arith,
      is.room,
      length-words_of
          object.segment.now,
    )) is.elements in
    subst (λ (b : Body). Opened m (words_of object.segment.now) object.start object.body b (nesting - 1) c next room can.trees) (sym copied_is) o

-- a copy has as many sections, with no more pointers in each
pub fewer_pointers : (from copied : Body) → IsNarrower from copied → ((section_sizes copied).pointers ≤ (section_sizes from).pointers) × (section_count copied ≡ section_count from)
fewer_pointers (Struct from) (Struct size) is = (is.1, refl)
fewer_pointers (Numbers from n) (Numbers size k) is = (omega arith, refl)
fewer_pointers (Pointers n) (Pointers k) is = (omega arith, refl)
fewer_pointers (Structs from b) (Structs e w) is = (is.2, is.0)
fewer_pointers (Struct from) (Numbers size k) is = absurd is
fewer_pointers (Struct from) (Pointers k) is = absurd is
fewer_pointers (Struct from) (Structs e w) is = absurd is
fewer_pointers (Numbers from n) (Struct size) is = absurd is
fewer_pointers (Numbers from n) (Pointers k) is = absurd is
fewer_pointers (Numbers from n) (Structs e w) is = absurd is
fewer_pointers (Pointers n) (Struct size) is = absurd is
fewer_pointers (Pointers n) (Numbers size k) is = absurd is
fewer_pointers (Pointers n) (Structs e w) is = absurd is
fewer_pointers (Structs from b) (Struct size) is = absurd is
fewer_pointers (Structs from b) (Numbers size k) is = absurd is
fewer_pointers (Structs from b) (Pointers k) is = absurd is

-- as many places as slots
pub kept_many : (segment start d p q n : ℕ) → length (kept_places segment start d p q n) ≡ n * q
kept_many segment start d p q zero = omega arith
kept_many segment start d p q (suc n) =
    omega (arith, length-append (places segment (start + d) q) (kept_places segment (start + d + p) d p q n), length-places segment (start + d) q, kept_many segment (start + d + p) d p q n)

pub as_many : (start begin : Place) (from copied : Body) (q : ℕ) → IsNarrower from copied → length (kept_in start from q) ≡ length (kept_in begin copied q)
as_many start begin from copied q is =
    let same_count : section_count copied ≡ section_count from = (fewer_pointers from copied is).1 in
    kept_many start.segment (first_section from start.word) (section_sizes from).data_words (section_sizes from).pointers q (section_count from)
    ∙ ap (λ (n : ℕ). n * q) (sym same_count)
    ∙ sym (kept_many begin.segment (first_section copied begin.word) (section_sizes copied).data_words (section_sizes copied).pointers q (section_count copied))

-- null is null in either form, and so is the tree of a null pointer
null_output : (c : Bool) → output c (tree null none none) ≡ tree null none none
null_output true = refl
null_output false = refl

null_copied : (m : List (List ℕ)) (place : Place) (c : Bool) (trees : Trees) (traversed : ℕ) → word_at m place ≡ Some 0 → At m (place ∷ []) trees traversed → output c trees ≡ tree null none none
null_copied m place c trees traversed word are_at =
    let u = under m place nothing trees traversed are_at (null_there word) in
    let children_is : u.children ≡ none = none_at m u.children u.inside u.are_at in
    let whole : trees ≡ tree null none none = u.whole ∙ ap (λ (t : Trees). tree null t none) children_is in
    ap (output c) whole ∙ null_output c

-- a null pointer is copied
pub null_is_copied : {m : List (List ℕ)} {place : Place} {gap next : ℕ} {block : List ℕ} (c : Bool) → word_at m place ≡ Some 0
    → Copies m place c gap next block block (record { pointer = 0; next = next })
null_is_copied {m} {place} {gap} {next} {block} c word = record {
  is = λ trees traversed are_at.
      let is = null_copied m place c trees traversed word are_at in
      record {
        words_are = sym (ap (λ (t : Trees). put next (body t) block) is ∙ put_none next block);
        pointer_is = sym (ap (λ (t : Trees). pointer_to t gap) is);
        next_is = omega (arith, ap total_words is);
      };
}

-- an object's own words are copied, and then what its pointers point to
pub object_begins : {m : List (List ℕ)} {place : Place} {words : List ℕ} {start : Place} {from copied : Body} {nesting : ℕ} {c : Bool} {gap next pointer : ℕ}
    {old mid : List ℕ} (can : CanCopy m (place ∷ []) nesting c next (length old))
    → Opened m words start from copied (nesting - 1) c next (length old) can.trees → mid ≡ put_own words start.word from copied next old → length mid ≡ length old
    → pointer ≡ pointer_of_body copied gap
    → BeginsCopy m place (kept_in start from (section_sizes copied).pointers) (slots_of next copied) nesting c gap next (next + words_in copied) old mid pointer
object_begins {m} {place} {words} {start} {from} {copied} {nesting} {c} {gap} {next} {pointer} {old} {mid} can o mid_is mid_long pointer_is =
    let k = o.kept in
    record {
      there = subst (λ (n : ℕ). CanCopy m (kept_in start from (section_sizes copied).pointers) (nesting - 1) c (next + words_in copied) n) (sym mid_long) k;
      ends = λ new free done. record {
        is = λ trees traversed are_at.
            let same = one_tree m (place ∷ []) can.trees trees can.traversed traversed can.are_at are_at in
            subst (λ (t : Trees). IsCopied (output c t) gap next old new (record { pointer = pointer; next = free })) same.0 (record {
              words_are = done.words_are k.trees k.traversed k.are_at ∙ ap (λ (b : List ℕ). fill (slots_of next copied) (next + words_in copied) (output c k.trees) b) mid_is ∙ o.fills old refl;
              pointer_is = pointer_is ∙ o.pointers_are gap;
              next_is = omega (arith, done.next_is k.trees k.traversed k.are_at, o.totals);
            });
      };
    }

-- a struct's, and then what its pointers point to, which are consecutive
pub struct_begins : {m : List (List ℕ)} {place : Place} {found : LocalStruct} {size : StructSize} {nesting : ℕ} {c : Bool} {gap next following pointer : ℕ} {first : Place} {old mid : List ℕ}
    (can : CanCopy m (place ∷ []) nesting c next (length old)) → IsObject m place (local_struct_of found)
    → Struct size ≡ output_body_of c (words_of found.segment.now) found.start.word (Struct found.size) → size.pointers ≤ found.size.pointers
    → mid ≡ put next (words_from (words_of found.segment.now) found.start.word size.data_words) old → length mid ≡ length old → pointer ≡ pointer_of_body (Struct size) gap
    → first.segment ≡ found.start.segment → first.word ≡ found.start.word + found.size.data_words → first.word + found.size.pointers < 2 ^ 61 → following ≡ next + (size.data_words + size.pointers)
    → BeginsRun m place (words_of found.segment.now) nesting c gap next old mid (record {
      pointer = pointer;
      first = first;
      count = size.pointers;
      slot = next + size.data_words;
      next = following;
    })
struct_begins {m} {place} {found} {size} {nesting} {c} {gap} {next} {following} {pointer} {first} {old} {mid} can is size_is fewer mid_is long pointer_is segment_is word_is bound after_is =
    let b = object_begins can (opened_here can is size_is) mid_is long pointer_is in
    let e : ℕ = size.data_words in
    let q : ℕ = size.pointers in
    let at_is : places found.start.segment (found.start.word + found.size.data_words) size.pointers ++ [] ≡ places first.segment first.word size.pointers =
    append-nil (places found.start.segment (found.start.word + found.size.data_words) size.pointers)
    ∙ ap (λ (w : ℕ). places found.start.segment w size.pointers) (sym word_is) ∙ ap (λ (s : ℕ). places s first.word size.pointers) (sym segment_is) in
    record {
      begins = subst (λ (n : ℕ). BeginsCopy m place (places first.segment first.word q) (run (next + e) q) nesting c gap next n old mid pointer) (sym after_is)
          (subst (λ (l : List Place). BeginsCopy m place l (run (next + e) q) nesting c gap next (next + (e + q)) old mid pointer) at_is
          (subst (λ (l : List ℕ). BeginsCopy m place (places found.start.segment (found.start.word + found.size.data_words) q ++ []) l nesting c gap next (next + (e + q)) old mid pointer)
          (append-nil (run (next + e) q)) b));
      content = ap (slice_get m) segment_is ∙ is.content;
      bound = omega (arith, bound, fewer);
      before = omega (arith, after_is);
    }

pub copyable : {m : List (List ℕ)} {place : Place} {object : ReadObject} {nesting : ℕ} {c : Bool} {next room : ℕ} → CanCopy m (place ∷ []) nesting c next room → IsObject m place object
    → IsCopyable object c next room
copyable {m} {place} {object} {nesting} can is = record { m = m; place = place; nesting = nesting; can = can; is = is }

-- The pointers of a list of pointers are consecutive, and so are their slots.
pub record AreInRun (start : Place) (from copied : Body) (next n : ℕ) : Type 0 where
  pub places_are : kept_in start from (section_sizes copied).pointers ≡ places start.segment start.word n
  pub slots_are : slots_of next copied ≡ run next n
  pub words_are : words_in copied ≡ n

list_narrower : (n : ℕ) (copied : Body) → IsNarrower (Pointers n) copied → copied ≡ Pointers n
list_narrower n (Struct size) is = absurd is
list_narrower n (Numbers size k) is = absurd is
list_narrower n (Pointers k) is = ap Pointers is
list_narrower n (Structs elements following) is = absurd is

pub in_run : (start : Place) (from copied : Body) (next n : ℕ) → from ≡ Pointers n → IsNarrower from copied → AreInRun start from copied next n
in_run start from copied next n from_is narrower =
    let copied_is : copied ≡ Pointers n = list_narrower n copied (subst (λ (b : Body). IsNarrower b copied) from_is narrower) in
    let here : next + 0 ≡ next = omega arith in
    record {
      places_are = ap (λ (b : Body). kept_in start b (section_sizes copied).pointers) from_is ∙ ap (λ (b : Body). kept_in start (Pointers n) (section_sizes b).pointers) copied_is
          ∙ kept_children [] start (Pointers n);
      slots_are = ap (slots_of next) copied_is ∙ append-nil (run (next + 0) n) ∙ ap (λ (k : ℕ). run k n) here;
      words_are = ap words_in copied_is;
    }
