-- The test of one object that a walk comes to says whether it is as the canonical form has it, with its pointers
-- still to be tested. Where it cannot be read, the walk fails.
use Rattle.std.proofs.Common.{◌≡◌, ◌≢◌, ◌⊎◌, inl, inr, zero, suc, ℕ, ◌+◌, ◌*◌, ◌/◌, ◌^◌, ◌<◌, ◌≤◌, Bool, false, IsTrue, List, [], ◌∷◌, length, Option, Some, slice_get}
use Rattle.std.proofs.Common.{refl, sym, ◌∙◌, ap, subst, arith}
use Rattle.std.specs.Prelude.{◌↔◌}
use Rattle.capnp_frame.specs.declared.error.ErrorKind.{ErrorKind}
use Rattle.capnp_frame.specs.declared.error.ErrorKind.TheVariants.{ReadLimitExceeded}
use Rattle.capnp_layout.specs.Prelude.{pointer_kind, offset, words_of, word_at, Within, IsPastLimit, less, places_in, end_of, NoWord, PointerError, no_word, minus_one, IsObject, shape_of, words_in}
use Rattle.capnp_layout.specs.Tree.{is_null}
use Rattle.capnp_wire.specs.Prelude.{IsFarAt, PointsToNext, NextOf, PaddedOf, IsTruncated, links_at, IsLaidOut, MeetsObject, MeetsPointers, Ends, fails_with, at_pointer, over_limit}
use Rattle.capnp_layout.specs.declared.place.Place.{Place}
use Rattle.capnp_layout.specs.declared.pointer_slots.PointerSlots.{PointerSlots}
use Rattle.capnp_layout.specs.declared.object.Body.{Body}
use Rattle.capnp_layout.specs.declared.object.Body.TheVariants.{Struct, Numbers, Pointers, Structs}
use Rattle.capnp_layout.specs.declared.object.Object.{Object as ReadObject}
use Rattle.capnp_layout.proofs.pointers.ErrorExcludesObjectLemmas.{no_word_there}
use Rattle.capnp_layout.proofs.pointers.PointerWordFromPartsLemmas.{point_start}
use Rattle.capnp_layout.proofs.objects.SingleSegmentObjectPlaceLemmas.{ReadLocal, read_local, shape_as}
use Rattle.capnp_wire.proofs.layouts.LocalObjectLaidOutTestLemmas.{read_room, laid_out_is}
use Rattle.capnp_layout.proofs.objects.ReadObjectSizeFromShapeLemmas.{own_words_are}

body_some : (segment : List ℕ) (start : Place) (body : Body) → is_null (shape_of segment start body).form ≡ false
body_some segment start (Struct size) = refl
body_some segment start (Numbers size count) = refl
body_some segment start (Pointers count) = refl
body_some segment start (Structs e more) = refl

pub not_far_at : (segment : List ℕ) (word pointer : ℕ) → slice_get segment word ≡ Some pointer → pointer_kind pointer ≢ 2 → IsFarAt segment (record { segment = 0; word = word }) → ⊥
not_far_at segment word pointer there not_far f =
    let other : slice_get segment word ≡ Some f.0 = f.1 in
    let same : f.0 ≡ pointer = cc in
    not_far (ap pointer_kind (sym same) ∙ f.2)

-- what is read of it
pub record Met (segment : List ℕ) (word nesting next pointer : ℕ) (limit : Option ℕ) (object : ReadObject) : Type 0 where
  pub there : slice_get segment word ≡ Some pointer
  pub local : ReadLocal segment word pointer object
  pub deep : 0 < nesting
  pub meets : Within limit object.traversed → MeetsObject segment (record { segment = 0; word = word }) nesting limit (shape_as segment object)

pub met : (segment : List ℕ) (m : List (List ℕ)) (word nesting next pointer : ℕ) (limit : Option ℕ) (object : ReadObject) → m ≡ segment ∷ [] → IsObject m (record { segment = 0; word = word }) object
    → length (words_of object.segment.now) ≡ length object.segment.now / 8 → word_at m (record { segment = 0; word = word }) ≡ Some pointer → (pointer_kind pointer ≡ 2 → ⊥) → 0 < nesting
    → Met segment word nesting next pointer limit object
met segment m word nesting next pointer limit object one found long there not_far deep =
    let here : slice_get segment word ≡ Some pointer = subst (λ (x : List (List ℕ)). word_at x (record { segment = 0; word = word }) ≡ Some pointer) one there in
    let r = read_local segment word pointer object (subst (λ (x : List (List ℕ)). IsObject x (record { segment = 0; word = word }) object) one found) long here not_far in
    record {
      there = here;
      local = r;
      deep = deep;
      meets = λ within. record {
        object = r.object_is;
        some = body_some segment object.start object.body;
        not_far = not_far_at segment word pointer here not_far;
        deep = deep;
        within = within;
      };
    }

-- its tests, done on its own segment
tests_as : {segment : List ℕ} {word nesting next pointer : ℕ} {limit : Option ℕ} {object : ReadObject} → Met segment word nesting next pointer limit object → word < next
    → (NextOf pointer word next object.body × PaddedOf segment next object.body
    × IsTruncated (shape_of (words_of object.segment.now) object.start object.body).form (links_at (words_of object.segment.now) (shape_of (words_of object.segment.now) object.start object.body).children))
    ↔ IsLaidOut segment (record { segment = 0; word = word }) next (shape_as segment object)
tests_as {segment} {word} {nesting} {next} {pointer} {limit} {object} m before =
    let e = laid_out_is segment word pointer next object m.local before m.there in
    let truncated : List ℕ → Type 0 = λ l. IsTruncated (shape_of l object.start object.body).form (links_at l (shape_of l object.start object.body).children) in (
      λ t. e.0 (t.0, t.1, subst truncated m.local.content t.2),
      λ l. let t = e.1 l in (t.0, t.1, subst truncated (sym m.local.content) t.2),
    )

-- what the test of these says of it, where the segment has this many words
pub tests_say : {segment : List ℕ} {word nesting next pointer there : ℕ} {limit : Option ℕ} {object : ReadObject} (returned : Bool)
    → Met segment word nesting next pointer limit object
    → word < next → next ≤ there → length segment ≡ there
    → ((NextOf pointer word next object.body → next + words_in object.body ≤ there)
    → IsTrue returned ↔ (NextOf pointer word next object.body × PaddedOf segment next object.body
    × IsTruncated (shape_of (words_of object.segment.now) object.start object.body).form (links_at (words_of object.segment.now) (shape_of (words_of object.segment.now) object.start object.body).children)))
    → IsTrue returned ↔ IsLaidOut segment (record { segment = 0; word = word }) next (shape_as segment object)
tests_say {segment} {word} {nesting} {next} {pointer} {there} {limit} {object} returned m before within long said =
    let inside : next ≤ length segment = omega (arith, within, long) in
    let tests = said (λ is. omega (arith, long, read_room segment word pointer next object m.local before inside is)) in
    let laid = tests_as m before in
    (λ yes. laid.0 (tests.0 yes), λ is. tests.1 (laid.1 is))

none_or_some : (n : ℕ) → (n ≡ 0) ⊎ (0 < n)
none_or_some zero = inl refl
none_or_some (suc n) = inr (omega arith)

struct_start : (n word next pointer start : ℕ) → word < next → start + 2 ^ 30 * (offset pointer / 2 ^ 29) ≡ word + 1 + offset pointer → (n ≡ 0 → offset pointer ≡ minus_one)
    → (0 < n → PointsToNext pointer word next) → start ≤ next
struct_start n word next pointer start before target none_is some_is = elim (none_or_some n) [
  | inl nothing ↦ (let off = none_is nothing in omega (arith, off, target))
  | inr some ↦ (let at = point_start word next start (offset pointer) before (some_is some) target in omega arith)
]

start_of : (body : Body) (word next pointer start : ℕ) → word < next → start + 2 ^ 30 * (offset pointer / 2 ^ 29) ≡ word + 1 + offset pointer → NextOf pointer word next body → start ≤ next
start_of (Struct size) word next pointer start before target is = struct_start (size.data_words + size.pointers) word next pointer start before target is.0 is.1
start_of (Numbers size count) word next pointer start before target is = let at = point_start word next start (offset pointer) before is target in omega arith
start_of (Pointers count) word next pointer start before target is = let at = point_start word next start (offset pointer) before is target in omega arith
start_of (Structs e more) word next pointer start before target is = let at = point_start word next start (offset pointer) before is.0 target in omega arith

-- its words end at the next free word after it
met_end : {segment : List ℕ} {word nesting next pointer : ℕ} {limit : Option ℕ} {object : ReadObject} → Met segment word nesting next pointer limit object → word < next
    → NextOf pointer word next object.body
    → object.start.word + words_in object.body ≤ next + words_in object.body
met_end {segment} {word} {nesting} {next} {pointer} {limit} {object} m before is =
    let start = start_of object.body word next pointer object.start.word before m.local.target is in
    omega arith

-- it is as the canonical form has it, and its pointers are still to be tested
pub met_pointers : {segment : List ℕ} {word nesting next pointer : ℕ} {limit : Option ℕ} {object : ReadObject} (left : Option ℕ) (more : ℕ) (pointers : PointerSlots)
    → Met segment word nesting next pointer limit object → word < next → next ≤ length segment
    → IsLaidOut segment (record { segment = 0; word = word }) next (shape_as segment object)
    → Within limit object.traversed → left ≡ less limit object.traversed → more ≡ words_in object.body
    → places_in pointers ≡ (shape_of (words_of object.segment.now) object.start object.body).children → pointers.next.segment ≡ object.start.segment
    → end_of pointers ≤ object.start.word + words_in object.body
    → MeetsPointers segment (record { segment = 0; word = word }) nesting limit left next (next + more) pointers
met_pointers {segment} {word} {nesting} {next} {pointer} {limit} {object} left more pointers m before within laid fits left_is more_is places_are first end =
    let passed = (tests_as m before).1 laid in
    let room = read_room segment word pointer next object m.local before within passed.0 in
    let ends = met_end m before passed.0 in
    let own = own_words_are segment object.start object.body m.local.room in
    record {
      shape = shape_as segment object;
      meets = m.meets fits;
      laid_out = laid;
      all = places_are ∙ ap (λ (l : List ℕ). (shape_of l object.start object.body).children) m.local.content;
      first = first ∙ m.local.number;
      before = omega (arith, end, ends, more_is);
      left_is = left_is;
      after_is = omega (arith, own, more_is);
      room = omega (arith, room, more_is);
    }

-- errors
pub no_word_ends : (segment : List ℕ) (m : List (List ℕ)) (word nesting next : ℕ) (limit : Option ℕ) (kind : ErrorKind) → m ≡ segment ∷ [] → NoWord m (record { segment = 0; word = word }) kind
    → Ends segment (record { segment = 0; word = word } ∷ []) nesting limit next (fails_with kind)
no_word_ends segment m word nesting next limit kind one none =
    let here : NoWord (segment ∷ []) (record { segment = 0; word = word }) kind = subst (λ (x : List (List ℕ)). NoWord x (record { segment = 0; word = word }) kind) one none in
    at_pointer (λ f. (let past = no_word_there (segment ∷ []) (record { segment = 0; word = word }) kind here in let there = f.1 in cc)) (no_word here)

pub pointer_error_ends : (segment : List ℕ) (m : List (List ℕ)) (word nesting next pointer : ℕ) (limit : Option ℕ) (kind : ErrorKind) → m ≡ segment ∷ []
    → word_at m (record { segment = 0; word = word }) ≡ Some pointer
    → (pointer_kind pointer ≡ 2 → ⊥) → PointerError m (record { segment = 0; word = word }) nesting kind → Ends segment (record { segment = 0; word = word } ∷ []) nesting limit next (fails_with kind)
pointer_error_ends segment m word nesting next pointer limit kind one there not_far invalid =
    let here : slice_get segment word ≡ Some pointer = subst (λ (x : List (List ℕ)). word_at x (record { segment = 0; word = word }) ≡ Some pointer) one there in
    at_pointer (not_far_at segment word pointer here not_far) (subst (λ (x : List (List ℕ)). PointerError x (record { segment = 0; word = word }) nesting kind) one invalid)

pub limit_ends : {segment : List ℕ} {word nesting next pointer : ℕ} {limit : Option ℕ} {object : ReadObject} (kind : ErrorKind) → Met segment word nesting next pointer limit object
    → (pointer_kind pointer ≡ 2 → ⊥) → 0 < nesting
    → IsPastLimit limit object.traversed → kind ≡ ReadLimitExceeded → Ends segment (record { segment = 0; word = word } ∷ []) nesting limit next (fails_with kind)
limit_ends {segment} {word} {nesting} {next} {pointer} {limit} {object} kind m not_far deep past is =
    let there : Ends segment (record { segment = 0; word = word } ∷ []) nesting (Some past.0) next (fails_with ReadLimitExceeded) =
    over_limit (not_far_at segment word pointer m.there not_far) m.local.object_is deep past.2 in
    subst (λ (l : Option ℕ). Ends segment (record { segment = 0; word = word } ∷ []) nesting l next (fails_with kind)) (sym past.1)
    (subst (λ (k : ErrorKind). Ends segment (record { segment = 0; word = word } ∷ []) nesting (Some past.0) next (fails_with k)) (sym is) there)
