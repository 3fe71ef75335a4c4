-- Lists that are read as lists of pointers, also of structs, whose first pointers these are: which are accepted,
-- what is read of them, and the places of the pointers.
use Rattle.std.proofs.Math.Seq.{drop-append-add}
use Rattle.std.proofs.Common.{◌≡◌, ℕ, zero, suc, ◌+◌, ◌-◌, ◌*◌, ◌<◌, ◌≤◌, List, ◌∷◌, ◌++◌, length, drop, Some, slice_get, inr, refl, sym, ◌∙◌, ap, subst, arith}
use Rattle.capnp_frame.specs.declared.error.ErrorKind.{ErrorKind}
use Rattle.capnp_frame.specs.declared.error.ErrorKind.TheVariants.{WrongPointerKind}
use Rattle.capnp_layout.specs.Prelude.{words_of, Form, null, struct, numbers, pointers, structs, places, pointer_places, elements_from, shape_of}
use Rattle.capnp_wire.specs.Prelude.{Pointer, Accepts, ViewError, IsEntered, PointerList, first_pointers, ReadsAsPointers, TakesFirstPointers, FirstPointersFormError, IsUpgradedPointers, stepped_places, pointers_from}
use Rattle.capnp_layout.specs.declared.place.Place.{Place}
use Rattle.capnp_layout.specs.declared.object.Body.{Body}
use Rattle.capnp_layout.specs.declared.object.Body.TheVariants.{Struct, Numbers, Pointers, Structs}
use Rattle.capnp_layout.specs.declared.pointer.Elements.{Elements}
use Rattle.capnp_layout.specs.declared.object.Object.{Object as ReadObject}
use Rattle.capnp_layout.proofs.objects.SectionWordByIndexLemmas.{length-places}
use Rattle.capnp_layout.proofs.trees.ReadTreeSizesAndWordsBoundedLemmas.{length-elements_from}
use Rattle.capnp_wire.proofs.views.EnteredObjectShownLemmas.{entered_shown, entered_shows}
use Rattle.capnp_wire.proofs.views.RejectedExcludesAcceptedLemmas.{Decides, wrong_kind_once, wrong_kind_unlimited}

pub first_pointers_decide : Decides TakesFirstPointers FirstPointersFormError
first_pointers_decide = record {
  apart = λ form kind form_errors. form_errors.0;
  once = λ form kind other p q. wrong_kind_once kind other p.1 q.1;
  unlimited = λ form kind form_errors. wrong_kind_unlimited kind form_errors.1;
}

first_pointers_taken : (form : Form) (children there : List Place) → ReadsAsPointers form children there → TakesFirstPointers form
first_pointers_taken null children there t = tt
first_pointers_taken (struct words) children there t = t
first_pointers_taken (numbers code values) children there t = t
first_pointers_taken pointers children there t = tt
first_pointers_taken (structs d p elements) children there t = t.0

pub first_pointers_accepted : (p : Pointer) (list : PointerList) → IsUpgradedPointers p list → Accepts p TakesFirstPointers
first_pointers_accepted p list read =
    (read.shown.0, read.shown.1, first_pointers_taken read.shown.0.form read.shown.0.children list.children read.shown.2.0)

-- places at one distance from one another
pub length-stepped_places : (segment word step n : ℕ) → length (stepped_places segment word step n) ≡ n
length-stepped_places segment word step zero = refl
length-stepped_places segment word step (suc n) = ap (λ (k : ℕ). suc k) (length-stepped_places segment (word + step) step n)

pub stepped_within : (segment word step n i : ℕ) → i < n → slice_get (stepped_places segment word step n) i ≡ Some (record { segment = segment; word = word + i * step })
stepped_within segment word step zero i within = absurd (omega arith)
stepped_within segment word step (suc n) zero within = ap (λ (w : ℕ). Some (record { segment = segment; word = w })) (omega arith)
stepped_within segment word step (suc n) (suc i) within =
    let more : suc i * step ≡ step + i * step = omega arith in
    stepped_within segment (word + step) step n i (omega arith) ∙ ap (λ (w : ℕ). Some (record { segment = segment; word = w })) (omega (arith, more))

-- places at a distance of one word follow one another
pub stepped_by_one : (segment word n : ℕ) → stepped_places segment word 1 n ≡ places segment word n
stepped_by_one segment word zero = refl
stepped_by_one segment word (suc n) = ap (λ (ps : List Place). record { segment = segment; word = word } ∷ ps) (stepped_by_one segment (word + 1) n)

-- the last of them is before the list's end
pub step_ends : (i n step : ℕ) → i < n → i * step ≤ n * step
step_ends i zero step within = absurd (omega arith)
step_ends zero (suc n) step within = omega arith
step_ends (suc i) (suc n) step within = omega (arith, step_ends i n step (omega arith))

one_step : (segment word n : ℕ) → stepped_places segment word 1 n ≡ places segment word n
one_step segment word zero = refl
one_step segment word (suc n) = ap (λ (l : List Place). record { segment = segment; word = word } ∷ l) (one_step segment (word + 1) n)

-- the first pointers of structs
first_of_each : (segment word d p n : ℕ) → 0 < p → stepped_places segment (word + d) (d + p) n ≡ first_pointers p n (pointer_places segment word d p n)
first_of_each segment word d zero n some = absurd (omega arith)
first_of_each segment word d (suc q) zero some = refl
first_of_each segment word d (suc q) (suc n) some =
    let first = places segment (word + d) (suc q) in
    let others = pointer_places segment (word + d + suc q) d (suc q) n in
    let many : suc q ≡ length first + 0 = omega (arith, length-places segment (word + d) (suc q)) in
    let next : word + d + (d + suc q) ≡ word + d + suc q + d = omega arith in
    let past : drop (suc q) (first ++ others) ≡ others = ap (λ (k : ℕ). drop k (first ++ others)) many ∙ drop-append-add first others 0 in
    ap (λ (l : List Place). record { segment = segment; word = word + d } ∷ l)
    (ap (λ (w : ℕ). stepped_places segment w (d + suc q) n) next
    ∙ first_of_each segment (word + d + suc q) d (suc q) n some
    ∙ ap (first_pointers (suc q) n) (sym past))

upgraded : (p : Pointer) (object : ReadObject) (list : PointerList) → IsEntered p object → list.message ≡ p.message → list.nesting ≡ p.nesting - 1 → list.limit ≡ p.limit
    → (let shape = shape_of (words_of object.segment.now) object.start object.body in ReadsAsPointers shape.form shape.children list.children) → IsUpgradedPointers p list
upgraded p object list entered message nesting limit reads = record {
  same_message = message;
  shown = entered_shown p object (λ form children. ReadsAsPointers form children list.children) entered reads;
  nesting_below = nesting;
  same_limit = limit;
}

pub pointers_read : (p : Pointer) (object : ReadObject) (n : ℕ) (list : PointerList) → IsEntered p object → object.body ≡ Pointers n
    → list ≡ pointers_from p object.start 1 n → IsUpgradedPointers p list
pointers_read p object n list entered body is =
    let wanted = pointers_from p object.start 1 n in
    let fact : Body → Type 0 = λ b. let shape = shape_of (words_of object.segment.now) object.start b in ReadsAsPointers shape.form shape.children wanted.children in
    subst (IsUpgradedPointers p) (sym is)
    (upgraded p object wanted entered refl refl refl (subst fact (sym body) (one_step object.start.segment object.start.word n)))

pub first_pointers_read : (p : Pointer) (object : ReadObject) (there : Elements) (following step : ℕ) (first : Place) (list : PointerList) → IsEntered p object
    → object.body ≡ Structs there following → 0 < there.size.pointers → step ≡ there.size.data_words + there.size.pointers → first.segment ≡ object.start.segment
    → first.word ≡ object.start.word + 1 + there.size.data_words → list ≡ pointers_from p first step there.count → IsUpgradedPointers p list
first_pointers_read p object there following step first list entered body some step_is segment_is word_is is =
    let words = words_of object.segment.now in
    let d = there.size.data_words in
    let q = there.size.pointers in
    let n = there.count in
    let start = object.start.word + 1 in
    let wanted = pointers_from p first step n in
    let fact : Body → Type 0 = λ b. let shape = shape_of words object.start b in ReadsAsPointers shape.form shape.children wanted.children in
    let elements = elements_from words start d q n in
    let children_are : wanted.children ≡ first_pointers q (length elements) (pointer_places object.start.segment start d q n) =
    ap (λ (s : ℕ). stepped_places s first.word step n) segment_is
    ∙ ap (λ (w : ℕ). stepped_places object.start.segment w step n) word_is
    ∙ ap (λ (k : ℕ). stepped_places object.start.segment (start + d) k n) step_is
    ∙ first_of_each object.start.segment start d q n some
    ∙ ap (λ (k : ℕ). first_pointers q k (pointer_places object.start.segment start d q n)) (sym (length-elements_from words start d q n)) in
    subst (IsUpgradedPointers p) (sym is) (upgraded p object wanted entered refl refl refl (subst fact (sym body) (some, children_are)))

-- other objects, and structs that have no pointers
no_pointers_taken : (words : List ℕ) (start : Place) (body : Body) → ((n : ℕ) → body ≡ Pointers n → ⊥) → ((there : Elements) (following : ℕ) → body ≡ Structs there following → there.size.pointers ≡ 0)
    → TakesFirstPointers (shape_of words start body).form → ⊥
no_pointers_taken words start (Struct size) none bare t = t
no_pointers_taken words start (Numbers size n) none bare t = t
no_pointers_taken words start (Pointers n) none bare t = none n refl
no_pointers_taken words start (Structs there following) none bare t = let no : there.size.pointers ≡ 0 = bare there following refl in absurd (omega (arith, no, t))

pub no_first_pointers : (p : Pointer) (object : ReadObject) (kind : ErrorKind) → IsEntered p object → ((n : ℕ) → object.body ≡ Pointers n → ⊥)
    → ((there : Elements) (following : ℕ) → object.body ≡ Structs there following → there.size.pointers ≡ 0) → kind ≡ WrongPointerKind → ViewError p FirstPointersFormError kind
no_first_pointers p object kind entered none bare is =
    inr (entered_shows p object (λ form. FirstPointersFormError form kind) entered (no_pointers_taken (words_of object.segment.now) object.start object.body none bare, is))
