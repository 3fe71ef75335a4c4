-- The places of the pointers that are kept of each pointer section of an object, in order, and where none of them
-- is left.
use Rattle.std.proofs.Common.{◌≡◌, ◌⊎◌, inl, inr, ℕ, zero, suc, ◌+◌, ◌-◌, ◌<◌, ◌≤◌, List, [], ◌++◌, refl, sym, ◌∙◌, ap, arith}
use Rattle.capnp_layout.specs.Prelude.{places, pointer_places, shape_of, section_sizes, kept_places, kept_in, section_slots}
use Rattle.std.proofs.lemmas.List.{append-nil}
use Rattle.capnp_layout.specs.declared.object.Body.{Body}
use Rattle.capnp_layout.specs.declared.object.Body.TheVariants.{Struct, Numbers, Pointers, Structs}
use Rattle.capnp_layout.specs.declared.place.Place.{Place}

-- nothing is left
pub no_slot_left : (segment word here gap p n : ℕ) → here ≡ 0 → n ≡ 0 → places segment word here ++ pointer_places segment (word + here) gap p n ≡ []
no_slot_left segment word zero gap p zero e f = refl
no_slot_left segment word (suc here) gap p n e f = absurd (omega arith)
no_slot_left segment word zero gap p (suc n) e f = absurd (omega arith)

pub no_places_none_left : (segment word here gap p n : ℕ) → (0 < n → 0 < p) → places segment word here ++ pointer_places segment (word + here) gap p n ≡ [] → here + n ≡ 0
no_places_none_left segment word zero gap p zero some e = refl
no_places_none_left segment word (suc here) gap p n some e = absurd (cc)
no_places_none_left segment word zero gap (suc p) (suc n) some e = absurd (cc)
no_places_none_left segment word zero gap zero (suc n) some e = absurd (let no = some (omega arith) in omega arith)

-- some of the pointers of each section
pub sections_kept : (segment word d p q n : ℕ) → q ≤ p → kept_places segment (word + p) d p q n ≡ pointer_places segment (word + q) (d + (p - q)) q n
sections_kept segment word d p q zero le = refl
sections_kept segment word d p q (suc n) le =
    let first : word + p + d ≡ word + q + (d + (p - q)) = omega arith in
    let rest = sections_kept segment (word + q + (d + (p - q))) d p q n le in
    rw (first, rest) refl

kept_none : (segment word d p n : ℕ) → kept_places segment word d p 0 n ≡ []
kept_none segment word d p zero = refl
kept_none segment word d p (suc n) = kept_none segment (word + d + p) d p n

slots_none : (word d n : ℕ) → section_slots word d 0 n ≡ []
slots_none word d zero = refl
slots_none word d (suc n) = slots_none (word + d + 0) d n

pub kept_nothing : {B : Type 0} (segment word d p q n : ℕ) → (q ≡ 0) ⊎ (B × (n ≡ 0)) → kept_places segment word d p q n ≡ []
kept_nothing segment word d p q n (inl e) = rw e (kept_none segment word d p n)
kept_nothing segment word d p q n (inr e) = rw e.1 refl

pub slots_nothing : {B : Type 0} (word d p q n : ℕ) → q ≡ p → (q ≡ 0) ⊎ (B × (n ≡ 0)) → section_slots word d p n ≡ []
slots_nothing word d p q n all (inl e) = rw (← all, e) (slots_none word d n)
slots_nothing word d p q n all (inr e) = rw e.1 refl

pub kept_slots_first : (segment word d p q n : ℕ) → q ≤ p → 0 < n
    → places segment (word + d) q ++ pointer_places segment (word + d + q) (d + (p - q)) q (n - 1) ≡ kept_places segment word d p q n
kept_slots_first segment word d p q zero le some = absurd (omega arith)
kept_slots_first segment word d p q (suc n) le some =
    let less : suc n - 1 ≡ n = omega arith in
    rw (less, sections_kept segment (word + d) d p q n le) refl

pub kept_all : (segment start d p n : ℕ) → pointer_places segment start d p n ≡ kept_places segment start d p p n
kept_all segment start d p zero = refl
kept_all segment start d p (suc n) = ap (λ (l : List Place). places segment (start + d) p ++ l) (kept_all segment (start + d + p) d p n)

-- all pointers of an object
pub kept_children : (words : List ℕ) (start : Place) (body : Body) → kept_in start body (section_sizes body).pointers ≡ (shape_of words start body).children
kept_children words start (Struct size) = append-nil (places start.segment (start.word + size.data_words) size.pointers)
kept_children words start (Numbers size n) = refl
kept_children words start (Pointers n) =
    let here : start.word + 0 ≡ start.word = omega arith in
    append-nil (places start.segment (start.word + 0) n) ∙ ap (λ (w : ℕ). places start.segment w n) here
kept_children words start (Structs elements following) =
    sym (kept_all start.segment (start.word + 1) elements.size.data_words elements.size.pointers elements.count)
