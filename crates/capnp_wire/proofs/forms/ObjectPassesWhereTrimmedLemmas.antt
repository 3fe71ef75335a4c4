-- What a canonical walk tests of one object holds exactly where it is trimmed and its pointer is the layout's.
-- Then the walk passes it.
use Rattle.std.proofs.Math.Nat.{mul-le-mul_left}
use Rattle.std.proofs.Common.{◌≡◌, ◌⊎◌, inl, inr, ℕ, zero, suc, ◌+◌, ◌-◌, ◌*◌, ◌^◌, ◌<◌, ◌≤◌, false, List, [], ◌∷◌, length, Option, Some, slice_get, slice_index_or, refl, sym, ◌∙◌, ap, subst, arith}
use Rattle.std.specs.Prelude.{All, ◌↔◌}
use Rattle.capnp_layout.specs.Prelude.{pointer_kind, Form, null, struct, numbers, pointers, structs, Trees, none, tree, count, depth, object_size, trim_form, trim_children, word_at, local, far, double_far, Shape, ShapeIsAt, PointsTo, is_null as null_there, is_object, At, nowhere, at, less, pointer, Reaches, HasRoom}
use Rattle.capnp_layout.specs.Tree.{is_null}
use Rattle.capnp_wire.specs.Prelude.{EndsFull, EndsSome, nth_form, Padded, IsInPreorder, IsFarAt, IsNext, links_at, NeedPointers, IsTruncated, IsLaidOut, MeetsObject, Passes}
use Rattle.capnp_layout.specs.declared.place.Place.{Place}
use Rattle.capnp_layout.proofs.trees.TraversalLimitCountLemmas.{count_at, one_deeper}
use Rattle.capnp_wire.proofs.forms.SectionTrimmedByLastWordLemmas.{or_there, there_or}
use Rattle.capnp_layout.proofs.pointers.LocalPointerTargetLemmas.{Local, local_object}
use Rattle.capnp_layout.proofs.layouts.LayoutSizeLemmas.{elements_even}
use Rattle.capnp_wire.proofs.forms.ObjectTrimmedByLastWordsLemmas.{null_is_zero, struct_is_trimmed, structs_are_trimmed, elements_need_data}
use Rattle.capnp_wire.proofs.forms.ElementsNeedAllPointersLemmas.{elements_need_pointers}
use Rattle.capnp_layout.proofs.trees.ReadTreeSizesAndWordsBoundedLemmas.{object_room, one_segment}
use Rattle.capnp_wire.proofs.forms.PreorderFirstTreeAndOthersLemmas.{preorder_step}
use Rattle.capnp_wire.proofs.pointers.LayoutPointerWhereTargetNextLemmas.{next_is_laid_out, next_room}

-- the word at the place of an object
pub word_at_place : (segment : List ℕ) (number index word : ℕ) → word_at (segment ∷ []) (record { segment = number; word = index }) ≡ Some word → slice_index_or segment index 0 ≡ word
word_at_place segment zero index word e = or_there segment index word e
word_at_place segment (suc number) index word e = absurd (cc)

pub pointer_word_is_there : (m : List (List ℕ)) (place : Place) (shape : Shape) → PointsTo m place shape → (word : ℕ) × (word_at m place ≡ Some word)
pointer_word_is_there m place shape (null_there e) = (0, e)
pointer_word_is_there m place shape (is_object (local {word = w} e p k) f b s) = (w, e)
pointer_word_is_there m place shape (is_object (far {word = w} e g p k) f b s) = (w, e)
pointer_word_is_there m place shape (is_object (double_far {word = w} e g p h q r k) f b s) = (w, e)

null_link : (segment : List ℕ) (place : Place) (shape : Shape) → PointsTo (segment ∷ []) place shape → (shape.form ≡ null) ↔ (slice_index_or segment place.word 0 ≡ 0)
null_link segment place shape object =
    let e = null_is_zero (segment ∷ []) place shape object in
    let w = pointer_word_is_there (segment ∷ []) place shape object in
    let here : slice_index_or segment place.word 0 ≡ w.0 = word_at_place segment place.segment place.word w.0 w.1 in (
      λ t. word_at_place segment place.segment place.word 0 (e.0 t),
      λ t. let none : w.0 ≡ 0 = sym here ∙ t in e.1 (w.1 ∙ ap Some none),
    )

some_null : (form : Form) → (◌≡◌ (Some form) (Some null)) ↔ (form ≡ null)
some_null form = (λ t. cc, λ t. ap Some t)

pub links_null : (segment : List ℕ) (places : List Place) (trees : Trees) (traversed k : ℕ) → At (segment ∷ []) places trees traversed → k < length places
    → (nth_form trees k ≡ Some null) ↔ (slice_index_or (links_at segment places) k 0 ≡ 0)
links_null segment places trees traversed k nowhere less = absurd (omega arith)
links_null segment places trees traversed zero (at {place = place} {shape = s} object inner after) less =
    let e = null_link segment place s object in
    let f = some_null s.form in
    (λ t. e.0 (f.0 t), λ t. f.1 (e.1 t))
links_null segment places trees traversed (suc k) (at {others = others} {rest = rest} {following = b} object inner after) less = links_null segment others rest b k after (omega arith)

pub length-links_at : (segment : List ℕ) (places : List Place) → length (links_at segment places) ≡ length places
length-links_at segment [] = refl
length-links_at segment (place ∷ places) = ap (λ (k : ℕ). suc k) (length-links_at segment places)

ends_some_is : (segment : List ℕ) (places : List Place) (trees : Trees) (traversed : ℕ) → At (segment ∷ []) places trees traversed → EndsSome trees ↔ EndsFull (links_at segment places)
ends_some_is segment places trees traversed are_at =
    let many : length places ≡ count trees = sym (count_at (segment ∷ []) places trees traversed are_at) in
    let long : length (links_at segment places) ≡ length places = length-links_at segment places in (
      λ some k is last. some k (omega arith) ((links_null segment places trees traversed k are_at (omega arith)).1 (or_there (links_at segment places) k 0 last)),
      λ full k is last. full k (omega arith) (there_or (links_at segment places) k (omega arith) ∙ ap Some ((links_null segment places trees traversed k are_at (omega arith)).0 last)),
    )

-- the last pointers of elements
element_less : (n p i : ℕ) → 0 < p → i < n → i * p + p - 1 < n * p
element_less n p i some less =
    let h : p * suc i ≤ p * n = mul-le-mul_left p less in
    omega arith

need_pointers_is : (segment : List ℕ) (places : List Place) (children : Trees) (traversed p n : ℕ) → At (segment ∷ []) places children traversed → count children ≡ n * p
    → ((p ≡ 0) ⊎ ((k : ℕ) × (p ≡ k + 1) × (i : ℕ) × (i < n) × (nth_form children (i * p + k) ≡ Some null → ⊥))) ↔ NeedPointers p n (links_at segment places)
need_pointers_is segment places children traversed zero n are_at many = (λ t. inl refl, λ t. inl refl)
need_pointers_is segment places children traversed (suc q) n are_at many =
    let long : length places ≡ count children = sym (count_at (segment ∷ []) places children traversed are_at) in (
      λ t. elim t [
        | inl nothing ↦ inl nothing
        | inr found ↦
            let less = element_less n (suc q) found.2 (omega arith) found.3 in
            let same : found.2 * suc q + suc q - 1 ≡ found.2 * suc q + found.0 = omega (arith, found.1) in
            inr (
              found.2,
              found.3,
              λ is. found.4 ((links_null segment places children traversed (found.2 * suc q + found.0) are_at (omega arith)).1
                  (ap (λ (k : ℕ). slice_index_or (links_at segment places) k 0) (sym same) ∙ is)),
            )
      ],
      λ t. elim t [
        | inl nothing ↦ inl nothing
        | inr found ↦
            let less = element_less n (suc q) found.0 (omega arith) found.1 in
            let same : found.0 * suc q + suc q - 1 ≡ found.0 * suc q + q = omega arith in
            inr (
              q,
              omega arith,
              found.0,
              found.1,
              λ is. found.2 (ap (λ (k : ℕ). slice_index_or (links_at segment places) k 0) same
                  ∙ (links_null segment places children traversed (found.0 * suc q + q) are_at (omega arith)).0 is),
            )
      ],
    )

pub truncated_is_trimmed : (segment : List ℕ) (form : Form) (places : List Place) (children : Trees) (traversed : ℕ) → At (segment ∷ []) places children traversed → HasRoom form (count children)
    → IsTruncated form (links_at segment places) ↔ ((trim_form form children ≡ form) × (trim_children form children ≡ children))
truncated_is_trimmed segment null places children traversed are_at room = (λ t. (refl, refl), λ t. tt)
truncated_is_trimmed segment (struct words) places children traversed are_at room =
    let e = struct_is_trimmed words children in
    let f = ends_some_is segment places children traversed are_at in
    (λ t. e.1 (t.0, f.1 t.1), λ t. let both = e.0 t in (both.0, f.0 both.1))
truncated_is_trimmed segment (numbers c values) places children traversed are_at room = (λ t. (refl, refl), λ t. tt)
truncated_is_trimmed segment pointers places children traversed are_at room = (λ t. (refl, refl), λ t. tt)
truncated_is_trimmed segment (structs d p elements) places children traversed are_at room =
    let e = structs_are_trimmed d p elements children room in
    let data_e = elements_need_data d elements (elements_even d elements room.5) in
    let links_e = elements_need_pointers p elements children room.4 in
    let f = need_pointers_is segment places children traversed p (length elements) are_at room.4 in (
      λ t. e.1 (data_e.1 t.0, links_e.1 (f.1 t.1)),
      λ t. let both = e.0 t in (data_e.0 both.0, f.0 (links_e.0 both.1)),
    )

-- the pointer of an object that is met
object_local : (segment : List ℕ) (word : ℕ) (shape : Shape) (tag : ℕ) → PointsTo (segment ∷ []) (record { segment = 0; word = word }) shape → is_null shape.form ≡ false
    → (IsFarAt segment (record { segment = 0; word = word }) → ⊥) → slice_get segment word ≡ Some tag → (0 < tag) × (pointer_kind tag < 2)
object_local segment word shape tag (null_there e) some not_far there = absurd (cc)
object_local segment word shape tag (is_object (local {word = w} e p k) f b s) some not_far there =
    let same : w ≡ tag = cc in (omega arith, subst (λ (x : ℕ). pointer_kind x < 2) same k)
object_local segment word shape tag (is_object (far {word = w} e g p k) f b s) some not_far there = absurd (not_far (w, e, g.far))
object_local segment word shape tag (is_object (double_far {word = w} e g p h q r k) f b s) some not_far there = absurd (not_far (w, e, g.far))

pub local_met : (segment : List ℕ) (word nesting : ℕ) (limit : Option ℕ) (shape : Shape) (tag : ℕ) → MeetsObject segment (record { segment = 0; word = word }) nesting limit shape
    → slice_get segment word ≡ Some tag
    → Local segment word tag shape.form shape.children
local_met segment word nesting limit shape tag meets there =
    let local_tag : (0 < tag) × (pointer_kind tag < 2) = object_local segment word shape tag meets.object meets.some meets.not_far there in
    local_object segment word tag shape there local_tag.0 local_tag.1 meets.object

-- what is tested of its pointer is that it is the layout's
abbrev pub IsPointerOfLayout : List ℕ → ℕ → ℕ → Form → ℕ → Type 0
IsPointerOfLayout segment word next form n = (slice_get segment word ≡ Some (pointer form n (next - (word + 1)))) × Reaches form n (next - (word + 1))

placed_as : (segment : List ℕ) (start : Place) (tag word next : ℕ) (shape : Shape) (form : Form) (children : List Place) → ShapeIsAt segment start tag shape → shape.form ≡ form → shape.children ≡ children
    → IsNext tag word next form (length children) ↔ ((tag ≡ pointer form (length children) (next - (word + 1))) × Reaches form (length children) (next - (word + 1)))
placed_as segment start tag word next shape form children is_at f h =
    let whole : Form → List Place → Type 0 = λ a b. IsNext tag word next a (length b) ↔ ((tag ≡ pointer a (length b) (next - (word + 1))) × Reaches a (length b) (next - (word + 1))) in
    subst (λ (a : Form). whole a children) f (subst (λ (b : List Place). whole shape.form b) h (next_is_laid_out segment start tag word next shape is_at))

pub laid_is_placed : (segment : List ℕ) (word nesting next : ℕ) (limit : Option ℕ) (shape : Shape) → MeetsObject segment (record { segment = 0; word = word }) nesting limit shape
    → IsLaidOut segment (record { segment = 0; word = word }) next shape
    ↔ (IsPointerOfLayout segment word next shape.form (length shape.children) × Padded segment next shape.form × IsTruncated shape.form (links_at segment shape.children))
laid_is_placed segment word nesting next limit shape meets = (
  λ l.
      let n = local_met segment word nesting limit shape l.pointer meets l.there in
      let e = placed_as segment (record { segment = 0; word = n.start }) l.pointer word next n.shape shape.form shape.children n.is_at n.form_is n.children_is in
      let both = e.0 l.is_next in
      ((l.there ∙ ap Some both.0, both.1), l.padded, l.truncated),
  λ t.
      let n = local_met segment word nesting limit shape (pointer shape.form (length shape.children) (next - (word + 1))) meets t.0.0 in
      let e = placed_as segment (record { segment = 0; word = n.start }) (pointer shape.form (length shape.children) (next -
      (word + 1))) word next n.shape shape.form shape.children n.is_at n.form_is n.children_is in
      record { pointer = pointer shape.form (length shape.children) (next - (word + 1)); there = t.0.0; is_next = e.1 (refl, t.0.1); padded = t.1; truncated = t.2 },
)

-- its words lie after the next free word
pub laid_room : (segment : List ℕ) (word nesting next : ℕ) (limit : Option ℕ) (shape : Shape) → MeetsObject segment (record { segment = 0; word = word }) nesting limit shape
    → IsLaidOut segment (record { segment = 0; word = word }) next shape → word < next → next ≤ length segment → next + object_size shape.form (length shape.children) ≤ length segment
laid_room segment word nesting next limit shape meets l before within =
    let n = local_met segment word nesting limit shape l.pointer meets l.there in
    let is : IsNext l.pointer word next n.shape.form (length n.shape.children) = rw (n.form_is, n.children_is) l.is_next in
    let room = next_room segment n.start l.pointer word next n.shape n.is_at before within n.target is in
    rw (n.form_is, n.children_is) at room

-- an object that passes, with the trees below it
pub passes_over : (segment : List ℕ) (word nesting next traversed after : ℕ) (limit : Option ℕ) (shape : Shape) → All (λ w. w < 2 ^ 64) segment → word < next → next ≤ length segment
    → MeetsObject segment (record { segment = 0; word = word }) nesting limit shape → IsLaidOut segment (record { segment = 0; word = word }) next shape
    → Passes segment shape.children (nesting - 1) traversed (next + object_size shape.form (length shape.children)) after
    → Passes segment (record { segment = 0; word = word } ∷ []) nesting (shape.traversed + traversed) next after
passes_over segment word nesting next traversed after limit shape all before within meets l p =
    let many : length shape.children ≡ count p.trees = sym (count_at (segment ∷ []) shape.children p.trees traversed p.are_at) in
    let t = (laid_is_placed segment word nesting next limit shape meets).0 l in
    let placed : IsPointerOfLayout segment word next shape.form (count p.trees) = subst (λ (n : ℕ). IsPointerOfLayout segment word next shape.form n) many t.0 in
    let in_preorder : IsInPreorder segment shape.children (next + object_size shape.form (count p.trees)) p.trees =
    subst (λ (n : ℕ). IsInPreorder segment shape.children (next + object_size shape.form n) p.trees) many p.in_preorder in
    let room : HasRoom shape.form (count p.trees) =
    subst (λ (n : ℕ). HasRoom shape.form n) many (object_room (segment ∷ []) (record { segment = 0; word = word }) shape (one_segment segment all) meets.object) in
    let trims = (truncated_is_trimmed segment shape.form shape.children p.trees traversed p.are_at room).0 t.2 in
    let own : object_size shape.form (length shape.children) ≡ object_size shape.form (count p.trees) = ap (object_size shape.form) many in
    record {
      trees = tree shape.form p.trees none;
      are_at = subst (At (segment ∷ []) (record { segment = 0; word = word } ∷ []) (tree shape.form p.trees none)) (omega arith) (at meets.object p.are_at nowhere);
      shallow = one_deeper (is_null shape.form) (depth p.trees) nesting p.shallow meets.deep;
      in_preorder = (preorder_step segment word next shape.children [] shape.form p.trees none shape.traversed traversed all meets.object p.are_at before within).1
          (placed.0, placed.1, t.1, in_preorder, tt);
      trimmed = ((trims.0, trims.1, p.trimmed), tt);
      after_is = omega (arith, p.after_is, own);
      room = p.room;
    }
