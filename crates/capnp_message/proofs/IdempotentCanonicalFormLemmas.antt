-- A canonical form is the canonical form of itself, and a message has at most one.
use Rattle.std.proofs.Common.{◌≡◌, ℕ, ◌+◌, ◌<◌, ◌≤◌, ◌^◌, if◌then◌else◌, List, [], ◌∷◌, Option, Some, None, MatchOption, refl, sym, ◌∙◌, ap, subst, arith}
use Rattle.capnp_layout.specs.Tree.{is_null}
use Rattle.capnp_layout.specs.Prelude.{Form, null, struct, numbers, pointers, structs, Trees, none, tree, count, depth, total_words, trim, trim_form, trim_children, cut_nulls, keep_tree, least_pointers, At, root, canon, layout, AllHaveRoom, Within, words_of, message_of}
use Rattle.capnp_wire.specs.Prelude.{IsCanonical, Pointer, TreeAt, PointsToTree, IsCanonicalForm, one_value, nesting_of}
use Rattle.capnp_layout.specs.declared.place.Place.{Place}
use Rattle.capnp_wire.proofs.forms.LayoutDeterminesTreeLemmas.{root_of_canon}
use Rattle.capnp_layout.proofs.trees.TrimIdempotenceAndSizeLemmas.{trim_twice, room_trim}
use Rattle.capnp_layout.proofs.trees.KeptTreesPlacedNoDeeperLemmas.{shallow_narrowed}
use Rattle.capnp_wire.proofs.views.UniqueValueTreeAndMeasureLemmas.{one_of_pointer}
use Rattle.capnp_wire.proofs.forms.TargetWrittenInCanonicalFormLemmas.{form_is_canonical}
use Rattle.capnp_message.specs.Canonical.{HasForm}
use Rattle.capnp_message.specs.Seen.{ReadMessage, root_of}
use Rattle.capnp_frame.specs.declared.message.options.ReaderOptions.{ReaderOptions}
use Rattle.capnp_layout.proofs.trees.TrimCommutesWithPartsLemmas.{null_trimmed}

-- trimming makes no tree deeper
kept_shallow : (nesting : ℕ) (rest : Trees) (form : Form) (children : Trees) → depth rest ≤ nesting → (if is_null form then 0 else depth children + 1) ≤ nesting → depth (keep_tree rest form children) ≤ nesting
kept_shallow nesting (tree f h r) form children p q = omega arith
kept_shallow nesting none null children p q = omega arith
kept_shallow nesting none (struct words) children p q = omega arith
kept_shallow nesting none (numbers code values) children p q = omega arith
kept_shallow nesting none pointers children p q = omega arith
kept_shallow nesting none (structs d n elements) children p q = omega arith

cut_shallow : (nesting : ℕ) (t : Trees) → depth t ≤ nesting → depth (cut_nulls t) ≤ nesting
cut_shallow nesting none p = omega arith
cut_shallow nesting (tree form children rest) p = kept_shallow nesting (cut_nulls rest) form children (cut_shallow nesting rest (omega arith)) (omega arith)

children_shallow : (nesting : ℕ) (form : Form) (children : Trees) → depth children ≤ nesting → depth (trim_children form children) ≤ nesting
children_shallow nesting null children p = p
children_shallow nesting (struct words) children p = cut_shallow nesting children p
children_shallow nesting (numbers code values) children p = p
children_shallow nesting pointers children p = p
children_shallow nesting (structs d n elements) children p = shallow_narrowed nesting (least_pointers n elements children) n elements children p

one_shallow : (form : Form) (a b c d : Trees) → is_null (trim_form form c) ≡ is_null form → depth b ≤ depth a
    → (if is_null (trim_form form c) then 0 else depth b + 1) ≤ (if is_null form then 0 else depth a + 1)
one_shallow null a b c d same p = omega arith
one_shallow (struct words) a b c d same p = omega arith
one_shallow (numbers code values) a b c d same p = omega arith
one_shallow pointers a b c d same p = omega arith
one_shallow (structs n q elements) a b c d same p = omega arith

pub trim_shallow : (t : Trees) → depth (trim t) ≤ depth t
trim_shallow none = omega arith
trim_shallow (tree form children rest) =
    let inside : depth (trim_children form (trim children)) ≤ depth children = children_shallow (depth children) form (trim children) (trim_shallow children) in
    let first = one_shallow form children (trim_children form (trim children)) (trim children) none (null_trimmed form (trim children)) inside in
    omega (arith, first, trim_shallow rest)

-- one tree
single : (t : Trees) → count t ≡ 1 → (form : Form) × (children : Trees) × (t ≡ tree form children none)
single none e = absurd (omega arith)
single (tree form children none) e = (form, children, refl)
single (tree form children (tree f h r)) e = absurd (omega arith)

depth_at : (o : Option Place) (m : List (List ℕ)) (nesting : ℕ) (limit : Option ℕ) (t : Trees) → MatchOption o (t ≡ tree null none none) (λ place. TreeAt m place nesting limit t) → depth t ≤ nesting
depth_at None m nesting limit t is = let null_depth : depth t ≡ 0 = ap depth is in omega arith
depth_at (Some place) m nesting limit t is = is.shallow

points_at : (q : Pointer) (place : Place) (t : Trees) → q.place ≡ Some place → TreeAt q.message place q.nesting q.limit t → PointsToTree q t
points_at q place t there is = subst (λ (o : Option Place). MatchOption o (t ≡ tree null none none) (λ p. TreeAt q.message p q.nesting q.limit t)) (sym there) is

no_limit : (limit : Option ℕ) (traversed : ℕ) → limit ≡ None → Within limit traversed
no_limit limit traversed e = subst (λ (o : Option ℕ). Within o traversed) (sym e) tt

-- a canonical form, read as the one segment of a message without a traversal limit, is its own canonical form
pub is_its_own_form : (p q : Pointer) (words : List ℕ) → IsCanonicalForm p words → q.message ≡ words ∷ [] → q.place ≡ Some root → q.limit ≡ None → p.nesting ≤ q.nesting → IsCanonicalForm q words
is_its_own_form p q words a message there unlimited deep =
    let x = single a.trees (one_value p a.trees a.tree_is) in
    let rooms : AllHaveRoom (tree x.0 x.1 none) = subst AllHaveRoom x.2 a.rooms in
    let few : total_words (trim (tree x.0 x.1 none)) < 2 ^ 29 = subst (λ (t : Trees). total_words (trim t) < 2 ^ 29) x.2 a.few in
    let is : words ≡ canon (tree x.0 x.1 none) = a.words_are ∙ ap canon x.2 in
    let there_is = root_of_canon x.0 x.1 rooms few in
    let twice : trim (trim (tree x.0 x.1 none)) ≡ trim (tree x.0 x.1 none) = trim_twice (tree x.0 x.1 none) rooms in
    let shown : q.message ≡ canon (tree x.0 x.1 none) ∷ [] = message ∙ ap (λ (l : List ℕ). l ∷ []) is in
    let depths : depth (tree x.0 x.1 none) ≤ p.nesting = subst (λ (t : Trees). depth t ≤ p.nesting) x.2 (depth_at p.place p.message p.nesting p.limit a.trees a.tree_is) in
    let is_at : At q.message (root ∷ []) (trim (tree x.0 x.1 none)) there_is.0 =
    subst (λ (m : List (List ℕ)). At m (root ∷ []) (trim (tree x.0 x.1 none)) there_is.0) (sym shown) there_is.1 in
    record {
      trees = trim (tree x.0 x.1 none);
      tree_is =
          points_at q root (trim (tree x.0 x.1 none)) there (record {
            traversed = there_is.0;
            are_at = is_at;
            shallow = omega (arith, trim_shallow (tree x.0 x.1 none));
            within = no_limit q.limit there_is.0 unlimited;
          });
      rooms = room_trim (tree x.0 x.1 none) rooms;
      few = subst (λ (t : Trees). total_words t < 2 ^ 29) (sym twice) few;
      words_are = is ∙ ap layout (sym twice);
    }

-- a message with a canonical form has one, and one alone
pub has_form : (p : Pointer) (words : List ℕ) → IsCanonicalForm p words → HasForm p
has_form p words a = record { trees = a.trees; tree_is = a.tree_is; few = omega (arith, a.few) }

pub one_form : (p : Pointer) (words others : List ℕ) → IsCanonicalForm p words → IsCanonicalForm p others → words ≡ others
one_form p words others a b = a.words_are ∙ ap canon ((one_of_pointer p).same_tree a.trees b.trees a.tree_is b.tree_is) ∙ sym b.words_are

-- and it is canonical
pub form_canonical : (p : Pointer) (words : List ℕ) → IsCanonicalForm p words → p.message ≡ words ∷ [] → IsCanonical p.message
form_canonical p words a message = subst IsCanonical (sym message) (form_is_canonical p words a)

-- the reader of a form as the one segment of a message
pub own_of : (reader : ReadMessage (List (List ℕ))) (options : ReaderOptions) (segments : List (List ℕ)) (form : List ℕ)
    → reader ≡ record { segments = segments; options = options } → segments ≡ form ∷ [] → options.traversal_limit_in_words ≡ None
    → (p : Pointer) × IsCanonicalForm p (words_of form) × (p.nesting ≤ nesting_of options.nesting_limit)
    → IsCanonicalForm (root_of (λ s. s) reader) (words_of form) × ((root_of (λ s. s) reader).message ≡ words_of form ∷ [])
own_of reader options segments form is one unlimited (p, form_is, deep) =
    let same_options : reader.options ≡ options = ap (λ (r : ReadMessage (List (List ℕ))). r.options) is in
    let same_segments : reader.segments ≡ form ∷ [] = ap (λ (r : ReadMessage (List (List ℕ))). r.segments) is ∙ one in
    let message : message_of reader.segments ≡ words_of form ∷ [] = ap message_of same_segments in
    let no_limit_there : reader.options.traversal_limit_in_words ≡ None = ap (λ (o : ReaderOptions). o.traversal_limit_in_words) same_options ∙ unlimited in
    let nesting_limit : nesting_of reader.options.nesting_limit ≡ nesting_of options.nesting_limit = ap (λ (o : ReaderOptions). nesting_of o.nesting_limit) same_options in
    (is_its_own_form p (root_of (λ s. s) reader) (words_of form) form_is message refl no_limit_there (omega arith), message)
