-- A message of one segment is canonical exactly where the walk passes the whole segment. Where the walk fails, so
-- does the test, with its error; more segments are never canonical.
use Rattle.std.proofs.Common.{◌≡◌, ◌⊎◌, inl, inr, ℕ, ◌+◌, ◌^◌, ◌<◌, ◌≤◌, Bool, true, false, List, [], ◌∷◌, length, Option, Some, None, slice_get, Result, Ok, Err, IfOk, IfErr, MatchResult}
use Rattle.std.proofs.Common.{IsOk, IsTrue, refl, sym, ◌∙◌, ap, subst, arith}
use Rattle.std.specs.Prelude.{All, ◌↔◌, option_copied, is_some}
use Rattle.std.proofs.lemmas.Bool.{cases_lt}
use Rattle.std.proofs.lemmas.Option.{slice_get_within}
use denote.Ref.{Bor}
use Rattle.std.specs.Result.{IsErrAnd}
use Rattle.capnp_frame.specs.declared.error.Error.{Error}
use Rattle.capnp_frame.specs.declared.error.ErrorKind.{ErrorKind}
use Rattle.capnp_frame.specs.declared.error.ErrorKind.TheVariants.{InvalidSegmentId}
use Rattle.capnp_layout.specs.Prelude.{words_of, Form, Trees, none, tree, depth, total_words, message_of, word_at, At, nowhere, at, Root, root, Within, WalkError, no_segment, no_word, at_pointer as error_at, Trimmed}
use Rattle.capnp_wire.specs.Prelude.{IsInPreorder, IsCanonical, Passes, Ends, fails_with, not_canonical, CanonicityError, no_first_segment, on_the_walk}
use Rattle.capnp_layout.proofs.objects.UniqueObjectLemmas.{one_tree}
use Rattle.capnp_wire.proofs.walks.WalkErrorExcludesTreesLemmas.{walk_error_has_no_trees}
use Rattle.capnp_wire.proofs.forms.ObjectPassesWhereTrimmedLemmas.{pointer_word_is_there}
use Rattle.capnp_wire.proofs.walks.StoppedTestExcludesCanonicalTreesLemmas.{ends_error, ends_not}
use Rattle.capnp_wire.proofs.forms.ExactCanonicalTestLemmas.{tests_are_exact}

-- the one tree at the root
root_tree : (m : List (List ℕ)) (trees : Trees) (traversed : ℕ) → At m (root ∷ []) trees traversed → (form : Form) × (children : Trees) × (trees ≡ tree form children none)
root_tree m trees traversed (at {shape = s} {children = h} object inner nowhere) = (s.form, h, refl)

pub passes_is_canonical : (segment : List ℕ) (nesting traversed after : ℕ) → All (λ w. w < 2 ^ 64) segment → Passes segment (root ∷ []) nesting traversed 1 after → after ≡ length segment
    → IsCanonical (segment ∷ [])
passes_is_canonical segment nesting traversed after all p whole =
    let t = root_tree (segment ∷ []) p.trees traversed p.are_at in
    let are_at : Root (segment ∷ []) t.0 t.1 traversed = subst (λ (x : Trees). At (segment ∷ []) (root ∷ []) x traversed) t.2 p.are_at in
    let in_preorder : IsInPreorder segment (root ∷ []) 1 (tree t.0 t.1 none) = subst (λ (x : Trees). IsInPreorder segment (root ∷ []) 1 x) t.2 p.in_preorder in
    let trimmed : Trimmed (tree t.0 t.1 none) = subst (λ (x : Trees). Trimmed x) t.2 p.trimmed in
    let long : length segment ≡ 1 + total_words (tree t.0 t.1 none) = sym whole ∙ p.after_is ∙ ap (λ (x : Trees). 1 + total_words x) t.2 in
    (tests_are_exact segment t.0 t.1 traversed all are_at).0 (in_preorder, trimmed, long)

-- what a canonical message passes
record Whole (segment : List ℕ) : Type 0 where
  form : Form
  children : Trees
  traversed : ℕ
  are_at : Root (segment ∷ []) form children traversed
  in_preorder : IsInPreorder segment (root ∷ []) 1 (tree form children none)
  trimmed : Trimmed (tree form children none)
  long : length segment ≡ 1 + total_words (tree form children none)

whole_of : (segment : List ℕ) → All (λ w. w < 2 ^ 64) segment → IsCanonical (segment ∷ []) → Whole segment
whole_of segment all c =
    let same : segment ≡ c.0 = cc in
    let are_at : Root (segment ∷ []) c.2 c.3 c.4 = c.5 in
    let t = (tests_are_exact segment c.2 c.3 c.4 all are_at).1 c in
    record { form = c.2; children = c.3; traversed = c.4; are_at = are_at; in_preorder = t.0; trimmed = t.1; long = t.2 }

pub ended_is_not : (segment : List ℕ) (nesting : ℕ) (limit : Option ℕ) → All (λ w. w < 2 ^ 64) segment → 1 ≤ length segment → Ends segment (root ∷ []) nesting limit 1 not_canonical
    → IsCanonical (segment ∷ []) → ⊥
ended_is_not segment nesting limit all some ends c =
    let w = whole_of segment all c in
    ends_not segment (root ∷ []) nesting 1 limit (tree w.form w.children none) w.traversed all ends w.are_at (refl, omega arith, tt) some w.in_preorder w.trimmed

pub longer_is_not : (segment : List ℕ) (nesting traversed after : ℕ) → All (λ w. w < 2 ^ 64) segment → Passes segment (root ∷ []) nesting traversed 1 after → (after ≡ length segment → ⊥)
    → IsCanonical (segment ∷ []) → ⊥
longer_is_not segment nesting traversed after all p longer c =
    let w = whole_of segment all c in
    let same = one_tree (segment ∷ []) (root ∷ []) p.trees (tree w.form w.children none) traversed w.traversed p.are_at w.are_at in
    longer (p.after_is ∙ ap (λ (x : Trees). 1 + total_words x) same.0 ∙ sym w.long)

-- the segments of a message
pub one_segment_there : (segments : List (List ℕ)) (bytes : List ℕ) → slice_get segments 0 ≡ Some bytes → slice_get segments 1 ≡ None → message_of segments ≡ words_of bytes ∷ []
one_segment_there [] bytes first none_more = absurd (cc)
one_segment_there (x ∷ []) bytes first none_more = let same : x ≡ bytes = cc in ap (λ (b : List ℕ). words_of b ∷ []) same
one_segment_there (x ∷ y ∷ segments) bytes first none_more = absurd (cc)

pub no_segment_there : (segments : List (List ℕ)) → slice_get segments 0 ≡ None → message_of segments ≡ []
no_segment_there [] none_there = refl
no_segment_there (x ∷ segments) none_there = absurd (cc)

pub more_is_not : (segments : List (List ℕ)) (bytes : List ℕ) → slice_get segments 1 ≡ Some bytes → IsCanonical (message_of segments) → ⊥
more_is_not [] bytes second c = absurd (cc)
more_is_not (x ∷ []) bytes second c = absurd (cc)
more_is_not (x ∷ y ∷ segments) bytes second c =
    let same : words_of x ∷ words_of y ∷ message_of segments ≡ c.0 ∷ [] = c.1 in
    let long : length (words_of x ∷ words_of y ∷ message_of segments) ≡ 1 = ap (λ (l : List (List ℕ)). length l) same in
    omega arith

more_is_said : (segments : List (List ℕ)) (bytes : List ℕ) (nesting : ℕ) (limit : Option ℕ) (kind : ErrorKind) → slice_get segments 1 ≡ Some bytes → CanonicityError (message_of segments) nesting limit kind → ⊥
more_is_said [] bytes nesting limit kind second unsaid = cc
more_is_said (x ∷ []) bytes nesting limit kind second unsaid = cc
more_is_said (x ∷ y ∷ segments) bytes nesting limit kind second (no_first_segment e) =
    let long : length (words_of x ∷ words_of y ∷ message_of segments) ≡ 0 = ap (λ (l : List (List ℕ)). length l) e in omega arith
more_is_said (x ∷ y ∷ segments) bytes nesting limit kind second (on_the_walk e ends) =
    let long : length (words_of x ∷ words_of y ∷ message_of segments) ≡ 1 = ap (λ (l : List (List ℕ)). length l) e in omega arith

pub said_of_more : {E : Type 0} (segments : List (List ℕ)) (bytes : List ℕ) (nesting : ℕ) (limit : Option ℕ) (kind : ErrorKind) → slice_get segments 1 ≡ Some bytes
    → CanonicityError (message_of segments) nesting limit kind → E
said_of_more segments bytes nesting limit kind second unsaid = absurd (more_is_said segments bytes nesting limit kind second unsaid)

pub unsaid_of_none : (m : List (List ℕ)) (nesting : ℕ) (limit : Option ℕ) (kind : ErrorKind) → m ≡ [] → CanonicityError m nesting limit kind → InvalidSegmentId 0 ≡ kind
unsaid_of_none m nesting limit kind none_there (no_first_segment e) = refl
unsaid_of_none m nesting limit kind none_there (on_the_walk {segment = s} e ends) =
    let long : length (s ∷ []) ≡ 0 = ap (λ (l : List (List ℕ)). length l) (sym e ∙ none_there) in absurd (omega arith)

-- errors of the walk are errors of the message
pub unsaid_error : (m : List (List ℕ)) (nesting : ℕ) (limit : Option ℕ) (kind : ErrorKind) → CanonicityError m nesting limit kind → WalkError m (root ∷ []) nesting limit kind
unsaid_error m nesting limit kind (no_first_segment e) = error_at (no_word (no_segment (ap (λ (l : List (List ℕ)). slice_get l 0) e)))
unsaid_error m nesting limit kind (on_the_walk {segment = s} e ends) =
    subst (λ (x : List (List ℕ)). WalkError x (root ∷ []) nesting limit kind) (sym e) (ends_error s (root ∷ []) nesting 1 limit kind ends)

-- what is passed on
pub said : (m : List (List ℕ)) (segment : List ℕ) (nesting : ℕ) (limit : Option ℕ) (r : Result Bool Error) → m ≡ segment ∷ [] → IfOk r (λ is. IsTrue is ↔ IsCanonical (segment ∷ []))
    → IfErr r (λ error. Ends segment (root ∷ []) nesting limit 1 (fails_with error.kind)) → MatchResult r (λ is. IsTrue is ↔ IsCanonical m) (λ error. CanonicityError m nesting limit error.kind)
said m segment nesting limit (Ok is) one ok err = subst (λ (x : List (List ℕ)). IsTrue is ↔ IsCanonical x) (sym one) ok
said m segment nesting limit (Err e) one ok err = on_the_walk one err

pub said_at : (m : List (List ℕ)) (segment : List ℕ) (nesting other : ℕ) (limit : Option ℕ) (r : Result Bool Error) → nesting ≡ other → m ≡ segment ∷ []
    → IfOk r (λ is. IsTrue is ↔ IsCanonical (segment ∷ []))
    → IfErr r (λ error. Ends segment (root ∷ []) nesting limit 1 (fails_with error.kind)) → MatchResult r (λ is. IsTrue is ↔ IsCanonical m) (λ error. CanonicityError m other limit error.kind)
said_at m segment nesting other limit r same one ok err =
    subst (λ (l : ℕ). MatchResult r (λ is. IsTrue is ↔ IsCanonical m) (λ error. CanonicityError m l limit error.kind)) same (said m segment nesting limit r one ok err)

pub said_exactly : (m : List (List ℕ)) (segment : List ℕ) (nesting : ℕ) (limit : Option ℕ) (r : Result Bool Error) (kind : ErrorKind) → m ≡ segment ∷ []
    → ((kind : ErrorKind) → Ends segment (root ∷ []) nesting limit 1 (fails_with kind) → IsErrAnd r (λ error. error.kind ≡ kind)) → CanonicityError m nesting limit kind
    → IsErrAnd r (λ error. error.kind ≡ kind)
said_exactly m segment nesting limit r kind one exact (no_first_segment e) =
    let long : length (segment ∷ []) ≡ 0 = ap (λ (l : List (List ℕ)). length l) (sym one ∙ e) in absurd (omega arith)
said_exactly m segment nesting limit r kind one exact (on_the_walk {segment = s} e ends) =
    let same : s ≡ segment = cc in
    exact kind (subst (λ (x : List ℕ). Ends x (root ∷ []) nesting limit 1 (fails_with kind)) same ends)

pub said_where_found : (m : List (List ℕ)) (nesting : ℕ) (limit : Option ℕ) (r : Result Bool Error) → MatchResult r (λ is. IsTrue is ↔ IsCanonical m) (λ error. CanonicityError m nesting limit error.kind)
    → (form : Form) (children : Trees) (traversed : ℕ) → Root m form children traversed → depth (tree form children none) ≤ nesting → Within limit traversed → IsOk r
said_where_found m nesting limit (Ok is) returned form children traversed are_at shallow fits = refl
said_where_found m nesting limit (Err e) returned form children traversed are_at shallow fits =
    absurd (walk_error_has_no_trees m (root ∷ []) nesting traversed limit e.kind (tree form children none) (unsaid_error m nesting limit e.kind returned) are_at shallow fits)

pub said_error : (m : List (List ℕ)) (nesting : ℕ) (limit : Option ℕ) (r : Result Bool Error) → MatchResult r (λ is. IsTrue is ↔ IsCanonical m) (λ error. CanonicityError m nesting limit error.kind)
    → IfErr r (λ error. WalkError m (root ∷ []) nesting limit error.kind)
said_error m nesting limit (Ok is) returned = tt
said_error m nesting limit (Err e) returned = unsaid_error m nesting limit e.kind returned

-- how a walk's result is judged
eq_or_not : (a b : ℕ) → (a ≡ b) ⊎ (a ≡ b → ⊥)
eq_or_not a b = elim (cases_lt a b) [
  | inl less ↦ inr (λ same. omega arith)
  | inr more ↦ elim (cases_lt b a) [
    | inl less ↦ inr (λ same. omega arith)
    | inr also ↦ inl (omega arith)
  ]
]

pub whole_or_not : (segment : List ℕ) (nesting traversed after n : ℕ) → All (λ w. w < 2 ^ 64) segment → Passes segment (root ∷ []) nesting traversed 1 after → length segment ≡ n
    → (after ≡ n) ↔ IsCanonical (segment ∷ [])
whole_or_not segment nesting traversed after n all p long = (
  λ same. passes_is_canonical segment nesting traversed after all p (same ∙ sym long),
  λ c. elim (eq_or_not after n) [
    | inl same ↦ same
    | inr other ↦ absurd (longer_is_not segment nesting traversed after all p (λ same. other (same ∙ long)) c)
  ],
)

-- a second segment, or none
pub second_shown : (r : Option (Bor (List ℕ))) (xs : List (List ℕ)) (b : Bool) → b ≡ is_some r → option_copied r ≡ slice_get xs 1 → b ≡ true → (bytes : List ℕ) × (slice_get xs 1 ≡ Some bytes)
second_shown None xs b is e on = absurd (cc)
second_shown (Some r) xs b is e on = (r.now, sym e)

pub no_second : (r : Option (Bor (List ℕ))) (xs : List (List ℕ)) (b : Bool) → b ≡ is_some r → option_copied r ≡ slice_get xs 1 → b ≡ false → slice_get xs 1 ≡ None
no_second None xs b is e off = sym e
no_second (Some r) xs b is e off = absurd (cc)

-- the root's word
pub root_some : (m : List (List ℕ)) (segment : List ℕ) (word : ℕ) → m ≡ segment ∷ [] → word_at m root ≡ Some word → 1 ≤ length segment
root_some m segment word one there =
    let here : slice_get segment 0 ≡ Some word = subst (λ (x : List (List ℕ)). word_at x root ≡ Some word) one there in
    slice_get_within segment 0 word here

pub none_has_no_root : (m : List (List ℕ)) (form : Form) (children : Trees) (traversed : ℕ) → m ≡ [] → Root m form children traversed → ⊥
none_has_no_root m form children traversed none_there (at {shape = s} object inner tail) =
    let w = pointer_word_is_there m root s object in
    let here : word_at [] root ≡ Some w.0 = subst (λ (x : List (List ℕ)). word_at x root ≡ Some w.0) none_there w.1 in
    cc
