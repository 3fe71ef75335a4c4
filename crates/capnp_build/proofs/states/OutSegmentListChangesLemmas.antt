-- The segments that are out, as pairs of a length and where it is from, the last one first: how the pairs change
-- when a segment is written, added or returned.
use Rattle.std.proofs.Common.{◌≡◌, ℕ, zero, suc, ◌+◌, ◌-◌, ◌/◌, ◌^◌, ◌<◌, Bool, List, [], ◌∷◌, ◌++◌, length, take, Option, Some, None, MatchOption, slice_index_or, slice_set, refl, ap, sym}
use Rattle.std.proofs.Common.{subst, ◌∙◌, arith, length-set, length-append}
use Rattle.std.specs.Prelude.{⊤}
use Rattle.capnp_build.specs.Prelude.{Space, Out, Removed, here, IsOut, BuilderState, pair, pairs, space_at, no_space, spaces_of, with_space, AreOut, KeepsOthers, ReturnsEach}

-- a segment more is the first pair
pub pairs_more : (spaces : List Space) (space : Space) (others : List Out) → pairs (spaces ++ space ∷ []) others ≡ pair space ∷ pairs spaces others
pairs_more [] space others = refl
pairs_more (s ∷ spaces) space others = pairs_more spaces space (pair s ∷ others)

-- a segment that is as long as the one in its place
pub pairs_set : (spaces : List Space) (i : ℕ) (space : Space) (others : List Out) → pair space ≡ pair (space_at spaces i) → pairs (slice_set spaces i space) others ≡ pairs spaces others
pairs_set [] i space others e = refl
pairs_set (s ∷ spaces) zero space others e = ap (λ (p : Out). pairs spaces (p ∷ others)) e
pairs_set (s ∷ spaces) (suc i) space others e = pairs_set spaces i space (pair s ∷ others) e

pub same_at : (spaces : List Space) (i : ℕ) (d e : Space) → i < length spaces → slice_index_or spaces i d ≡ slice_index_or spaces i e
same_at [] i d e within = absurd (omega (arith, within))
same_at (s ∷ spaces) zero d e within = refl
same_at (s ∷ spaces) (suc i) d e within = same_at spaces i d e (omega (arith, within))

within_others : (first : Option Space) (others : List Space) (i k : ℕ) → i < length (spaces_of first others) → i ≡ suc k → k < length others
within_others None others i k within place = absurd (omega (arith, within))
within_others (Some s) others i k within place = omega (arith, within, place)

-- another segment after the first, as long as the one in its place
other_pairs : (first : Option Space) (others : List Space) (k : ℕ) (part new : Space) (rest : List Out) → MatchOption first (others ≡ []) (λ _. ⊤) → k < length others
    → part ≡ slice_index_or others k part → pair new ≡ pair part → pairs (spaces_of first (slice_set others k new)) rest ≡ pairs (spaces_of first others) rest
other_pairs None others k part new rest alone within is same = refl
other_pairs (Some s) others k part new rest alone within is same =
    pairs_set others k new (pair s ∷ rest) (same ∙ ap pair (is ∙ same_at others k part no_space within))

alone_set : (first : Option Space) (others : List Space) (k : ℕ) (new : Space) → MatchOption first (others ≡ []) (λ _. ⊤) → k < length others → MatchOption first (slice_set others k new ≡ []) (λ _. ⊤)
alone_set None others k new alone within = let none : k < length {A = Space} [] = rw alone at within in absurd (omega (arith, none))
alone_set (Some s) others k new alone within = tt

pub other_edit : (Outs : List Out → Type 0) (first : Option Space) (others : List Space) (i k : ℕ) (part new : Space)
    → MatchOption first (others ≡ []) (λ _. ⊤) → AreOut Outs (spaces_of first others) → length others + 1 < 2 ^ 32
    → i < length (spaces_of first others) → i ≡ suc k → part ≡ slice_index_or others k part → pair new ≡ pair part
    → MatchOption first (slice_set others k new ≡ []) (λ _. ⊤) × AreOut Outs (spaces_of first (slice_set others k new)) × (length (slice_set others k new) + 1 < 2 ^ 32)
other_edit Outs first others i k part new alone out few within place is same =
    let inside = within_others first others i k within place in (
      alone_set first others k new alone inside,
      (out.0, subst Outs (sym (other_pairs first others k part new out.0 alone inside is same)) out.1),
      (rw length-set few),
    )

-- a segment more after the first keeps what else is out
pub other_keeps : (Before After : List Out → Type 0) (first : Option Space) (others more : List Space) (o : Out) (new : Space) (rest : List Out)
    → MatchOption first ⊥ (λ _. ⊤) → ((list : List Out) → Before list → After (o ∷ list)) → o ≡ pair new → more ≡ others ++ new ∷ []
    → Before (pairs (spaces_of first others) rest) → After (pairs (spaces_of first more) rest)
other_keeps Before After None others more o new rest some adds is e out = absurd some
other_keeps Before After (Some s) others more o new rest some adds is e out =
    let p : pairs more (pair s ∷ rest) ≡ o ∷ pairs others (pair s ∷ rest) =
    ap (λ (xs : List Space). pairs xs (pair s ∷ rest)) e ∙ pairs_more others new (pair s ∷ rest) ∙ ap (λ (q : Out). q ∷ pairs others (pair s ∷ rest)) (sym is) in
    subst After (sym p) (adds (pairs others (pair s ∷ rest)) out)

-- a segment more after the first
pub other_added : (Before After : List Out → Type 0) (first : Option Space) (others more : List Space) (o : Out) (new : Space)
    → MatchOption first ⊥ (λ _. ⊤) → AreOut Before (spaces_of first others) → length others + 2 < 2 ^ 32
    → ((list : List Out) → Before list → After (o ∷ list)) → o ≡ pair new → more ≡ others ++ new ∷ []
    → MatchOption first (more ≡ []) (λ _. ⊤) × AreOut After (spaces_of first more) × (length more + 1 < 2 ^ 32)
other_added Before After None others more o new some out few adds is e = absurd some
other_added Before After (Some s) others more o new some out few adds is e =
    let l : length more ≡ length others + 1 = ap length e ∙ omega (arith, length-append others (new ∷ [])) in
    (tt, (out.0, other_keeps Before After (Some s) others more o new out.0 some adds is e out.1), omega (arith, l, few))

-- the pair of the last segment is the first one
pub last_pair : (first : Option Space) (others init : List Space) (x : Space) (rest : List Out) → MatchOption first (others ≡ []) (λ _. ⊤) → others ≡ init ++ x ∷ []
    → pairs (spaces_of first others) rest ≡ pair x ∷ pairs (spaces_of first init) rest
last_pair None others init x rest alone e =
    let l : length others ≡ length init + 1 = ap length e ∙ omega (arith, length-append init (x ∷ [])) in
    let none : length others ≡ 0 = ap length alone in absurd (omega (arith, l, none))
last_pair (Some s) others init x rest alone e = ap (λ (xs : List Space). pairs xs (pair s ∷ rest)) e ∙ pairs_more init x (pair s ∷ rest)

pub last_alone : (first : Option Space) (others init : List Space) (x : Space) → MatchOption first (others ≡ []) (λ _. ⊤) → others ≡ init ++ x ∷ [] → MatchOption first (init ≡ []) (λ _. ⊤)
last_alone None others init x alone e =
    let l : length others ≡ length init + 1 = ap length e ∙ omega (arith, length-append init (x ∷ [])) in
    let none : length others ≡ 0 = ap length alone in absurd (omega (arith, l, none))
last_alone (Some s) others init x alone e = tt

pub out_first : (Outs : List Out → Type 0) (o p : Out) (list left : List Out) → Outs list → o ≡ p → list ≡ p ∷ left → IsOut Outs o
out_first Outs o p list left out is e = (list, left, out, subst (λ (q : Out). Removed q list left) (sym is) (subst (λ (l : List Out). Removed p l left) (sym e) here))

pub taken_first : (Before After : List Out → Type 0) (o p : Out) (list left : List Out) → Before list → o ≡ p → list ≡ p ∷ left
    → ((l m : List Out) → Before l → Removed o l m → After m) → After left
taken_first Before After o p list left out is e takes =
    takes list left out (subst (λ (q : Out). Removed q list left) (sym is) (subst (λ (l : List Out). Removed p l left) (sym e) here))

-- one return more, of the last segment
returned_more : {A : Type 0} (returns : A → Out → ℕ → A → Type 0) (spaces : List Space) (x : Space) (old between new : A)
    → returns old (pair x) (length x.used / 8) between → ReturnsEach returns spaces between new → ReturnsEach returns (spaces ++ x ∷ []) old new
returned_more {A = A} returns [] x old between new one each = (old, refl, subst (λ (a : A). returns old (pair x) (length x.used / 8) a) (sym each) one)
returned_more returns (s ∷ spaces) x old between new one each = (each.0, returned_more returns spaces x old between each.0 one each.1, each.2)

pub returned_last : {A : Type 0} (returns : A → Out → ℕ → A → Type 0) (first : Option Space) (others init : List Space) (x : Space) (old between new : A)
    → MatchOption first (others ≡ []) (λ _. ⊤) → others ≡ init ++ x ∷ [] → returns old (pair x) (length x.used / 8) between
    → ReturnsEach returns (spaces_of first init) between new → ReturnsEach returns (spaces_of first others) old new
returned_last returns None others init x old between new alone e one each =
    let l : length others ≡ length init + 1 = ap length e ∙ omega (arith, length-append init (x ∷ [])) in
    let none : length others ≡ 0 = ap length alone in absurd (omega (arith, l, none))
returned_last returns (Some s) others init x old between new alone e one each =
    subst (λ (xs : List Space). ReturnsEach returns (s ∷ xs) old new) (sym e) (returned_more returns (s ∷ init) x old between new one each)

pub returned_first : {A : Type 0} (returns : A → Out → ℕ → A → Type 0) (first : Option Space) (others : List Space) (x : Space) (old new : A)
    → first ≡ Some x → others ≡ [] → returns old (pair x) (length x.used / 8) new → ReturnsEach returns (spaces_of first others) old new
returned_first returns first others x old new e none one = rw (e, none) (old, refl, one)

pub no_segment_left : (old new : List Space) (n : ℕ) → n ≡ 0 → new ≡ take (n - 1) old → old ≡ new ++ [] → old ≡ []
no_segment_left old new n z r e = let k : n - 1 ≡ 0 = omega (arith, z) in e ∙ (rw (r, k) refl)

pub only_first : (first : Option Space) (others : List Space) (p : Space) (rest : List Out) → first ≡ Some p → others ≡ [] → pairs (spaces_of first others) rest ≡ pair p ∷ rest
only_first first others p rest e f = rw (e, f) refl

pub same_pair : (m n : ℕ) (a b : Bool) → m ≡ n → a ≡ b → (let left : Out = record { length = m; is_provided = a } in let right : Out = record { length = n; is_provided = b } in left ≡ right)
same_pair m n a b e f = cc

-- a segment that is written keeps the others out
pub edit_keeps : {A : Type 0} (out : A → List Out → Type 0) (old new : BuilderState A) (i : ℕ) (s : Space) → pair s ≡ pair (space_at old.spaces i)
    → new ≡ with_space old i s → KeepsOthers out old new
edit_keeps {A = A} out old new i s same e = λ others is.
    subst (λ (h : BuilderState A). out h.allocator (pairs h.spaces others)) (sym e)
    (subst (λ (l : List Out). out old.allocator l) (sym (pairs_set old.spaces i s others same)) is)
