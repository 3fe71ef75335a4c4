-- A person or a contact as a value fails only since it, or a part of it, is too large. So what is said of the
-- value's errors is said of its one tree.
use Rattle.std.proofs.Common.{◌≡◌, ◌⊎◌, inl, inr, ◌+◌, ◌*◌, ◌^◌, ◌<◌, ◌≤◌, ℕ, List, [], ◌∷◌, length, map, Bool, false, true, zero, suc, Option, Result, Ok, Err, IfErr, refl, sym, ap, subst, arith}
use Rattle.std.specs.Prelude.{Any}
use Rattle.std.proofs.lemmas.List.{length-map}
use Rattle.capnp_frame.specs.declared.error.Error.{Error}
use Rattle.capnp_frame.specs.declared.error.ErrorKind.{ErrorKind}
use Rattle.capnp_wire.specs.Prelude.{Trees, struct, structs, none, tree, total_words, HasWords, WordsError, IsTextTree, LongText}
use Rattle.capnp_values.specs.Fields.{IsValueInFront, FieldsError}
use Rattle.capnp_values.specs.Structs.{IsStructTree, StructError}
use Rattle.capnp_values.specs.StructLists.{ElementsError, IsStructListTree, StructListError}
use Rattle.capnp_build.specs.Prelude.{Space, Built, FindsNoRoom, FailsFirstSegment, ClearedRootError}
use Rattle.capnp_build.specs.declared.allocator.Allocator.{Ghosts}
use Rattle.capnp_uses.specs.Roots.{SetCanonicalError, StaysUnset, StaysUnread}
use Rattle.capnp_uses.specs.People.{text_tree, texts, person_tree, phones_tree, contact_tree, TooLargeError}
use Rattle.capnp_uses.proofs.UniqueContactTreeLemmas.{whole_address, whole_list}

any_here : {X : Type 0} (P : X → Type 0) (x : X) (xs : List X) → P x → Any P (x ∷ xs)
any_here P x xs holds = (0, x, omega arith, refl, holds)

any_next : {X : Type 0} (P : X → Type 0) (x : X) (xs : List X) → Any P xs → Any P (x ∷ xs)
any_next P x xs (k, y, below, is, holds) = (suc k, y, omega (arith, below), is, holds)

-- whatever is an error by `fails` is one by `fact`
abbrev pub Blames : (ErrorKind → Type 0) → (ErrorKind → Type 0) → Type 0
Blames fails fact = (kind : ErrorKind) → fails kind → fact kind

-- Parts of a value whose tree is `whole`: what is too large there is too large in all.

words_error_blames : (found : List (List ℕ)) (whole : Trees) (has : Trees → Type 0) (fails : ErrorKind → Type 0) → Blames fails (TooLargeError found whole)
    → ((t : Trees) → has t → total_words t ≤ total_words whole) → Blames (λ kind. WordsError has fails false kind) (TooLargeError found whole)
words_error_blames found whole has fails blames within kind (inl errors) = blames kind errors
words_error_blames found whole has fails blames within kind (inr (t, is, many, kind_is)) = inr (omega (arith, within t is, many), (_, kind_is))

fields_blame : (found : List (List ℕ)) (whole : Trees) (has : Trees → Type 0) (fails others : ErrorKind → Type 0) → Blames fails (TooLargeError found whole)
    → ((t : Trees) → has t → total_words t ≤ total_words whole) → Blames others (TooLargeError found whole) → Blames (λ kind. FieldsError has fails others kind) (TooLargeError found whole)
fields_blame found whole has fails others blames within rest kind (inl words_error) = words_error_blames found whole has fails blames within kind words_error
fields_blame found whole has fails others blames within rest kind (inr errors) = rest kind errors.2

struct_blames : (words size : ℕ) (fails fact : ErrorKind → Type 0) → words < 2 ^ 16 → size < 2 ^ 16 → Blames fails fact → Blames (λ kind. StructError words size fails kind) fact
struct_blames words size fails fact few few_pointers blames kind (inl (inl many, kind_is)) = absurd (omega (arith, many, few))
struct_blames words size fails fact few few_pointers blames kind (inl (inr many, kind_is)) = absurd (omega (arith, many, few_pointers))
struct_blames words size fails fact few few_pointers blames kind (inr errors) = blames kind errors.2

none_blames : (fact : ErrorKind → Type 0) → Blames (λ kind. ⊥) fact
none_blames fact kind errors = absurd errors

-- one text in a struct, in front of other trees or none
text_blames : (bytes : List ℕ) (found : List (List ℕ)) (whole : Trees) (others : ErrorKind → Type 0) → Blames (LongText bytes) (λ kind. Any (λ b. LongText b kind) found)
    → total_words (text_tree bytes none) ≤ total_words whole → Blames others (TooLargeError found whole)
    → Blames (λ kind. FieldsError (λ t. IsTextTree bytes t) (λ k. LongText bytes k) others kind) (TooLargeError found whole)
text_blames bytes found whole others listed within rest = fields_blame found whole (λ t. IsTextTree bytes t) (λ k. LongText bytes k) others (λ kind long. inl (listed kind long))
    (λ t is. subst (λ (x : Trees). total_words x ≤ total_words whole) (sym is.1) within) rest

-- the texts of some structs
elements_blame : {V : Type 0} (f : V → List ℕ) (found : List (List ℕ)) (whole : Trees) (values : List V)
    → Blames (λ kind. Any (λ b. LongText b kind) (map f values)) (λ kind. Any (λ b. LongText b kind) found) → total_words (texts (map f values)) ≤ total_words whole
    → Blames (λ kind. ElementsError (λ v u. IsValueInFront (λ x. IsTextTree (f v) x) (λ x. x ≡ none) u) (λ v m. FieldsError (λ x. IsTextTree (f v) x) (λ n. LongText (f v) n) (λ n. ⊥) m) values kind)
    (TooLargeError found whole)
elements_blame f found whole [] listed within kind errors = absurd errors
elements_blame f found whole (value ∷ values) listed within kind (inl errors) =
    text_blames (f value) found whole (λ n. ⊥) (λ k long. listed k (any_here (λ b. LongText b k) (f value) (map f values) long)) (omega (arith, within)) (none_blames (TooLargeError found whole)) kind errors
elements_blame f found whole (value ∷ values) listed within kind (inr errors) =
    elements_blame f found whole values (λ k long. listed k (any_next (λ b. LongText b k) (f value) (map f values) long)) (omega (arith, within)) kind errors.2

-- the words of a list of structs of a word and a pointer
list_words : (words : List (List ℕ)) (bytes : List (List ℕ)) → total_words (phones_tree words bytes) ≡ 1 + length words * 2 + total_words (texts bytes)
list_words words bytes = omega arith

-- a list of such structs
list_blames : {V : Type 0} (w f : V → List ℕ) (found : List (List ℕ)) (whole : Trees) (values : List V)
    → Blames (λ kind. Any (λ b. LongText b kind) (map f values)) (λ kind. Any (λ b. LongText b kind) found) → total_words (phones_tree (map w values) (map f values)) ≤ total_words whole
    → Blames (λ kind. StructListError (λ v u. IsValueInFront (λ x. IsTextTree (f v) x) (λ x. x ≡ none) u)
    (λ v m. FieldsError (λ x. IsTextTree (f v) x) (λ n. LongText (f v) n) (λ n. ⊥) m) 1 1 values kind) (TooLargeError found whole)
list_blames w f found whole values listed within kind (inl (inl (inl many, kind_is))) = absurd (omega (arith, many))
list_blames w f found whole values listed within kind (inl (inl (inr many, kind_is))) = absurd (omega (arith, many))
list_blames w f found whole values listed within kind (inl (inr (inl (d, p, many, kind_is)))) =
    inr (omega (arith, many, within, list_words (map w values) (map f values), length-map values w), (_, kind_is))
list_blames w f found whole values listed within kind (inl (inr (inr (d, p, few, many, kind_is)))) =
    inr (omega (arith, many, within, list_words (map w values) (map f values), length-map values w), (_, kind_is))
list_blames w f found whole values listed within kind (inr errors) =
    elements_blame f found whole values listed (omega (arith, within, list_words (map w values) (map f values))) kind errors.4

-- a person
person_blames : (words name address city : List ℕ) → length words < 2 ^ 16 → length address < 2 ^ 16
    → Blames (λ kind. StructError (length words) 2 (λ k. FieldsError (λ t. IsTextTree name t) (λ j. LongText name j)
    (λ j. FieldsError (λ t. IsStructTree address 1 (λ u. IsValueInFront (λ v. IsTextTree city v) (λ v. v ≡ none) u) t)
    (λ i. StructError (length address) 1 (λ h. FieldsError (λ t. IsTextTree city t) (λ g. LongText city g) (λ g. ⊥) h) i) (λ i. ⊥) j) k) kind)
    (TooLargeError (name ∷ city ∷ []) (tree (struct words) (text_tree name (tree (struct address) (text_tree city none) none)) none))
person_blames words name address city few none_few =
    let home = tree (struct address) (text_tree city none) none in
    let whole = tree (struct words) (text_tree name home) none in
    let found = name ∷ city ∷ [] in
    let lived : total_words home ≤ total_words whole = omega arith in
    let city_blames = text_blames city found whole (λ g. ⊥)
    (λ k long. any_next (λ b. LongText b k) name (city ∷ []) (any_here (λ b. LongText b k) city [] long)) (omega arith) (none_blames (TooLargeError found whole)) in
    let home_blames = fields_blame found whole (λ t. IsStructTree address 1 (λ u. IsValueInFront (λ v. IsTextTree city v) (λ v. v ≡ none) u) t) _ (λ i. ⊥)
    (struct_blames (length address) 1 _ (TooLargeError found whole) none_few (omega arith) city_blames)
    (λ t is. subst (λ (x : Trees). total_words x ≤ total_words whole) (sym (whole_address address city t is)) lived) (none_blames (TooLargeError found whole)) in
    struct_blames (length words) 2 _ (TooLargeError found whole) few (omega arith)
    (text_blames name found whole _ (λ k long. any_here (λ b. LongText b k) name (city ∷ []) long) (omega arith) home_blames)

pub person_fails : (words : List ℕ) (id : ℕ) (n address c name city : List ℕ) → words ≡ id ∷ [] → n ≡ name → address ≡ [] → c ≡ city
    → Blames (λ kind. StructError (length words) 2 (λ k. FieldsError (λ t. IsTextTree n t) (λ j. LongText n j)
    (λ j. FieldsError (λ t. IsStructTree address 1 (λ u. IsValueInFront (λ v. IsTextTree c v) (λ v. v ≡ none) u) t)
    (λ i. StructError (length address) 1 (λ h. FieldsError (λ t. IsTextTree c t) (λ g. LongText c g) (λ g. ⊥) h) i) (λ i. ⊥) j) k) kind)
    (TooLargeError (name ∷ city ∷ []) (person_tree id name city))
person_fails words id n address c name city words_are n_is address_is c_is kind errors =
    let here = person_blames words n address c (omega (arith, ap length words_are)) (omega (arith, ap length address_is)) kind errors in
    let numbered = subst (λ (l : List ℕ). TooLargeError (n ∷ c ∷ []) (tree (struct l) (text_tree n (tree (struct address) (text_tree c none) none)) none) kind) words_are here in
    let housed = subst (λ (l : List ℕ). TooLargeError (n ∷ c ∷ []) (tree (struct (id ∷ [])) (text_tree n (tree (struct l) (text_tree c none) none)) none) kind) address_is numbered in
    let named = subst (λ (l : List ℕ). TooLargeError (l ∷ c ∷ []) (person_tree id l c) kind) n_is housed in
    subst (λ (l : List ℕ). TooLargeError (name ∷ l ∷ []) (person_tree id name l) kind) c_is named

-- a contact
contact_blames : {V : Type 0} (w f : V → List ℕ) (phones : List V) (words name mail : List ℕ) → length words < 2 ^ 16
    → Blames (λ kind. StructError (length words) 3 (λ k. FieldsError (λ t. IsTextTree name t) (λ j. LongText name j)
    (λ j. FieldsError (λ t. IsTextTree mail t) (λ h. LongText mail h)
    (λ h. FieldsError (λ t. IsStructListTree w (λ v u. IsValueInFront (λ x. IsTextTree (f v) x) (λ x. x ≡ none) u) 1 1 phones t)
    (λ g. StructListError (λ v u. IsValueInFront (λ x. IsTextTree (f v) x) (λ x. x ≡ none) u)
    (λ v m. FieldsError (λ x. IsTextTree (f v) x) (λ n. LongText (f v) n) (λ n. ⊥) m) 1 1 phones g) (λ g. ⊥) h) j) k) kind)
    (TooLargeError (name ∷ mail ∷ map f phones) (tree (struct words) (text_tree name (text_tree mail (phones_tree (map w phones) (map f phones)))) none))
contact_blames w f phones words name mail few =
    let list = phones_tree (map w phones) (map f phones) in
    let whole = tree (struct words) (text_tree name (text_tree mail list)) none in
    let others = map f phones in
    let found = name ∷ mail ∷ others in
    let listed : total_words list ≤ total_words whole = omega arith in
    let list_blamed = list_blames w f found whole phones (λ k long. any_next (λ b. LongText b k) name (mail ∷ others) (any_next (λ b. LongText b k) mail others long)) listed in
    let phones_blame = fields_blame found whole (λ t. IsStructListTree w (λ v u. IsValueInFront (λ x. IsTextTree (f v) x) (λ x. x ≡ none) u) 1 1 phones t) _ (λ g. ⊥) list_blamed
    (λ t is. subst (λ (x : Trees). total_words x ≤ total_words whole) (sym (whole_list w f phones t is)) listed) (none_blames (TooLargeError found whole)) in
    struct_blames (length words) 3 _ (TooLargeError found whole) few (omega arith)
    (text_blames name found whole _ (λ k long. any_here (λ b. LongText b k) name (mail ∷ others) long) (omega arith)
    (text_blames mail found whole _ (λ k long. any_next (λ b. LongText b k) name (mail ∷ others) (any_here (λ b. LongText b k) mail others long)) (omega arith) phones_blame))

pub contact_fails : {V : Type 0} (w f : V → List ℕ) (vs phones : List V) (words : List ℕ) (id : ℕ) (n m name mail : List ℕ) → words ≡ id ∷ [] → n ≡ name → m ≡ mail → vs ≡ phones
    → Blames (λ kind. StructError (length words) 3 (λ k. FieldsError (λ t. IsTextTree n t) (λ j. LongText n j)
    (λ j. FieldsError (λ t. IsTextTree m t) (λ h. LongText m h)
    (λ h. FieldsError (λ t. IsStructListTree w (λ v u. IsValueInFront (λ x. IsTextTree (f v) x) (λ x. x ≡ none) u) 1 1 vs t)
    (λ g. StructListError (λ v u. IsValueInFront (λ x. IsTextTree (f v) x) (λ x. x ≡ none) u)
    (λ v m. FieldsError (λ x. IsTextTree (f v) x) (λ n. LongText (f v) n) (λ n. ⊥) m) 1 1 vs g) (λ g. ⊥) h) j) k) kind)
    (TooLargeError (name ∷ mail ∷ map f phones) (contact_tree id name mail (map w phones) (map f phones)))
contact_fails {V = V} w f vs phones words id n m name mail words_are n_is m_is vs_are kind errors =
    let here = contact_blames w f vs words n m (omega (arith, ap length words_are)) kind errors in
    let numbered = subst (λ (l : List ℕ). TooLargeError (n ∷ m ∷ map f vs) (tree (struct l) (text_tree n (text_tree m (phones_tree (map w vs) (map f vs)))) none) kind) words_are here in
    let named = subst (λ (l : List ℕ). TooLargeError (l ∷ m ∷ map f vs) (contact_tree id l m (map w vs) (map f vs)) kind) n_is numbered in
    let mailed = subst (λ (l : List ℕ). TooLargeError (name ∷ l ∷ map f vs) (contact_tree id name l (map w vs) (map f vs)) kind) m_is named in
    subst (λ (l : List V). TooLargeError (name ∷ mail ∷ map f l) (contact_tree id name mail (map w l) (map f l)) kind) vs_are mailed

-- A value that is one tree, and fails as is said of this tree.

words_as : (has : Trees → Type 0) (whole : Trees) → ((t : Trees) → has t → t ≡ whole) → (canonical : Bool) (words : ℕ) → HasWords has canonical words
    → HasWords (λ t. t ≡ whole) canonical words
words_as has whole one canonical words w = record { trees = w.trees; tree_is = one w.trees w.tree_is; rooms = w.rooms; words_are = w.words_are; few = w.few }

words_error_as : (has : Trees → Type 0) (fails fact : ErrorKind → Type 0) (whole : Trees) → ((t : Trees) → has t → t ≡ whole) → Blames fails fact → (canonical : Bool) (kind : ErrorKind)
    → WordsError has fails canonical kind → WordsError (λ t. t ≡ whole) fact canonical kind
words_error_as has fails fact whole one blames canonical kind (inl errors) = inl (blames kind errors)
words_error_as has fails fact whole one blames canonical kind (inr (t, is, many, kind_is)) = inr (t, one t is, many, kind_is)

unset_as : {A S : Type 0} (alloc : Ghosts A S) (has : Trees → Type 0) (fails fact : ErrorKind → Type 0) (whole : Trees) → ((t : Trees) → has t → t ≡ whole) → Blames fails fact
    → (old : Built A) (new : List Space) (kind : ErrorKind) → WordsError has fails false kind ⊎ FailsFirstSegment alloc old new kind ⊎ FindsNoRoom alloc (HasWords has false) old new kind
    → WordsError (λ t. t ≡ whole) fact false kind ⊎ FailsFirstSegment alloc old new kind ⊎ FindsNoRoom alloc (HasWords (λ t. t ≡ whole) false) old new kind
unset_as alloc has fails fact whole one blames old new kind (inl words_error) = inl (words_error_as has fails fact whole one blames false kind words_error)
unset_as alloc has fails fact whole one blames old new kind (inr (inl first)) = inr (inl first)
unset_as alloc has fails fact whole one blames old new kind (inr (inr no_room)) = inr (inr (record {
  words = no_room.words;
  words_are = words_as has whole one false no_room.words no_room.words_are;
  full = no_room.full;
  asked = no_room.asked;
  segment_error = no_room.segment_error;
  stays = no_room.stays;
  same = no_room.same;
}))

unread_as : {A S : Type 0} (alloc : Ghosts A S) (has : Trees → Type 0) (whole : Trees) → ((t : Trees) → has t → t ≡ whole) → (limit : Option ℕ) (old new : Built A) (kind : ErrorKind)
    → StaysUnread alloc has limit old new kind → StaysUnread alloc (λ t. t ≡ whole) limit old new kind
unread_as alloc has whole one limit old new kind unread =
    let set = unread.set in
    let put = unread.placed in
    record {
      set = record { trees = set.trees; tree_is = one set.trees set.tree_is; traversed = set.traversed; is_at = set.is_at };
      placed = record {
        cleared = put.cleared;
        words = put.words;
        is_cleared = put.is_cleared;
        words_are = words_as has whole one false put.words put.words_are;
        placed = put.placed;
        first = put.first;
        granted = put.granted;
        zero = put.zero;
        outside = put.outside;
      };
      errors = unread.errors;
    }

-- why it is not read back
pub back_as : {A S X : Type 0} (alloc : Ghosts A S) (has : Trees → Type 0) (fails fact : ErrorKind → Type 0) (whole : Trees) → ((t : Trees) → has t → t ≡ whole) → Blames fails fact
    → (limit : Option ℕ) (old new : Built A) (r : Result X Error) → IfErr r (λ e. StaysUnset alloc has fails old new e.kind ⊎ StaysUnread alloc has limit old new e.kind)
    → IfErr r (λ e. StaysUnset alloc (λ t. t ≡ whole) fact old new e.kind ⊎ StaysUnread alloc (λ t. t ≡ whole) limit old new e.kind)
back_as alloc has fails fact whole one blames limit old new (Ok x) errors = tt
back_as alloc has fails fact whole one blames limit old new (Err e) (inl unset) =
    inl (record { cleared = unset.cleared; errors = unset_as alloc has fails fact whole one blames old new.spaces e.kind unset.errors })
back_as alloc has fails fact whole one blames limit old new (Err e) (inr unread) = inr (unread_as alloc has whole one limit old new e.kind unread)

-- and why its canonical form does not become the one segment
canonical_as : (has : Trees → Type 0) (fails fact : ErrorKind → Type 0) (whole : Trees) → ((t : Trees) → has t → t ≡ whole) → Blames fails fact → (spaces : List Space) (kind : ErrorKind)
    → ClearedRootError has fails spaces kind → ClearedRootError (λ t. t ≡ whole) fact spaces kind
canonical_as has fails fact whole one blames spaces kind (inl more) = inl more
canonical_as has fails fact whole one blames spaces kind (inr (inl (alone, words_error))) = inr (inl (alone, words_error_as has fails fact whole one blames true kind words_error))
canonical_as has fails fact whole one blames spaces kind (inr (inr (alone, kind_is, (words, measured, full)))) =
    inr (inr (alone, kind_is, (words, words_as has whole one true words measured, full)))

pub alone_as : {A S X : Type 0} (alloc : Ghosts A S) (has : Trees → Type 0) (fails fact : ErrorKind → Type 0) (whole : Trees) → ((t : Trees) → has t → t ≡ whole) → Blames fails fact
    → (old new : Built A) (r : Result X Error) → IfErr r (λ e. SetCanonicalError alloc has fails old new e.kind) → IfErr r (λ e. SetCanonicalError alloc (λ t. t ≡ whole) fact old new e.kind)
alone_as alloc has fails fact whole one blames old new (Ok x) errors = tt
alone_as alloc has fails fact whole one blames old new (Err e) (inl first) = inl first
alone_as alloc has fails fact whole one blames old new (Err e) (inr errors) = inr (canonical_as has fails fact whole one blames new.spaces e.kind errors)
