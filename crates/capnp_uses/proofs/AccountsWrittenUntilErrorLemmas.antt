-- Lists of accounts that are written one by one, and why that fails.
use Rattle.std.proofs.Common.{◌≡◌, ◌⊎◌, inl, inr, ℕ, ◌+◌, ◌*◌, ◌/◌, ◌%◌, ◌^◌, ◌<◌, ◌≤◌, List, [], ◌∷◌, ◌++◌, length, map, take, Option, Some, None, MatchOption, Result, Ok, Err, IfErr, slice_index_or, false, refl, sym, ap, ◌∙◌, subst, arith}
use Rattle.std.specs.Prelude.{sum_by, OnOk}
use Rattle.std.proofs.lemmas.List.{take_all, take_more, length-append, map-append, append_assoc}
use Rattle.std.proofs.lemmas.List.Elements.{Contains-get_or}
use Rattle.std.proofs.lemmas.List.Sums.{sum_by_more, sum_by_more_le}
use Rattle.capnp_frame.specs.declared.error.Error.{Error}
use Rattle.capnp_frame.specs.declared.error.ErrorKind.{ErrorKind}
use Rattle.capnp_frame.specs.declared.error.ErrorKind.TheVariants.{OutOfMemory, AllocationTooLarge}
use Rattle.capnp_wire.specs.Prelude.{structs, Trees, none, tree, total_words, IsTextTree, LongText, HasWords, WordsError}
use Rattle.capnp_values.specs.DataSections.{with_bits, with_field}
use Rattle.capnp_orphans.specs.declared.draft.StructDraft.{StructDraft}
use Rattle.capnp_orphans.specs.Segments.{Segment, body_of, Appends}
use Rattle.capnp_orphans.specs.Holds.{HoldsValue, HoldsStructs, AreValues, TakesStructsWords, ManyStructs, words_of_each, adopted_by}
use Rattle.capnp_orphans.specs.Adding.{Keeps, AddsOrphan, RoomError}
use Rattle.capnp_orphans.specs.OrphanLaws.{keeps_on, one_value_more, their_trees, structs_value}
use Rattle.capnp_uses.specs.declared.account.Owned.{Owned}
use Rattle.capnp_uses.specs.declared.account_list.NewAccount.{NewAccount}
use Rattle.capnp_uses.specs.AccountLists.{IsName, IsAccountList, name_words, list_words, IsFullFor, ObjectTooLarge, AccountsError}

-- a number fills its word
pub whole_word : (words : List ℕ) (id : ℕ) → words ≡ 0 ∷ [] → id < 2 ^ 64 → with_field words 64 0 id ≡ id ∷ []
unfolding with_field with_bits
whole_word words id is few =
    let same : (0 + 1 * (id + 2 ^ 64 * (0 / 2 ^ 64))) % 2 ^ 64 ≡ id = omega arith in
    rw is (ap (λ (k : ℕ). k ∷ []) same)

-- an account before it is written
abbrev pub Drafted : Type 0
Drafted = StructDraft Owned 1 1

-- The names of these accounts are written, and nothing else; each is adopted by a draft of its account.
pub record AreDrafted (accounts : List NewAccount) (old new : Segment) (drafts : List Drafted) : Type 0 where
  pub keeps : Keeps old new
  pub names : AreValues IsName (body_of new) accounts (adopted_by drafts)
  pub elements : words_of_each drafts ≡ map (λ (account : NewAccount). account.id ∷ []) accounts
  pub bytes : length new.bytes ≡ length old.bytes + 8 * sum_by name_words accounts
  pub most : new.most ≡ old.most
  pub count : length drafts ≡ length accounts

adopted_more : (drafts : List Drafted) (draft : Drafted) (word : ℕ) → draft.pointers ≡ word ∷ [] → adopted_by (drafts ++ draft ∷ []) ≡ adopted_by drafts ++ word ∷ []
adopted_more [] draft word is = rw is refl
adopted_more (other ∷ drafts) draft word is =
    ap (λ (l : List ℕ). other.pointers ++ l) (adopted_more drafts draft word is) ∙ sym (append_assoc other.pointers (adopted_by drafts) (word ∷ []))

words_of_more : (drafts : List Drafted) (draft : Drafted) → words_of_each (drafts ++ draft ∷ []) ≡ words_of_each drafts ++ draft.words ∷ []
words_of_more [] draft = refl
words_of_more (other ∷ drafts) draft = ap (λ (l : List (List ℕ)). other.words ∷ l) (words_of_more drafts draft)

-- the words of a name
text_words : (bytes : List ℕ) (words : ℕ) → HasWords (IsTextTree bytes) false words → words ≡ length bytes / 8 + 1
text_words bytes words has =
    let len : length (bytes ++ 0 ∷ []) ≡ length bytes + 1 = length-append bytes (0 ∷ []) in
    let is : words ≡ (length (bytes ++ 0 ∷ []) * 8 + 63) / 64 + 0 + 0 = has.words_are ∙ ap (λ (t : Trees). total_words t) has.tree_is.1 in
    omega (arith, is, len)

appended_len : (words : ℕ) (old new : Segment) → Appends words old new → length new.bytes ≡ length old.bytes + 8 * words
appended_len words old new appends =
    ap (λ (l : List ℕ). length l) appends.bytes_are ∙ length-append old.bytes appends.block ∙ ap (λ (k : ℕ). length old.bytes + k) appends.len

-- one account more
pub drafted_next : (accounts : List NewAccount) (i : ℕ) (d : NewAccount) (old new after : Segment) (drafts pushed : List Drafted) (draft : Drafted) (word words : ℕ)
    → i < length accounts → AreDrafted (take i accounts) old new drafts → Keeps new after
    → HoldsValue (IsTextTree (slice_index_or accounts i d).name.now) (body_of after) word → HasWords (IsTextTree (slice_index_or accounts i d).name.now) false words
    → Appends words new after → after.most ≡ new.most
    → pushed ≡ drafts ++ draft ∷ [] → draft.words ≡ (slice_index_or accounts i d).id ∷ [] → draft.pointers ≡ word ∷ [] → AreDrafted (take (i + 1) accounts) old after pushed
drafted_next accounts i d old new after drafts pushed draft word words within are keeps holds has appends most is words_are pointers_are =
    let account : NewAccount = slice_index_or accounts i d in
    let more : take (i + 1) accounts ≡ take i accounts ++ account ∷ [] = take_more accounts i d within in
    let sum : sum_by name_words (take (i + 1) accounts) ≡ sum_by name_words (take i accounts) + name_words account = sum_by_more name_words accounts i d within in
    let words_of_one : NewAccount → List ℕ = λ x. x.id ∷ [] in
    rw is (record {
      keeps = keeps_on old new after are.keeps keeps;
      names = rw (more, adopted_more drafts draft word pointers_are) (one_value_more IsName new after (take i accounts) (adopted_by drafts) account word keeps are.names holds);
      elements = words_of_more drafts draft ∙ ap (λ (l : List (List ℕ)). l ++ draft.words ∷ []) are.elements ∙ ap (λ (l : List ℕ). map words_of_one (take i accounts) ++ l ∷ []) words_are
          ∙ sym (map-append words_of_one (take i accounts) (account ∷ [])) ∙ ap (λ (l : List NewAccount). map words_of_one l) (sym more);
      bytes = let one = appended_len words new after appends in let two = text_words account.name.now words has in let three = are.bytes in omega (arith, one, two, three, sum);
      most = most ∙ are.most;
      count = length-append drafts (draft ∷ []) ∙ ap (λ (k : ℕ). k + 1) are.count ∙ sym (length-append (take i accounts) (account ∷ [])) ∙ ap (λ (l : List NewAccount). length l) (sym more);
    })

-- the list of them
pub list_drafted : {T : Type 0} (accounts : List NewAccount) (old new after : Segment) (drafts : List Drafted) (word : T → ℕ) (result : Result T Error) → AreDrafted accounts old new drafts
    → AddsOrphan (HoldsStructs (body_of new) drafts) new after word result → AddsOrphan (HoldsValue (IsAccountList accounts)) old after word result
list_drafted accounts old new after drafts word result are adds =
    let t = their_trees IsName (body_of new) accounts (adopted_by drafts) are.names in
    record {
      keeps = keeps_on old new after are.keeps adds.keeps;
      orphan = structs_value (body_of new) (body_of after) drafts t.0 (IsAccountList accounts) word result t.1
          (t.0, t.2, ap (λ (elements : List (List ℕ)). tree (structs 1 1 elements) t.0 none) are.elements) adds.orphan;
    }

pub list_len : {T : Type 0} (accounts : List NewAccount) (old new after : Segment) (drafts : List Drafted) (result : Result T Error) → AreDrafted accounts old new drafts
    → OnOk result ((words : ℕ) × TakesStructsWords 1 1 (length drafts) words × Appends words new after) → OnOk result (length after.bytes ≡ length old.bytes + 8 * list_words accounts)
list_len accounts old new after drafts (Ok x) are (words, takes, appends) =
    let one = appended_len words new after appends in
    omega (arith, one, are.bytes, are.count, takes.2)
list_len accounts old new after drafts (Err e) are appended = tt

-- a segment with no room for some of the words
region_full : (old new : Option ℕ) (kind : ErrorKind) (needs whole words : ℕ) → new ≡ old → needs ≤ whole
    → MatchOption new (kind ≡ OutOfMemory) (λ most. (most < needs) × (kind ≡ AllocationTooLarge words))
    → (kind ≡ OutOfMemory) ⊎ (MatchOption old ⊥ (λ most. most < whole) × (kind ≡ AllocationTooLarge words))
region_full None None kind needs whole words same within is = inl is
region_full (Some m) (Some n) kind needs whole words same within is = let equal : n ≡ m = cc in inr (omega (arith, is.0, equal, within), is.1)
region_full None (Some n) kind needs whole words same within is = absurd (cc)
region_full (Some m) None kind needs whole words same within is = absurd (cc)

full_for : (total words done : ℕ) (old new : Segment) (kind : ErrorKind) → length new.bytes ≡ length old.bytes + 8 * done → new.most ≡ old.most → done + words ≤ total
    → RoomError words new kind → (kind ≡ OutOfMemory) ⊎ (IsFullFor total old × (kind ≡ AllocationTooLarge words))
full_for total words done old new kind bytes same within (inl (full, is)) = inr (inl (omega (arith, bytes, full, within)), is)
full_for total words done old new kind bytes same within (inr (few, (needs, is))) =
    elim (region_full old.most new.most kind (length new.bytes + 8 * words) (length old.bytes + 8 * total) words same (omega (arith, bytes, within)) is) [
      | inl memory ↦ inl memory
      | inr full ↦ inr (inr full.0, full.1)
    ]

list_room_error : (accounts : List NewAccount) (words : ℕ) (old : Segment) (kind : ErrorKind) → (kind ≡ AllocationTooLarge words → ObjectTooLarge accounts kind)
    → (kind ≡ OutOfMemory) ⊎ (IsFullFor (list_words accounts) old × (kind ≡ AllocationTooLarge words)) → AccountsError accounts old kind
list_room_error accounts words old kind of_object (inl memory) = inl memory
list_room_error accounts words old kind of_object (inr full) = inr (inr (inr (full.0, of_object full.1)))

-- why a name is not written
pub name_error : (accounts : List NewAccount) (i : ℕ) (d : NewAccount) (old new : Segment) (drafts : List Drafted) (kind : ErrorKind) → i < length accounts
    → AreDrafted (take i accounts) old new drafts
    → WordsError (IsTextTree (slice_index_or accounts i d).name.now) (LongText (slice_index_or accounts i d).name.now) false kind
    ⊎ ((words : ℕ) × HasWords (IsTextTree (slice_index_or accounts i d).name.now) false words × RoomError words new kind)
    → AccountsError accounts old kind
name_error accounts i d old new drafts kind within are (inl (inl long)) =
    let there = Contains-get_or accounts i d within in
    inr (inl (there.0, slice_index_or accounts i d, there.1, there.2, long))
name_error accounts i d old new drafts kind within are (inl (inr (trees, is, many, reported))) =
    let name : List ℕ = (slice_index_or accounts i d).name.now in
    let len : length (name ++ 0 ∷ []) ≡ length name + 1 = length-append name (0 ∷ []) in
    let few = is.0 in
    let total : total_words trees ≡ (length (name ++ 0 ∷ []) * 8 + 63) / 64 + 0 + 0 = ap (λ (t : Trees). total_words t) is.1 in
    absurd (omega (arith, many, total, few, len))
name_error accounts i d old new drafts kind within are (inr (words, has, room_error)) =
    let sum : sum_by name_words (take i accounts) + name_words (slice_index_or accounts i d) ≤ sum_by name_words accounts = sum_by_more_le name_words accounts i d within in
    let one = text_words (slice_index_or accounts i d).name.now words has in
    let there = Contains-get_or accounts i d within in
    list_room_error accounts words old kind (λ is. inl (there.0, slice_index_or accounts i d, there.1, there.2, is ∙ ap (λ (n : ℕ). AllocationTooLarge n) one))
    (full_for (list_words accounts) words (sum_by name_words (take i accounts)) old new kind are.bytes are.most (omega (arith, sum, one)) room_error)

-- why the list is not
pub account_list_error : (accounts : List NewAccount) (old new : Segment) (drafts : List Drafted) (kind : ErrorKind) → AreDrafted accounts old new drafts
    → ManyStructs 1 1 (length drafts) kind ⊎ ((words : ℕ) × TakesStructsWords 1 1 (length drafts) words × RoomError words new kind) → AccountsError accounts old kind
account_list_error accounts old new drafts kind are (inl (inl (inl large, is))) = absurd (omega (arith, large))
account_list_error accounts old new drafts kind are (inl (inl (inr large, is))) = absurd (omega (arith, large))
account_list_error accounts old new drafts kind are (inl (inr many)) = inr (inr (inl (subst (λ (n : ℕ). ManyStructs 1 1 n kind) are.count (inr many))))
account_list_error accounts old new drafts kind are (inr (words, takes, room_error)) =
    let size : words ≡ 1 + 2 * length accounts = omega (arith, takes.2, are.count) in
    list_room_error accounts words old kind (λ is. inr (is ∙ ap (λ (n : ℕ). AllocationTooLarge n) size))
    (full_for (list_words accounts) words (sum_by name_words accounts) old new kind are.bytes are.most (omega (arith, takes.2, are.count)) room_error)

pub list_kind : {T : Type 0} (accounts : List NewAccount) (old new : Segment) (drafts : List Drafted) (result : Result T Error) → AreDrafted accounts old new drafts
    → IfErr result (λ error. ManyStructs 1 1 (length drafts) error.kind ⊎ ((words : ℕ) × TakesStructsWords 1 1 (length drafts) words × RoomError words new error.kind))
    → IfErr result (λ error. AccountsError accounts old error.kind)
list_kind accounts old new drafts (Ok x) are kind = tt
list_kind accounts old new drafts (Err e) are kind = account_list_error accounts old new drafts e.kind are kind

-- all of them, once the loop ends
pub all_drafted : (accounts : List NewAccount) (i : ℕ) (old new : Segment) (drafts shown : List Drafted) → length accounts ≤ i → shown ≡ drafts
    → AreDrafted (take i accounts) old new drafts → AreDrafted accounts old new shown
all_drafted accounts i old new drafts shown ends same are =
    let all : take i accounts ≡ accounts = take_all i accounts ends in
    subst (λ (l : List NewAccount). AreDrafted l old new shown) all (subst (λ (l : List Drafted). AreDrafted (take i accounts) old new l) (sym same) are)
