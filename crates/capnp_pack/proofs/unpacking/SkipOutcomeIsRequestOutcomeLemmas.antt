-- Chunks are skipped group by group. Where a group fails or is missing, the call fails as a request for the chunk
-- does.
use Rattle.std.proofs.Common.{◌≡◌, ℕ, ◌+◌, ◌-◌, ◌%◌, ◌<◌, ◌≤◌, ◌⊎◌, inl, inr, Option, Some, None, IfSome, Result, Ok, Err, List, [], ◌∷◌, ◌++◌, length, drop, min, refl, sym, ap, ◌∙◌, subst, arith, append_assoc, length-append}
use Rattle.std.specs.List.{concat}
use Rattle.std.proofs.lemmas.Bool.{cases_lt}
use Rattle.std.proofs.lemmas.List.{drop-append-le}
use Rattle.std.proofs.lemmas.List.Folds.{concat-append}
use Rattle.std.proofs.lemmas.List.Concat.{flat_map-append}
use Rattle.capnp_frame.specs.declared.error.Error.{Error}
use Rattle.capnp_frame.specs.declared.error.ErrorKind.{ErrorKind}
use Rattle.capnp_frame.specs.declared.error.ErrorKind.TheVariants.{DeviceFailed, FailedToFillTheWholeBuffer, PrematureEndOfPackedInput, PackedInputDidNotEndCleanlyOnASegmentBoundary}
use Rattle.capnp_frame.specs.declared.io.Read.{Ghosts}
use Rattle.capnp_frame.specs.Prelude.{FailsOr, IfKnown, IsFront, RequestError}
use Rattle.capnp_frame.proofs.sources.JoinedRequestPartsLemmas.{IfKnown-weaker}
use Rattle.capnp_pack.specs.Prelude.{TakesNext, Group, tagged, zeros, literal, IsGroup, group_encoding, group_words, encoding_of, words_of_groups, Unpacks, group_size, GroupError, PackedError, ChunkError, LeavesOverrun, Overran, FirstGroupError, HasProgress, TakesGroups, BeginsWithGroups, PassesGroups, length-words}
use Rattle.capnp_pack.proofs.words.EachElementLemmas.{AllByRecursion-append}
use Rattle.capnp_pack.proofs.errors.ChunkRequestErrorLemmas.{chunk_group_error, group_meets, chunk_error, end_error, empty_chunk_error, end_before}
use Rattle.capnp_pack.proofs.errors.GroupErrorLemmas.{zeros_size}

-- Groups that are shown

pub passes_taken : (most used filled : ℕ) (shown : List ℕ) (a b c : Option (List ℕ)) → IfSome a (IsFront shown) → b ≡ a
    → IfKnown b c (λ raw left. left ≡ drop used raw) → BeginsWithGroups shown most used filled → IfKnown a c (HasProgress filled)
passes_taken most used filled shown a b c front same gone p = known a c front (subst (λ o. IfKnown o c (λ raw left. left ≡ drop used raw)) same gone)
  where
    known : (a c : Option (List ℕ)) → IfSome a (IsFront shown) → IfKnown a c (λ raw left. left ≡ drop used raw) → IfKnown a c (HasProgress filled)
    known None c front gone = tt
    known (Some x) None front gone = absurd gone
    known (Some x) (Some z) (tail, e) gone =
        let (groups, each, spelled, counted) = p.groups in
        let left : drop used x ≡ drop used shown ++ tail = ap (drop used) e ∙ drop-append-le used shown tail p.used_within in (
          groups,
          each,
          e ∙ ap (λ l. l ++ tail) spelled ∙ append_assoc (encoding_of groups) (drop used shown) tail ∙ ap (λ l. encoding_of groups ++ l) (sym (gone ∙ left)),
          counted,
        )

pub passes_some : (most used filled : ℕ) (shown : List ℕ) (old : Option (List ℕ)) → IfSome old (IsFront shown) → BeginsWithGroups shown most used filled → 0 < filled
    → IfSome old (λ raw. raw ≡ [] → ⊥)
passes_some most used filled shown None front p some = tt
passes_some most used filled shown (Some raw) front p some = λ none. absurd (omega (arith, p.some, p.used_within, ap length front.1, ap length none, length-append shown front.0))

-- A group that is read into an array

-- no group has more than 256 words
group_most : (g : Group) → IsGroup g → group_size g ≤ 2048
group_most (tagged tag word) is = omega (arith, length-append word [], is.2)
group_most (zeros more) is = omega (arith, is, zeros_size more)
group_most (literal word further) is = omega (arith, length-words (word ∷ further) (is.0, is.1), is.2)

-- the room for a group is all that is asked for, or enough for each group
abbrev pub IsRoom : ℕ → ℕ → Type 0
IsRoom most room = (room ≤ most) × ((room ≡ most) ⊎ (2048 ≤ room))

pub skip_room : (most room : ℕ) → room ≡ min most 2048 → IsRoom most room
skip_room most room is = elim (cases_lt most 2048) [ inl less ↦ (omega arith, inl (omega arith)) | inr more ↦ (omega arith, inr (omega arith)) ]

-- a group that does not fit there does not fit into more
over_all : (most room : ℕ) → IsRoom most room → (g : Group) → IsGroup g → room < group_size g → most < group_size g
over_all most room (within, inl same) g is long = omega arith
over_all most room (within, inr large) g is long = let small = group_most g is in absurd (omega arith)

fails_all : (most room : ℕ) (raw : List ℕ) (kind : ErrorKind) → IsRoom most room → FirstGroupError raw room kind → FirstGroupError raw most kind
fails_all most room raw kind is (some, inl cut) = (omega (arith, some, is.0), inl cut)
fails_all most room raw kind is (some, inr (inl (over, why))) = (
  omega (arith, some, is.0),
  inr (inl (record { group = over.group; following = over.following; head = over.head; long = over_all most room is over.group over.head.is over.long }, why)),
)
fails_all most room raw kind is (some, inr (inr (cut, why))) =
    let fits = cut.fits in (
      omega (arith, some, is.0),
      inr (inr (record { group = cut.group; following = cut.following; head = cut.head; fits = omega (arith, fits, is.0); short = cut.short }, why)),
    )

error_all : (most room : ℕ) (old : Option (List ℕ)) (kind : ErrorKind) → IsRoom most room → RequestError FirstGroupError room old kind → RequestError FirstGroupError most old kind
error_all most room None kind is errors = errors
error_all most room (Some raw) kind is errors = fails_all most room raw kind is errors

pub group_skipped : {S : Type 0} (source : Ghosts S) (old new : S) (most : ℕ) (buffer : List ℕ) (r : Result (Option ℕ) Error) → IsRoom most (length buffer)
    → TakesNext source old new (TakesGroups (source.unread old) (source.unread new) buffer) (RequestError FirstGroupError (length buffer) (source.unread old)) r
    → TakesNext source old new (PassesGroups (source.unread old) (source.unread new) most) (RequestError FirstGroupError most (source.unread old)) r
group_skipped source old new most buffer (Ok (Some count)) is takes =
    let (some, within, whole, more, groups, part) = takes.found in
    record { found = (some, omega (arith, within, is.0), whole, more, groups); none = tt; errors = tt; at_end = tt; asked = takes.asked }
group_skipped source old new most buffer (Ok None) is takes = record { found = tt; none = takes.none; errors = tt; at_end = tt; asked = takes.asked }
group_skipped source old new most buffer (Err e) is takes = record {
  found = tt;
  none = tt;
  errors = fails takes.errors;
  at_end = takes.at_end;
  asked = takes.asked;
}
  where
    fails : (e.kind ≡ DeviceFailed) ⊎ RequestError FirstGroupError (length buffer) (source.unread old) e.kind → (e.kind ≡ DeviceFailed) ⊎ RequestError FirstGroupError most (source.unread old) e.kind
    fails (inl device) = inl device
    fails (inr errors) = inr (error_all most (length buffer) (source.unread old) e.kind is errors)

-- a first group that fits some room fails otherwise than by its count
no_over : (n : ℕ) (raw : List ℕ) (kind : ErrorKind) → 2048 ≤ n → FirstGroupError raw n kind → kind ≡ PackedInputDidNotEndCleanlyOnASegmentBoundary → ⊥
no_over n raw kind large (some, inl (cut, why)) is = cc
no_over n raw kind large (some, inr (inl (over, why))) is = let small = group_most over.group over.head.is in let long = over.long in absurd (omega arith)
no_over n raw kind large (some, inr (inr (cut, why))) is = cc

pub over_skipped : {X : Type 0} (most room : ℕ) (old new : Option (List ℕ)) (r : Result X Error) → IsRoom most room → FailsOr r (RequestError FirstGroupError room old)
    → Overran r old new (LeavesOverrun room) → Overran r old new (LeavesOverrun most)
over_skipped most room old new (Ok x) is errors over = tt
over_skipped most room None new (Err e) is errors over = λ here. tt
over_skipped most room (Some raw) new (Err e) (within, inl same) errors over = λ here. subst (λ n. IfKnown (Some raw) new (LeavesOverrun n)) same (over here)
over_skipped most room (Some raw) new (Err e) (within, inr large) (inl device) over = λ here. absurd (other device here)
  where
    other : e.kind ≡ DeviceFailed → e.kind ≡ PackedInputDidNotEndCleanlyOnASegmentBoundary → ⊥
    other p q = cc
over_skipped most room (Some raw) new (Err e) (within, inr large) (inr fails) over = λ here. absurd (no_over room raw e.kind large fails here)

-- A chunk

-- an error after some groups
error_after_groups : (n k : ℕ) (raw left : List ℕ) (kind : ErrorKind) → HasProgress k raw left → PackedError left (n - k) kind → PackedError raw n kind
error_after_groups n k raw left kind (groups, each, spelled, counted) p =
    let words : length (concat (words_of_groups (groups ++ p.groups))) ≡ k + length (concat (words_of_groups p.groups)) =
    ap (λ l. length (concat l)) (flat_map-append group_words groups p.groups) ∙ ap length (concat-append (words_of_groups groups) (words_of_groups p.groups))
    ∙ length-append (concat (words_of_groups groups)) (concat (words_of_groups p.groups)) ∙ ap (λ j. j + length (concat (words_of_groups p.groups))) counted in
    let fewer = p.fewer in
    let rest : (n - k) - length (concat (words_of_groups p.groups)) ≡ n - length (concat (words_of_groups (groups ++ p.groups))) = omega (arith, words) in
    record {
      groups = groups ++ p.groups;
      each = AllByRecursion-append IsGroup groups p.groups each p.each;
      left = p.left;
      spelled = spelled ∙ ap (λ l. encoding_of groups ++ l) p.spelled ∙ sym (append_assoc (encoding_of groups) (encoding_of p.groups) p.left)
          ∙ ap (λ l. l ++ p.left) (sym (flat_map-append group_encoding groups p.groups));
      fewer = omega (arith, words, fewer);
      error = subst (λ j. GroupError p.left j kind) rest p.error;
    }

request_error_after_groups : (n k : ℕ) (a b : Option (List ℕ)) (kind : ErrorKind) → IfKnown a b (HasProgress k) → RequestError PackedError (n - k) b kind → RequestError PackedError n a kind
request_error_after_groups n k None None kind taken errors = errors
request_error_after_groups n k None (Some y) kind taken errors = (y, n - k, errors)
request_error_after_groups n k (Some x) None kind taken errors = absurd taken
request_error_after_groups n k (Some x) (Some y) kind taken errors = error_after_groups n k x y kind taken errors

failed_after_groups : (F : Type 0) (n k : ℕ) (a b : Option (List ℕ)) (kind : ErrorKind) → IfKnown a b (HasProgress k) → F ⊎ RequestError PackedError (n - k) b kind
    → F ⊎ RequestError PackedError n a kind
failed_after_groups F n k a b kind taken (inl failed) = inl failed
failed_after_groups F n k a b kind taken (inr errors) = inr (request_error_after_groups n k a b kind taken errors)

-- a group that can't be taken after these
pub skip_failed : (n k : ℕ) (old mid : Option (List ℕ)) (kind : ErrorKind) → n % 8 ≡ 0 → (0 < k → IfSome old (λ raw. raw ≡ [] → ⊥)) → (k ≡ 0 → mid ≡ old)
    → IfKnown old mid (HasProgress k) → (mid ≡ Some [] → kind ≡ DeviceFailed) → (kind ≡ DeviceFailed) ⊎ RequestError FirstGroupError (n - k) mid kind
    → (kind ≡ DeviceFailed) ⊎ RequestError ChunkError n old kind
skip_failed n k old mid kind whole more start taken end errors =
    chunk_group_error n k old mid kind whole more start end (failed_after_groups _ n k old mid kind taken (group_meets _ (n - k) mid kind errors))

-- or is missing there
pub skip_missing : (n k : ℕ) (old mid : Option (List ℕ)) → n % 8 ≡ 0 → k < n → IfSome old (λ raw. raw ≡ [] → ⊥) → IfKnown old mid (HasProgress k)
    → IfSome mid (λ raw. raw ≡ []) → RequestError ChunkError n old PrematureEndOfPackedInput
skip_missing n k old mid whole fewer more taken none =
    chunk_error n old PrematureEndOfPackedInput whole more (request_error_after_groups n k old mid PrematureEndOfPackedInput taken (end_error (n - k) mid (omega arith) none))

-- or the first group is
pub skip_none : (n : ℕ) (old mid : Option (List ℕ)) → n % 8 ≡ 0 → 0 < n → mid ≡ old → IfSome mid (λ raw. raw ≡ []) → RequestError ChunkError n old FailedToFillTheWholeBuffer
skip_none n old mid whole some same none = empty_chunk_error n old some whole (end_before old mid same none)

-- all groups of the chunk
pub chunk_skipped : (n k : ℕ) (old new : Option (List ℕ)) → k ≡ n → IfKnown old new (HasProgress k) → IfKnown old new (λ raw rest. (words : List ℕ) × Unpacks raw n words rest)
chunk_skipped n k old new all = IfKnown-weaker old new (λ raw rest (groups, each, spelled, counted). (
  concat (words_of_groups groups),
  (encoding_of groups, record { groups = groups; each = each; spelled = refl; unpacked = refl }, spelled, counted ∙ all),
))
