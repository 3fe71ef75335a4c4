-- With which kinds a request for a chunk fails: it is not for whole words, nothing is unread, or a group is
-- missing or fails.
use Rattle.std.proofs.Common.{◌≡◌, ℕ, zero, suc, ◌-◌, ◌%◌, ◌<◌, ◌≤◌, Option, Some, None, IfSome, ◌⊎◌, inl, inr, lit<, List, [], ◌∷◌, length, take, refl, sym, ap, ◌∙◌, subst, arith, length-append}
use Rattle.std.proofs.lemmas.List.{nil_from_length, take_all}
use borrow.Rule.Slice.PartMut.{put_mid}
use Rattle.capnp_frame.specs.declared.error.ErrorKind.{ErrorKind}
use Rattle.capnp_frame.specs.declared.error.ErrorKind.TheVariants.{FailedToFillTheWholeBuffer, PrematureEndOfPackedInput, NotWholeWords, DeviceFailed}
use Rattle.capnp_frame.specs.Prelude.{IfKnown, IsTail, ReturnsPart, RequestError}
use Rattle.capnp_frame.proofs.sources.JoinedRequestPartsLemmas.{IfKnown-weaker, RequestError-fill, error_fill, ReturnsPart-none, ReturnsPart-filled, ReturnsPart-given, length-put_mid}
use Rattle.capnp_pack.specs.Prelude.{zeros, Unpacks, GroupError, PackedError, ChunkError, takes_no_group, unpack_nothing, unpack_once, packed_apart, FirstGroupError}
use Rattle.capnp_pack.proofs.errors.GroupErrorLemmas.{meets_first, no_count, long_run}

-- a later group is missing
pub end_error : (n : ℕ) (old : Option (List ℕ)) → 0 < n → IfSome old (λ raw. raw ≡ []) → RequestError PackedError n old PrematureEndOfPackedInput
end_error n None some end = (0 ∷ [], n, meets_first (0 ∷ []) n _ (no_count n some))
end_error n (Some x) some end =
    subst (λ l. PackedError l n PrematureEndOfPackedInput) (sym end)
    (meets_first [] n _ (some, inl (record { group = zeros 0; is = lit< tt; missing = 0 ∷ 0 ∷ []; some = lit< tt; spelled = refl }, refl)))

-- the table of a chunk

pub part_word_error : (n : ℕ) (old : Option (List ℕ)) (kind : ErrorKind) → (n % 8 ≡ 0 → ⊥) → kind ≡ NotWholeWords → RequestError ChunkError n old kind
part_word_error n None kind part is = ([], n, inl (part, is))
part_word_error n (Some raw) kind part is = inl (part, is)

start_error : (raw : List ℕ) (n : ℕ) → 0 < n → n % 8 ≡ 0 → raw ≡ [] → ChunkError raw n FailedToFillTheWholeBuffer
start_error raw n some whole none = inr (λ part. part whole, inl (none, (some, refl)))

pub empty_chunk_error : (n : ℕ) (old : Option (List ℕ)) → 0 < n → n % 8 ≡ 0 → IfSome old (λ raw. raw ≡ []) → RequestError ChunkError n old FailedToFillTheWholeBuffer
empty_chunk_error n None some whole end = ([], n, start_error [] n some whole refl)
empty_chunk_error n (Some raw) some whole end = start_error raw n some whole end

later_error : (raw : List ℕ) (n : ℕ) (kind : ErrorKind) → n % 8 ≡ 0 → (raw ≡ [] → ⊥) → PackedError raw n kind → ChunkError raw n kind
later_error raw n kind whole more error = inr (λ part. part whole, inr (more, error))

-- each kind of an error is one of a chunk
some_chunk : (left : List ℕ) (n : ℕ) (kind : ErrorKind) → GroupError left n kind → (raw : List ℕ) × (m : ℕ) × ChunkError raw m kind
some_chunk left n kind (inl p) = (0 ∷ [], 8, subst (ChunkError (0 ∷ []) 8) (sym p.1) (later_error (0 ∷ []) 8 _ refl (λ e. cc) (meets_first (0 ∷ []) 8 _ (no_count 8 (lit< tt)))))
some_chunk left n kind (inr (inl p)) = (0 ∷ 1 ∷ [], 8, subst (ChunkError (0 ∷ 1 ∷ []) 8) (sym p.1) (later_error (0 ∷ 1 ∷ []) 8 _ refl (λ e. cc) (meets_first (0 ∷ 1 ∷ []) 8 _ (long_run 1 8 [] (lit< tt) (lit< tt) (lit< tt)))))
some_chunk left n kind (inr (inr p)) = ([], 8, subst (ChunkError [] 8) (sym p.1) (start_error [] 8 (lit< tt) refl refl))

pub chunk_error : (n : ℕ) (old : Option (List ℕ)) (kind : ErrorKind) → n % 8 ≡ 0 → IfSome old (λ raw. raw ≡ [] → ⊥) → RequestError PackedError n old kind → RequestError ChunkError n old kind
chunk_error n None kind whole more p = some_chunk p.2.left _ kind p.2.error
chunk_error n (Some raw) kind whole more p = later_error raw n kind whole more p

pub chunk_group_error : (n filled : ℕ) (old mid : Option (List ℕ)) (kind : ErrorKind) → n % 8 ≡ 0 → (0 < filled → IfSome old (λ raw. raw ≡ [] → ⊥)) →
    (filled ≡ 0 → mid ≡ old) → (mid ≡ Some [] → kind ≡ DeviceFailed) → (kind ≡ DeviceFailed) ⊎ RequestError PackedError n old kind →
    (kind ≡ DeviceFailed) ⊎ RequestError ChunkError n old kind
chunk_group_error n filled old mid kind whole more same end (inl p) = inl p
chunk_group_error n (suc filled) old mid kind whole more same end (inr p) = inr (chunk_error n old kind whole (more (omega arith)) p)
chunk_group_error n zero None mid kind whole more same end (inr p) = inr (chunk_error n None kind whole tt p)
chunk_group_error n zero (Some []) mid kind whole more same end (inr p) = inl (end (same refl))
chunk_group_error n zero (Some (byte ∷ raw)) mid kind whole more same end (inr p) = inr (chunk_error n (Some (byte ∷ raw)) kind whole (λ e. cc) p)

-- a chunk that is returned whole, and none
pub chunk_taken : (filled : ℕ) (buffer : List ℕ) (old new : Option (List ℕ)) → length buffer ≤ filled →
    IfKnown old new (ReturnsPart Unpacks PackedError (length buffer) (take filled buffer)) → IfKnown old new (ReturnsPart Unpacks ChunkError (length buffer) (take filled buffer))
chunk_taken filled buffer old new full taken =
    let all : take filled buffer ≡ buffer = take_all filled buffer full in
    subst (λ l. IfKnown old new (ReturnsPart Unpacks ChunkError (length buffer) l)) (sym all)
    (IfKnown-weaker old new
    (λ x y g. ReturnsPart-given Unpacks ChunkError (length buffer) buffer x y takes_no_group unpack_nothing unpack_once packed_apart refl g)
    (ReturnsPart-filled Unpacks PackedError filled buffer old new takes_no_group full taken))

none_left : (n : ℕ) (mid new : Option (List ℕ)) → IfSome mid (λ raw. raw ≡ []) → IfKnown mid new IsTail → IfKnown mid new (ReturnsPart Unpacks ChunkError n [])
none_left n None new end tail = tt
none_left n (Some x) None end tail = absurd tail
none_left n (Some x) (Some y) end tail =
    let gone : y ≡ [] = nil_from_length y (omega (arith, ap length tail.1, ap length end, length-append tail.0 y)) in
    subst (λ l. ReturnsPart Unpacks ChunkError n [] l y) (sym end) (subst (λ l. ReturnsPart Unpacks ChunkError n [] [] l) (sym gone) (ReturnsPart-none n []))

pub no_chunk_taken : (n : ℕ) (old mid new : Option (List ℕ)) → mid ≡ old → IfSome mid (λ raw. raw ≡ []) → IfKnown mid new IsTail → IfKnown old new (ReturnsPart Unpacks ChunkError n [])
no_chunk_taken n old mid new same end tail = subst (λ o. IfKnown o new (ReturnsPart Unpacks ChunkError n [])) same (none_left n mid new end tail)

-- the buffer stays whole words
whole_fill : (filled n : ℕ) (buffer part : List ℕ) → filled ≤ length buffer → length part ≡ length buffer - filled → length buffer ≡ n →
    n % 8 ≡ 0 → length (put_mid filled (length buffer - filled) buffer part) % 8 ≡ 0
whole_fill filled n buffer part within fits same whole = ap (λ k. k % 8) (length-put_mid filled buffer part within fits ∙ same) ∙ whole

-- a first group that can't be taken is the first error
pub group_meets : (F : Type 0) (n : ℕ) (old : Option (List ℕ)) (kind : ErrorKind) → F ⊎ RequestError FirstGroupError n old kind → F ⊎ RequestError PackedError n old kind
group_meets F n old kind (inl failed) = inl failed
group_meets F n None kind (inr (raw, m, fails)) = inr (raw, m, meets_first raw m kind fails)
group_meets F n (Some raw) kind (inr fails) = inr (meets_first raw n kind fails)

-- a group fails after the front of the buffer
pub group_failed : (filled n : ℕ) (buffer part : List ℕ) (old mid : Option (List ℕ)) (kind : ErrorKind) → filled ≤ length buffer
    → length part ≡ length buffer - filled → length buffer ≡ n → n % 8 ≡ 0 → (0 < filled → IfSome old (λ raw. raw ≡ [] → ⊥))
    → (filled ≡ 0 → mid ≡ old) → IfKnown old mid (ReturnsPart Unpacks PackedError (length buffer) (take filled buffer))
    → (mid ≡ Some [] → kind ≡ DeviceFailed) → (kind ≡ DeviceFailed) ⊎ RequestError FirstGroupError (length part) mid kind
    → (kind ≡ DeviceFailed) ⊎ RequestError ChunkError (length (put_mid filled (length buffer - filled) buffer part)) old kind
group_failed filled n buffer part old mid kind within fits same whole more start taken end errors =
    chunk_group_error _ filled old mid kind (whole_fill filled n buffer part within fits same whole) more start end
    (error_fill _ Unpacks PackedError filled buffer part old mid kind within fits taken (group_meets _ (length part) mid kind errors))

-- or is missing there
pub group_missing : (filled n : ℕ) (buffer part : List ℕ) (old mid : Option (List ℕ)) → filled ≤ length buffer → length part ≡ length buffer - filled
    → length buffer ≡ n → n % 8 ≡ 0 → IfSome old (λ raw. raw ≡ [] → ⊥) → IfKnown old mid (ReturnsPart Unpacks PackedError (length buffer) (take filled buffer))
    → 0 < length part → IfSome mid (λ raw. raw ≡ [])
    → RequestError ChunkError (length (put_mid filled (length buffer - filled) buffer part)) old PrematureEndOfPackedInput
group_missing filled n buffer part old mid within fits same whole more taken some none =
    chunk_error _ old PrematureEndOfPackedInput (whole_fill filled n buffer part within fits same whole) more
    (RequestError-fill Unpacks PackedError filled buffer part old mid PrematureEndOfPackedInput within fits taken (end_error (length part) mid some none))

-- nothing was unread before the first group either
pub end_before : (old mid : Option (List ℕ)) → mid ≡ old → IfSome mid (λ raw. raw ≡ []) → IfSome old (λ raw. raw ≡ [])
end_before old mid same end = subst (λ o. IfSome o (λ raw. raw ≡ [])) same end

-- no group is there, nor was one before
pub first_missing : (filled n : ℕ) (buffer part : List ℕ) (old mid : Option (List ℕ)) → filled ≤ length buffer → length part ≡ length buffer - filled
    → length buffer ≡ n → n % 8 ≡ 0 → mid ≡ old → IfSome mid (λ raw. raw ≡ []) → 0 < length (put_mid filled (length buffer - filled) buffer part)
    → RequestError ChunkError (length (put_mid filled (length buffer - filled) buffer part)) old FailedToFillTheWholeBuffer
first_missing filled n buffer part old mid within fits same whole start none some =
    empty_chunk_error _ old some (whole_fill filled n buffer part within fits same whole) (end_before old mid start none)
