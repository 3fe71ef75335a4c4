-- What is packed is unpacked.
use Rattle.std.proofs.Common.{◌≡◌, ◌⊎◌, inl, inr, ℕ, List, [], ◌++◌, length, take, Result, Ok, Err, IsOk, IfErr, refl, ◌∙◌, ap, subst, sym}
use Rattle.std.proofs.lemmas.List.{append-nil}
use Rattle.std.proofs.Math.Seq.{take-append_seam}
use Rattle.capnp_frame.specs.declared.error.Error.{Error}
use Rattle.capnp_frame.specs.declared.error.ErrorKind.{ErrorKind}
use Rattle.capnp_frame.specs.declared.error.ErrorKind.TheVariants.{DeviceFailed}
use Rattle.capnp_frame.specs.Prelude.{Fails}
use Rattle.capnp_frame.proofs.sources.JoinedCallsAdvanceSourceLemmas.{never_fails}
use Rattle.capnp_pack.specs.Prelude.{Packs, Unpacks, ChunkError, unpacking}

-- a buffer that is filled with what was packed
pub filled_same : (words encoding shown filled following : List ℕ) (n : ℕ)
    → ((bytes encoding rest others left : List ℕ) → Packs bytes encoding → Unpacks (encoding ++ rest) (length bytes) others left → (others ≡ bytes) × (left ≡ rest))
    → Packs words encoding → shown ≡ encoding → length filled ≡ length words → n ≡ length filled → (rest : List ℕ) × Unpacks shown (length filled) filled rest
    → take n (filled ++ following) ≡ words
filled_same words encoding shown filled following n alone packed same room many (rest, unpacks) =
    let whole : encoding ++ [] ≡ shown = append-nil encoding ∙ sym same in
    let there : Unpacks (encoding ++ []) (length words) filled rest =
    subst (λ raw. Unpacks raw (length words) filled rest) (sym whole) (subst (λ k. Unpacks shown k filled rest) room unpacks) in
    ap (λ k. take k (filled ++ following)) many ∙ take-append_seam filled following ∙ (alone words encoding [] filled rest packed there).0

-- where a packed encoding is there, a request of a slice does not fail
never_errs : (raw : List ℕ) (n : ℕ) (bytes rest : List ℕ) (kind : ErrorKind) → Unpacks raw n bytes rest → (kind ≡ DeviceFailed → Fails 0 0)
    → (kind ≡ DeviceFailed) ⊎ ChunkError raw n kind → ⊥
never_errs raw n bytes rest kind given failed (inl device) = never_fails kind failed device
never_errs raw n bytes rest kind given failed (inr line) = unpacking.apart raw n bytes rest kind given line

pub unpack_succeeds : {X : Type 0} (raw : List ℕ) (n : ℕ) (r : Result X Error) → IfErr r (λ e. e.kind ≡ DeviceFailed → Fails 0 0)
    → IfErr r (λ e. (e.kind ≡ DeviceFailed) ⊎ ChunkError raw n e.kind) → (bytes rest : List ℕ) → Unpacks raw n bytes rest → IsOk r
unpack_succeeds raw n (Ok x) failed errors bytes rest given = refl
unpack_succeeds raw n (Err e) failed errors bytes rest given = absurd (never_errs raw n bytes rest e.kind given failed errors)

-- what was packed is at the front of its encoding
pub unpacks_whole : (words encoding shown : List ℕ) (n : ℕ) → ((bytes encoding rest : List ℕ) → Packs bytes encoding → Unpacks (encoding ++ rest) (length bytes) bytes rest)
    → Packs words encoding → shown ≡ encoding → n ≡ length words → Unpacks shown n words []
unpacks_whole words encoding shown n given packed same many =
    subst (λ k. Unpacks shown k words []) (sym many) (subst (λ raw. Unpacks raw (length words) words []) (append-nil encoding ∙ sym same) (given words encoding [] packed))
