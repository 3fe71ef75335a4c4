-- Parts of a packer's bytes are handed on to a sink, its buffer keeps the rest, and calls that follow one another
-- join. For a part the sink fails with its own kinds.
use Rattle.std.proofs.Common.{◌≡◌, ℕ, ◌⊎◌, inl, inr, Option, Some, None, Result, Ok, Err, IfErr, List, [], ◌∷◌, ◌++◌, refl, sym, ap, ◌∙◌, subst, append_assoc}
use Rattle.std.specs.List.{concat, flat_map}
use Rattle.std.proofs.lemmas.List.{append-nil}
use Rattle.std.proofs.lemmas.List.Folds.{concat-append}
use Rattle.std.proofs.lemmas.List.Concat.{concat_is}
use Rattle.capnp_frame.specs.declared.error.ErrorKind.{ErrorKind}
use Rattle.capnp_frame.specs.Prelude.{IfKnown, AnyChunkError, Appending, Declining, Adds, IsWholeWords}
use Rattle.capnp_frame.proofs.sources.JoinedRequestPartsLemmas.{IfKnown-join, IfKnown-weaker}
use Rattle.capnp_pack.specs.Prelude.{PackedChunkError, Hands}
use Rattle.capnp_frame.specs.declared.error.Error.{Error}
use Rattle.capnp_frame.proofs.sinks.JoinedChunkListLemmas.{AppendsAll-append}

pub Hands-join : (appends : Appending) (old s mid t new x y z : List ℕ) → Hands appends old s mid x y → Hands appends mid t new y z → Hands appends old (s ++ t) new x z
Hands-join appends old s mid t new x y z p q = record {
  parts = p.parts ++ q.parts;
  handed = p.handed ++ q.handed;
  declared = AppendsAll-append appends p.parts q.parts p.handed q.handed p.declared q.declared;
  added = q.added ∙ ap (λ l. l ++ q.handed) p.added ∙ append_assoc x p.handed q.handed;
  kept = sym (append_assoc old s t) ∙ ap (λ l. l ++ t) p.kept ∙ append_assoc (concat p.parts) mid t ∙ ap (λ l. concat p.parts ++ l) q.kept
      ∙ sym (append_assoc (concat p.parts) (concat q.parts) new) ∙ ap (λ l. l ++ new) (sym (concat-append p.parts q.parts));
}

-- bytes that the buffer takes
pub Hands-none : (appends : Appending) (old encoding new x : List ℕ) → new ≡ old ++ encoding → Hands appends old encoding new x x
Hands-none appends old encoding new x e = record { parts = []; handed = []; declared = refl; added = sym (append-nil x); kept = sym e }

-- nothing of what the buffer has
pub Hands-same : (appends : Appending) (old : List ℕ) (a : Option (List ℕ)) → IfKnown a a (Hands appends old [] old)
Hands-same appends old None = tt
Hands-same appends old (Some x) = Hands-none appends old [] old x (sym (append-nil old))

-- a chunk after an empty buffer, or the buffer itself
pub Hands-one : (appends : Appending) (old encoding chunk x y : List ℕ) → old ++ encoding ≡ chunk → Adds (appends chunk) x y → Hands appends old encoding [] x y
Hands-one appends old encoding chunk x y e added = record {
  parts = chunk ∷ [];
  handed = added.0;
  declared = (added.0, [], added.1, refl, sym (append-nil added.0));
  added = added.2;
  kept = e ∙ sym (append-nil chunk) ∙ sym (append-nil (chunk ++ []));
}

pub IfKnown-flush : (appends : Appending) (old chunk : List ℕ) (a b : Option (List ℕ)) → old ≡ chunk → IfKnown a b (Adds (appends chunk)) → IfKnown a b (Hands appends old [] [])
IfKnown-flush appends old chunk a b e added = IfKnown-weaker a b (λ x y p. Hands-one appends old [] chunk x y (append-nil old ∙ e) p) added

pub IfKnown-literal : (appends : Appending) (count : ℕ) (old pushed left flat : List ℕ) (words : List (List ℕ)) (a b c : Option (List ℕ)) →
    pushed ≡ old ++ count ∷ [] → left ≡ [] → flat ≡ flat_map (λ x. x) words → IfKnown a b (Hands appends pushed [] left) →
    IfKnown b c (Adds (appends flat)) → IfKnown a c (Hands appends old (count ∷ concat words) left)
IfKnown-literal appends count old pushed left flat words a b c push none all flushed added =
    IfKnown-join a b c (λ x y z p q.
    let first = Hands-join appends old (count ∷ []) pushed [] left x x y (Hands-none appends old (count ∷ []) pushed x push) p in
    let chunk : Hands appends left (concat words) [] y z = Hands-one appends left (concat words) flat y z (ap (λ l. l ++ concat words) none ∙ concat_is words ∙ sym all) q in
    subst (λ l. Hands appends old (count ∷ concat words) l x z) (sym none) (Hands-join appends old (count ∷ []) left (concat words) [] x y z first chunk)) flushed added

-- with which kinds a sink fails
pub any_chunk_error : (F : Type 0) (refuses : Declining) (part : List ℕ) (kind : ErrorKind) → F ⊎ refuses part kind → F ⊎ AnyChunkError refuses kind
any_chunk_error F refuses part kind (inl failed) = inl failed
any_chunk_error F refuses part kind (inr errors) = inr (part, errors)

-- for a chunk of whole words
or_packed_error : (F : Type 0) (refuses : Declining) (chunk : List ℕ) (kind : ErrorKind) → IsWholeWords chunk → F ⊎ AnyChunkError refuses kind → F ⊎ PackedChunkError refuses chunk kind
or_packed_error F refuses chunk kind whole (inl failed) = inl failed
or_packed_error F refuses chunk kind whole (inr errors) = inr (inr (λ part. part whole, errors))

pub whole_chunk_error : {X : Type 0} (F : ErrorKind → Type 0) (refuses : Declining) (chunk : List ℕ) (r : Result X Error) → IsWholeWords chunk →
    IfErr r (λ e. F e.kind ⊎ AnyChunkError refuses e.kind) → IfErr r (λ e. F e.kind ⊎ PackedChunkError refuses chunk e.kind)
whole_chunk_error F refuses chunk (Ok x) whole errors = tt
whole_chunk_error F refuses chunk (Err e) whole errors = or_packed_error (F e.kind) refuses chunk e.kind whole errors
