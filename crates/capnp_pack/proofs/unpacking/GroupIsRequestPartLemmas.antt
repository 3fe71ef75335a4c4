-- A group at the front is a part of the result of each request that it fits into.
use Rattle.std.proofs.Common.{◌≡◌, ℕ, zero, suc, ◌+◌, ◌-◌, ◌*◌, ◌%◌, ◌<◌, ◌≤◌, Option, Some, None, IfSome, List, [], ◌∷◌, ◌++◌, length}
use Rattle.std.proofs.Common.{take, replicate, refl, sym, ap, ◌∙◌, subst, arith, append_assoc, length-append}
use Rattle.std.proofs.lemmas.List.{length-take-le, replicate-append-replicate}
use Rattle.std.proofs.lemmas.List.Folds.{concat-append}
use Rattle.std.specs.List.{concat, AllByRecursion}
use Rattle.capnp_frame.specs.Prelude.{IfKnown, ReturnsPart}
use Rattle.capnp_frame.proofs.sources.JoinedRequestPartsLemmas.{IfKnown-join, IfKnown-weaker}
use Rattle.capnp_pack.specs.Prelude.{Group, zeros, IsGroup, zero_word, group_encoding, group_words, encoding_of, words_of_groups, Unpacks, PackedError, GroupAt, TakesGroups, group_len, same_group, error_later, error_after}
use Rattle.capnp_pack.proofs.unpacking.TakenGroupsUnpackedByteCountLemmas.{group_taken}

-- a group at the front is a part of the result of each request that it fits into
pub group_takes : (n tag : ℕ) (bytes raw left : List ℕ) → GroupAt tag bytes raw left → length bytes ≤ n → ReturnsPart Unpacks PackedError n bytes (tag ∷ raw) left
group_takes n tag bytes raw left at fits =
    let g = at.0 in
    record {
      joins = λ more rest h. (
        group_encoding g ++ h.0,
        record {
          groups = g ∷ h.1.groups;
          each = (at.1, h.1.each);
          spelled = ap (λ l. group_encoding g ++ l) h.1.spelled;
          unpacked = ap (λ l. l ++ more) at.2 ∙ ap (λ l. concat (group_words g) ++ l) h.1.unpacked ∙ sym (concat-append (group_words g) (words_of_groups h.1.groups));
        },
        at.3 ∙ ap (λ l. group_encoding g ++ l) h.2 ∙ sym (append_assoc (group_encoding g) h.0 rest),
        length-append bytes more ∙ add_left bytes more n fits h.3,
      );
      same_errors = λ kind. (
        λ h. subst (λ l. PackedError l n kind) (sym at.3) (error_later g left n kind at.1 (subst (λ k. PackedError left (n - k) kind) (ap length at.2) h)),
        λ h. subst (λ k. PackedError left (n - k) kind) (sym (ap length at.2)) (error_after g left n kind at.1 (subst (λ k. k ≤ n) (ap length at.2) fits) (subst (λ l. PackedError l n kind) at.3 h)),
      );
      splits = λ all rest h. split h.1.groups all rest h.1.each (sym at.3 ∙ h.2 ∙ ap (λ l. l ++ rest) h.1.spelled) h.1.unpacked h.3;
    }
  where
    add_left : (bytes more : List ℕ) (n : ℕ) → length bytes ≤ n → length more ≡ n - length bytes → length bytes + length more ≡ n
    add_left bytes more n fits e = omega arith

    split : (gs : List Group) (all rest : List ℕ) → AllByRecursion IsGroup gs → group_encoding at.0 ++ left ≡ encoding_of gs ++ rest →
        all ≡ concat (words_of_groups gs) → length all ≡ n → (more : List ℕ) × (all ≡ bytes ++ more) × Unpacks left (n - length bytes) more rest
    split [] all rest each e unpacked len = let long = group_len at.0 at.1 in absurd (omega (arith, ap length at.2, long.1, ap length unpacked))
    split (k ∷ ks) all rest each e unpacked len =
        let same = same_group at.0 k left (encoding_of ks ++ rest) at.1 each.0 (e ∙ append_assoc (group_encoding k) (encoding_of ks) rest) in
        let parts : all ≡ bytes ++ concat (words_of_groups ks) = unpacked ∙ concat-append (group_words k) (words_of_groups ks) ∙ ap (λ l. l ++ concat (words_of_groups ks)) (sym same.0 ∙ sym at.2) in (
          concat (words_of_groups ks),
          parts,
          (encoding_of ks, record { groups = ks; each = each.1; spelled = refl; unpacked = refl }, same.1, omega (arith, len, ap length parts, length-append bytes (concat (words_of_groups ks)))),
        )

pub concat-zeros : (n : ℕ) → concat (replicate n zero_word) ≡ replicate (8 * n) 0
concat-zeros zero = refl
concat-zeros (suc n) = let more : 8 + 8 * n ≡ 8 * suc n = omega arith in ap (λ l. zero_word ++ l) (concat-zeros n) ∙ replicate-append-replicate 8 (8 * n) 0 ∙ ap (λ k. replicate k 0) more

-- a run of zero words
pub zeros_at : (more count : ℕ) (raw left bytes : List ℕ) → more < 256 → count ≡ 8 * (more + 1) → bytes ≡ replicate count 0 → raw ≡ more ∷ left → GroupAt 0 bytes raw left
zeros_at more count raw left bytes fits long filled at =
    let words : count ≡ 8 * suc more = omega arith in
    (zeros more, fits, filled ∙ ap (λ k. replicate k 0) words ∙ sym (concat-zeros (suc more)), ap (λ l. 0 ∷ l) at)

-- the group after a tag, as a part of a request
pub ReturnsPart-group : (n tag : ℕ) (bytes : List ℕ) (old mid new : Option (List ℕ)) → length bytes ≤ n →
    IfKnown old mid (λ raw left. raw ≡ tag ∷ left) → IfKnown mid new (GroupAt tag bytes) → IfKnown old new (ReturnsPart Unpacks PackedError n bytes)
ReturnsPart-group n tag bytes old mid new fits tagged_by at =
    IfKnown-join old mid new (λ x y z e g. subst (λ l. ReturnsPart Unpacks PackedError n bytes l z) (sym e) (group_takes n tag bytes y z g fits)) tagged_by at

pub zeros_found : (more count : ℕ) (bytes : List ℕ) (old mid : Option (List ℕ)) → more < 256 → count ≡ 8 * (more + 1) → bytes ≡ replicate count 0 →
    IfKnown old mid (λ raw left. raw ≡ more ∷ left) → IfKnown old mid (GroupAt 0 bytes)
zeros_found more count bytes old mid fits long filled at = IfKnown-weaker old mid (λ x y e. zeros_at more count x y bytes fits long filled e) at

some_unread : (tag : ℕ) (old mid : Option (List ℕ)) → IfKnown old mid (λ raw left. raw ≡ tag ∷ left) → IfSome old (λ raw. raw ≡ [] → ⊥)
some_unread tag None mid at = tt
some_unread tag (Some x) None at = absurd at
some_unread tag (Some x) (Some y) at = λ e. absurd (omega (arith, ap length at, ap length e))

-- what reading a group says
pub group_found : (tag at count : ℕ) (buffer : List ℕ) (old mid new : Option (List ℕ)) → tag ≡ at →
    (0 < count) × (count ≤ length buffer) × (count % 8 ≡ 0) → IfKnown old mid (λ raw left. raw ≡ tag ∷ left) →
    IfKnown mid new (GroupAt at (take count buffer)) → TakesGroups old new buffer count
group_found tag at count buffer old mid new same within tagged_by group =
    let part : length (take count buffer) ≡ count = length-take-le count buffer within.1 in (
      within.0,
      within.1,
      within.2,
      some_unread tag old mid tagged_by,
      group_taken tag count buffer old mid new within.1 tagged_by (subst (λ t. IfKnown mid new (GroupAt t (take count buffer))) (sym same) group),
      ReturnsPart-group (length buffer) tag (take count buffer) old mid new (subst (λ k. k ≤ length buffer) (sym part) within.1) tagged_by
          (subst (λ t. IfKnown mid new (GroupAt t (take count buffer))) (sym same) group),
    )
