-- Whole groups are taken from the front, and the bytes of their words are counted.
use Rattle.std.proofs.Common.{◌≡◌, ℕ, ◌+◌, ◌≤◌, Option, Some, None, IfSome, List, [], ◌∷◌, ◌++◌, length, take, drop, sym, ap, ◌∙◌, subst, append_assoc, length-append}
use Rattle.std.specs.List.{concat}
use Rattle.std.proofs.lemmas.List.{append-nil, length-take-le, take-append-drop}
use Rattle.std.proofs.lemmas.List.Folds.{concat-append}
use Rattle.std.proofs.lemmas.List.Concat.{flat_map-append}
use lib.Seq.{take-append-le}
use Rattle.capnp_frame.specs.Prelude.{IfKnown, IsFront}
use Rattle.capnp_frame.proofs.sources.JoinedRequestPartsLemmas.{IfKnown-join}
use Rattle.capnp_pack.specs.Prelude.{IsGroup, group_encoding, group_words, encoding_of, words_of_groups, HasProgress, GroupAt, Unpacked}
use Rattle.capnp_pack.proofs.words.EachElementLemmas.{AllByRecursion-append}

pub more_taken : (j k : ℕ) (a b c : Option (List ℕ)) → IfKnown a b (HasProgress j) → IfKnown b c (HasProgress k) → IfKnown a c (HasProgress (j + k))
more_taken j k a b c = IfKnown-join a b c (λ x y z (groups, each, spelled, counted) (more, also, rest, further). (
  groups ++ more,
  AllByRecursion-append IsGroup groups more each also,
  spelled ∙ ap (λ l. encoding_of groups ++ l) rest ∙ sym (append_assoc (encoding_of groups) (encoding_of more) z) ∙ ap (λ l. l ++ z) (sym (flat_map-append group_encoding groups more)),
  ap (λ l. length (concat l)) (flat_map-append group_words groups more) ∙ ap length (concat-append (words_of_groups groups) (words_of_groups more))
      ∙ length-append (concat (words_of_groups groups)) (concat (words_of_groups more)) ∙ ap (λ i. i + length (concat (words_of_groups more))) counted ∙ ap (λ i. j + i) further,
))

-- one group
pub group_taken : (tag count : ℕ) (buffer : List ℕ) (a b c : Option (List ℕ)) → count ≤ length buffer → IfKnown a b (λ raw left. raw ≡ tag ∷ left)
    → IfKnown b c (GroupAt tag (take count buffer)) → IfKnown a c (HasProgress count)
group_taken tag count buffer a b c within = IfKnown-join a b c (λ x y z at (group, is, bytes, spelled). (
  group ∷ [],
  (is, tt),
  at ∙ spelled ∙ ap (λ l. l ++ z) (sym (append-nil (group_encoding group))),
  ap (λ l. length (concat l)) (append-nil (group_words group)) ∙ ap length (sym bytes) ∙ length-take-le count buffer within,
))

-- those that are shown
pub shown_taken : (used filled : ℕ) (shown buffer : List ℕ) (a b c : Option (List ℕ)) → IfSome a (IsFront shown) → b ≡ a
    → IfKnown b c (λ raw left. left ≡ drop used raw) → Unpacked shown buffer used filled → IfKnown a c (HasProgress filled)
shown_taken used filled shown buffer a b c front same gone p = known a c front (subst (λ o. IfKnown o c (λ raw left. left ≡ drop used raw)) same gone)
  where
    known : (a c : Option (List ℕ)) → IfSome a (IsFront shown) → IfKnown a c (λ raw left. left ≡ drop used raw) → IfKnown a c (HasProgress filled)
    known None c front gone = tt
    known (Some x) None front gone = absurd gone
    known (Some x) (Some z) (tail, e) gone =
        let chunk = p.chunk in
        let encoding : take used x ≡ encoding_of chunk.groups = ap (take used) e ∙ take-append-le used shown tail p.used_within ∙ chunk.spelled in (
          chunk.groups,
          chunk.each,
          sym (take-append-drop used x) ∙ ap (λ l. l ++ drop used x) encoding ∙ ap (λ l. encoding_of chunk.groups ++ l) (sym gone),
          ap length (sym chunk.unpacked) ∙ length-take-le filled buffer p.filled_within,
        )
