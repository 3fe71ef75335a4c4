-- What is shown of a quotation: a mark, the escapes of all its characters, and a mark.
use Rattle.std.proofs.Common.{◌≡◌, ℕ, List, [], ◌∷◌, ◌++◌, ap, sym, subst, ◌∙◌, map}
use Rattle.std.proofs.lemmas.List.{append_assoc, map-id}
use Rattle.std.specs.Prelude.{Result, Ok, Err, OnOk, if◌then◌else◌}
use Rattle.std.specs.Result.{is_ok}
use Rattle.capnp.specs.Prelude.{AreEscaped, IsEscapeOf}

-- what is shown after a quotation mark, and then more
pub added_after_quotation : (old shown middle added new : List ℕ) → middle ≡ old ++ (34 ∷ shown) → new ≡ middle ++ added → new ≡ old ++ (34 ∷ (shown ++ added))
added_after_quotation old shown middle added new before is = is ∙ ap (λ (x : List ℕ). x ++ added) before ∙ append_assoc old (34 ∷ shown) added

-- the characters that an iterator over a text has yielded are all of them at its end
pub all_shown : (yielded all shown : List ℕ) → map (λ (x : ℕ). x) yielded ≡ all → AreEscaped IsEscapeOf yielded shown → AreEscaped IsEscapeOf all shown
all_shown yielded all shown are = subst (λ (characters : List ℕ). AreEscaped IsEscapeOf characters shown) (sym (map-id yielded) ∙ are)

-- a quotation mark is added in front
pub quotation_opened : (old added new : List ℕ) → new ≡ old ++ added → added ≡ 34 ∷ [] → new ≡ old ++ (34 ∷ [])
quotation_opened old added new is mark = is ∙ ap (λ (x : List ℕ). old ++ x) mark

-- and one at the end, where there is memory for it
pub closed : {T E : Type 0} (result : Result T E) (old shown middle added new : List ℕ) → middle ≡ old ++ (34 ∷ shown)
    → new ≡ (if is_ok result then middle ++ added else middle) → added ≡ 34 ∷ [] → OnOk result (new ≡ old ++ (34 ∷ (shown ++ 34 ∷ [])))
closed (Ok value) old shown middle added new before is mark = added_after_quotation old shown middle (34 ∷ []) new before (is ∙ ap (λ (x : List ℕ). middle ++ x) mark)
closed (Err error) old shown middle added new before is mark = tt
