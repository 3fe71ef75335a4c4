-- Strings that are added one after another are added as one string, also escaped and marked ones between others.
use Rattle.std.proofs.Common.{◌≡◌, ℕ, List, [], ◌++◌, sym, ap, ◌∙◌, append-nil}
use Rattle.std.specs.Prelude.{Result, Ok, Err, OnOk, if◌then◌else◌}
use Rattle.std.specs.Result.{is_ok}
use Rattle.std.proofs.lemmas.List.{append_assoc}
use Rattle.capnp_show.specs.Output.{AddsEscaped, AddsMarked}

pub added_after : (start bytes middle new added : List ℕ) → middle ≡ start ++ bytes → new ≡ middle ++ added → new ≡ start ++ (bytes ++ added)
added_after start bytes middle new added before is = is ∙ ap (λ (x : List ℕ). x ++ added) before ∙ append_assoc start bytes added

pub ended : (start bytes new : List ℕ) → new ≡ start ++ bytes → new ≡ start ++ (bytes ++ [])
ended start bytes new is = is ∙ ap (λ (x : List ℕ). start ++ x) (sym (append-nil bytes))

-- a string between two others
pub three_added : (old front first middle second end new : List ℕ) → first ≡ old ++ front → second ≡ first ++ middle → new ≡ second ++ end → new ≡ old ++ (front ++ (middle ++ end))
three_added old front first middle second end new one two three =
    added_after old front first new (middle ++ end) one (added_after first middle second new end two three)

between : (old front first bytes second end new : List ℕ) → first ≡ old ++ front → second ≡ first ++ (bytes ++ []) → new ≡ second ++ end → new ≡ old ++ (front ++ (bytes ++ end))
between old front first bytes second end new one two three =
    three_added old front first bytes second end new one (two ∙ ap (λ (x : List ℕ). first ++ x) (append-nil bytes)) three

pub escaped_between : (old front first shown second end new : List ℕ) → first ≡ old ++ front → AddsEscaped [] shown [] first second → new ≡ second ++ end → AddsEscaped front shown end old new
escaped_between old front first shown second end new one two three =
    (two.0, between old front first two.0 second end new one two.1 three, two.2)

pub marked_between : (old front first shown second end new : List ℕ) → first ≡ old ++ front → AddsMarked [] shown [] first second → new ≡ second ++ end → AddsMarked front shown end old new
marked_between old front first shown second end new one two three =
    (two.0, between old front first two.0 second end new one two.1 three, two.2)

-- and more after it
pub escaped_and_more : (old front shown end middle more new : List ℕ) → AddsEscaped front shown end old middle → new ≡ middle ++ more → AddsEscaped front shown (end ++ more) old new
escaped_and_more old front shown end middle more new escaped is = (
  escaped.0,
  added_after old (front ++ (escaped.0 ++ end)) middle new more escaped.1 is ∙ ap (λ (x : List ℕ). old ++ x) (append_assoc front (escaped.0 ++ end) more ∙ ap (λ (x : List ℕ). front ++ x) (append_assoc escaped.0 end more)),
  escaped.2,
)

-- what a push adds where it succeeds
pub pushed : {T E : Type 0} (result : Result T E) (old added new : List ℕ) → new ≡ (if is_ok result then old ++ added else old) → OnOk result (new ≡ old ++ added)
pushed (Ok value) old added new is = is
pushed (Err error) old added new is = tt
