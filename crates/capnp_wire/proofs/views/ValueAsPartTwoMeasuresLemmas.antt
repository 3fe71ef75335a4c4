-- A value that is a part of another one has two measures, of its untrimmed tree and of the tree that is written.
-- It is null where its pointer is.
use Rattle.std.proofs.Common.{◌≡◌, ◌↔◌, ℕ, ◌≤◌, Bool, true, false, Result, Ok, Option, Some, None, MatchOption, refl, sym, ◌∙◌, ap, subst, arith}
use Rattle.std.specs.Prelude.{IsTrue, [], ◌∷◌, List}
use Rattle.std.specs.Result.{result_unwrap_or}
use Rattle.capnp_frame.specs.declared.error.Error.{Error}
use Rattle.capnp_layout.specs.Tree.{is_null}
use Rattle.capnp_layout.specs.Prelude.{null, Trees, none, tree, total_words, Shape, ShapeIsAt, a_struct, some_numbers, some_pointers, some_structs, PointsTo, is_null as null_there, is_object, nothing, At, nowhere as nothing_more, at, output, AllHaveRoom}
use Rattle.capnp_wire.specs.Prelude.{Pointer, Denotes, nowhere, at_place, HasWords, HasPart, PointsToTree, TreeAt, starts_with_null}
use Rattle.capnp_layout.specs.declared.place.Place.{Place}
use Rattle.capnp_wire.specs.declared.traits.TreeWords.{TreeWords}
use Rattle.capnp_layout.proofs.objects.UniqueObjectLemmas.{one_object}
use Rattle.capnp_layout.proofs.trees.TrimIdempotenceAndSizeLemmas.{total-trim}

-- a part, by its words untrimmed and in the form that is written
pub output_less : (c : Bool) (trees : Trees) → AllHaveRoom trees → total_words (output c trees) ≤ total_words trees
output_less true trees rooms = total-trim trees rooms
output_less false trees rooms = omega arith

pub untrimmed_words : (h : Trees → Type 0) (c : Bool) (words : TreeWords) → HasPart h c words → HasWords h false words.untrimmed
untrimmed_words h c words p = record { trees = p.trees; tree_is = p.tree_is; rooms = p.rooms; words_are = p.untrimmed_same; few = p.few }

pub output_words : (h : Trees → Type 0) (c : Bool) (words : TreeWords) → HasPart h c words → HasWords h c words.output
output_words h c words p = record {
  trees = p.trees;
  tree_is = p.tree_is;
  rooms = p.rooms;
  words_are = p.output_is;
  few = omega (arith, p.output_is, p.untrimmed_same, p.few, output_less c p.trees p.rooms);
}

pub part_words : (h : Trees → Type 0) (c : Bool) (words : ℕ) → (w : HasWords h false words) → HasPart h c (record { untrimmed = words; output = total_words (output c w.trees) })
part_words h c words w = record { trees = w.trees; tree_is = w.tree_is; rooms = w.rooms; untrimmed_same = w.words_are; output_is = refl; few = w.few }

pub same_tree_words : (a b : TreeWords) → a.untrimmed ≡ b.untrimmed → a.output ≡ b.output → a ≡ b
same_tree_words a b s f =
    let p : ℕ → ℕ → TreeWords = λ x y. record { untrimmed = x; output = y } in
    ap (λ (x : ℕ). p x a.output) s ∙ ap (λ (y : ℕ). p b.untrimmed y) f

same_ok : (r : Result ℕ Error) (x y : ℕ) → r ≡ Ok x → r ≡ Ok y → x ≡ y
same_ok r x y a b = cc

unwrapped : (r : Result ℕ Error) (other x y : ℕ) → r ≡ Ok x → y ≡ result_unwrap_or r other → y ≡ x
unwrapped r other x y a b = b ∙ ap (λ (e : Result ℕ Error). result_unwrap_or e other) a

-- what is returned of it: where no canonical form is written, its words once; else both
pub untrimmed_found : (h : Trees → Type 0) (c : Bool) (returned : Result ℕ Error) (untrimmed : ℕ) (words : TreeWords) → returned ≡ Ok untrimmed → ((n : ℕ) → HasWords h false n → returned ≡ Ok n)
    → c ≡ false → HasPart h c words → record { untrimmed = untrimmed; output = untrimmed } ≡ words
untrimmed_found h c returned untrimmed words was found plain p =
    let same : untrimmed ≡ words.untrimmed = same_ok returned untrimmed words.untrimmed was (found words.untrimmed (untrimmed_words h c words p)) in
    let output_is : words.output ≡ words.untrimmed = p.output_is ∙ ap (λ (b : Bool). total_words (output b p.trees)) plain ∙ sym p.untrimmed_same in
    same_tree_words (record { untrimmed = untrimmed; output = untrimmed }) words same (same ∙ sym output_is)

pub both_returned : (h : Trees → Type 0) (c : Bool) (untrimmed output_words_are : ℕ) (other : Result ℕ Error) → c ≡ true → HasWords h false untrimmed → ((n : ℕ) → HasWords h true n → other ≡ Ok n)
    → output_words_are ≡ result_unwrap_or other 0 → HasPart h c (record { untrimmed = untrimmed; output = output_words_are })
both_returned h c untrimmed output_words_are other canonical w found is =
    let n : ℕ = total_words (output true w.trees) in
    let there = found n (output_words h true (record { untrimmed = untrimmed; output = n }) (part_words h true untrimmed w)) in
    let output_is : output_words_are ≡ n = unwrapped other 0 n output_words_are there is in
    record {
      trees = w.trees;
      tree_is = w.tree_is;
      rooms = w.rooms;
      untrimmed_same = w.words_are;
      output_is = output_is ∙ ap (λ (b : Bool). total_words (output b w.trees)) (sym canonical);
      few = w.few;
    }

pub both_found : (h : Trees → Type 0) (c : Bool) (returned other : Result ℕ Error) (untrimmed output_words_are : ℕ) (words : TreeWords) → returned ≡ Ok untrimmed
    → ((n : ℕ) → HasWords h false n → returned ≡ Ok n) → c ≡ true → ((n : ℕ) → HasWords h true n → other ≡ Ok n) → output_words_are ≡ result_unwrap_or other 0 → HasPart h c words
    → record { untrimmed = untrimmed; output = output_words_are } ≡ words
both_found h c returned other untrimmed output_words_are words was found canonical found_output is p =
    let same : untrimmed ≡ words.untrimmed = same_ok returned untrimmed words.untrimmed was (found words.untrimmed (untrimmed_words h c words p)) in
    let there = found_output words.output (subst (λ (b : Bool). HasWords h b words.output) canonical (output_words h c words p)) in
    same_tree_words (record { untrimmed = untrimmed; output = output_words_are }) words same (unwrapped other 0 words.output output_words_are there is)

-- where a pointer has no place, its tree is null
pub null_there_tree : (p : Pointer) (trees : Trees) → p.place ≡ None → PointsToTree p trees → trees ≡ tree null none none
null_there_tree p trees e t =
    subst (λ (o : Option Place). MatchOption o (trees ≡ tree null none none) (λ there. TreeAt p.message there p.nesting p.limit trees)) e t

-- what has a place is null where its pointer is
some_form : (words : List ℕ) (start : Place) (tag : ℕ) (shape : Shape) → ShapeIsAt words start tag shape → is_null shape.form ≡ false
some_form words start tag shape (a_struct _ _) = refl
some_form words start tag shape (some_numbers _ _ _) = refl
some_form words start tag shape (some_pointers _ _ _) = refl
some_form words start tag shape (some_structs _ _ _ _ _ _) = refl

null_form : (m : List (List ℕ)) (place : Place) (shape : Shape) → PointsTo m place shape → is_null shape.form ≡ true → PointsTo m place nothing
null_form m place shape (null_there e) is = null_there e
null_form m place shape (is_object {shape = s} lands e begins is_at) is = let some = some_form _ _ _ s is_at in absurd (cc)

null_is_there : (m : List (List ℕ)) (place : Place) (trees : Trees) (traversed : ℕ) → At m (place ∷ []) trees traversed → starts_with_null trees ≡ true → PointsTo m place nothing
null_is_there m place trees traversed (at {shape = s} object inner nothing_more) is = null_form m place s object is

null_starts : (m : List (List ℕ)) (place : Place) (trees : Trees) (traversed : ℕ) → At m (place ∷ []) trees traversed → PointsTo m place nothing → starts_with_null trees ≡ true
null_starts m place trees traversed (at {shape = s} object inner nothing_more) there = ap (λ (x : Shape). is_null x.form) (one_object m place s nothing object there)

same_bool : (a b : Bool) → (a ≡ true → b ≡ true) → (b ≡ true → a ≡ true) → a ≡ b
same_bool true true f g = refl
same_bool true false f g = sym (f refl)
same_bool false true f g = g refl
same_bool false false f g = refl

null_at : (o : Option Place) (p : Pointer) (trees : Trees) (result : Bool) → p.place ≡ o → (IsTrue result ↔ Denotes p nothing)
    → MatchOption o (trees ≡ tree null none none) (λ place. TreeAt p.message place p.nesting p.limit trees) → result ≡ starts_with_null trees
null_at None p trees result e told is = told.1 (nowhere e) ∙ sym (ap starts_with_null is)
null_at (Some place) p trees result e told is =
    same_bool result (starts_with_null trees)
    (λ yes. elim (told.0 yes) [
      | nowhere empty ↦ absurd (cc)
      | at_place {place = other} g object deep ↦
          (let same : other ≡ place = cc in null_starts p.message place trees is.traversed is.are_at (subst (λ (x : Place). PointsTo p.message x nothing) same object))
    ])
    (λ null_is. told.1 (at_place e (null_is_there p.message place trees is.traversed is.are_at null_is) (λ not. absurd (cc))))

pub null_reported : (p : Pointer) (trees : Trees) (result : Bool) → (IsTrue result ↔ Denotes p nothing) → PointsToTree p trees → result ≡ starts_with_null trees
null_reported p trees result told is = null_at p.place p trees result refl told is
