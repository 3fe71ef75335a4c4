-- How many pointers of a struct are kept, untrimmed or in canonical form, where null is left out after the last
-- other one.
use Rattle.std.proofs.Common.{◌≡◌, ℕ, zero, suc, ◌+◌, ◌<◌, ◌≤◌, Bool, true, false, refl, sym, ◌∙◌, ap, arith}
use Rattle.capnp_layout.specs.Tree.{is_null}
use Rattle.capnp_layout.specs.Prelude.{Form, null, struct, numbers, pointers, structs, Trees, none, tree, count, keep_tree, cut_nulls, trim, trim_form, trim_children}
use Rattle.capnp_values.specs.Fields.{kept_fields, is_left_out}
use Rattle.capnp_values.proofs.values.ValueAsPartWordsLemmas.{count_of_none}

kept_null : (form : Form) (children others : Trees) → count (cut_nulls (trim others)) ≡ 0 → is_null form ≡ true → cut_nulls (trim (tree form children others)) ≡ none
kept_null null children others e n = ap (λ (t : Trees). keep_tree t null (trim children)) (count_of_none (cut_nulls (trim others)) e)
kept_null (struct ws) children others e n = absurd (cc)
kept_null (numbers c values) children others e n = absurd (cc)
kept_null pointers children others e n = absurd (cc)
kept_null (structs d p elements) children others e n = absurd (cc)

keep_some : (rest : Trees) (form : Form) (children : Trees) → (count rest ≡ 0 → is_null form ≡ true → ⊥) → keep_tree rest form children ≡ tree form children rest
keep_some (tree f h r) form children some = refl
keep_some none null children some = absurd (some refl refl)
keep_some none (struct ws) children some = refl
keep_some none (numbers c values) children some = refl
keep_some none pointers children some = refl
keep_some none (structs d p elements) children some = refl

still_null : (form : Form) (children : Trees) → is_null (trim_form form children) ≡ true → is_null form ≡ true
still_null null children e = refl
still_null (struct ws) children e = e
still_null (numbers c values) children e = e
still_null pointers children e = e
still_null (structs d p elements) children e = e

-- as many pointers are kept
pub kept_of_null : (form : Form) (children others : Trees) → count (cut_nulls (trim others)) ≡ 0 → is_null form ≡ true → count (cut_nulls (trim (tree form children others))) ≡ 0
kept_of_null form children others e n = ap count (kept_null form children others e n)

kept_some : (form : Form) (children others : Trees) → (count (cut_nulls (trim others)) ≡ 0 → is_null form ≡ true → ⊥)
    → cut_nulls (trim (tree form children others)) ≡ tree (trim_form form (trim children)) (trim_children form (trim children)) (cut_nulls (trim others))
kept_some form children others some =
    keep_some (cut_nulls (trim others)) (trim_form form (trim children)) (trim_children form (trim children)) (λ z n. some z (still_null form (trim children) n))

pub kept_of_some : (c : Bool) (form : Form) (children others : Trees) (kept : ℕ) → kept ≡ count (kept_fields c others) → (c ≡ true → kept ≡ 0 → is_null form ≡ true → ⊥)
    → kept + 1 ≡ count (kept_fields c (tree form children others))
kept_of_some true form children others kept is some =
    let whole = ap count (kept_some form children others (λ z n. some refl (is ∙ z) n)) in omega (arith, is, whole)
kept_of_some false form children others kept is some = omega (arith, is)

-- a value that is left out, and one that is not
pub left_out : (c : Bool) (n : ℕ) (form : Form) → is_left_out c n form ≡ true → (c ≡ true) × (n ≡ 0) × (is_null form ≡ true)
left_out true zero form e = (refl, refl, e)
left_out true (suc n) form e = absurd (cc)
left_out false n form e = absurd (cc)

pub left_in : (c : Bool) (n : ℕ) (form : Form) → is_left_out c n form ≡ false → c ≡ true → n ≡ 0 → is_null form ≡ true → ⊥
left_in true zero form e canonical last null_is = absurd (cc)
left_in true (suc n) form e canonical last null_is = omega (arith, last)
left_in false n form e canonical last null_is = absurd (cc)

pub not_left_out : (c : Bool) (n : ℕ) (form : Form) → c ≡ false → false ≡ is_left_out c n form
not_left_out true n form e = absurd (cc)
not_left_out false n form e = refl

pub some_after : (c : Bool) (n : ℕ) (form : Form) → 0 < n → false ≡ is_left_out c n form
some_after true zero form some = absurd (omega (arith, some))
some_after true (suc n) form some = refl
some_after false n form some = refl

pub null_last : (c : Bool) (n : ℕ) (form : Form) (b : Bool) → c ≡ true → n ≤ 0 → b ≡ is_null form → b ≡ is_left_out c n form
null_last true zero form b e last is = is
null_last true (suc n) form b e last is = absurd (omega (arith, last))
null_last false n form b e last is = absurd (cc)

pub kept_left_out : (c : Bool) (form : Form) (children others trees : Trees) (n : ℕ) → trees ≡ tree form children others → n ≡ count (kept_fields c others) → is_left_out c n form ≡ true
    → 0 ≡ count (kept_fields c trees)
kept_left_out false form children others trees n whole is e = absurd (cc)
kept_left_out true form children others trees n whole is e =
    let l = left_out true n form e in
    sym (ap (λ (t : Trees). count (cut_nulls (trim t))) whole ∙ kept_of_null form children others (sym is ∙ l.1) l.2)

pub kept_left_in : (c : Bool) (form : Form) (children others trees : Trees) (n : ℕ) → trees ≡ tree form children others → n ≡ count (kept_fields c others) → is_left_out c n form ≡ false
    → n + 1 ≡ count (kept_fields c trees)
kept_left_in c form children others trees n whole is e =
    kept_of_some c form children others n is (left_in c n form e) ∙ sym (ap (λ (t : Trees). count (kept_fields c t)) whole)
