-- The words of a value as a part of a struct or a list, untrimmed or in canonical form.
use Rattle.std.proofs.Common.{◌≡◌, ℕ, ◌+◌, ◌≤◌, Bool, true, false, refl, ◌∙◌, ap, subst, arith}
use Rattle.capnp_layout.specs.Prelude.{Form, Trees, none, tree, count, total_words, trim, trim_form, trim_children, output, AllHaveRoom}
use Rattle.capnp_wire.specs.Prelude.{HasPart}
use Rattle.capnp_wire.specs.declared.traits.TreeWords.{TreeWords}
use Rattle.capnp_layout.proofs.trees.TrimIdempotenceAndSizeLemmas.{total-trim}
use Rattle.capnp_values.specs.Measured.{tree_words}
use Rattle.capnp_values.specs.Fields.{IsPart}

-- a tree untrimmed, or in canonical form, in two parts
abbrev pub own_form : Bool → Form → Trees → Form
own_form true form children = trim_form form (trim children)
own_form false form children = form

abbrev pub own_children : Bool → Form → Trees → Trees
own_children true form children = trim_children form (trim children)
own_children false form children = children

-- the words of a part
abbrev pub part_total : Bool → Form → Trees → ℕ
part_total c form children = total_words (output c (tree form children none))

abbrev pub words_of_part : Bool → Form → Trees → TreeWords
words_of_part c form children = tree_words c (tree form children none)

pub part_less : (c : Bool) (form : Form) (children : Trees) → AllHaveRoom (tree form children none) → part_total c form children ≤ total_words (tree form children none)
part_less true form children rooms = total-trim (tree form children none) rooms
part_less false form children rooms = omega arith

pub more_total : (c : Bool) (form : Form) (children rest : Trees) → total_words (output c (tree form children rest)) ≡ part_total c form children + total_words (output c rest)
more_total true form children rest = omega arith
more_total false form children rest = omega arith

pub has_part : (h : Trees → Type 0) (c : Bool) (form : Form) (children : Trees) → IsPart h form children → HasPart h c (words_of_part c form children)
has_part h c form children p = record {
  trees = tree form children none;
  tree_is = p.tree_is;
  rooms = p.rooms;
  untrimmed_same = refl;
  output_is = refl;
  few = p.few;
}

-- a value that is measured as a part is one
one_tree : (trees : Trees) → count trees ≡ 1 → (form : Form) × (children : Trees) × (trees ≡ tree form children none)
one_tree none one = absurd (omega (arith, one))
one_tree (tree form children none) one = (form, children, refl)
one_tree (tree form children (tree f h rest)) one = absurd (omega (arith, one))

-- its tree, and its words
pub record IsMeasuredPart (h : Trees → Type 0) (c : Bool) (words : TreeWords) : Type 0 where
  pub form : Form
  pub children : Trees
  pub part : IsPart h form children
  pub untrimmed_same : words.untrimmed ≡ total_words (tree form children none)
  pub output_is : words.output ≡ part_total c form children

pub part_of : (h : Trees → Type 0) (c : Bool) (words : TreeWords) → ((trees : Trees) → h trees → count trees ≡ 1) → HasPart h c words → IsMeasuredPart h c words
part_of h c words one w =
    let t = one_tree w.trees (one w.trees w.tree_is) in
    record {
      form = t.0;
      children = t.1;
      part = record { tree_is = subst h t.2 w.tree_is; rooms = subst AllHaveRoom t.2 w.rooms; few = omega (arith, w.untrimmed_same, w.few, ap total_words t.2) };
      untrimmed_same = w.untrimmed_same ∙ ap total_words t.2;
      output_is = w.output_is ∙ ap (λ (x : Trees). total_words (output c x)) t.2;
    }

pub count_of_none : (t : Trees) → count t ≡ 0 → t ≡ none
count_of_none none e = refl
count_of_none (tree f h r) e = absurd (omega (arith, e))
