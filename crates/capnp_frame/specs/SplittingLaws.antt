-- The laws of plain requests, for the sources that name them.
use Rattle.std.specs.Prelude.{◌≡◌, ◌+◌, ◌≤◌, ℕ, List, [], ◌∷◌, ◌++◌, length, take, drop, refl}
use Rattle.std.proofs.Common.{sym, ap, subst, ◌∙◌, length-append}
use Rattle.std.proofs.lemmas.List.{take_at, drop_at}
use Rattle.std.proofs.Math.Nat.{not-le_of_lt, le-add_right}
use Rattle.capnp_frame.specs.declared.error.ErrorKind.{ErrorKind}
use Rattle.capnp_frame.specs.Source.{Splits, RunsShort, IsSource, IsPreorder}

-- lists of one length at the front of one list
pub same_front : (a b x y : List ℕ) → length a ≡ length b → a ++ x ≡ b ++ y → (a ≡ b) × (x ≡ y)
same_front a b x y len e = (
  sym (take_at a x (length b) len) ∙ ap (take (length b)) e ∙ take_at b y (length b) refl,
  sym (drop_at a x (length b) len) ∙ ap (drop (length b)) e ∙ drop_at b y (length b) refl,
)

abbrev HasNone : List ℕ → Type 0
HasNone [] = Unit {0}
HasNone (x ∷ xs) = ⊥

none_split : (n : ℕ) (bytes rest : List ℕ) → Splits [] n bytes rest → n ≡ 0
none_split n [] rest (none, long) = sym long
none_split n (byte ∷ bytes) rest (none, long) = absurd (subst HasNone none tt)

split_once : (raw : List ℕ) (n : ℕ) (bytes rest others left : List ℕ) → Splits raw n bytes rest → Splits raw n others left → (bytes ≡ others) × (rest ≡ left)
split_once raw n bytes rest others left (split, long) (also, as_long) = same_front bytes others rest left (long ∙ sym as_long) (sym split ∙ also)

short_apart : (raw : List ℕ) (n : ℕ) (bytes rest : List ℕ) (kind : ErrorKind) → Splits raw n bytes rest → RunsShort raw n kind → ⊥
short_apart raw n bytes rest kind (split, long) (short, is) =
    let joined : length raw ≡ length bytes + length rest = ap length split ∙ length-append bytes rest in
    let there : length bytes ≤ length raw = subst (λ k. length bytes ≤ k) (sym joined) (le-add_right (length bytes) (length rest)) in
    not-le_of_lt short (subst (λ k. k ≤ length raw) long there)

pub splitting : IsSource Splits RunsShort
splitting = record {
  takes_nothing = λ raw. (refl, refl);
  none_from_nothing = none_split;
  gives_all = λ raw n bytes rest split. split.1;
  unique = split_once;
  apart = short_apart;
  one_kind = λ raw n kind other p q. p.1 ∙ sym q.1;
}

-- any two states are of one source, or of one sink
pub always : {S : Type 0} → IsPreorder (λ (s t : S). Unit {0})
always = record { reflexive = λ s. tt; transitive = λ s t u p q. tt }
