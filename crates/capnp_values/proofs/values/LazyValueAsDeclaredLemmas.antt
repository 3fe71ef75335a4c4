-- Values that are made only when they are needed: their trees are the trees that the source declares,
-- and the other way round.
use Rattle.std.proofs.Common.{◌≡◌, ℕ, Bool, List, Result, Ok, Err, inl, inr, sym, subst, get_or}
use Rattle.capnp_frame.specs.declared.error.Error.{Error}
use Rattle.capnp_frame.specs.declared.error.ErrorKind.{ErrorKind}
use Rattle.capnp_layout.specs.Prelude.{Trees}
use Rattle.capnp_wire.specs.Prelude.{WordsError, HasPart, HasRoomAt}
use Rattle.capnp_wire.specs.declared.traits.TreeWords.{TreeWords}
use Rattle.capnp_values.specs.Measured.{MeasuresValue}
use Rattle.capnp_values.specs.Fields.{CanWriteFields, AreFieldsWritten}
use Rattle.capnp_values.specs.Sources.{IsAsDeclared}

-- a part
pub part_declared : {a b : Trees → Type 0} {r s : ErrorKind → Type 0} → IsAsDeclared a b r s → (c : Bool) (words : TreeWords) → HasPart a c words → HasPart b c words
part_declared m c words p = record { trees = p.trees; tree_is = m.trees_declared p.trees p.tree_is; rooms = p.rooms; untrimmed_same = p.untrimmed_same; output_is = p.output_is; few = p.few }

pub part_made : {a b : Trees → Type 0} {r s : ErrorKind → Type 0} → IsAsDeclared a b r s → (c : Bool) (words : TreeWords) → HasPart b c words → HasPart a c words
part_made m c words p = record { trees = p.trees; tree_is = m.trees_are p.trees p.tree_is; rooms = p.rooms; untrimmed_same = p.untrimmed_same; output_is = p.output_is; few = p.few }

pub words_error_declared : {a b : Trees → Type 0} {r s : ErrorKind → Type 0} → IsAsDeclared a b r s → (c : Bool) (kind : ErrorKind) → WordsError a r c kind → WordsError b s c kind
words_error_declared m c kind (inl errors) = inl (m.reasons_declared kind errors)
words_error_declared m c kind (inr (trees, is, many, kind_is)) = inr (trees, m.trees_declared trees is, many, kind_is)

pub words_error_made : {a b : Trees → Type 0} {r s : ErrorKind → Type 0} → IsAsDeclared a b r s → (c : Bool) (kind : ErrorKind) → WordsError b s c kind → WordsError a r c kind
words_error_made m c kind (inl errors) = inl (m.reasons_are kind errors)
words_error_made m c kind (inr (trees, is, many, kind_is)) = inr (trees, m.trees_are trees is, many, kind_is)

pub room_made : {a b : Trees → Type 0} {r s : ErrorKind → Type 0} → IsAsDeclared a b r s → (c : Bool) (next room : ℕ) → HasRoomAt b c next room → HasRoomAt a c next room
room_made m c next room p = record { trees = p.trees; tree_is = m.trees_are p.trees p.tree_is; rooms = p.rooms; fits = p.fits }

-- fields
pub declared_fields_measured : {a b : Trees → Type 0} {r s : ErrorKind → Type 0} → IsAsDeclared a b r s → (c : Bool) (res : Result TreeWords Error) → MeasuresValue a r c res → MeasuresValue b s c res
declared_fields_measured m c (Ok words) x =
    let t = x.returned in
    record { returned = (t.0, m.trees_declared t.0 t.1, t.2, t.3); found = λ trees is. x.found trees (m.trees_are trees is); exact = λ kind is. x.exact kind (m.reasons_are kind is) }
declared_fields_measured m c (Err error) x =
    record { returned = m.reasons_declared error.kind x.returned; found = λ trees is. x.found trees (m.trees_are trees is); exact = λ kind is. x.exact kind (m.reasons_are kind is) }

pub fields_made : {a b : Trees → Type 0} {r s : ErrorKind → Type 0} → IsAsDeclared a b r s → (c : Bool) (n next room : ℕ) → CanWriteFields b c n next room → CanWriteFields a c n next room
fields_made m c n next room p = record { trees = p.trees; trees_are = m.trees_are p.trees p.trees_are; some = p.some; fits = p.fits }

pub fields_declared : {a b : Trees → Type 0} {r s : ErrorKind → Type 0} → IsAsDeclared a b r s → (c : Bool) (slot n next : ℕ) (old new : List ℕ) (free : ℕ) → AreFieldsWritten a c slot n next old new free
    → AreFieldsWritten b c slot n next old new free
fields_declared m c slot n next old new free w = record { words_are = λ t is. w.words_are t (m.trees_are t is); next_is = λ t is. w.next_is t (m.trees_are t is) }

-- the trees of a value in a slice are its own
pub itself : {V : Type 0} (h : V → Trees → Type 0) (r : V → ErrorKind → Type 0) (value : V) → IsAsDeclared (h value) (λ t. h value t) (r value) (λ k. r value k)
itself h r value = record { trees_are = λ t is. is; trees_declared = λ t is. is; reasons_are = λ k is. is; reasons_declared = λ k is. is }

pub value_is_at : {V : Type 0} (values : List V) (i : ℕ) (value there : V) → value ≡ there → there ≡ get_or values i there → value ≡ get_or values i value
value_is_at {V = V} values i value there same is = subst (λ (v : V). v ≡ get_or values i v) (sym same) is
