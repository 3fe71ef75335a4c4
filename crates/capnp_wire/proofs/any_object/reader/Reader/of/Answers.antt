-- The view of each kind of object shows what it shows where one asks for this kind alone.
use Rattle.std.proofs.Common.{◌≡◌, ℕ, List, refl, sym, subst}
use Rattle.capnp_layout.specs.Prelude.{words_of, code_of, numbers, structs, elements}
use Rattle.capnp_wire.specs.Prelude.{Accepts, pointer_of, StructList, IsStructList, structs_in}
use Rattle.capnp_wire.proofs.views.EnteredObjectShownLemmas.{struct_shows, entered_shows, entered_reads, numbers_form}
use Rattle.capnp_wire.proofs.views.EnteredListShownOrRejectedLemmas.{structs_entered, pointers_show, list_pointers_within, few_structs, few_pointers}
use Rattle.capnp_wire.proofs.views.AnyObjectAcceptedLemmas.{entered_kind, entered_form}
use Rattle.capnp_wire.proofs.any_object.reader.Reader.of.Goals as goal

pub returns-in-Struct : goal.returns-in-Struct
returns-in-Struct g c =
    let p = pointer_of g.S.ReaderSegments.segments c.args.reader.now in
    let object = c.args.object.now in record {
      kind = entered_form p object _ _ c.requires c.in-Struct.is refl;
      shown = record {
        same_message = refl;
        shown = struct_shows p object c.in-Struct.size c.requires c.in-Struct.is;
        nesting_below = c.saturating_sub-nesting.ensures;
        same_limit = refl;
      };
    }

pub returns-in-Structs : goal.returns-in-Structs
returns-in-Structs g c =
    let p = pointer_of g.S.ReaderSegments.segments c.args.reader.now in
    let object = c.args.object.now in
    let list : StructList = structs_in p object 1 c.in-Structs.elements in record {
      kind = subst (λ (l : StructList). Accepts p (λ form. (d : ℕ) × (form ≡ structs d l.pointer_words l.elements))) (sym c.within.ensures)
          (entered_kind p object _ (λ form. (d : ℕ) × (form ≡ structs d list.pointer_words list.elements)) c.requires c.in-Structs.is (c.in-Structs.elements.size.data_words, refl));
      shown = subst (IsStructList p) (sym c.within.ensures) (structs_entered p object c.in-Structs.elements c.in-Structs.field-1 c.requires c.in-Structs.is);
    }

pub returns-in-Pointers : goal.returns-in-Pointers
returns-in-Pointers g c =
    let p = pointer_of g.S.ReaderSegments.segments c.args.reader.now in
    let object = c.args.object.now in record {
      kind = entered_form p object _ _ c.requires c.in-Pointers.is refl;
      shown = record {
        same_message = refl;
        shown = pointers_show p object c.in-Pointers.count c.requires c.in-Pointers.is;
        nesting_below = c.saturating_sub-nesting.ensures;
        same_limit = refl;
      };
    }

pub returns-in-Numbers : goal.returns-in-Numbers
returns-in-Numbers g c =
    let p = pointer_of g.S.ReaderSegments.segments c.args.reader.now in
    let object = c.args.object.now in
    let code = code_of c.in-Numbers.size in
    let values : List ℕ = elements (words_of c.words_at.result.now) 0 code c.in-Numbers.count in
    let form_is = numbers_form object c.in-Numbers.size c.in-Numbers.count values c.in-Numbers.is c.words_at.ensures.elements in record {
      kind = entered_shows p object (λ form. form ≡ numbers code values) c.requires form_is;
      shown = entered_reads p object (λ form. form ≡ numbers code values) c.requires form_is;
    }

pub within-requires-clause-few : goal.within-requires-clause-few
within-requires-clause-few g c =
    let p = pointer_of g.S.ReaderSegments.segments c.args.reader.now in (few_structs p c.args.object.now c.in-Structs.elements c.in-Structs.field-1 c.requires c.in-Structs.is).0

pub within-requires-clause-few_words : goal.within-requires-clause-few_words
within-requires-clause-few_words g c =
    let p = pointer_of g.S.ReaderSegments.segments c.args.reader.now in (few_structs p c.args.object.now c.in-Structs.elements c.in-Structs.field-1 c.requires c.in-Structs.is).1

pub invariant_of-result-in-Pointers : goal.invariant_of-result-in-Pointers
invariant_of-result-in-Pointers g c =
    let p = pointer_of g.S.ReaderSegments.segments c.args.reader.now in
    record {
      bound = list_pointers_within p c.args.object.now c.in-Pointers.count c.requires c.in-Pointers.is c.words_fit.ensures.length;
      few = few_pointers p c.args.object.now c.in-Pointers.count c.requires c.in-Pointers.is;
    }
