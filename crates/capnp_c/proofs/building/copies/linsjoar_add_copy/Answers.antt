-- The object is what the pointer points to, as a reader of these bytes finds it.
use Rattle.std.proofs.Common.{◌≡◌, ◌∙◌, ◌≤◌, ℕ, List, Option, false, ap, subst, arith}
use Rattle.capnp_layout.specs.Prelude.{message_of}
use Rattle.capnp_layout.specs.declared.place.Place.{Place}
use Rattle.capnp_wire.specs.Prelude.{Pointer, HasWords, WordsError, PointsToTree, WalkErrorFrom, pointer_of}
use Rattle.capnp_orphans.specs.Holds.{HoldsValue}
use Rattle.capnp_c.specs.Building.{Adds}
use Rattle.capnp_c.specs.Reading.{pointer_read, place_of}
use Rattle.capnp_c.specs.Segments.{segments_from}
use Rattle.capnp_c.specs.declared.reading.segments.MessageSegments.{MessageSegments}
use Rattle.capnp_c.proofs.ListArgumentsAddedLemmas.{fitting_adds}
use Rattle.capnp_c.proofs.in_place.FollowedPointerResultLemmas.{same_pointer}
use Rattle.capnp_c.proofs.building.copies.linsjoar_add_copy.Goals as goal

-- the segments of a message in bytes
abbrev segments_of : MessageSegments → List (List ℕ)
segments_of segments = segments_from segments.begins.now segments.count segments.bytes.now

-- the pointer at a place of these segments
abbrev pointer_in : MessageSegments → Option Place → ℕ → Option ℕ → Pointer
pointer_in segments place nesting limit = record { message = message_of (segments_of segments); place = place; nesting = nesting; limit = limit }

pub returns : goal.returns
returns c =
    let known = c.in-Some.ensures in
    let pointer_is : pointer_of segments_of c.new-copy.result.value.now ≡ pointer_read c.args.reader.now c.args.bytes.now c.args.pointer.now =
    ap (λ r. pointer_of segments_of r) c.new-copy.ensures ∙ c.pointer_at-reader.ensures
    ∙ ap (λ (s : MessageSegments). pointer_in s c.in_message.result c.args.pointer.now.nesting c.new-arena.result.limiter.limit) c.new-arena.ensures.segments
    ∙ ap (λ (p : Option Place). pointer_in c.in-Some.segments p c.args.pointer.now.nesting c.new-arena.result.limiter.limit) c.in_message.ensures
    ∙ ap (λ (l : Option ℕ). pointer_in c.in-Some.segments (place_of c.args.pointer.now) c.args.pointer.now.nesting l) (c.new-arena.ensures.limit ∙ c.options.ensures)
    ∙ same_pointer c.in-Some.segments c.args.reader.now c.args.bytes.now c.args.pointer.now known.1 known.2 known.3 in
    fitting_adds _ _ _ _ _ _ _ _ _ _ (known.0, subst (λ (n : ℕ). c.args.pointer.now.nesting ≤ n) c.nesting-deepest.ensures (omega (arith, c.if-pointer-deepest.false)))
    (subst
    (λ (p : Pointer). Adds (HasWords (PointsToTree p) false) (WordsError (PointsToTree p) (WalkErrorFrom p) false) (λ before after word. HoldsValue (PointsToTree p) after word) c.args.builder.now c.add.new.builder
    c.args.region.now c.add.new.region c.add.new.orphan c.add.result) pointer_is c.add.ensures)
