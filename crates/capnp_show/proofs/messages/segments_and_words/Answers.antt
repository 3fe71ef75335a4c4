-- The next segment adds one, and its words; where none follows, or 512 are counted, the others are not
-- listed.
use Rattle.std.proofs.Common.{◌≡◌, ◌<◌, ◌≤◌, ◌-◌, ◌^◌, ℕ, List, None, Some, inl, inr, length, slice_get, take, min, sym, ap, subst, ◌∙◌, arith, take_all}
use Rattle.std.proofs.lemmas.Option.{slice_get_within, slice_get_cases, none-some}
use Rattle.capnp_frame.specs.Prelude.{size_in_words}
use Rattle.capnp_layout.proofs.objects.SectionWordByIndexLemmas.{size_next}
use Rattle.capnp_show.proofs.messages.segments_and_words.Goals as goal

none_follows : (segments : List (List ℕ)) (i : ℕ) → None ≡ slice_get segments i → length segments ≤ i
none_follows segments i none =
    elim (slice_get_cases segments i).1 [ inl there ↦ absurd (none-some there.0 (none ∙ there.2)) | inr past ↦ past.0 ]

all_gone : (segments : List (List ℕ)) (i words : ℕ) → length segments ≤ i → i ≤ 512
    → words ≡ min (size_in_words (take i segments)) (2 ^ 64 - 1) → words ≡ min (size_in_words (take 512 segments)) (2 ^ 64 - 1)
all_gone segments i words past few words_is =
    words_is ∙ ap (λ (front : List (List ℕ)). min (size_in_words front) (2 ^ 64 - 1))
    (take_all i segments past ∙ sym (take_all 512 segments (omega (arith, past, few))))

pub loop-id-preserved : goal.loop-id-preserved
loop-id-preserved g c =
    let segments = g.S.ReaderSegments.segments c.args.segments.now in
    let there : slice_get segments c.loop-id.id ≡ Some c.in-Some.segment.now = sym c.in-Some.ensures in
    let more = size_next segments c.loop-id.id c.in-Some.segment.now there in
    let below : c.loop-id.id < length segments = slice_get_within segments c.loop-id.id c.in-Some.segment.now there in (
      omega (arith, c.loop-id.invariant.0, below, c.saturating_add-count.ensures),
      omega (arith, below),
      omega (arith, more, c.loop-id.invariant.2, c.saturating_add-words.ensures),
      omega (arith, c.loop-id-test.true),
    )

pub returns-in_default-clause-segments : goal.returns-in_default-clause-segments
returns-in_default-clause-segments g c =
    let before = c.loop-id.invariant in
    let past = none_follows (g.S.ReaderSegments.segments c.args.segments.now) c.loop-id.id c.in_default.ensures in
    omega (arith, before.0, before.1, before.3, past)

pub returns-in_default-clause-words : goal.returns-in_default-clause-words
returns-in_default-clause-words g c =
    let segments = g.S.ReaderSegments.segments c.args.segments.now in
    let before = c.loop-id.invariant in
    all_gone segments c.loop-id.id _ (none_follows segments c.loop-id.id c.in_default.ensures) before.3 before.2

pub returns-after-loop-id-clause-segments : goal.returns-after-loop-id-clause-segments
returns-after-loop-id-clause-segments g c =
    let before = c.loop-id.invariant in
    omega (arith, before.0, before.1, before.3, c.loop-id-test.false)

pub returns-after-loop-id-clause-words : goal.returns-after-loop-id-clause-words
returns-after-loop-id-clause-words g c =
    let segments = g.S.ReaderSegments.segments c.args.segments.now in
    let before = c.loop-id.invariant in
    let all : c.loop-id.id ≡ 512 = omega (arith, before.3, c.loop-id-test.false) in
    subst (λ (n : ℕ). c.loop-id.words ≡ min (size_in_words (take n segments)) (2 ^ 64 - 1)) all before.2
