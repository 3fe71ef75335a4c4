-- At most one message is at the front of a buffer: its segments, and its root, are those that a reader returns.
use Rattle.std.proofs.Common.{◌≡◌, ℕ, ℤ, ◌<◌, ◌≤◌, Option, Some, None, List, length, refl, sym, ap, ◌∙◌, arith}
use Rattle.std.specs.Prelude.{slice_get}
use Rattle.std.specs.Option.{option_map}
use Rattle.std.proofs.lemmas.Option.{slice_get-map, slice_get_within}
use Rattle.capnp_frame.specs.Prelude.{word_count, lengths}
use Rattle.capnp_frame.specs.declared.message.options.ReaderOptions.{ReaderOptions}
use Rattle.capnp_frame.proofs.slices.SliceReadersRejectSameBytesLemmas.{index_below}
use Rattle.capnp_frame.proofs.encodings.UniqueDivisionIntoEncodingsLemmas.{frames_part}
use Rattle.capnp_c.specs.Fronts.{IsAtFront, root_within, root_by}

pub one_front : (options : ReaderOptions) (bytes rest left : List ℕ) (segments others : List (List ℕ)) → IsAtFront options bytes segments rest → IsAtFront options bytes others left → segments ≡ others
one_front options bytes rest left segments others p q = (frames_part p.encoding q.encoding rest left segments others p.is_encoding q.is_encoding (sym p.spelled ∙ q.spelled)).1

pub segment_words : (segments others : List (List ℕ)) (id : ℕ) (segment : List ℕ) → others ≡ segments → slice_get others id ≡ Some segment → slice_get (lengths segments) id ≡ Some (word_count segment)
segment_words segments others id segment same is =
    slice_get-map word_count segments id ∙ ap (λ l. option_map word_count (slice_get l id)) (sym same) ∙ ap (option_map word_count) is

-- where a segment is returned, its number is below the count
pub segment_there : (segments others : List (List ℕ)) (id : ℕ) (segment : List ℕ) → others ≡ segments → slice_get others id ≡ Some segment → length segments ≤ id → ⊥
segment_there segments others id segment same is outside = absurd (omega (arith, outside, slice_get_within others id segment is, ap length same))

pub returned_segment_is_there : (segments others : List (List ℕ)) (id : ℕ) → others ≡ segments → slice_get others id ≡ None → id < length segments → ⊥
returned_segment_is_there segments others id same is inside =
    let there = (index_below others id).1 (omega (arith, inside, ap length same)) in
    absurd (cc)

-- the root of an arena of these options over the message's segments
pub same_root : (options : ReaderOptions) (nesting : ℤ) (limit : Option ℕ) (own segments : List (List ℕ)) → nesting ≡ options.nesting_limit
    → limit ≡ options.traversal_limit_in_words → own ≡ segments → root_within nesting limit own ≡ root_by options segments
same_root options nesting limit own segments a b c = rw (a, b, c) refl
