-- Which NoAllocSegmentTableInfo describes the message at the front of bytes: the one of the same numbers, and none
-- where a reader fails.
use Rattle.std.proofs.Common.{◌≡◌, ℕ, ◌+◌, ◌-◌, ◌*◌, None, ◌↔◌, List, length, drop, sym, ap, ◌∙◌, subst}
use Rattle.std.proofs.lemmas.Bool.{false≢true}
use Rattle.std.specs.Prelude.{sum, Bool, false, IsTrue}
use Rattle.capnp_frame.specs.declared.error.ErrorKind.{ErrorKind}
use Rattle.capnp_frame.specs.declared.serialize.segment_table_info.NoAllocSegmentTableInfo.{NoAllocSegmentTableInfo}
use Rattle.capnp_frame.specs.Prelude.{size_in_words, table_size, IsDescribed, HaveSameNumbers, declared_lengths, declared_segments, HoldsMessage, by_fields, FlatError}
use Rattle.capnp_frame.specs.declared.serialize.segment_table.Padding.TheVariants.{Any}
use Rattle.capnp_frame.proofs.encodings.DeclaredMessageIsFrontFrameLemmas.{found_from_holds, holds_from_begins, within_declared, length-declared_segments}
use Rattle.capnp_frame.proofs.slices.FlatErrorLemmas.{FlatError-apart}

pub holds_from_described : (bytes : List ℕ) (info : NoAllocSegmentTableInfo) → IsDescribed bytes info
    → HoldsMessage bytes info.segments_count
holds_from_described bytes info d =
    subst (HoldsMessage bytes) (sym d.count) (holds_from_begins Any bytes d.segments d.rest None d.begins d.within).holds

pub described_from_holds : (bytes : List ℕ) (info : NoAllocSegmentTableInfo) → HoldsMessage bytes info.segments_count
    → info.total_segments_length_bytes ≡ 8 * sum (declared_lengths info.segments_count bytes)
    → info.segment_table_length_bytes ≡ table_size info.segments_count → IsDescribed bytes info
described_from_holds bytes info holds total table =
    let count = info.segments_count in
    let found = found_from_holds Any bytes count holds tt in
    let many : count ≡ length (declared_segments count bytes) = sym (length-declared_segments count bytes) in
    record {
      segments = declared_segments count bytes;
      rest = drop (table_size count + 8 * sum (declared_lengths count bytes)) bytes;
      begins = found.begins;
      within = within_declared bytes count None holds tt;
      count = many;
      table = table ∙ ap table_size many;
      total = total ∙ ap (λ l. 8 * sum l) (sym found.lengths_are);
    }

-- one description fits a front
pub described_once : (bytes : List ℕ) (found info : NoAllocSegmentTableInfo) → IsDescribed bytes found → IsDescribed bytes info → HaveSameNumbers found info
described_once bytes found info d e =
    let one = holds_from_begins Any bytes d.segments d.rest None d.begins d.within in
    let other = holds_from_begins Any bytes e.segments e.rest None e.begins e.within in
    let many : length d.segments ≡ length e.segments = sym one.count ∙ other.count in
    let same : d.segments ≡ e.segments = sym one.segments_are ∙ ap (λ k. declared_segments k bytes) many ∙ other.segments_are in
    record {
      count = d.count ∙ many ∙ sym e.count;
      table = d.table ∙ ap table_size many ∙ sym e.table;
      total = d.total ∙ ap (λ l. 8 * size_in_words l) same ∙ sym e.total;
    }

pub same_described : (bytes : List ℕ) (found info : NoAllocSegmentTableInfo) → HaveSameNumbers found info → IsDescribed bytes found → IsDescribed bytes info
same_described bytes found info same d = record {
  segments = d.segments;
  rest = d.rest;
  begins = d.begins;
  within = d.within;
  count = sym same.count ∙ d.count;
  table = sym same.table ∙ d.table;
  total = sym same.total ∙ d.total;
}

-- the test of a description
pub describes_found : (bytes : List ℕ) (found info : NoAllocSegmentTableInfo) (b : Bool)
    → IsTrue b ↔ HaveSameNumbers found info → HoldsMessage bytes found.segments_count
    → found.segment_table_length_bytes ≡ table_size found.segments_count
    → found.total_segments_length_bytes ≡ 8 * sum (declared_lengths found.segments_count bytes)
    → IsTrue b ↔ IsDescribed bytes info
describes_found bytes found info b means holds table total =
    let described = described_from_holds bytes found holds total table in
    (λ yes. same_described bytes found info (means.0 yes) described, λ d. means.1 (described_once bytes found info described d))

pub describes_none : (kind : ErrorKind) (bytes : List ℕ) (info : NoAllocSegmentTableInfo) → FlatError by_fields Any None kind bytes → IsTrue false ↔ IsDescribed bytes info
describes_none kind bytes info met = (λ yes. absurd (false≢true yes), λ d. absurd (FlatError-apart by_fields Any None kind bytes d.segments d.rest d.begins d.within met))
