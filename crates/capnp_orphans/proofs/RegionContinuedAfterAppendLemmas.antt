-- The used bytes of a region are a segment, to which an object is appended and whose root is set; the region can
-- be continued after that.
use Rattle.std.proofs.Common.{◌≡◌, ℕ, ◌+◌, ◌*◌, ◌/◌, ◌<◌, ◌≤◌, ◌^◌, List, ◌∷◌, ◌%◌, ◌∙◌, length, take, drop, Some, refl, ap, arith, length-take}
use Rattle.capnp_layout.specs.Prelude.{words_of}
use Rattle.capnp_orphans.specs.Orphans.{link}
use Rattle.capnp_orphans.specs.Segments.{IsSegment, IsWrittenOver}
use Rattle.capnp_orphans.specs.Regions.{segment_in, IsUsed, AppendsInRegion, SetsRootInRegion}
use Rattle.capnp_orphans.proofs.ObjectAppendLemmas.{keeps_after, region_appended, sets_root_orphan}

pub used_is_segment : (region : List ℕ) (used : ℕ) → IsUsed region used → IsSegment (segment_in region used)
used_is_segment region used is =
    let long : length (take used region) ≡ used = omega (arith, length-take used region, is.within) in
    record { whole = ap (λ (n : ℕ). n % 8) long ∙ is.whole; rooted = omega (arith, long, is.rooted); few = omega (arith, long, is.few) }

pub appends_in_region : (holds : List ℕ → List ℕ → ℕ → Type 0) (words used : ℕ) (old new : List ℕ) (word : ℕ) → IsUsed old used → used / 8 + words < 2 ^ 29 → used + 8 * words ≤ length old
    → IsWrittenOver used words holds word old new → AppendsInRegion holds words used old new word
appends_in_region holds words used old new word is few room written =
    let appended = region_appended holds words used (segment_in old used) old new word (used_is_segment old used is) refl room written in
    record {
      appended = appended;
      keeps = keeps_after (segment_in old used) (segment_in new (used + 8 * words)) words (used_is_segment old used is) appended.appended;
      continued = record {
        rooted = omega (arith, is.rooted);
        within = omega (arith, room, written.len);
        whole = omega (arith, is.whole);
        few = omega (arith, few, is.whole);
      };
    }

pub sets_root_in_region : (word used : ℕ) (old new : List ℕ) → IsUsed old used → words_of (take used new) ≡ link word 0 ∷ drop 1 (words_of (take used old)) → length new ≡ length old
    → SetsRootInRegion word used old new
sets_root_in_region word used old new is words_are long = record {
  root_is = sets_root_orphan (segment_in old used) (segment_in new used) word (record {
    words_are = words_are;
    len = omega (arith, long, length-take used old, length-take used new);
    most = ap (λ (n : ℕ). Some n) long;
    memory = long;
  });
  continued = record { rooted = is.rooted; within = omega (arith, is.within, long); whole = is.whole; few = is.few };
}
