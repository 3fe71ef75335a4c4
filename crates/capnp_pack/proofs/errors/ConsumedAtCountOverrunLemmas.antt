-- What is consumed where a count is larger than what is asked for. Other failures have other kinds.
use Rattle.std.proofs.Common.{◌≡◌, ℕ, ◌+◌, ◌*◌, ◌<◌, ◌⊎◌, inl, inr, Option, Some, None, List, [], ◌∷◌, ◌++◌, length, replicate, sym, ap, ◌∙◌, arith, append_assoc, length-append}
use Rattle.std.specs.List.{concat}
use Rattle.std.proofs.lemmas.List.Folds.{concat-append}
use Rattle.std.proofs.lemmas.List.Concat.{flat_map-append}
use Rattle.capnp_frame.specs.declared.error.ErrorKind.{ErrorKind}
use Rattle.capnp_frame.specs.declared.error.ErrorKind.TheVariants.{DeviceFailed, PackedInputDidNotEndCleanlyOnASegmentBoundary}
use Rattle.capnp_frame.specs.Prelude.{IfKnown, RequestError, RunsShort}
use Rattle.capnp_frame.proofs.sources.JoinedRequestPartsLemmas.{IfKnown-join, IfKnown-weaker}
use Rattle.capnp_pack.specs.Prelude.{IsGroup, zeros, literal, IsWord, group_encoding, group_words, marked, zero_word, encoding_of, words_of_groups, LeavesOverrun, head_encoding, HasProgress, HeadOver, CountOver, MarkedAt, CutError}
use Rattle.capnp_pack.proofs.words.EachElementLemmas.{AllByRecursion-append}
use Rattle.capnp_pack.proofs.errors.GroupErrorLemmas.{literal_head, literal_size, zeros_size}
use Rattle.capnp_pack.proofs.words.MarkedByteReadLemmas.{full_word}

-- Other failures

-- a group that is cut has another kind
pub cut_is_other : (n : ℕ) (old : Option (List ℕ)) (kind : ErrorKind) → (kind ≡ DeviceFailed) ⊎ CutError n old kind
    → kind ≡ PackedInputDidNotEndCleanlyOnASegmentBoundary → ⊥
cut_is_other n old kind (inl device) over = cc
cut_is_other n old kind (inr cut_error) over = let is = cut_error.1 in cc

pub short_is_other : (n : ℕ) (old : Option (List ℕ)) (kind : ErrorKind) → (kind ≡ DeviceFailed) ⊎ RequestError RunsShort n old kind
    → kind ≡ PackedInputDidNotEndCleanlyOnASegmentBoundary → ⊥
short_is_other n old kind (inl device) over = cc
short_is_other n None kind (inr errors) over = let is = errors.2.1 in cc
short_is_other n (Some x) kind (inr (short, is)) over = cc

pub device_is_other : (kind : ErrorKind) → (kind ≡ DeviceFailed) ⊎ ⊥ → kind ≡ PackedInputDidNotEndCleanlyOnASegmentBoundary → ⊥
device_is_other kind (inl device) over = cc
device_is_other kind (inr never) over = never

-- Heads

pub count_over : (n further : ℕ) (a b : Option (List ℕ)) → further < 256 → n < 8 * further → IfKnown a b (λ raw left. raw ≡ further ∷ left)
    → IfKnown a b (CountOver n)
count_over n further a b low over = IfKnown-weaker a b (λ raw left here. (further, low, over, here))

pub zeros_over : (n further : ℕ) (a b : Option (List ℕ)) → further < 256 → n < 8 * (further + 1) → IfKnown a b (λ raw left. raw ≡ further ∷ left)
    → IfKnown a b (HeadOver 0 n)
zeros_over n further a b low over = IfKnown-weaker a b (λ raw left here.
    (zeros further, low, omega (arith, over, zeros_size further), ap (λ l. 0 ∷ l) here))

pub literal_over : (tag n m : ℕ) (word : List ℕ) (a b c : Option (List ℕ)) → tag ≡ 255 → IsWord word → n ≡ m + 8
    → IfKnown a b (MarkedAt tag word) → IfKnown b c (CountOver m) → IfKnown a c (HeadOver tag n)
literal_over tag n m word a b c full is room = IfKnown-join a b c (λ x y z at (further, low, over, here).
    let head = literal_head word z further is low in
    let front : x ≡ word ++ further ∷ z = at.0 ∙ ap (λ k. marked k word ++ y) full ∙ ap (λ l. l ++ y) (full_word word is).0 ∙ ap (λ l. word ++ l) here in (
      literal word (replicate further zero_word),
      head.is,
      omega (arith, over, room, literal_size word further is),
      ap (λ k. k ∷ x) full ∙ ap (λ l. 255 ∷ l) front ∙ head.spelled,
    ))

-- Groups before it

-- none
pub first_over : (n tag : ℕ) (a b c : Option (List ℕ)) → 0 < n → IfKnown a b (λ raw left. raw ≡ tag ∷ left) → IfKnown b c (HeadOver tag n)
    → IfKnown a c (LeavesOverrun n)
first_over n tag a b c some = IfKnown-join a b c (λ x y z at (group, is, long, head). record {
  groups = [];
  each = tt;
  fewer = some;
  group = group;
  is = is;
  long = omega (arith, long);
  spelled = at ∙ head;
})

-- groups that are taken
pub over_after : (n k m : ℕ) (a b c : Option (List ℕ)) → n ≡ k + m → IfKnown a b (HasProgress k) → IfKnown b c (LeavesOverrun m) → IfKnown a c (LeavesOverrun n)
over_after n k m a b c both = IfKnown-join a b c (λ x y z (groups, each, spelled, counted) over.
    let words : length (concat (words_of_groups (groups ++ over.groups))) ≡ k + length (concat (words_of_groups over.groups)) =
    ap (λ l. length (concat l)) (flat_map-append group_words groups over.groups) ∙ ap length (concat-append (words_of_groups groups) (words_of_groups over.groups))
    ∙ length-append (concat (words_of_groups groups)) (concat (words_of_groups over.groups)) ∙ ap (λ j. j + length (concat (words_of_groups over.groups))) counted in
    let head = head_encoding over.group ++ z in
    let joined : encoding_of groups ++ (encoding_of over.groups ++ head) ≡ encoding_of (groups ++ over.groups) ++ head =
    sym (append_assoc (encoding_of groups) (encoding_of over.groups) head) ∙ ap (λ l. l ++ head) (sym (flat_map-append group_encoding groups over.groups)) in
    let fewer = over.fewer in
    let long = over.long in
    record {
      groups = groups ++ over.groups;
      each = AllByRecursion-append IsGroup groups over.groups each over.each;
      fewer = omega (arith, words, fewer, both);
      group = over.group;
      is = over.is;
      long = omega (arith, words, long, both);
      spelled = spelled ∙ ap (λ l. encoding_of groups ++ l) over.spelled ∙ joined;
    })
