-- The definitions at hand-computed examples.
use Rattle.std.proofs.Common.{inl, inr, subst, ◌-◌, ◌%◌, ◌≡◌, ℕ, ◌<◌, List, [], ◌∷◌, ◌++◌, refl, replicate, lit<, lit≤, arith}
use Rattle.capnp_frame.specs.declared.error.ErrorKind.{ErrorKind}
use Rattle.capnp_frame.specs.declared.error.ErrorKind.TheVariants.{FailedToFillTheWholeBuffer, PrematureEndOfPackedInput, PackedInputDidNotEndCleanlyOnASegmentBoundary, NotWholeWords}
use Rattle.capnp_pack.specs.Prelude.{Group, tagged, zeros, literal, zero_word, IsChunk, Packs, IsPackedFrame, GroupError, ChunkError, zero_words}
use Rattle.capnp_frame.specs.declared.serialize.segment_table.Padding.TheVariants.{Zero}

abbrev eight : List ℕ
eight = 1 ∷ 2 ∷ 3 ∷ 4 ∷ 5 ∷ 6 ∷ 7 ∷ 8 ∷ []

pub one_zero_word : Packs (replicate 8 0) (0 ∷ 0 ∷ [])
one_zero_word = record { groups = zeros 0 ∷ []; each = (lit< tt, tt); longest = (λ _. tt, tt); spelled = refl; unpacked = refl }

pub many_zero_words : Packs (replicate 2064 0) (0 ∷ 255 ∷ 0 ∷ 1 ∷ [])
many_zero_words = record { groups = zeros 255 ∷ zeros 1 ∷ []; each = (lit< tt, (lit< tt, tt)); longest = (λ h. absurd (omega arith), (λ _. tt, tt)); spelled = refl; unpacked = refl }

pub tagged_word : Packs (0 ∷ 0 ∷ 12 ∷ 0 ∷ 0 ∷ 34 ∷ 0 ∷ 0 ∷ []) (0x24 ∷ 12 ∷ 34 ∷ [])
tagged_word = record {
  groups = tagged 0x24 (0 ∷ 0 ∷ 12 ∷ 0 ∷ 0 ∷ 34 ∷ 0 ∷ 0 ∷ []) ∷ [];
  each = ((lit< tt, lit< tt, refl, (refl, (refl, (refl, (refl, (refl, (refl, tt))))))), tt);
  longest = ((lit< tt, (lit< tt, tt)), tt);
  spelled = refl;
  unpacked = refl;
}

pub no_words : Packs [] []
no_words = record { groups = []; each = tt; longest = tt; spelled = refl; unpacked = refl }

abbrev mixed : List Group
mixed = literal eight (eight ∷ (6 ∷ 2 ∷ 4 ∷ 3 ∷ 9 ∷ 0 ∷ 5 ∷ 1 ∷ []) ∷ eight ∷ []) ∷ tagged 0xd6 (0 ∷ 2 ∷ 4 ∷ 0 ∷ 9 ∷ 0 ∷ 5 ∷ 1 ∷ []) ∷ []

pub literal_run : Packs (eight ++ eight ++ 6 ∷ 2 ∷ 4 ∷ 3 ∷ 9 ∷ 0 ∷ 5 ∷ 1 ∷ eight ++ 0 ∷ 2 ∷ 4 ∷ 0 ∷ 9 ∷ 0 ∷ 5 ∷ 1 ∷ [])
    (0xff ∷ eight ++ 3 ∷ eight ++ 6 ∷ 2 ∷ 4 ∷ 3 ∷ 9 ∷ 0 ∷ 5 ∷ 1 ∷ eight ++ 0xd6 ∷ 2 ∷ 4 ∷ 9 ∷ 5 ∷ 1 ∷ [])
literal_run = record {
  groups = mixed;
  each = ((refl, (refl, (refl, (refl, tt))), lit< tt), ((lit< tt, lit< tt, refl, (refl, (refl, (refl, tt)))), tt));
  longest = ((refl, (lit≤ tt, (lit≤ tt, (lit≤ tt, tt))), λ _. lit≤ tt), ((lit< tt, (lit< tt, (lit< tt, (lit< tt, (lit< tt, tt))))), tt));
  spelled = refl;
  unpacked = refl;
}

-- a marked byte may be zero when it is read
pub marked_zero : IsChunk (1 ∷ 0 ∷ []) (replicate 8 0)
marked_zero = record { groups = tagged 1 zero_word ∷ []; each = ((lit< tt, lit< tt, refl, (refl, (refl, (refl, (refl, (refl, (refl, (refl, tt)))))))), tt); spelled = refl; unpacked = refl }

-- five segments of 1, 0, 0, 0 and 0 words
abbrev five : List (List ℕ)
five = replicate 8 0 ∷ [] ∷ [] ∷ [] ∷ [] ∷ []

pub five_packed : IsPackedFrame Zero (0x11 ∷ 4 ∷ 1 ∷ 0 ∷ 1 ∷ 0 ∷ 0 ∷ []) five
five_packed = record {
  first = 4 ∷ 0 ∷ 0 ∷ 0 ∷ 1 ∷ 0 ∷ 0 ∷ 0 ∷ [];
  others = replicate 16 0;
  one_word = refl;
  table = record { can = record { some = lit< tt; count = lit≤ tt; each = (lit< tt, (lit< tt, (lit< tt, (lit< tt, (lit< tt, tt))))) }; padding = []; padded = refl; kept = refl; spelled = refl };
  whole = (refl, (refl, (refl, (refl, (refl, tt)))));
  first_encoding = 0x11 ∷ 4 ∷ 1 ∷ [];
  others_encoding = 0 ∷ 1 ∷ [];
  segments_encoding = 0 ∷ 0 ∷ [];
  first_packed = record {
    groups = tagged 0x11 (4 ∷ 0 ∷ 0 ∷ 0 ∷ 1 ∷ 0 ∷ 0 ∷ 0 ∷ []) ∷ [];
    each = ((lit< tt, lit< tt, refl, (refl, (refl, (refl, (refl, (refl, (refl, tt))))))), tt);
    spelled = refl;
    unpacked = refl;
  };
  others_packed = record { groups = zeros 1 ∷ []; each = (lit< tt, tt); spelled = refl; unpacked = refl };
  segments_packed = record { groups = zeros 0 ∷ []; each = (lit< tt, tt); spelled = refl; unpacked = refl };
  spelled = refl;
}

-- the error table of a chunk

-- an error in the first group
first : (raw : List ℕ) (n : ℕ) (kind : ErrorKind) → n % 8 ≡ 0 → (raw ≡ [] → ⊥) → 0 < n → GroupError raw n kind → ChunkError raw n kind
first raw n kind whole more some error =
    let same : n ≡ n - 0 = omega arith in
    inr (λ part. part whole, inr (more, record { groups = []; each = tt; left = raw; spelled = refl; fewer = some; error = subst (λ k. GroupError raw k kind) same error }))

pub run_ends_within_word : ChunkError (255 ∷ eight ++ 1 ∷ 1 ∷ 2 ∷ []) 16 FailedToFillTheWholeBuffer
run_ends_within_word = first (255 ∷ eight ++ 1 ∷ 1 ∷ 2 ∷ []) 16 _ refl (λ e. cc) (lit< tt) (inr (inr (
  record { group = literal eight (eight ∷ []); following = 1 ∷ 2 ∷ []; head = record { is = (refl, (refl, tt), lit< tt); spelled = refl }; fits = lit≤ tt; short = lit< tt },
  refl,
)))

pub run_long : ChunkError (255 ∷ eight ++ 37 ∷ 1 ∷ 2 ∷ []) 200 PackedInputDidNotEndCleanlyOnASegmentBoundary
run_long = first (255 ∷ eight ++ 37 ∷ 1 ∷ 2 ∷ []) 200 _ refl (λ e. cc) (lit< tt) (inr (inl (
  record { group = literal eight (replicate 37 zero_word); following = 1 ∷ 2 ∷ []; head = record { is = (refl, zero_words 37, lit< tt); spelled = refl }; long = lit< tt },
  refl,
)))

pub byte_missing : ChunkError (0xf0 ∷ 1 ∷ 2 ∷ []) 200 PrematureEndOfPackedInput
byte_missing = first (0xf0 ∷ 1 ∷ 2 ∷ []) 200 _ refl (λ e. cc) (lit< tt) (inl (
  record { group = tagged 0xf0 (0 ∷ 0 ∷ 0 ∷ 0 ∷ 1 ∷ 2 ∷ 0 ∷ 0 ∷ []); is = (lit< tt, lit< tt, refl, (refl, (refl, (refl, (refl, tt))))); missing = 0 ∷ 0 ∷ []; some = lit< tt; spelled = refl },
  refl,
))

pub run_count_is_missing : ChunkError (0 ∷ []) 200 PrematureEndOfPackedInput
run_count_is_missing = first (0 ∷ []) 200 _ refl (λ e. cc) (lit< tt) (inl (record { group = zeros 0; is = lit< tt; missing = 0 ∷ []; some = lit< tt; spelled = refl }, refl))

pub run_count_missing : ChunkError (255 ∷ eight) 200 PrematureEndOfPackedInput
run_count_missing = first (255 ∷ eight) 200 _ refl (λ e. cc) (lit< tt) (inl (record { group = literal eight []; is = (refl, tt, lit< tt); missing = 0 ∷ []; some = lit< tt; spelled = refl }, refl))

-- a later group is missing
pub later_group_is_missing : ChunkError (1 ∷ 1 ∷ []) 200 PrematureEndOfPackedInput
later_group_is_missing = inr (
  λ part. part refl,
  inr (
    (λ e. cc),
    record {
      groups = tagged 1 (1 ∷ replicate 7 0) ∷ [];
      each = ((lit< tt, lit< tt, refl, (refl, (refl, (refl, (refl, (refl, (refl, (refl, tt)))))))), tt);
      left = [];
      spelled = refl;
      fewer = lit< tt;
      error = inl (record { group = zeros 0; is = lit< tt; missing = 0 ∷ 0 ∷ []; some = lit< tt; spelled = refl }, refl);
    },
  ),
)

pub start_missing : ChunkError [] 8 FailedToFillTheWholeBuffer
start_missing = inr (λ part. part refl, inl (refl, (lit< tt, refl)))

pub part_of_a_word : ChunkError [] 12 NotWholeWords
part_of_a_word = inl (λ e. absurd (omega arith), refl)
