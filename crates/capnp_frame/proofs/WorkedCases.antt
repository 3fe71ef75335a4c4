-- The definitions at hand-computed examples.
use Rattle.std.proofs.Common.{Some, None, inl, inr, ◌≡◌, ℕ, List, [], ◌∷◌, ◌++◌, length, refl, replicate, lit<, lit≤}
use Rattle.std.specs.List.{concat}
use Rattle.capnp_frame.specs.Prelude.{lengths, zero_padded_table, IsFrame, frame_bytes, Splits, RunsShort, StreamError}
use Rattle.capnp_frame.specs.declared.serialize.segment_table.Padding.TheVariants.{Any, Zero}
use Rattle.capnp_frame.proofs.errors.UniqueErrorLineLemmas.{in_range}
use Rattle.capnp_frame.specs.declared.error.ErrorKind.TheVariants.{FailedToFillTheWholeBuffer, InvalidNumberOfSegments, MessageTooLarge}

abbrev eight : List ℕ
eight = 1 ∷ 2 ∷ 3 ∷ 4 ∷ 5 ∷ 6 ∷ 7 ∷ 8 ∷ []

-- by the rule of any padding it may hold anything
pub padded_frame : IsFrame Any (1 ∷ 0 ∷ 0 ∷ 0 ∷ 0 ∷ 0 ∷ 0 ∷ 0 ∷ 1 ∷ 0 ∷ 0 ∷ 0 ∷ 9 ∷ 9 ∷ 9 ∷ 9 ∷ eight) ([] ∷ eight ∷ [])
padded_frame = record {
  table = 1 ∷ 0 ∷ 0 ∷ 0 ∷ 0 ∷ 0 ∷ 0 ∷ 0 ∷ 1 ∷ 0 ∷ 0 ∷ 0 ∷ 9 ∷ 9 ∷ 9 ∷ 9 ∷ [];
  lengths_declared = record {
    can = record { some = lit< tt; count = lit≤ tt; each = (lit< tt, (lit< tt, tt)) };
    padding = 9 ∷ 9 ∷ 9 ∷ 9 ∷ [];
    padded = refl;
    kept = tt;
    spelled = refl;
  };
  whole = (refl, (refl, tt));
  spelled = refl;
}

abbrev seven : List (List ℕ)
seven = (123 ∷ replicate 7 0) ∷ (4 ∷ replicate 7 0 ++ 5 ∷ replicate 7 0) ∷ []

pub two_flat : frame_bytes seven ≡ 1 ∷ 0 ∷ 0 ∷ 0 ∷ 1 ∷ 0 ∷ 0 ∷ 0 ∷ 2 ∷ 0 ∷ 0 ∷ 0 ∷ 0 ∷ 0 ∷ 0 ∷ 0 ∷ concat seven
two_flat = refl

pub two_flat_length : length (frame_bytes seven) ≡ 40
two_flat_length = refl

-- the table of four lengths
pub four_lengths : zero_padded_table (lengths
    (replicate 616 0 ∷ replicate 184 0 ∷ replicate 8 0 ∷ replicate 792 0 ∷ [])) ≡ 3 ∷ 0 ∷ 0 ∷ 0 ∷ 77 ∷ 0 ∷ 0 ∷ 0 ∷ 23
    ∷ 0 ∷ 0 ∷ 0 ∷ 1 ∷ 0 ∷ 0 ∷ 0 ∷ 99 ∷ 0 ∷ 0 ∷ 0 ∷ 0 ∷ 0 ∷ 0 ∷ 0 ∷ []
four_lengths = refl

-- the error table: a cut first word
pub cut_word : StreamError Zero Splits RunsShort (Some 8) None FailedToFillTheWholeBuffer (0 ∷ 0 ∷ 0 ∷ 0 ∷ []) []
cut_word = inr (λ x. x, ((λ e. cc), inl (lit< tt, refl)))

-- a count field of 4294967295 declares no segment
pub wrapped_count : StreamError Zero Splits RunsShort (Some 8) None (InvalidNumberOfSegments 0) (255 ∷ 255 ∷ 255 ∷ 255 ∷ 0 ∷ 0 ∷ 0 ∷ 0 ∷ []) []
wrapped_count = inr (λ x. x, ((λ e. cc), inr (255 ∷ 255 ∷ 255 ∷ 255 ∷ 0 ∷ 0 ∷ 0 ∷ 0 ∷ [], [], (refl, refl), (0, (4294967295, lit< tt, refl, refl), inl (inl refl, (refl, refl))))))

-- three words pass a limit of 2, though none of them is there
pub three_declared_words : StreamError Zero Splits RunsShort (Some 2) None (MessageTooLarge 3) (0 ∷ 0 ∷ 0 ∷ 0 ∷ 3 ∷ 0 ∷ 0 ∷ 0 ∷ []) []
three_declared_words = inr (
  λ x. x,
  (
    (λ e. cc),
    inr (
      0 ∷ 0 ∷ 0 ∷ 0 ∷ 3 ∷ 0 ∷ 0 ∷ 0 ∷ [],
      [],
      (refl, refl),
      (
        1,
        (0, lit< tt, refl, refl),
        inr (
          in_range 1 (lit< tt) (lit< tt),
          inr (
            λ x. x,
            inr (
              [],
              [],
              (refl, refl),
              (
                3 ∷ [],
                record { can = record { some = lit< tt; count = lit≤ tt; each = (lit< tt, tt) }; padding = []; padded = refl; kept = tt; spelled = refl },
                inl (lit< tt, (refl, refl)),
              ),
            ),
          ),
        ),
      ),
    ),
  ),
)
