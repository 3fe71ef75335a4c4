-- The line of a message lists the lengths of its segments one by one, and a sink may leave a part of it.
use Rattle.std.proofs.Common.{◌≡◌, ◌⊎◌, ℕ, ◌+◌, ◌≤◌, ◌<◌, Option, Some, None, Result, Ok, Err, OnErr, List, [], ◌∷◌, ◌++◌, length, take, inl, inr, refl, sym, ap, ◌∙◌, arith, append_assoc}
use Rattle.std.proofs.lemmas.List.{take_all, take_more, append-nil, length-map}
use Rattle.std.proofs.lemmas.List.Concat.{flat_map-append}
use Rattle.std.proofs.lemmas.Option.{slice_get_within, slice_get_cases, get_or_from_slice_get, none-some}
use Rattle.std.specs.Prelude.{slice_get, sum, decimal}
use Rattle.std.specs.List.{flat_map}
use Rattle.capnp.specs.Prelude.{word_count, lengths, size_in_words, Leaving, IfKnown, Adds, Error}
use Rattle.capnp_ls.specs.Output.{spaced, line, line_of}

-- there is no item past the last
past_end : {X : Type 0} (xs : List X) (i : ℕ) → None ≡ slice_get xs i → length xs ≤ i
past_end xs i none = elim ((slice_get_cases xs i).1) [ inl there ↦ absurd (none-some there.0 (none ∙ there.2)) | inr past ↦ past.0 ]

-- the first lengths are listed, each after a space
pub record ListsLengths (ns : List ℕ) (count : ℕ) (shown : List ℕ) : Type 0 where
  pub within : count ≤ length ns
  pub spelled : shown ≡ flat_map spaced (take count ns)

pub ListsLengths-next : (ns : List ℕ) (count n : ℕ) (shown more : List ℕ) → ListsLengths ns count shown → Some n ≡ slice_get ns count
    → more ≡ shown ++ spaced n → ListsLengths ns (count + 1) more
ListsLengths-next ns count n shown more listed here longer =
    let within : count < length ns = slice_get_within ns count n (sym here) in
    let next : take (count + 1) ns ≡ take count ns ++ n ∷ [] =
    take_more ns count n within ∙ ap (λ k. take count ns ++ k ∷ []) (get_or_from_slice_get ns count n n (sym here)) in
    record {
      within = omega arith;
      spelled =
          longer
          ∙ ap (λ l. l ++ spaced n) listed.spelled
          ∙ ap (λ l. flat_map spaced (take count ns) ++ l) (sym (append-nil (spaced n)))
          ∙ sym (flat_map-append spaced (take count ns) (n ∷ []))
          ∙ ap (flat_map spaced) (sym next);
    }

pub ListsLengths-whole : (ns : List ℕ) (count : ℕ) (shown : List ℕ) → ListsLengths ns count shown → None ≡ slice_get ns count → shown ≡ flat_map spaced ns
ListsLengths-whole ns count shown listed none = listed.spelled ∙ ap (flat_map spaced) (take_all count ns (past_end ns count none))

-- the line of a message is the line of its lengths
pub line_declared : (index : ℕ) (message : List (List ℕ)) (ns : List ℕ) → lengths message ≡ ns → line_of index ns ≡ line index message
line_declared index message ns same =
    ap (line_of index) (sym same)
    ∙ ap (λ k. decimal index ++ spaced k ++ spaced (size_in_words message) ++ flat_map spaced (lengths message) ++ 10 ∷ []) (length-map message word_count)

-- the parts of that line
pub lengths_parts : (index : ℕ) (ns first second third fourth last listed : List ℕ)
    → first ≡ [] ++ decimal index → second ≡ first ++ spaced (length ns) → third ≡ second ++ spaced (sum ns)
    → fourth ≡ third ++ listed → listed ≡ flat_map spaced ns → last ≡ fourth ++ 10 ∷ [] → last ≡ line_of index ns
lengths_parts index ns first second third fourth last listed a b c d e f =
    f
    ∙ ap (λ l. l ++ 10 ∷ []) (d ∙ ap (λ l. third ++ l) e
    ∙ ap (λ l. l ++ flat_map spaced ns) (c ∙ ap (λ l. l ++ spaced (sum ns)) (b ∙ ap (λ l. l ++ spaced (length ns)) a)))
    ∙ simp append_assoc

-- what a sink leaves of a line, it leaves of some line
pub line_left : {X : Type 0} (IsLine : List ℕ → Type 0) (leaves : Leaving) (line : List ℕ) (r : Result X Error) (old new : Option (List ℕ)) → IsLine line
    → OnErr r (IfKnown old new (Adds (leaves line)))
    → OnErr r (IfKnown old new (Adds (λ part. (part ≡ []) ⊎ ((line : List ℕ) × IsLine line × leaves line part))))
line_left IsLine leaves line (Ok done) old new is left = tt
line_left IsLine leaves line (Err error) None new is left = tt
line_left IsLine leaves line (Err error) (Some before) None is left = left
line_left IsLine leaves line (Err error) (Some before) (Some after) is (part, here, added) = (part, inr (line, is, here), added)

-- and nothing where nothing is written
pub no_line_left : {X : Type 0} (P : List ℕ → Type 0) (r : Result X Error) (written : Option (List ℕ)) → OnErr r (IfKnown written written (Adds (λ part. (part ≡ []) ⊎ P part)))
no_line_left P (Ok done) written = tt
no_line_left P (Err error) None = tt
no_line_left P (Err error) (Some before) = ([], inl refl, sym (append-nil before))
