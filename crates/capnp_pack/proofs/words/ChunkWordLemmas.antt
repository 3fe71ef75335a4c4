-- Bytes in whole words.
use Rattle.std.proofs.Common.{◌≡◌, ℕ, zero, suc, ◌*◌, ◌/◌, ◌<◌, List, [], ◌∷◌, ◌++◌, length, take, drop, refl, sym, ap, ◌∙◌, subst, arith, get_or}
use Rattle.std.proofs.lemmas.List.{nil_from_length, take-append-drop, length-take-le, length-drop}
use Rattle.std.specs.List.{concat, AllByRecursion}
use Rattle.std.specs.Simd.{first_chunks}
use Rattle.capnp_frame.specs.Prelude.{IsWholeWords}
use Rattle.capnp_pack.specs.Prelude.{IsWord}

pub chunks_whole : (k : ℕ) (bytes : List ℕ) → length bytes ≡ 8 * k → (concat (first_chunks 8 k bytes) ≡ bytes) × AllByRecursion IsWord (first_chunks 8 k bytes)
chunks_whole zero bytes long = (sym (nil_from_length bytes long), tt)
chunks_whole (suc k) bytes long =
    let more = chunks_whole k (drop 8 bytes) (omega (arith, length-drop 8 bytes)) in
    (ap (λ l. take 8 bytes ++ l) more.0 ∙ take-append-drop 8 bytes, (length-take-le 8 bytes (omega arith), more.1))

-- a chunk of whole words, and its words
pub whole_words : (chunk : List ℕ) (words : List (List ℕ)) → IsWholeWords chunk → words ≡ first_chunks 8 (length chunk / 8) chunk
    → (concat words ≡ chunk) × AllByRecursion IsWord words
whole_words chunk words whole are =
    let cut = chunks_whole (length chunk / 8) chunk (omega arith) in
    (ap concat are ∙ cut.0, subst (AllByRecursion IsWord) (sym are) cut.1)

pub chunks_len : (k : ℕ) (bytes : List ℕ) → length (first_chunks 8 k bytes) ≡ k
chunks_len zero bytes = refl
chunks_len (suc k) bytes = ap suc (chunks_len k (drop 8 bytes))

-- arrays of 8 bytes
pub each_word : (ws : List (List ℕ)) → ((i : ℕ) → i < length ws → length (get_or ws i []) ≡ 8) → AllByRecursion IsWord ws
each_word [] each = tt
each_word (w ∷ ws) each = (each 0 (omega arith), each_word ws (λ i low. each (suc i) (omega arith)))
