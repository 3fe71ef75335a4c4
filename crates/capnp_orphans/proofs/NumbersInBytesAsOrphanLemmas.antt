-- A list of numbers that is given as its bytes is an orphan: the bytes, whose last one is masked, and zeros after them.
use native.Mathlib.Nat.{pow-zero, pow-suc}
use Rattle.std.proofs.Math.Arith.{mod-mul}
use Rattle.std.proofs.Math.Nat.{mod-eq_of_lt, mod-le, mul_comm, mul-le-mul_left}
use Rattle.std.proofs.Common.{◌≡◌, ℕ, zero, suc, ◌+◌, ◌-◌, ◌*◌, ◌/◌, ◌%◌, ◌^◌, ◌<◌, ◌≤◌, false, Ok, Err, List, [], ◌∷◌, ◌++◌, length, take, drop, slice_index_or, refl, sym, ◌∙◌, ap, subst, arith, length-append, length-take, append_assoc, lit<}
use Rattle.std.specs.Prelude.{All, replicate, min, Result, MatchResult}
use Rattle.std.proofs.Math.ListN.{set}
use Rattle.std.proofs.Math.Seq.{drop-append_seam}
use Rattle.std.proofs.lemmas.List.Elements.{All-nil, All-cons, All-head, All-tail, All-take, All-push}
use Rattle.std.proofs.lemmas.List.{append-nil, take_more, take_all, set_split, take-append-le}
use Rattle.std.proofs.lemmas.Nat.{pow_pos, pow-add}
use Rattle.capnp_layout.specs.declared.element_size.ElementSize.{ElementSize}
use Rattle.capnp_layout.specs.declared.element_size.ElementSize.TheVariants.{Void, Bit, Byte, TwoBytes, FourBytes, EightBytes}
use Rattle.capnp_layout.specs.Prelude.{digits, number_of, words_of, words_for, code_of, width, numbers, none, tree, total_words, own, list_pointer, AllHaveRoom}
use Rattle.capnp_layout.proofs.words.WordsOfBytesLemmas.{number-append}
use Rattle.capnp_layout.proofs.words.WordsOfPaddedByteListLemmas.{words_of_padded}
use Rattle.capnp_layout.proofs.words.DigitsToNumberAndBackLemmas.{length-digits, number_below, pow-mul}
use Rattle.capnp_layout.proofs.objects.ByteListElementLemmas.{low_digit, high_digits}
use Rattle.capnp_frame.specs.declared.error.Error.{Error}
use Rattle.capnp_frame.specs.declared.error.ErrorKind.TheVariants.{AllocationTooLarge}
use Rattle.capnp_wire.specs.Prelude.{HasWords}
use Rattle.capnp_wire.proofs.layouts.NullAndNumbersWrittenLemmas.{numbers_total}
use Rattle.capnp_values.specs.NumberLists.{IsNumberList, ManyNumbers}
use Rattle.capnp_orphans.specs.Orphans.{IsOrphan}
use Rattle.capnp_orphans.specs.Holds.{HoldsValue}
use Rattle.capnp_orphans.specs.Sized.{FillBytes, numbers_in_bytes}
use Rattle.capnp_orphans.proofs.ObjectIsOrphanLemmas.{value_is_orphan}

-- the lowest digit of a remainder, and those above it
split_mod : (base m x : ℕ) → 0 < base → 0 < m → x % (base * m) ≡ x % base + base * (x / base % m)
split_mod base m x positive some =
    let swap : m * base ≡ base * m = mul_comm m base in
    let flip : (x / base % m) * base ≡ base * (x / base % m) = mul_comm (x / base % m) base in
    ap (λ (n : ℕ). x % n) (sym swap) ∙ mod-mul x some positive ∙ omega arith

-- the lowest digits of a number make its remainder
mod_one : (x : ℕ) → x % 1 ≡ 0
mod_one x = omega arith

pub number_of_digits : (base n x : ℕ) → 0 < base → ((k : ℕ) → 0 < base ^ k) → number_of base (digits base n x) ≡ x % base ^ n
number_of_digits base zero x positive powers = sym (ap (λ (k : ℕ). x % k) (pow-zero base) ∙ mod_one x)
number_of_digits base (suc n) x positive powers =
    let whole : base ^ suc n ≡ base * base ^ n = pow-suc base n ∙ mul_comm (base ^ n) base in
    ap (λ (k : ℕ). x % base + base * k) (number_of_digits base n (x / base) positive powers)
    ∙ sym (split_mod base (base ^ n) x positive (powers n)) ∙ ap (λ (k : ℕ). x % k) (sym whole)

-- the bytes before the last one, and what is left of that one
pub masked_number : (front : List ℕ) (last kept : ℕ) → All (λ b. b < 256) front → number_of 256 (front ++ last % 2 ^ kept ∷ []) ≡ number_of 256 (front ++ last ∷ []) % 2 ^ (8 * length front + kept)
masked_number front last kept fits =
    let base : ℕ = 256 ^ length front in
    let low : number_of 256 front < 256 ^ length front = number_below 256 front fits in
    let one : (x : ℕ) → number_of 256 (x ∷ []) ≡ x = λ x. omega arith in
    let whole : number_of 256 (front ++ last ∷ []) ≡ number_of 256 front + 256 ^ length front * last =
    number-append 256 front (last ∷ []) ∙ ap (λ (k : ℕ). number_of 256 front + 256 ^ length front * k) (one last) in
    let masked : number_of 256 (front ++ last % 2 ^ kept ∷ []) ≡ number_of 256 front + 256 ^ length front * (last % 2 ^ kept) =
    number-append 256 front (last % 2 ^ kept ∷ []) ∙ ap (λ (k : ℕ). number_of 256 front + 256 ^ length front * k) (one (last % 2 ^ kept)) in
    let positive : 0 < 256 ^ length front = omega (arith, low) in
    let split : 2 ^ (8 * length front + kept) ≡ 256 ^ length front * 2 ^ kept = pow-add 2 (8 * length front) kept ∙ ap (λ (k : ℕ). k * 2 ^ kept) (pow-mul 2 8 (length front)) in
    masked
    ∙ ap (λ (k : ℕ). k + 256 ^ length front * (last % 2 ^ kept)) (sym (low_digit base (number_of 256 front) last low))
    ∙ ap (λ (k : ℕ). (number_of 256 front + 256 ^ length front * last) % 256 ^ length front + 256 ^ length front * (k % 2 ^ kept)) (sym (high_digits base (number_of 256 front) last low))
    ∙ sym (split_mod base (2 ^ kept) (number_of 256 front + 256 ^ length front * last) positive (pow_pos kept))
    ∙ ap (λ (k : ℕ). k % (256 ^ length front * 2 ^ kept)) (sym whole)
    ∙ ap (λ (k : ℕ). number_of 256 (front ++ last ∷ []) % k) (sym split)

-- all bytes are kept
pub whole_number : (bytes : List ℕ) (bits : ℕ) → All (λ b. b < 256) bytes → bits ≡ 8 * length bytes → number_of 256 bytes ≡ number_of 256 bytes % 2 ^ bits
whole_number bytes bits fits is =
    let size : 2 ^ bits ≡ 256 ^ length bytes = ap (λ (n : ℕ). 2 ^ n) is ∙ pow-mul 2 8 (length bytes) in
    sym (mod-eq_of_lt (subst (λ (n : ℕ). number_of 256 bytes < n) (sym size) (number_below 256 bytes fits)))

-- such a list is an orphan
pub numbers_written : (code count : ℕ) (body bytes block : List ℕ) (start words w : ℕ) → start ≡ 1 + length body → HasWords (IsNumberList code (numbers_in_bytes code count bytes)) false words
    → start + words < 2 ^ 29 → words_of block ≡ digits (2 ^ 64) words (number_of 256 bytes % 2 ^ (count * width code)) → w ≡ list_pointer start code count
    → HoldsValue (IsNumberList code (numbers_in_bytes code count bytes)) (body ++ words_of block) w
numbers_written code count body bytes block start words w is takes room block_is word_is =
    let values : List ℕ = numbers_in_bytes code count bytes in
    let many : length (numbers_in_bytes code count bytes) ≡ count = length-digits (2 ^ width code) count (number_of 256 bytes) in
    let rooms : AllHaveRoom (tree (numbers code (numbers_in_bytes code count bytes)) none none) = subst AllHaveRoom takes.tree_is.1 takes.rooms in
    let total : words ≡ total_words (tree (numbers code (numbers_in_bytes code count bytes)) none none) = takes.words_are ∙ ap total_words takes.tree_is.1 in
    let long : words ≡ words_for (length (numbers_in_bytes code count bytes)) (width code) = takes.words_are ∙ numbers_total false code values takes.trees takes.tree_is.1 in
    let swap : count * width code ≡ width code * count = mul_comm count (width code) in
    let number : number_of 256 bytes % 2 ^ (count * width code) ≡ number_of (2 ^ width code) (numbers_in_bytes code count bytes) =
    ap (λ (n : ℕ). number_of 256 bytes % 2 ^ n) swap ∙ ap (λ (n : ℕ). number_of 256 bytes % n) (pow-mul 2 (width code) count)
    ∙ sym (number_of_digits (2 ^ width code) count (number_of 256 bytes) (pow_pos (width code)) (λ k. subst (λ (n : ℕ). 0 < n) (pow-mul 2 (width code) k) (pow_pos (width code * k)))) in
    let words_are = block_is ∙ ap (λ (n : ℕ). digits (2 ^ 64) n (number_of 256 bytes % 2 ^ (count * width code))) long
    ∙ ap (digits (2 ^ 64) (words_for (length (numbers_in_bytes code count bytes)) (width code))) number
    ∙ sym (append-nil (own (numbers code values) [] ++ []) ∙ append-nil (own (numbers code values) [])) in
    let word : w ≡ list_pointer start code (length (numbers_in_bytes code count bytes)) = word_is ∙ ap (λ (n : ℕ). list_pointer start code n) (sym many) in (
      numbers code (numbers_in_bytes code count bytes),
      none,
      (takes.tree_is.0, refl),
      subst (λ (x : ℕ). IsOrphan (body ++ words_of block) x (numbers code (numbers_in_bytes code count bytes)) none) (sym word)
          (subst (λ (l : List ℕ). IsOrphan (body ++ l) (list_pointer start code (length (numbers_in_bytes code count bytes))) (numbers code (numbers_in_bytes code count bytes)) none) (sym words_are)
          (value_is_orphan body (numbers code (numbers_in_bytes code count bytes)) none start is rooms (omega (arith, room, total)))),
    )

each_below : (bytes : List ℕ) → All (λ b. b < 256) bytes → (i : ℕ) → slice_index_or bytes i 0 < 256
each_below [] fits i = lit< tt
each_below (b ∷ bytes) fits zero = All-head (λ b. b < 256) b bytes fits
each_below (b ∷ bytes) fits (suc i) = each_below bytes (All-tail (λ b. b < 256) b bytes fits) i

masked_byte : (x kept : ℕ) → x < 256 → x % 2 ^ kept < 256
masked_byte x kept small = let less : x % 2 ^ kept ≤ x = mod-le x (2 ^ kept) in omega (arith, less, small)

-- the words of bytes whose bits are all kept
pub kept_whole : (bytes : List ℕ) (bits k n : ℕ) → All (λ b. b < 256) bytes → bits ≡ 8 * length bytes → length bytes + k ≡ 8 * n
    → words_of (bytes ++ replicate k 0) ≡ digits (2 ^ 64) n (number_of 256 bytes % 2 ^ bits)
kept_whole bytes bits k n fits is long = words_of_padded bytes k n (each_below bytes fits) long ∙ ap (digits (2 ^ 64) n) (whole_number bytes bits fits is)

-- the last byte is replaced
last_replaced : (bytes zeros : List ℕ) (i v : ℕ) → length bytes ≡ i + 1 → set (bytes ++ zeros) i v ≡ (take i bytes ++ v ∷ []) ++ zeros
last_replaced bytes zeros i v long =
    let within : i < length (bytes ++ zeros) = omega (arith, length-append bytes zeros, long) in
    let next : suc i ≡ length bytes = omega (arith, long) in
    let after : drop (suc i) (bytes ++ zeros) ≡ zeros = ap (λ (n : ℕ). drop n (bytes ++ zeros)) next ∙ drop-append_seam bytes zeros in
    set_split (bytes ++ zeros) i v within
    ∙ ap (λ (l : List ℕ). l ++ v ∷ drop (suc i) (bytes ++ zeros)) (take-append-le i bytes zeros (omega (arith, long)))
    ∙ ap (λ (l : List ℕ). take i bytes ++ v ∷ l) after
    ∙ sym (append_assoc (take i bytes) (v ∷ []) zeros)

-- the words of bytes where some bits of the last one are kept
pub kept_masked : (bytes : List ℕ) (bits kept last k n : ℕ) → All (λ b. b < 256) bytes → length bytes ≡ last + 1 → bits ≡ 8 * last + kept → kept < 8
    → length bytes + k ≡ 8 * n
    → words_of (set (bytes ++ replicate k 0) last (slice_index_or bytes last 0 % 2 ^ kept)) ≡ digits (2 ^ 64) n (number_of 256 bytes % 2 ^ bits)
kept_masked bytes bits kept last k n fits long is few size =
    let x : ℕ = slice_index_or bytes last 0 in
    let front : List ℕ = take last bytes in
    let front_long : length (take last bytes) ≡ last = omega (arith, length-take last bytes, long) in
    let whole : bytes ≡ take last bytes ++ x ∷ [] =
    sym (take_all (last + 1) bytes (omega (arith, long))) ∙ take_more bytes last 0 (omega (arith, long)) in
    let front_fits : All (λ b. b < 256) (take last bytes) = All-take (λ b. b < 256) last bytes fits in
    let number : number_of 256 (take last bytes ++ x % 2 ^ kept ∷ []) ≡ number_of 256 bytes % 2 ^ bits =
    masked_number front x kept front_fits ∙ ap (λ (n : ℕ). number_of 256 (take last bytes ++ x ∷ []) % 2 ^ (8 * n + kept)) front_long
    ∙ ap (λ (n : ℕ). number_of 256 (take last bytes ++ x ∷ []) % 2 ^ n) (sym is) ∙ ap (λ (l : List ℕ). number_of 256 l % 2 ^ bits) (sym whole) in
    let small : All (λ b. b < 256) (take last bytes ++ x % 2 ^ kept ∷ []) = All-push (λ b. b < 256) (take last bytes) (x % 2 ^ kept) front_fits (masked_byte x kept (fits last 0 (omega (arith, long)))) in
    ap words_of (last_replaced bytes (replicate k 0) last (x % 2 ^ kept) long)
    ∙ words_of_padded (take last bytes ++ x % 2 ^ kept ∷ []) k n (each_below (take last bytes ++ x % 2 ^ kept ∷ []) small) (omega (arith, length-append (take last bytes) (x % 2 ^ kept ∷ []), front_long, long, size))
    ∙ ap (digits (2 ^ 64) n) number

-- the codes of numbers, and their widths
pub known_code : (size : ElementSize) → code_of size < 6
known_code Void = omega arith
known_code Bit = omega arith
known_code Byte = omega arith
known_code TwoBytes = omega arith
known_code FourBytes = omega arith
known_code EightBytes = omega arith

pub narrow_code : (size : ElementSize) → width (code_of size) ≤ 64
narrow_code Void = omega arith
narrow_code Bit = omega arith
narrow_code Byte = omega arith
narrow_code TwoBytes = omega arith
narrow_code FourBytes = omega arith
narrow_code EightBytes = omega arith

-- how many words such a list has, and when it has too many numbers
few_words : (count bits : ℕ) → bits ≤ 64 → count < 2 ^ 29 → words_for count bits < 2 ^ 29
few_words count bits narrow few = let most : count * bits ≤ count * 64 = mul-le-mul_left count narrow in omega (arith, most, few)

low_below : (x base : ℕ) → 0 < base → x % base < base
low_below x base positive = omega arith

digits_small : (base n x : ℕ) → 0 < base → All (λ v. v < base) (digits base n x)
digits_small base zero x positive = All-nil (λ v. v < base)
digits_small base (suc n) x positive = let low : x % base < base = low_below x base positive in All-cons (λ v. v < base) (x % base) (digits base n (x / base)) low (digits_small base n (x / base) positive)

abbrev pub MeasuresNumbers : ℕ → ℕ → Result ℕ Error → Type 0
MeasuresNumbers code count result = MatchResult result (λ words. (count < 2 ^ 29) × (words ≡ words_for count (width code)))
    (λ error. (2 ^ 29 ≤ count) × (error.kind ≡ AllocationTooLarge (min count (2 ^ 32 - 1))))

numbers_words : (code count words : ℕ) (bytes : List ℕ) → HasWords (IsNumberList code (numbers_in_bytes code count bytes)) false words → (count < 2 ^ 29) × (words ≡ words_for count (width code))
numbers_words code count words bytes has =
    let many : length (numbers_in_bytes code count bytes) ≡ count = length-digits (2 ^ width code) count (number_of 256 bytes) in (
      omega (arith, many, has.tree_is.0),
      has.words_are ∙ numbers_total false code (numbers_in_bytes code count bytes) has.trees has.tree_is.1 ∙ ap (λ (n : ℕ). words_for n (width code)) many,
    )

pub numbers_measured : (code count : ℕ) (bytes : List ℕ) (result : Result ℕ Error) → code < 6 → width code ≤ 64 → MeasuresNumbers code count result
    → MatchResult result (HasWords (IsNumberList code (numbers_in_bytes code count bytes)) false) (λ error. ManyNumbers count error.kind)
numbers_measured code count bytes (Ok words) known narrow is =
    let values : List ℕ = numbers_in_bytes code count bytes in
    let many : length (numbers_in_bytes code count bytes) ≡ count = length-digits (2 ^ width code) count (number_of 256 bytes) in
    let few : length (numbers_in_bytes code count bytes) < 2 ^ 29 = omega (arith, many, is.0) in
    record {
      trees = tree (numbers code (numbers_in_bytes code count bytes)) none none;
      tree_is = (few, refl);
      rooms = ((known, few, refl, digits_small (2 ^ width code) count (number_of 256 bytes) (pow_pos (width code))), tt, tt);
      words_are = is.1 ∙ ap (λ (n : ℕ). words_for n (width code)) (sym many) ∙ sym (numbers_total false code values (tree (numbers code (numbers_in_bytes code count bytes)) none none) refl);
      few = omega (arith, is.1, few_words count (width code) narrow is.0);
    }
numbers_measured code count bytes (Err error) known narrow is = is

pub numbers_found : (code count words : ℕ) (bytes : List ℕ) (result : Result ℕ Error) → MeasuresNumbers code count result → HasWords (IsNumberList code (numbers_in_bytes code count bytes)) false words
    → result ≡ Ok words
numbers_found code count words bytes (Ok measured) is has = ap (λ (n : ℕ). Ok n) (is.1 ∙ sym (numbers_words code count words bytes has).1)
numbers_found code count words bytes (Err error) is has = absurd (omega (arith, is.0, (numbers_words code count words bytes has).0))

-- the bytes have room in a block of the list's words
pub bytes_have_room : (code count : ℕ) (bytes block : List ℕ) → FillBytes code count bytes → HasWords (IsNumberList code (numbers_in_bytes code count bytes)) false (length block / 8) → length block % 8 ≡ 0
    → (count < 2 ^ 29) × (length bytes ≤ length block)
bytes_have_room code count bytes block full has whole =
    let is = numbers_words code count (length block / 8) bytes has in (is.0, omega (arith, full.1, is.1, whole))
