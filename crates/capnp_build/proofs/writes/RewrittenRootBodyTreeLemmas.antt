-- Where bytes of the root's body are written over, the tree at the root is the one whose body they make. Of a list
-- of bytes, those are replaced.
use Rattle.std.proofs.Common.{◌≡◌, ℕ, zero, suc, ◌+◌, ◌-◌, ◌*◌, ◌/◌, ◌^◌, ◌<◌, ◌≤◌, List, [], ◌∷◌, ◌++◌, length, take, drop, replicate, Some, slice_index_or, slice_set, refl, ap, sym, ◌∙◌}
use Rattle.std.proofs.Common.{arith, lit<, length-append, length-take, length-drop, append_assoc}
use Rattle.std.specs.Prelude.{All}
use Rattle.std.proofs.lemmas.List.{take_all, append-nil, take-append-le, drop-append-le, length-replicate}
use Rattle.std.proofs.lemmas.List.Elements.{All-head, All-tail, All-cons, All-append, All-take, All-drop}
use Rattle.capnp_layout.specs.Prelude.{number_of, digits, words_of, words_from, words_for, Form, numbers, Trees, none, tree, count, object_size, total_words, word_at, root, pointer, body, HasRoom}
use Rattle.capnp_layout.proofs.words.WordsOfBytesLemmas.{numbers_from, bytes_back, length-words_of}
use Rattle.capnp_layout.proofs.words.WordsOfPaddedByteListLemmas.{words_of_padded, below_zeros}
use Rattle.capnp_build.specs.Prelude.{Space, written, with_bytes, space_at, message, root_word, landing_pad_of, IsLaid}
use Rattle.capnp_build.specs.declared.arena.location.RootLocation.{RootLocation}
use Rattle.capnp_build.proofs.words.PartAndWriteAsWordsLemmas.{part_as_words}
use Rattle.capnp_build.proofs.states.SegmentSizesAfterChangeLemmas.{set_used}
use Rattle.capnp_build.proofs.words.UsedBytesThenZerosLemmas.{written_length}
use Rattle.capnp_build.proofs.words.SegmentWriteKeepsEarlierWordsLemmas.{root_kept, word_kept, written_in_part}

-- the bytes of the body
abbrev pub body_bytes : List Space → RootLocation → List ℕ
body_bytes spaces location = take (8 * location.words) (drop (8 * location.start) (space_at spaces location.segment).used)

root_alike : (k start : ℕ) (form f : Form) (children : Trees) → ((offset : ℕ) → pointer f (count children) offset ≡ pointer form (count children) offset) → root_word k start form children ≡ root_word k start f children
root_alike zero start form f children alike = sym (alike (start - 1))
root_alike (suc k) start form f children alike = refl

-- where the new bytes are the body of a tree whose pointer is the same, that tree is at the root
pub rewritten : (spaces last : List Space) (location : RootLocation) (form f : Form) (children : Trees) (start : ℕ) (w : List ℕ) → IsLaid spaces location form children → start + length w ≤ 8 * location.words
    → last ≡ slice_set spaces location.segment (with_bytes (space_at spaces location.segment) (8 * location.start + start) w)
    → ((offset : ℕ) → pointer f (count children) offset ≡ pointer form (count children) offset) → object_size f (count children) ≡ object_size form (count children) → HasRoom f (count children)
    → words_of (written (body_bytes spaces location) start w) ≡ body (tree f children none) → IsLaid last location f children
rewritten spaces last location form f children start w r inside e alike wide room_is body_is =
    let old : List ℕ = (space_at spaces location.segment).used in
    let first : ℕ = 8 * location.start + start in
    let a = set_used spaces last location.segment (with_bytes (space_at spaces location.segment) (8 * location.start + start) w) r.body_is.within e in
    let used : (space_at last location.segment).used ≡ written old (8 * location.start + start) w = ap (λ (s : Space). s.used) a.1 in
    let room : 8 * location.start + start + length w ≤ length old = omega (arith, r.body_is.room, inside) in
    let long : length (space_at last location.segment).used ≡ length old = ap length used ∙ written_length (8 * location.start + start) old w room in
    let total : total_words (tree f children none) ≡ location.words = omega (arith, wide, r.body_is.size) in
    let fits : 8 * location.start + 8 * location.words ≤ length old = omega (arith, r.body_is.room) in
    let part : words_from (words_of (space_at last location.segment).used) location.start location.words ≡ body (tree f children none) =
    part_as_words location.start location.words (space_at last location.segment).used (omega (arith, long, r.body_is.room))
    ∙ ap (λ (l : List ℕ). words_of (take (8 * location.words) (drop (8 * location.start) l))) used
    ∙ ap words_of (written_in_part (8 * location.start) (8 * location.words) start old w fits inside) ∙ body_is in
    record {
      body_is = record {
        within = omega (arith, a.0, r.body_is.within);
        room = omega (arith, long, r.body_is.room);
        following = r.body_is.following;
        local = r.body_is.local;
        rooms = (room_is, r.body_is.rooms.1, tt);
        size = sym total;
        few = r.body_is.few;
        tag = r.body_is.tag ∙ sym (alike 0);
        laid = record {
          within = omega (arith, total, long, r.body_is.room, length-words_of (space_at last location.segment).used);
          words_are = ap (words_from (words_of (space_at last location.segment).used) location.start) total ∙ part;
        };
      };
      root_is = ap (λ (l : List Space). word_at (message l) root) e ∙ root_kept spaces location.segment (8 * location.start + start) w r.body_is.within (omega (arith, r.body_is.following)) room ∙ r.root_is
          ∙ ap Some (root_alike location.segment location.start form f children alike);
      landing_pad_is = λ p. (
        (r.landing_pad_is p).0,
        ap (λ (l : List Space). word_at (message l) (landing_pad_of location)) e
            ∙ word_kept spaces location.segment (location.start - 1) (8 * location.start + start) w r.body_is.within (omega (arith, r.body_is.following)) room ∙ (r.landing_pad_is p).1,
      );
    }

-- words determine their bytes
words_number : (k : ℕ) (b : List ℕ) → length b ≡ 8 * k → number_of (2 ^ 64) (words_of b) ≡ number_of 256 b
words_number k b long =
    let value : number_of (2 ^ 64) (take k (words_of b)) ≡ number_of 256 (take (8 * k) (drop (8 * 0) b)) = numbers_from 0 k (length b / 8) b (omega (arith, long)) (omega arith) in
    ap (number_of (2 ^ 64)) (sym (take_all k (words_of b) (omega (arith, long, length-words_of b)))) ∙ value ∙ ap (number_of 256) (take_all (8 * k) b (omega (arith, long)))

pub words_tell : (k : ℕ) (b c : List ℕ) → length b ≡ 8 * k → length c ≡ 8 * k → ((i : ℕ) → slice_index_or b i 0 < 256) → ((i : ℕ) → slice_index_or c i 0 < 256) → words_of b ≡ words_of c → b ≡ c
words_tell k b c long also low low_too e =
    sym (take_all (8 * k) b (omega (arith, long))) ∙ sym (bytes_back (8 * k) b (omega (arith, long)) low)
    ∙ ap (digits 256 (8 * k)) (sym (words_number k b long) ∙ ap (number_of (2 ^ 64)) e ∙ words_number k c also)
    ∙ bytes_back (8 * k) c (omega (arith, also)) low_too ∙ take_all (8 * k) c (omega (arith, also))

low_drop : (n : ℕ) (xs : List ℕ) → ((i : ℕ) → slice_index_or xs i 0 < 256) → (i : ℕ) → slice_index_or (drop n xs) i 0 < 256
low_drop zero xs low i = low i
low_drop (suc n) [] low i = low i
low_drop (suc n) (x ∷ xs) low i = low_drop n xs (λ j. low (suc j)) i

low_take : (n : ℕ) (xs : List ℕ) → ((i : ℕ) → slice_index_or xs i 0 < 256) → (i : ℕ) → slice_index_or (take n xs) i 0 < 256
low_take zero xs low i = lit< tt
low_take (suc n) [] low i = low i
low_take (suc n) (x ∷ xs) low zero = low 0
low_take (suc n) (x ∷ xs) low (suc i) = low_take n xs (λ j. low (suc j)) i

low_all : (xs : List ℕ) → All (λ v. v < 2 ^ 8) xs → (i : ℕ) → slice_index_or xs i 0 < 256
low_all [] all i = lit< tt
low_all (x ∷ xs) all zero = All-head (λ v. v < 2 ^ 8) x xs all
low_all (x ∷ xs) all (suc i) = low_all xs (All-tail (λ v. v < 2 ^ 8) x xs all) i

numbers_body : (values : List ℕ) → body (tree (numbers 2 values) none none) ≡ digits (2 ^ 64) (words_for (length values) 8) (number_of 256 values)
numbers_body values =
    let own_is : List ℕ = digits (2 ^ 64) (words_for (length values) 8) (number_of 256 values) in
    append-nil (own_is ++ []) ∙ append-nil own_is

-- the bytes of a list of bytes, with zeros after them
pub bytes_there : (spaces : List Space) (location : RootLocation) (values : List ℕ) → IsLaid spaces location (numbers 2 values) none → ((i : ℕ) → slice_index_or (space_at spaces location.segment).used i 0 < 256)
    → body_bytes spaces location ≡ values ++ replicate (8 * location.words - length values) 0
bytes_there spaces location values r low =
    let old : List ℕ = (space_at spaces location.segment).used in
    let k : ℕ = location.words in
    let p : ℕ = 8 * location.words - length values in
    let size : location.words ≡ words_for (length values) 8 = omega (arith, r.body_is.size) in
    let fits : 8 * (location.start + location.words) ≤ length old = r.body_is.room in
    let long : length (body_bytes spaces location) ≡ 8 * location.words = omega (arith, fits, length-take (8 * location.words) (drop (8 * location.start) old), length-drop (8 * location.start) old) in
    let whole : length values + p ≡ 8 * location.words = omega (arith, size) in
    let also : length (values ++ replicate p 0) ≡ 8 * location.words = omega (arith, whole, length-append values (replicate p 0), length-replicate {A = ℕ} p 0) in
    let fine = low_all values r.body_is.rooms.0.3 in
    let same : words_of (body_bytes spaces location) ≡ words_of (values ++ replicate p 0) =
    sym (part_as_words location.start location.words old fits) ∙ ap (words_from (words_of old) location.start) r.body_is.size ∙ r.body_is.laid.words_are ∙ numbers_body values
    ∙ ap (λ (n : ℕ). digits (2 ^ 64) n (number_of 256 values)) (sym size) ∙ sym (words_of_padded values p location.words fine whole) in
    words_tell location.words (body_bytes spaces location) (values ++ replicate p 0) long also (low_take (8 * location.words) (drop (8 * location.start) old) (low_drop (8 * location.start) old low))
    (λ i. below_zeros values p i fine) same

written_front : (i : ℕ) (xs ys w : List ℕ) → i + length w ≤ length xs → written (xs ++ ys) i w ≡ written xs i w ++ ys
written_front i xs ys w fits =
    ap (λ (l : List ℕ). l ++ (w ++ drop (i + length w) (xs ++ ys))) (take-append-le i xs ys (omega (arith, fits)))
    ∙ ap (λ (l : List ℕ). take i xs ++ (w ++ l)) (drop-append-le (i + length w) xs ys fits)
    ∙ ap (λ (l : List ℕ). take i xs ++ l) (sym (append_assoc w (drop (i + length w) xs) ys))
    ∙ sym (append_assoc (take i xs) (w ++ drop (i + length w) xs) ys)

all_low : (xs : List ℕ) → ((i : ℕ) → slice_index_or xs i 0 < 256) → All (λ v. v < 2 ^ 8) xs
all_low [] low = λ k d h. absurd (omega (arith, h))
all_low (x ∷ xs) low = All-cons (λ v. v < 2 ^ 8) x xs (low 0) (all_low xs (λ i. low (suc i)))

-- some bytes are others
pub bytes_laid : (spaces last : List Space) (location : RootLocation) (values : List ℕ) (i : ℕ) (w : List ℕ) → IsLaid spaces location (numbers 2 values) none
    → ((j : ℕ) → slice_index_or (space_at spaces location.segment).used j 0 < 256) → ((j : ℕ) → slice_index_or w j 0 < 256) → i + length w ≤ length values
    → last ≡ slice_set spaces location.segment (with_bytes (space_at spaces location.segment) (8 * location.start + i) w) → IsLaid last location (numbers 2 (written values i w)) none
bytes_laid spaces last location values i w r low small within e =
    let p : ℕ = 8 * location.words - length values in
    let size : location.words ≡ words_for (length values) 8 = omega (arith, r.body_is.size) in
    let wide : length (written values i w) ≡ length values = written_length i values w within in
    let all : All (λ v. v < 2 ^ 8) (written values i w) =
    All-append (λ v. v < 2 ^ 8) (take i values) (w ++ drop (i + length w) values) (All-take (λ v. v < 2 ^ 8) i values r.body_is.rooms.0.3)
    (All-append (λ v. v < 2 ^ 8) w (drop (i + length w) values) (all_low w small) (All-drop (λ v. v < 2 ^ 8) (i + length w) values r.body_is.rooms.0.3)) in
    let there = bytes_there spaces location values r low in
    let bytes : written (body_bytes spaces location) i w ≡ written values i w ++ replicate p 0 =
    ap (λ (l : List ℕ). written l i w) there ∙ written_front i values (replicate p 0) w within in
    let words : words_of (written (body_bytes spaces location) i w) ≡ body (tree (numbers 2 (written values i w)) none none) =
    ap words_of bytes ∙ words_of_padded (written values i w) p location.words (low_all (written values i w) all) (omega (arith, wide, size))
    ∙ ap (λ (n : ℕ). digits (2 ^ 64) n (number_of 256 (written values i w))) (size ∙ ap (λ (n : ℕ). words_for n 8) (sym wide)) ∙ sym (numbers_body (written values i w)) in
    rewritten spaces last location (numbers 2 values) (numbers 2 (written values i w)) none i w r (omega (arith, within, size)) e
    (λ offset. ap (λ (n : ℕ). 1 + 4 * offset + 2 ^ 32 * 2 + 2 ^ 35 * n) wide) (ap (λ (n : ℕ). words_for n 8) wide)
    (omega arith, omega (arith, wide, r.body_is.rooms.0.1), refl, all) words
