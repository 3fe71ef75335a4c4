-- The object at the root is read back from the bytes of its body: its words, its data words, the numbers of a
-- list, and its kind.
use Rattle.std.proofs.Common.{◌≡◌, ℕ, zero, suc, ◌+◌, ◌*◌, ◌/◌, ◌^◌, ◌<◌, ◌≤◌, List, [], ◌∷◌, ◌++◌, length, take, drop, slice_index_or, slice_set, w64, refl, ap, sym, subst, ◌∙◌, arith}
use Rattle.std.proofs.Common.{length-append, length-take, length-drop, length-set}
use Rattle.std.specs.Prelude.{All}
use Rattle.std.specs.Int.{to_le_bytes}
use Rattle.std.proofs.lemmas.List.{take_all, append-nil, take-append-le}
use Rattle.std.proofs.lemmas.List.Elements.{All-set}
use Rattle.std.proofs.Math.Seq.{take-append_seam}
use Rattle.capnp_layout.specs.Prelude.{number_of, digits, words_of, words_from, words_for, Form, null, struct, numbers, pointers, structs, Trees, none, tree, count, object_size, At, root, body, pointers_to, slots}
use Rattle.capnp_wire.specs.Prelude.{HasData, IsWords}
use Rattle.capnp_layout.proofs.words.DigitsToNumberAndBackLemmas.{digits-number_of}
use Rattle.capnp_layout.proofs.words.WordsOfBytesLemmas.{length-words_of}
use Rattle.capnp_layout.proofs.objects.UniqueObjectLemmas.{one_tree}
use Rattle.capnp_build.specs.Prelude.{Space, written, with_bytes, space_at, message, IsLaid, IsRootKind, ShowsRoot, HoldsForm}
use Rattle.capnp_build.specs.declared.root_kind.RootKind.{RootKind}
use Rattle.capnp_build.specs.declared.root_kind.RootKind.TheVariants.{Null, Bytes, Words, Struct, Other}
use Rattle.capnp_build.specs.declared.arena.location.RootLocation.{RootLocation}
use Rattle.capnp_build.proofs.words.PartAndWriteAsWordsLemmas.{part_as_words, words_set}
use Rattle.capnp_build.proofs.layouts.LaidTreeReadAtRootLemmas.{laid_root}
use Rattle.capnp_build.proofs.writes.RewrittenRootBodyTreeLemmas.{body_bytes, bytes_there, rewritten}

list_body : (values : List ℕ) → All (λ v. v < 2 ^ 64) values → body (tree (numbers 5 values) none none) ≡ values
list_body values all =
    let own_is : List ℕ = digits (2 ^ 64) (words_for (length values) 64) (number_of (2 ^ 64) values) in
    let n : words_for (length values) 64 ≡ length values = omega arith in
    append-nil (own_is ++ []) ∙ append-nil own_is ∙ ap (λ (k : ℕ). digits (2 ^ 64) k (number_of (2 ^ 64) values)) n ∙ digits-number_of (2 ^ 64) values all

-- the words of the body
pub body_words : (spaces : List Space) (location : RootLocation) (form : Form) (children : Trees) → IsLaid spaces location form children → words_of (body_bytes spaces location) ≡ body (tree form children none)
body_words spaces location form children r =
    let old : List ℕ = (space_at spaces location.segment).used in
    sym (part_as_words location.start location.words old r.body_is.room) ∙ ap (words_from (words_of old) location.start) r.body_is.size ∙ r.body_is.laid.words_are

pub body_long : (spaces : List Space) (location : RootLocation) (form : Form) (children : Trees) → IsLaid spaces location form children → length (body_bytes spaces location) ≡ 8 * location.words
body_long spaces location form children r =
    let old : List ℕ = (space_at spaces location.segment).used in
    omega (arith, r.body_is.room, length-take (8 * location.words) (drop (8 * location.start) old), length-drop (8 * location.start) old)

-- the numbers of a list of words
list_there : (spaces : List Space) (location : RootLocation) (values : List ℕ) → IsLaid spaces location (numbers 5 values) none → words_of (body_bytes spaces location) ≡ values
list_there spaces location values r = body_words spaces location (numbers 5 values) none r ∙ list_body values r.body_is.rooms.0.3

first_words : (n : ℕ) (bytes : List ℕ) → 8 * n ≤ length bytes → words_of (take (8 * n) bytes) ≡ take n (words_of bytes)
first_words n bytes room = sym (part_as_words 0 n bytes (omega (arith, room)))

-- the data words of a struct
fields_there : (spaces : List Space) (location : RootLocation) (words : List ℕ) (children : Trees) → IsLaid spaces location (struct words) children → words_of (take (8 * length words) (body_bytes spaces location)) ≡ words
fields_there spaces location words children r =
    let links : List ℕ = pointers_to (slots (struct words) (count children)) (object_size (struct words) (count children)) children in
    let bytes : List ℕ = body_bytes spaces location in
    first_words (length words) bytes (omega (arith, body_long spaces location (struct words) children r, r.body_is.size)) ∙ ap (take (length words)) (body_words spaces location (struct words) children r)
    ∙ take-append-le (length words) ((words ++ links) ++ body children) [] (omega (arith, length-append (words ++ links) (body children), length-append words links))
    ∙ take-append-le (length words) (words ++ links) (body children) (omega (arith, length-append words links)) ∙ take-append_seam words links

none_children : (children : Trees) → count children ≡ 0 → children ≡ none
none_children none e = refl
none_children (tree form inner rest) e = absurd (omega (arith, e))

code_is : (spaces : List Space) (location : RootLocation) (c d : ℕ) (values : List ℕ) (children : Trees) → c ≡ d → IsLaid spaces location (numbers c values) children → IsLaid spaces location (numbers d values) none
code_is spaces location c d values children e r =
    subst (λ (t : Trees). IsLaid spaces location (numbers d values) t) (none_children children r.body_is.rooms.0.2) (subst (λ (k : ℕ). IsLaid spaces location (numbers k values) children) e r)

bytes_read : (spaces : List Space) (location : RootLocation) (values : List ℕ) → IsLaid spaces location (numbers 2 values) none → ((i : ℕ) → slice_index_or (space_at spaces location.segment).used i 0 < 256)
    → take (length values) (body_bytes spaces location) ≡ values
bytes_read spaces location values r low = ap (take (length values)) (bytes_there spaces location values r low) ∙ take-append_seam values _

words_read : (spaces : List Space) (location : RootLocation) (values : List ℕ) → IsLaid spaces location (numbers 5 values) none → words_of (take (8 * length values) (body_bytes spaces location)) ≡ values
words_read spaces location values r =
    let long = body_long spaces location (numbers 5 values) none r in
    ap words_of (take_all (8 * length values) (body_bytes spaces location) (omega (arith, long, r.body_is.size))) ∙ list_there spaces location values r

pub holds_form : (spaces : List Space) (location : RootLocation) (form : Form) (children : Trees) → IsLaid spaces location form children → ((i : ℕ) → slice_index_or (space_at spaces location.segment).used i 0 < 256)
    → HoldsForm (body_bytes spaces location) form
holds_form spaces location null children r low = tt
holds_form spaces location (struct words) children r low = fields_there spaces location words children r
holds_form spaces location (numbers c values) children r low = (
  λ e. bytes_read spaces location values (code_is spaces location c 2 values children e r) low,
  λ e. words_read spaces location values (code_is spaces location c 5 values children e r),
)
holds_form spaces location pointers children r low = tt
holds_form spaces location (structs d p elements) children r low = tt

-- a number of a list of words is another one
pub number_laid : (spaces last : List Space) (location : RootLocation) (values : List ℕ) (i x : ℕ) (w : List ℕ) → IsLaid spaces location (numbers 5 values) none → i < length values → x < 2 ^ 64
    → w ≡ to_le_bytes w64 x → length w ≡ 8
    → last ≡ slice_set spaces location.segment (with_bytes (space_at spaces location.segment) (8 * location.start + 8 * i) w) → IsLaid last location (numbers 5 (slice_set values i x)) none
number_laid spaces last location values i x w r within small is eight e =
    let wide : length (slice_set values i x) ≡ length values = length-set values i x in
    let all : All (λ v. v < 2 ^ 64) (slice_set values i x) = All-set (λ (v : ℕ). v < 2 ^ 64) values i x small r.body_is.rooms.0.3 in
    let there = list_there spaces location values r in
    let inside : i < length (words_of (body_bytes spaces location)) = omega (arith, within, ap length there) in
    let words : words_of (written (body_bytes spaces location) (8 * i) w) ≡ body (tree (numbers 5 (slice_set values i x)) none none) =
    words_set (body_bytes spaces location) i x w inside small is eight ∙ ap (λ (l : List ℕ). slice_set l i x) there ∙ sym (list_body (slice_set values i x) all) in
    rewritten spaces last location (numbers 5 values) (numbers 5 (slice_set values i x)) none (8 * i) w r (omega (arith, eight, within, r.body_is.size)) e
    (λ offset. ap (λ (n : ℕ). 1 + 4 * offset + 2 ^ 32 * 5 + 2 ^ 35 * n) wide) (ap (λ (n : ℕ). words_for n 64) wide)
    (omega arith, omega (arith, wide, r.body_is.rooms.0.1), refl, all) words

-- a root has a given number of values
pub same_numbers : (spaces : List Space) (c : ℕ) (values others : List ℕ) (traversed more : ℕ) → At (message spaces) (root ∷ []) (tree (numbers c values) none none) traversed
    → At (message spaces) (root ∷ []) (tree (numbers c others) none none) more → length values ≡ length others
same_numbers spaces c values others traversed more one other =
    let same : tree (numbers c values) none none ≡ tree (numbers c others) none none =
    (one_tree (message spaces) (root ∷ []) (tree (numbers c values) none none) (tree (numbers c others) none none) traversed more one other).0 in
    let forms : values ≡ others = cc in ap length forms

no_first : (xs words : List ℕ) (i : ℕ) → xs ≡ [] → i < length (take (length words) xs) → ⊥
no_first xs words i e within = let l : length xs ≡ 0 = ap length e in absurd (omega (arith, within, l, length-take (length words) xs))

first_of_many : (xs words : List ℕ) (i : ℕ) → i < length (take (length words) xs) → slice_index_or (take (length words) xs) i 0 ≡ slice_index_or xs i 0
first_of_many [] words i within = absurd (no_first [] words i refl within)
first_of_many (x ∷ xs) [] i within = absurd (omega (arith, within))
first_of_many (x ∷ xs) (w ∷ words) zero within = refl
first_of_many (x ∷ xs) (w ∷ words) (suc i) within = first_of_many xs words i (omega (arith, within))

-- one of the words that the bytes begin with
word_read : (bytes words : List ℕ) (i : ℕ) → words_of (take (8 * length words) bytes) ≡ words → i < length words → slice_index_or (words_of bytes) i 0 ≡ slice_index_or words i 0
word_read bytes words i are within =
    let long : length (take (8 * length words) bytes) / 8 ≡ length words = sym (length-words_of (take (8 * length words) bytes)) ∙ ap length are in
    let room : 8 * length words ≤ length bytes = omega (arith, long, length-take (8 * length words) bytes) in
    let same : take (length words) (words_of bytes) ≡ words = sym (first_words (length words) bytes room) ∙ are in
    sym (first_of_many (words_of bytes) words i (omega (arith, within, ap length same))) ∙ ap (λ (l : List ℕ). slice_index_or l i 0) same

pub field_read : (form : Form) (bytes words : List ℕ) (i : ℕ) → HoldsForm bytes form → HasData form words → i < length words → slice_index_or (words_of bytes) i 0 ≡ slice_index_or words i 0
field_read null bytes words i holds has within = let l : length words ≡ 0 = ap length has in absurd (omega (arith, l, within))
field_read (struct fields) bytes words i holds has within = word_read bytes words i (subst (λ (l : List ℕ). words_of (take (8 * length l) bytes) ≡ l) (sym has) holds) within
field_read (numbers c values) bytes words i holds has within = absurd has
field_read pointers bytes words i holds has within = absurd has
field_read (structs d p elements) bytes words i holds has within = absurd has

pub number_read : (form : Form) (bytes words : List ℕ) (i : ℕ) → HoldsForm bytes form → IsWords form words → i < length words → slice_index_or (words_of bytes) i 0 ≡ slice_index_or words i 0
number_read null bytes words i holds has within = let l : length words ≡ 0 = ap length has in absurd (omega (arith, l, within))
number_read (struct fields) bytes words i holds has within = absurd has
number_read (numbers c values) bytes words i holds has within =
    word_read bytes words i (subst (λ (l : List ℕ). words_of (take (8 * length l) bytes) ≡ l) (sym has.1) (holds.1 has.0)) within
number_read pointers bytes words i holds has within = absurd has
number_read (structs d p elements) bytes words i holds has within = absurd has

-- the kind that is shown is the kind of the object there
pub shown_there : (spaces : List Space) (location : RootLocation) (shown : RootKind) (form : Form) (children : Trees) → IsLaid spaces location form children → ShowsRoot shown form → IsRootKind shown spaces
shown_there spaces location Null form children r shows = tt
shown_there spaces location (Bytes n) form children r shows =
    let laid = code_is spaces location 2 2 shows.0 children refl (subst (λ (f : Form). IsLaid spaces location f children) shows.1 r) in
    let t = laid_root spaces location (numbers 2 shows.0) none laid in (shows.0, t.0, t.1, shows.2)
shown_there spaces location (Words n) form children r shows =
    let laid = code_is spaces location 5 5 shows.0 children refl (subst (λ (f : Form). IsLaid spaces location f children) shows.1 r) in
    let t = laid_root spaces location (numbers 5 shows.0) none laid in (shows.0, t.0, t.1, shows.2)
shown_there spaces location (Struct n) form children r shows =
    let t = laid_root spaces location (struct shows.0) children (subst (λ (f : Form). IsLaid spaces location f children) shows.1 r) in (shows.0, children, t.0, t.1, shows.2)
shown_there spaces location Other form children r shows = let t = laid_root spaces location form children r in (form, children, t.0, t.1)
