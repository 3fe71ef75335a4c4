-- The laws of the errors of packed requests, and with them the laws of a packed source.
use Rattle.std.proofs.Common.{◌≡◌, ℕ, ◌+◌, ◌-◌, ◌<◌, ◌≤◌, inl, inr, List, [], ◌∷◌, ◌++◌, length, refl, sym, ap, ◌∙◌, subst, arith, length-append, append_assoc}
use Rattle.std.proofs.lemmas.List.{append-nil}
use Rattle.std.proofs.lemmas.List.Folds.{concat-append}
use Rattle.std.specs.List.{concat, AllByRecursion}
use Rattle.capnp_frame.specs.declared.error.ErrorKind.{ErrorKind}
use Rattle.capnp_frame.specs.Prelude.{IsSource, same_front}
use Rattle.capnp_pack.specs.Group.{Group, tagged, zeros, literal, IsGroup, AreZero, group_encoding, group_words, marked, unmarked}
use Rattle.capnp_pack.specs.Chunk.{encoding_of, words_of_groups}
use Rattle.capnp_pack.specs.PackedSource.{Unpacks, head_encoding, run_encoding, group_size, IsHeadCut, IsHeadAt, GroupError, PackedError, ChunkError}
use Rattle.capnp_pack.specs.UnpackingLaws.{length-words, same_word, same_group, unpack_whole, unpack_once, none_unpacked, takes_no_group}

encoding_parts : (g : Group) → group_encoding g ≡ head_encoding g ++ run_encoding g
encoding_parts (tagged tag word) = sym (append-nil (tag ∷ marked tag word))
encoding_parts (zeros more) = refl
encoding_parts (literal word further) = ap (λ l. 255 ∷ l) (sym (append_assoc word (length further ∷ []) (concat further)))

-- what a head says of its group
record SameHead (g h : Group) (x y : List ℕ) : Type 0 where
  pub following : x ≡ y
  pub size : group_size g ≡ group_size h
  pub run : length (run_encoding g) ≡ length (run_encoding h)

-- no head is the start of another
same_head : (g h : Group) (x y : List ℕ) → IsGroup g → IsGroup h → head_encoding g ++ x ≡ head_encoding h ++ y → SameHead g h x y
same_head (tagged t w) (tagged u v) x y p q e =
    let tags : t ≡ u = cc in
    let encodings : marked t w ++ x ≡ marked u v ++ y = cc in
    let word = same_word w v t x y (p.2 ∙ sym q.2) p.3 (subst (λ k. AreZero (unmarked k v)) (sym tags) q.3) (encodings ∙ ap (λ k. marked k v ++ y) (sym tags)) in
    record { following = word.1; size = ap (λ l. length (l ++ [])) word.0; run = refl }
same_head (zeros m) (zeros n) x y p q e = let more : m ≡ n = cc in let rest : x ≡ y = cc in record { following = rest; size = ap (λ k. group_size (zeros k)) more; run = refl }
same_head (literal w fs) (literal v hs) x y p q e =
    let encodings : (w ++ length fs ∷ []) ++ x ≡ (v ++ length hs ∷ []) ++ y = cc in
    let words = same_front w v (length fs ∷ x) (length hs ∷ y) (p.0 ∙ sym q.0) (sym (append_assoc w (length fs ∷ []) x) ∙ encodings ∙ append_assoc v (length hs ∷ []) y) in
    let after : length fs ∷ x ≡ length hs ∷ y = words.1 in
    let counts : length fs ≡ length hs = cc in
    let rests : x ≡ y = cc in
    let runs : length (concat fs) ≡ length (concat hs) = omega (arith, length-words fs p.1, length-words hs q.1) in
    record { following = rests; size = omega (arith, length-append w (concat fs), length-append v (concat hs), p.0, q.0); run = runs }
same_head (tagged t w) (zeros n) x y p q e = let tags : t ≡ 0 = cc in absurd (omega (arith, p.0))
same_head (tagged t w) (literal v hs) x y p q e = let tags : t ≡ 255 = cc in absurd (omega (arith, p.1))
same_head (zeros m) (tagged u v) x y p q e = let tags : 0 ≡ u = cc in absurd (omega (arith, q.0))
same_head (zeros m) (literal v hs) x y p q e = let tags : ◌≡◌ {A = ℕ} 0 255 = cc in absurd (omega arith)
same_head (literal w fs) (tagged u v) x y p q e = let tags : 255 ≡ u = cc in absurd (omega (arith, q.1))
same_head (literal w fs) (zeros n) x y p q e = let tags : ◌≡◌ {A = ℕ} 255 0 = cc in absurd (omega arith)

-- where a head is cut, no head is there
cut_head : (left following : List ℕ) (g : Group) → IsHeadCut left → IsHeadAt g left following → ⊥
cut_head left following g cut at =
    let same = same_head g cut.group (following ++ cut.missing) [] at.is cut.is
    (sym (append_assoc (head_encoding g) following cut.missing) ∙ ap (λ l. l ++ cut.missing) (sym at.spelled) ∙ cut.spelled ∙ sym (append-nil (head_encoding cut.group))) in
    absurd (omega (arith, cut.some, ap length same.following, length-append following cut.missing))

same_at : (left x y : List ℕ) (g h : Group) → IsHeadAt g left x → IsHeadAt h left y → SameHead g h x y
same_at left x y g h p q = same_head g h x y p.is q.is (sym p.spelled ∙ q.spelled)

-- at most one error is at a place
GroupError-once : (left : List ℕ) (n : ℕ) (kind other : ErrorKind) → GroupError left n kind → GroupError left n other → kind ≡ other
GroupError-once left n kind other (inl p) (inl q) = p.1 ∙ sym q.1
GroupError-once left n kind other (inl p) (inr (inl q)) = absurd (cut_head left q.0.following q.0.group p.0 q.0.head)
GroupError-once left n kind other (inl p) (inr (inr q)) = absurd (cut_head left q.0.following q.0.group p.0 q.0.head)
GroupError-once left n kind other (inr (inl p)) (inl q) = absurd (cut_head left p.0.following p.0.group q.0 p.0.head)
GroupError-once left n kind other (inr (inr p)) (inl q) = absurd (cut_head left p.0.following p.0.group q.0 p.0.head)
GroupError-once left n kind other (inr (inl p)) (inr (inl q)) = p.1 ∙ sym q.1
GroupError-once left n kind other (inr (inr p)) (inr (inr q)) = p.1 ∙ sym q.1
GroupError-once left n kind other (inr (inl p)) (inr (inr q)) =
    let same = same_at left p.0.following q.0.following p.0.group q.0.group p.0.head q.0.head in
    absurd (omega (arith, p.0.long, q.0.fits, same.size))
GroupError-once left n kind other (inr (inr p)) (inr (inl q)) =
    let same = same_at left p.0.following q.0.following p.0.group q.0.group p.0.head q.0.head in
    absurd (omega (arith, q.0.long, p.0.fits, same.size))

-- where a whole group is and fits, there is no error
no_error : (g : Group) (left rest : List ℕ) (n : ℕ) (kind : ErrorKind) → IsGroup g → left ≡ group_encoding g ++ rest → group_size g ≤ n → GroupError left n kind → ⊥
no_error g left rest n kind is e fits error = elim error [
  | inl p ↦ cut_head left (run_encoding g ++ rest) g p.0 at
  | inr more ↦ elim more [
    | inl p ↦ (let same = same_at left (run_encoding g ++ rest) p.0.following g p.0.group at p.0.head in absurd (omega (arith, p.0.long, same.size)))
    | inr p ↦ (let same = same_at left (run_encoding g ++ rest) p.0.following g p.0.group at p.0.head in absurd (omega (arith, p.0.short, same.run, ap length same.following, length-append (run_encoding g) rest)))
  ]
]
  where
    at : IsHeadAt g left (run_encoding g ++ rest)
    at = record { is = is; spelled = e ∙ ap (λ l. l ++ rest) (encoding_parts g) ∙ append_assoc (head_encoding g) (run_encoding g) rest }

words_size : (g : Group) (gs : List Group) → length (concat (words_of_groups (g ∷ gs))) ≡ group_size g + length (concat (words_of_groups gs))
words_size g gs = ap length (concat-append (group_words g) (words_of_groups gs)) ∙ length-append (concat (group_words g)) (concat (words_of_groups gs))

-- a whole group before the first error
pub error_later : (g : Group) (rest : List ℕ) (n : ℕ) (kind : ErrorKind) → IsGroup g → PackedError rest (n - group_size g) kind → PackedError (group_encoding g ++ rest) n kind
error_later g rest n kind is p =
    let size = words_size g p.groups in
    let len : (n - group_size g) - length (concat (words_of_groups p.groups)) ≡ n - length (concat (words_of_groups (g ∷ p.groups))) = omega (arith, size) in
    let fewer = p.fewer in
    record {
      groups = g ∷ p.groups;
      each = (is, p.each);
      left = p.left;
      spelled = ap (λ l. group_encoding g ++ l) p.spelled ∙ sym (append_assoc (group_encoding g) (encoding_of p.groups) p.left);
      fewer = omega (arith, size, fewer);
      error = subst (λ k. GroupError p.left k kind) len p.error;
    }

pub error_after : (g : Group) (rest : List ℕ) (n : ℕ) (kind : ErrorKind) → IsGroup g → group_size g ≤ n → PackedError (group_encoding g ++ rest) n kind → PackedError rest (n - group_size g) kind
error_after g rest n kind is fits p = after p.groups p.each p.spelled p.fewer p.error
  where
    after : (gs : List Group) → AllByRecursion IsGroup gs → group_encoding g ++ rest ≡ encoding_of gs ++ p.left → length (concat (words_of_groups gs)) < n →
        GroupError p.left (n - length (concat (words_of_groups gs))) kind → PackedError rest (n - group_size g) kind
    after [] each e fewer error = absurd (no_error g p.left rest (n - 0) kind is (sym e) (omega arith) error)
    after (h ∷ hs) each e fewer error =
        let same = same_group g h rest (encoding_of hs ++ p.left) is each.0 (e ∙ append_assoc (group_encoding h) (encoding_of hs) p.left) in
        let size = words_size h hs in
        let sizes : group_size g ≡ group_size h = ap length same.0 in
        let len : n - length (concat (words_of_groups (h ∷ hs))) ≡ (n - group_size g) - length (concat (words_of_groups hs)) = omega (arith, size, sizes) in
        record { groups = hs; each = each.1; left = p.left; spelled = same.1; fewer = omega (arith, size, sizes, fewer); error = subst (λ k. GroupError p.left k kind) len error }

-- a whole chunk has no error
error_apart : (gs : List Group) (raw rest : List ℕ) (n : ℕ) (kind : ErrorKind) → AllByRecursion IsGroup gs → raw ≡ encoding_of gs ++ rest →
    length (concat (words_of_groups gs)) ≡ n → PackedError raw n kind → ⊥
error_apart [] raw rest n kind each e len p = absurd (omega (arith, p.fewer))
error_apart (g ∷ gs) raw rest n kind each e len p =
    let size = words_size g gs in
    error_apart gs (encoding_of gs ++ rest) rest (n - group_size g) kind each.1 refl (omega (arith, size))
    (error_after g (encoding_of gs ++ rest) n kind each.0 (omega (arith, size)) (subst (λ l. PackedError l n kind) (e ∙ append_assoc (group_encoding g) (encoding_of gs) rest) p))

-- there is at most one first error
error_once : (gs : List Group) (raw left : List ℕ) (n : ℕ) (kind other : ErrorKind) → AllByRecursion IsGroup gs → raw ≡ encoding_of gs ++ left →
    length (concat (words_of_groups gs)) < n → GroupError left (n - length (concat (words_of_groups gs))) kind → PackedError raw n other → kind ≡ other
error_once [] raw left n kind other each e fewer error q = first q.groups q.each q.spelled q.fewer q.error
  where
    first : (hs : List Group) → AllByRecursion IsGroup hs → raw ≡ encoding_of hs ++ q.left → length (concat (words_of_groups hs)) < n →
        GroupError q.left (n - length (concat (words_of_groups hs))) other → kind ≡ other
    first [] each spelled fewer found = GroupError-once left (n - 0) kind other error (subst (λ l. GroupError l (n - 0) other) (sym spelled ∙ e) found)
    first (h ∷ hs) each spelled fewer found =
        let size = words_size h hs in
        absurd (no_error h left (encoding_of hs ++ q.left) (n - 0) kind each.0 (sym e ∙ spelled ∙ append_assoc (group_encoding h) (encoding_of hs) q.left) (omega (arith, size, fewer)) error)
error_once (g ∷ gs) raw left n kind other each e fewer error q =
    let size = words_size g gs in
    let len : n - length (concat (words_of_groups (g ∷ gs))) ≡ (n - group_size g) - length (concat (words_of_groups gs)) = omega (arith, size) in
    error_once gs (encoding_of gs ++ left) left (n - group_size g) kind other each.1 refl (omega (arith, size, fewer)) (subst (λ k. GroupError left k kind) len error)
    (error_after g (encoding_of gs ++ left) n other each.0 (omega (arith, size, fewer)) (subst (λ l. PackedError l n other) (e ∙ append_assoc (group_encoding g) (encoding_of gs) left) q))

pub PackedError-once : (raw : List ℕ) (n : ℕ) (kind other : ErrorKind) → PackedError raw n kind → PackedError raw n other → kind ≡ other
PackedError-once raw n kind other p q = error_once p.groups raw p.left n kind other p.each p.spelled p.fewer p.error q

-- the laws of a source

pub packed_apart : (raw : List ℕ) (n : ℕ) (bytes rest : List ℕ) (kind : ErrorKind) → Unpacks raw n bytes rest → ChunkError raw n kind → ⊥
packed_apart raw n bytes rest kind p (inl q) = q.0 (unpack_whole raw n bytes rest p)
packed_apart raw n bytes rest kind p (inr (w, inl q)) =
    let zero_len : n ≡ 0 = none_unpacked n bytes rest (subst (λ l. Unpacks l n bytes rest) q.0 p) in
    absurd (omega (arith, q.1.0))
packed_apart raw n bytes rest kind p (inr (w, inr q)) = error_apart p.1.groups raw rest n kind p.1.each (p.2 ∙ ap (λ l. l ++ rest) p.1.spelled) (sym (ap length p.1.unpacked) ∙ p.3) q.1

pub packed_alike : (raw : List ℕ) (n : ℕ) (kind other : ErrorKind) → ChunkError raw n kind → ChunkError raw n other → kind ≡ other
packed_alike raw n kind other (inl p) (inl q) = p.1 ∙ sym q.1
packed_alike raw n kind other (inl p) (inr q) = absurd (q.0 p.0)
packed_alike raw n kind other (inr p) (inl q) = absurd (p.0 q.0)
packed_alike raw n kind other (inr (w, inl p)) (inr (v, inl q)) = p.1.1 ∙ sym q.1.1
packed_alike raw n kind other (inr (w, inl p)) (inr (v, inr q)) = absurd (q.0 p.0)
packed_alike raw n kind other (inr (w, inr p)) (inr (v, inl q)) = absurd (p.0 q.0)
packed_alike raw n kind other (inr (w, inr p)) (inr (v, inr q)) = PackedError-once raw n kind other p.1 q.1

pub unpacking : IsSource Unpacks ChunkError
unpacking = record {
  takes_nothing = takes_no_group;
  none_from_nothing = none_unpacked;
  gives_all = λ raw n bytes rest given. given.3;
  unique = unpack_once;
  apart = packed_apart;
  one_kind = packed_alike;
}
