-- The words of a command are a name and options. Words whose first is followed by no options are of no command, and no words are of two.
use Rattle.std.proofs.Common.{◌≡◌, ℕ, Option, Some, None, List, [], ◌∷◌, map, get_or, inl, inr, refl, sym, ap, subst, ◌∙◌, codes, arith}
use Rattle.std.specs.Prelude.{IfNone}
use Rattle.capnp.specs.Prelude.{Padding, Zero, Any}
use Rattle.capnp.specs.declared.streams.Format.{Format}
use Rattle.capnp.specs.declared.streams.Format.TheVariants.{Framed, Packed}
use Rattle.capnp.specs.declared.transcoding.Way.TheVariants.{Pack, Unpack}
use Rattle.capnp_ls.specs.declared.command.Command.{Command}
use Rattle.capnp_ls.specs.declared.command.Command.TheVariants.{Listing, Transcoding, Canonical}
use Rattle.capnp_ls.specs.Commands.{AreOptions, IsCommand, name_of, option_format, padding_of}

head_same : (x y : List ℕ) (xs ys : List (List ℕ)) → x ∷ xs ≡ y ∷ ys → x ≡ y
head_same x y xs ys same = cc

tail_same : (x y : List ℕ) (xs ys : List (List ℕ)) → x ∷ xs ≡ y ∷ ys → xs ≡ ys
tail_same x y xs ys same = cc

-- words after which no options come
no_options : (x : List ℕ) (xs : List (List ℕ)) → ((format : Format) (padding : Padding) → AreOptions format padding xs → ⊥)
    → (command : Command) → IsCommand command (x ∷ xs) → ⊥
no_options x xs none command (options, same, are) =
    let tails : xs ≡ options = tail_same x (name_of command) xs options same in
    none (option_format command) (padding_of command) (subst (λ words. AreOptions (option_format command) (padding_of command) words) (sym tails) are)

pub no_command : {X Y : Type 0} (f : X → List ℕ) (words : List X) (x : X) (xs : List X) (r : Option Y) → words ≡ x ∷ xs
    → ((format : Format) (padding : Padding) → AreOptions format padding (map f xs) → ⊥)
    → IfNone r ((command : Command) → IsCommand command (map f words) → ⊥)
no_command f words x xs (Some y) parts none = tt
no_command f words x xs None parts none = λ command is. no_options (f x) (map f xs) none command (rw parts at is)

-- options are of one format and one rule of padding
no_word : (x : List ℕ) (xs : List (List ℕ)) → [] ≡ x ∷ xs → ⊥
no_word x xs same = cc

one_or_two : (x y z : List ℕ) → x ∷ [] ≡ y ∷ z ∷ [] → ⊥
one_or_two x y z same = cc

packed_or_lenient : codes "--packed" ∷ [] ≡ codes "--lenient" ∷ [] → ⊥
packed_or_lenient same = cc

one_options : (f g : Format) (p q : Padding) (words : List (List ℕ)) → AreOptions f p words → AreOptions g q words → (f ≡ g) × (p ≡ q)
one_options Framed Framed Zero Zero words a b = (refl, refl)
one_options Framed Framed Zero Any words a b = absurd (no_word _ _ (sym a ∙ b))
one_options Framed Framed Any Zero words a b = absurd (no_word _ _ (sym b ∙ a))
one_options Framed Framed Any Any words a b = (refl, refl)
one_options Framed Packed Zero Zero words a b = absurd (no_word _ _ (sym a ∙ b))
one_options Framed Packed Zero Any words a b = elim b [ inl c ↦ absurd (no_word _ _ (sym a ∙ c)) | inr c ↦ absurd (no_word _ _ (sym a ∙ c)) ]
one_options Framed Packed Any Zero words a b = absurd (packed_or_lenient (sym b ∙ a))
one_options Framed Packed Any Any words a b = elim b [ inl c ↦ absurd (one_or_two _ _ _ (sym a ∙ c)) | inr c ↦ absurd (one_or_two _ _ _ (sym a ∙ c)) ]
one_options Packed Framed Zero Zero words a b = absurd (no_word _ _ (sym b ∙ a))
one_options Packed Framed Zero Any words a b = absurd (packed_or_lenient (sym a ∙ b))
one_options Packed Framed Any Zero words a b = elim a [ inl c ↦ absurd (no_word _ _ (sym b ∙ c)) | inr c ↦ absurd (no_word _ _ (sym b ∙ c)) ]
one_options Packed Framed Any Any words a b = elim a [ inl c ↦ absurd (one_or_two _ _ _ (sym b ∙ c)) | inr c ↦ absurd (one_or_two _ _ _ (sym b ∙ c)) ]
one_options Packed Packed Zero Zero words a b = (refl, refl)
one_options Packed Packed Zero Any words a b = elim b [ inl c ↦ absurd (one_or_two _ _ _ (sym a ∙ c)) | inr c ↦ absurd (one_or_two _ _ _ (sym a ∙ c)) ]
one_options Packed Packed Any Zero words a b = elim a [ inl c ↦ absurd (one_or_two _ _ _ (sym b ∙ c)) | inr c ↦ absurd (one_or_two _ _ _ (sym b ∙ c)) ]
one_options Packed Packed Any Any words a b = (refl, refl)

-- names are of one command
list_or_pack : codes "list" ≡ codes "pack" → ⊥
list_or_pack same =
    let first : 108 ≡ 112 = ap (λ (word : List ℕ). get_or word 0 0) same in
    omega (arith, first)

list_or_unpack : codes "list" ≡ codes "unpack" → ⊥
list_or_unpack same = cc

list_or_canon : codes "list" ≡ codes "canon" → ⊥
list_or_canon same = cc

pack_or_unpack : codes "pack" ≡ codes "unpack" → ⊥
pack_or_unpack same = cc

pack_or_canon : codes "pack" ≡ codes "canon" → ⊥
pack_or_canon same = cc

unpack_or_canon : codes "unpack" ≡ codes "canon" → ⊥
unpack_or_canon same = cc

same_parts : (a b : Command) → name_of a ≡ name_of b → option_format a ≡ option_format b → padding_of a ≡ padding_of b → a ≡ b
same_parts (Listing f p) (Listing g q) name format padding = ap (λ x. Listing x p) format ∙ ap (λ x. Listing g x) padding
same_parts (Listing f p) (Transcoding Pack q) name format padding = absurd (list_or_pack name)
same_parts (Listing f p) (Transcoding Unpack q) name format padding = absurd (list_or_unpack name)
same_parts (Listing f p) (Canonical g) name format padding = absurd (list_or_canon name)
same_parts (Transcoding Pack p) (Listing g q) name format padding = absurd (list_or_pack (sym name))
same_parts (Transcoding Pack p) (Transcoding Pack q) name format padding = ap (λ x. Transcoding Pack x) padding
same_parts (Transcoding Pack p) (Transcoding Unpack q) name format padding = absurd (pack_or_unpack name)
same_parts (Transcoding Pack p) (Canonical g) name format padding = absurd (pack_or_canon name)
same_parts (Transcoding Unpack p) (Listing g q) name format padding = absurd (list_or_unpack (sym name))
same_parts (Transcoding Unpack p) (Transcoding Pack q) name format padding = absurd (pack_or_unpack (sym name))
same_parts (Transcoding Unpack p) (Transcoding Unpack q) name format padding = ap (λ x. Transcoding Unpack x) padding
same_parts (Transcoding Unpack p) (Canonical g) name format padding = absurd (unpack_or_canon name)
same_parts (Canonical f) (Listing g q) name format padding = absurd (list_or_canon (sym name))
same_parts (Canonical f) (Transcoding Pack q) name format padding = absurd (pack_or_canon (sym name))
same_parts (Canonical f) (Transcoding Unpack q) name format padding = absurd (unpack_or_canon (sym name))
same_parts (Canonical f) (Canonical g) name format padding = ap (λ x. Canonical x) format

-- and words are of one command
pub one_command : (a b : Command) (words : List (List ℕ)) → IsCommand a words → IsCommand b words → a ≡ b
one_command a b words (xs, same, are) (ys, also, too) =
    let both : name_of a ∷ xs ≡ name_of b ∷ ys = sym same ∙ also in
    let tails : xs ≡ ys = tail_same (name_of a) (name_of b) xs ys both in
    let options = one_options (option_format a) (option_format b) (padding_of a) (padding_of b) ys
    (subst (λ rest. AreOptions (option_format a) (padding_of a) rest) tails are) too in
    same_parts a b (head_same (name_of a) (name_of b) xs ys both) options.0 options.1
