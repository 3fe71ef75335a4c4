-- The definitions at hand-computed examples.
use Rattle.std.proofs.Common.{◌≡◌, ℕ, List, [], ◌∷◌, refl, lit<, lit≤}
use Rattle.capnp_frame.specs.declared.error.ErrorKind.TheVariants.{PointerOutOfBounds, InvalidSegmentId, NestingLimitExceeded, CapabilityRefused, WrongPointerKind}
use Rattle.capnp_layout.specs.Prelude.{words_of, null, struct, numbers, structs, Trees, none, tree, total_words, trim, local, far, double_far, a_struct, some_numbers, some_structs, is_null, is_object, At, nowhere, at, root, PointerError, no_word, no_segment, past_segment, capability, bad_landing_pad, no_landing_pad, not_far, too_deep, misfits, struct_outside, odd_tag}
use Rattle.capnp_layout.specs.declared.place.Place.{Place}

abbrev at_root : List Place
at_root = root ∷ []

-- the text "Hello, World!" with its zero byte
abbrev pub hello_words : List ℕ
hello_words = words_of (1 ∷ 0 ∷ 0 ∷ 0 ∷ 0x72 ∷ 0 ∷ 0 ∷ 0 ∷ 0x48 ∷ 0x65 ∷ 0x6c ∷ 0x6c ∷ 0x6f ∷ 0x2c ∷ 0x20 ∷ 0x57 ∷ 0x6f ∷ 0x72 ∷ 0x6c ∷ 0x64 ∷ 0x21 ∷ 0 ∷ 0 ∷ 0 ∷ [])

abbrev pub hello : Trees
hello = tree (numbers 2 (0x48 ∷ 0x65 ∷ 0x6c ∷ 0x6c ∷ 0x6f ∷ 0x2c ∷ 0x20 ∷ 0x57 ∷ 0x6f ∷ 0x72 ∷ 0x6c ∷ 0x64 ∷ 0x21 ∷ 0 ∷ [])) none none

pub hello_is_at : At (hello_words ∷ []) at_root hello 2
hello_is_at = at (is_object {start = 1} (local refl (lit< tt) (lit< tt)) refl refl (some_numbers refl (lit< tt) (lit≤ tt))) nowhere nowhere

pub hello_size : total_words hello ≡ 2
hello_size = refl

-- the text "hello world!" after a far pointer
abbrev pub hello_far : Trees
hello_far = tree (numbers 2 (0x68 ∷ 0x65 ∷ 0x6c ∷ 0x6c ∷ 0x6f ∷ 0x20 ∷ 0x77 ∷ 0x6f ∷ 0x72 ∷ 0x6c ∷ 0x64 ∷ 0x21 ∷ 0 ∷ [])) none none

pub hello_far_is_at : At ((0x100000002 ∷ []) ∷ (0x6a00000001 ∷ 0x6f77206f6c6c6568 ∷ 0x21646c72 ∷ []) ∷ []) at_root hello_far 3
hello_far_is_at =
    at (is_object {start = 1} (far refl (record { far = refl; wide = refl }) refl (lit< tt)) refl refl (some_numbers refl (lit< tt) (lit≤ tt))) nowhere nowhere

-- a struct of two words, one of them zero, and a null pointer
abbrev pub five : Trees
five = tree (struct (5 ∷ 0 ∷ [])) (tree null none none) none

pub five_is_at : At ((0x1000200000000 ∷ 5 ∷ 0 ∷ 0 ∷ []) ∷ []) at_root five 3
five_is_at = at (is_object {start = 1} (local refl (lit< tt) (lit< tt)) refl refl (a_struct refl (lit≤ tt))) (at (is_null refl) nowhere nowhere) nowhere

pub five_trimmed : trim five ≡ tree (struct (5 ∷ [])) none none
five_trimmed = refl

-- a list of two structs
abbrev pub seven : Trees
seven = tree (structs 2 1 ((7 ∷ 0 ∷ []) ∷ (0 ∷ 0 ∷ []) ∷ [])) (tree null none (tree null none none)) none

pub seven_is_at : At ((0x3700000001 ∷ 0x1000200000008 ∷ 7 ∷ 0 ∷ 0 ∷ 0 ∷ 0 ∷ 0 ∷ []) ∷ []) at_root seven 7
seven_is_at =
    at (is_object {start = 1} (local refl (lit< tt) (lit< tt)) refl refl (some_structs {tag = 0x1000200000008} refl refl (lit≤ tt) refl refl (lit≤ tt)))
    (at (is_null refl) nowhere (at (is_null refl) nowhere nowhere)) nowhere

pub seven_size : total_words seven ≡ 7
seven_size = refl

pub seven_trimmed : trim seven ≡ tree (structs 1 0 ((7 ∷ []) ∷ (0 ∷ []) ∷ [])) none none
seven_trimmed = refl

-- null, and an empty struct, which is not null
pub null_is_at : At ((0 ∷ []) ∷ []) at_root (tree null none none) 0
null_is_at = at (is_null refl) nowhere nowhere

pub empty_is_at : At ((0xfffffffc ∷ []) ∷ []) at_root (tree (struct []) none none) 0
empty_is_at = at (is_object {start = 0} (local refl (lit< tt) (lit< tt)) refl refl (a_struct refl (lit≤ tt))) nowhere nowhere

-- the text "A" after a landing pad, and after two landing pads
abbrev pub letter : Trees
letter = tree (numbers 2 (0x41 ∷ 0 ∷ [])) none none

pub letter_is_at : At ((0xa ∷ 0x1200000001 ∷ 0x41 ∷ []) ∷ []) at_root letter 2
letter_is_at =
    at (is_object {start = 2} (far refl (record { far = refl; wide = refl }) refl (lit< tt)) refl refl (some_numbers refl (lit< tt) (lit≤ tt))) nowhere nowhere

pub wide_letter_is_at : At ((0x100000006 ∷ []) ∷ (0x200000002 ∷ 0x1200000001 ∷ []) ∷ (0x41 ∷ []) ∷ []) at_root letter 3
wide_letter_is_at =
    at (is_object {start = 0} (double_far refl (record { far = refl; wide = refl }) refl (record { far = refl; wide = refl }) refl refl (lit< tt)) refl refl
    (some_numbers refl (lit< tt) (lit≤ tt))) nowhere nowhere

-- errors: no segment, no word, past the end by one word, a capability
pub missing_segment_error : PointerError [] root 64 (InvalidSegmentId 0)
missing_segment_error = no_word (no_segment refl)

pub no_word_error : PointerError ([] ∷ []) root 64 PointerOutOfBounds
no_word_error = no_word (past_segment refl refl)

pub past_end_error : PointerError ((4 ∷ []) ∷ []) root 64 PointerOutOfBounds
past_end_error = misfits {start = 2} (local refl (lit< tt) (lit< tt)) (lit< tt) refl refl (struct_outside refl (lit< tt))

pub capability_error : PointerError ((3 ∷ []) ∷ []) root 64 CapabilityRefused
capability_error = capability refl refl

-- a far pointer into no segment, and a landing pad that points to a landing pad
pub foreign_error : PointerError ((0x700000002 ∷ []) ∷ []) root 64 (InvalidSegmentId 7)
foreign_error = bad_landing_pad refl refl (no_landing_pad (no_segment refl))

pub landing_pad_to_landing_pad_error : PointerError ((0x100000006 ∷ []) ∷ (6 ∷ 1 ∷ []) ∷ []) root 64 PointerOutOfBounds
landing_pad_to_landing_pad_error = bad_landing_pad refl refl (not_far refl refl refl (λ is_far. let wide = is_far.wide in absurd (cc)))

-- an object below the nesting limit
pub deep_error : PointerError (hello_words ∷ []) root 0 NestingLimitExceeded
deep_error = too_deep (local refl (lit< tt) (lit< tt)) refl

-- a list of structs whose tag is a list pointer
pub odd_tag_error : PointerError ((0x700000001 ∷ 1 ∷ []) ∷ []) root 64 WrongPointerKind
odd_tag_error = misfits {start = 1} (local refl (lit< tt) (lit< tt)) (lit< tt) refl refl (odd_tag refl refl (lit≤ tt) refl (lit< tt))
