-- The canonical form at hand-computed examples.
use Rattle.std.proofs.Common.{◌≡◌, [], ◌∷◌, Some, None, refl, lit<, arith}
use Rattle.capnp_frame.specs.declared.error.ErrorKind.TheVariants.{PointerOutOfBounds, InvalidSegmentId}
use Rattle.capnp_layout.specs.Prelude.{null, struct, numbers, structs, none, tree, root, canon}
use Rattle.capnp_wire.specs.Prelude.{IsCanonical, Ends, not_canonical, far, at_pointer, CanonicityError, no_first_segment, on_the_walk}
use Rattle.capnp_wire.proofs.WorkedCases.{hello, hello_words, hello_is_at, hello_far, five, seven, letter, null_is_at, empty_is_at, past_end_error}

pub hello_canon : canon hello ≡ hello_words
hello_canon = refl

pub hello_is_canonical : IsCanonical (hello_words ∷ [])
hello_is_canonical = (
  hello_words,
  refl,
  numbers 2 (0x48 ∷ 0x65 ∷ 0x6c ∷ 0x6c ∷ 0x6f ∷ 0x2c ∷ 0x20 ∷ 0x57 ∷ 0x6f ∷ 0x72 ∷ 0x6c ∷ 0x64 ∷ 0x21 ∷ 0 ∷ []),
  none,
  2,
  hello_is_at,
  (refl, (lit< tt, tt, tt)),
)

pub hello_far_canon : canon hello_far ≡ 0x6a00000001 ∷ 0x6f77206f6c6c6568 ∷ 0x21646c72 ∷ []
hello_far_canon = refl

pub five_canon : canon five ≡ 0x100000000 ∷ 5 ∷ []
five_canon = refl

pub seven_canon : canon seven ≡ 0x1700000001 ∷ 0x100000008 ∷ 7 ∷ 0 ∷ []
seven_canon = refl

pub null_is_canonical : IsCanonical ((0 ∷ []) ∷ [])
null_is_canonical = (0 ∷ [], refl, null, none, 0, null_is_at, (refl, (tt, tt, tt)))

pub empty_is_canonical : IsCanonical ((0xfffffffc ∷ []) ∷ [])
empty_is_canonical = (0xfffffffc ∷ [], refl, struct [], none, 0, empty_is_at, (refl, ((λ some. absurd (omega arith)), tt, tt)))

pub letter_canon : canon letter ≡ 0x1200000001 ∷ 0x41 ∷ []
letter_canon = refl

pub bit_canon : canon (tree (numbers 1 (1 ∷ [])) none none) ≡ 0x900000001 ∷ 1 ∷ []
bit_canon = refl

pub no_elements_canon : canon (tree (structs 0 0 []) none none) ≡ 0x700000001 ∷ 0 ∷ []
no_elements_canon = refl

pub shared_canon : canon (tree (struct []) (tree (struct (9 ∷ [])) none (tree (struct (9 ∷ [])) none none)) none) ≡ 0x2000000000000 ∷ 0x100000004 ∷ 0x100000004 ∷ 9 ∷ 9 ∷ []
shared_canon = refl

-- a far pointer into no segment, one word past the end, no segment
pub foreign_ends : Ends (0x700000002 ∷ []) (root ∷ []) 64 None 1 not_canonical
foreign_ends = far (0x700000002, refl, refl)

pub past_end_unsaid : CanonicityError ((4 ∷ []) ∷ []) 64 None PointerOutOfBounds
past_end_unsaid = on_the_walk refl (at_pointer (λ f. (let there : Some 4 ≡ Some f.0 = f.1 in let k = f.2 in let same : 4 ≡ f.0 = cc in omega arith)) past_end_error)

pub no_segment_unsaid : CanonicityError [] 64 None (InvalidSegmentId 0)
no_segment_unsaid = no_first_segment refl
