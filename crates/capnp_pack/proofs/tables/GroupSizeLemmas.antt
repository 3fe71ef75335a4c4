-- How many bytes a group of one word has, and its largest last byte, by a table.
use Rattle.std.proofs.Common.{◌≡◌, ℕ, ◌+◌, ◌<◌, ◌≤◌, Bool, true, false, List, [], ◌∷◌, get_or, refl, ap, arith}
use Rattle.std.specs.Prelude.{◌==◌, if◌then◌else◌}
use Rattle.std.proofs.lemmas.Bool.Decides.{nat_tests}
use lib.Count.{ones, ones-le}
use Rattle.capnp_pack.specs.declared.sizes.TheConstants.{GROUPS}
use Rattle.capnp_pack.proofs.tables.TagTableLemmas.{entries, entry_at}

-- a tag, the bytes that it marks, and after the tags 0 and 255 a count
abbrev group_bytes : ℕ → ℕ
group_bytes tag = if tag == 0 then 2 else (if tag == 255 then 10 else 1 + ones tag)

-- its largest last byte: no count but zero
abbrev pub largest_end : ℕ → ℕ
largest_end tag = if tag == 0 then 0 else (if tag == 255 then 0 else 255)

abbrev entry : ℕ → List ℕ
entry tag = group_bytes tag ∷ largest_end tag ∷ []

table : GROUPS ≡ entries entry 0 256
unfolding ones
table = refl

pub size_at : (tag : ℕ) (none : List ℕ) → tag < 256 → get_or (get_or GROUPS tag none) 0 0 ≡ group_bytes tag
size_at tag none low = ap (λ l. get_or l 0 0) (entry_at entry GROUPS tag none table low)

pub end_at : (tag : ℕ) (none : List ℕ) → tag < 256 → get_or (get_or GROUPS tag none) 1 0 ≡ largest_end tag
end_at tag none low = ap (λ l. get_or l 1 0) (entry_at entry GROUPS tag none table low)

by_tag : (none full : Bool) (n : ℕ) → n ≤ 8 → (1 ≤ (if none then 2 else (if full then 10 else 1 + n))) × ((if none then 2 else (if full then 10 else 1 + n)) ≤ 10)
by_tag true full n few = (omega arith, omega arith)
by_tag false true n few = (omega arith, omega arith)
by_tag false false n few = (omega arith, omega arith)

pub size_few : (tag : ℕ) → tag < 256 → (1 ≤ group_bytes tag) × (group_bytes tag ≤ 10)
size_few tag low = by_tag (tag == 0) (tag == 255) (ones tag) (ones-le 8 tag low)

pub size_tagged : (tag : ℕ) → 0 < tag → tag < 255 → group_bytes tag ≡ 1 + ones tag
size_tagged tag some low = grind (arith, nat_tests)
