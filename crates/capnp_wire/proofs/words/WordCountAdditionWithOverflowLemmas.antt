-- To count no words changes nothing, and to count some and then others is to count their sum, also where a count
-- does not fit 64 bits.
use Rattle.std.proofs.Common.{ℕ, ◌+◌, Option, subst, arith}
use Rattle.capnp_wire.specs.Prelude.{Counts, CountsMore}

-- numbers of words that may not fit
pub counts_none : (words : Option ℕ) → CountsMore words words 0
counts_none words = λ before h. subst (Counts words) (omega arith) h

pub counts_both : (a b c : Option ℕ) (x y : ℕ) → CountsMore a b x → CountsMore b c y → CountsMore a c (x + y)
counts_both a b c x y p q = λ before h. subst (Counts c) (omega arith) (q (before + x) (p before h))
