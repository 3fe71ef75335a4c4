-- The bytes of a literal run are taken as they are: first the bytes that are shown, then the bytes of one request.
use Rattle.std.proofs.Common.{◌≡◌, ℕ, ◌+◌, ◌-◌, ◌≤◌, ◌⊎◌, inl, inr, ◌↔◌, Option, Some, None, IfSome, List, ◌++◌, length, take, drop, refl, sym, ap, ◌∙◌, subst, arith, append_assoc, length-append}
use Rattle.std.proofs.lemmas.List.{take-append-drop, take-append-le, take_all, length-take-le}
use Rattle.std.proofs.lemmas.Slice.{take-put_mid}
use borrow.Rule.Slice.PartMut.{put_mid}
use Rattle.capnp_frame.specs.declared.error.ErrorKind.{ErrorKind}
use Rattle.capnp_frame.specs.Prelude.{Giving, Refusing, Splits, RunsShort, IfKnown, IsFront, RequestError}
use Rattle.capnp_frame.proofs.sources.JoinedRequestPartsLemmas.{IfKnown-join, length-put_mid}

-- a given number of bytes of what is shown are taken
pub shown_bytes_taken : (n : ℕ) (shown bytes : List ℕ) (old mid new : Option (List ℕ)) → IfSome old (IsFront shown) → mid ≡ old →
    IfKnown mid new (λ raw left. left ≡ drop n raw) → n ≤ length shown → bytes ≡ take n shown → IfKnown old new (λ raw left. raw ≡ bytes ++ left)
shown_bytes_taken n shown bytes old mid new front same gone within is = from old new front (subst (λ o. IfKnown o new (λ raw left. left ≡ drop n raw)) same gone)
  where
    from : (old new : Option (List ℕ)) → IfSome old (IsFront shown) → IfKnown old new (λ raw left. left ≡ drop n raw) → IfKnown old new (λ raw left. raw ≡ bytes ++ left)
    from None new front gone = tt
    from (Some raw) None front gone = absurd gone
    from (Some raw) (Some left) front gone =
        let encoding : take n raw ≡ bytes = ap (take n) front.1 ∙ take-append-le n shown front.0 within ∙ sym is in
        sym (take-append-drop n raw) ∙ ap (λ l. l ++ drop n raw) encoding ∙ ap (λ l. bytes ++ l) (sym gone)

-- a buffer whose rest is filled by a request
stored_whole : (a : ℕ) (xs ys : List ℕ) → a ≤ length xs → length ys ≡ length xs - a → put_mid a (length xs - a) xs ys ≡ take a xs ++ ys
stored_whole a xs ys within fits =
    let long : length (put_mid a (length xs - a) xs ys) ≤ a + length ys = omega (arith, length-put_mid a xs ys within fits) in
    sym (take_all (a + length ys) (put_mid a (length xs - a) xs ys) long) ∙ take-put_mid a (length xs - a) xs ys (a + length ys) refl within

pub stored_given : (gives : Giving) (a : ℕ) (xs ys : List ℕ) (old mid new : Option (List ℕ)) →
    ((raw : List ℕ) (n : ℕ) (bytes rest : List ℕ) → Splits raw n bytes rest ↔ gives raw n bytes rest) → a ≤ length xs → length ys ≡ length xs - a →
    IfKnown old mid (λ raw left. raw ≡ take a xs ++ left) → IfKnown mid new (λ raw rest. gives raw (length ys) ys rest) →
    IfKnown old new (λ raw left. raw ≡ put_mid a (length xs - a) xs ys ++ left)
stored_given gives a xs ys old mid new plain within fits front given = IfKnown-join old mid new joins front given
  where
    joins : (x y z : List ℕ) → x ≡ take a xs ++ y → gives y (length ys) ys z → x ≡ put_mid a (length xs - a) xs ys ++ z
    joins x y z p q = p ∙ ap (λ l. take a xs ++ l) ((plain y (length ys) ys z).1 q).0 ∙ sym (append_assoc (take a xs) ys z) ∙ ap (λ l. l ++ z) (sym (stored_whole a xs ys within fits))

-- where the request fails, the bytes are cut
pub stored_short : (F : Type 0) (refuses : Refusing) (a : ℕ) (xs ys : List ℕ) (old mid : Option (List ℕ)) (kind : ErrorKind) →
    ((raw : List ℕ) (n : ℕ) (kind : ErrorKind) → RunsShort raw n kind ↔ refuses raw n kind) → a ≤ length xs → length ys ≡ length xs - a →
    IfKnown old mid (λ raw left. raw ≡ take a xs ++ left) → F ⊎ RequestError refuses (length ys) mid kind → F ⊎ RequestError RunsShort (length (put_mid a (length xs - a) xs ys)) old kind
stored_short F refuses a xs ys old mid kind plain within fits at (inl failed) = inl failed
stored_short F refuses a xs ys None None kind plain within fits at (inr errors) = inr (errors.0, errors.1, (plain errors.0 errors.1 kind).1 errors.2)
stored_short F refuses a xs ys None (Some y) kind plain within fits at (inr errors) = inr (y, length ys, (plain y (length ys) kind).1 errors)
stored_short F refuses a xs ys (Some x) None kind plain within fits at (inr errors) = absurd at
stored_short F refuses a xs ys (Some x) (Some y) kind plain within fits at (inr errors) =
    let short = (plain y (length ys) kind).1 errors in
    inr (omega (arith, short.0, ap length at, length-append (take a xs) y, length-take-le a xs within, length-put_mid a xs ys within fits), short.1)
