-- The parts that a source returns of one request are joined, and an error of a later part is an error of the whole
-- request. What sinks grow by is joined, too.
use Rattle.std.proofs.Common.{◌≡◌, ℕ, ◌+◌, ◌-◌, ◌<◌, ◌≤◌, List, [], ◌++◌, length, take, drop, Option, Some, None, IfSome, ◌⊎◌, inl, inr, ◌↔◌, Result}
use Rattle.std.proofs.Common.{Ok, Err, IfErr, refl, sym, ap, ◌∙◌, subst, arith, append_assoc, length-append}
use Rattle.std.proofs.lemmas.List.{append-nil, length-take, length-drop, take_at, drop_at, length-take-le, take_all, nil_from_length}
use borrow.Rule.Slice.PartMut.{put_mid, post_of}
use lib.Seq.{take-add, take-append-le}
use Rattle.capnp_frame.specs.declared.error.ErrorKind.{ErrorKind}
use Rattle.capnp_frame.specs.Prelude.{Giving, Refusing, Fails, IfKnown, IsTail, IsFront, Advances, RequestError, ReturnsPart, Grows}

pub IfKnown-join : {P Q R : List ℕ → List ℕ → Type 0} (a b c : Option (List ℕ)) → ((x y z : List ℕ) → P x y → Q y z → R x z) → IfKnown a b P → IfKnown b c Q → IfKnown a c R
IfKnown-join None b c join p q = tt
IfKnown-join (Some x) None c join p q = absurd p
IfKnown-join (Some x) (Some y) None join p q = absurd q
IfKnown-join (Some x) (Some y) (Some z) join p q = join x y z p q

pub IfKnown-weaker : {P Q : List ℕ → List ℕ → Type 0} (a b : Option (List ℕ)) → ((x y : List ℕ) → P x y → Q x y) → IfKnown a b P → IfKnown a b Q
IfKnown-weaker None b weaker p = tt
IfKnown-weaker (Some x) None weaker p = p
IfKnown-weaker (Some x) (Some y) weaker p = weaker x y p

pub IfKnown-refl : (P : List ℕ → List ℕ → Type 0) (a : Option (List ℕ)) → ((x : List ℕ) → P x x) → IfKnown a a P
IfKnown-refl P None p = tt
IfKnown-refl P (Some x) p = p x

-- what fails after some bytes
pub IfKnown-error : {P R : List ℕ → List ℕ → Type 0} (a b c : Option (List ℕ)) (refuses : Refusing) (n : ℕ)
    (kind : ErrorKind) → ((x y z : List ℕ) → P x y → refuses y n kind → R x z) → IfKnown a b P → IfKnown b c IsTail
    → RequestError refuses n b kind → IfKnown a c R
IfKnown-error None b c refuses n kind join p tail q = tt
IfKnown-error (Some x) None c refuses n kind join p tail q = absurd p
IfKnown-error (Some x) (Some y) None refuses n kind join p tail q = absurd tail
IfKnown-error (Some x) (Some y) (Some z) refuses n kind join p tail q = join x y z p q

pub IsTail-join : (x y z : List ℕ) → IsTail x y → IsTail y z → IsTail x z
IsTail-join x y z (a, p) (b, q) = (a ++ b, p ∙ ap (λ l. a ++ l) q ∙ sym (append_assoc a b z))

pub Advances-join : {S : Type 0} {unread : S → Option (List ℕ)} {failures : S → ℕ} {same : S → S → Type 0} (a b c : S)
    → (same a b → same b c → same a c) → Advances unread failures same a b → Advances unread failures same b c
    → Advances unread failures same a c
Advances-join {unread} a b c join p q = record {
  tail = IfKnown-join (unread a) (unread b) (unread c) IsTail-join p.tail q.tail;
  counted = omega arith;
  same_source = join p.same_source q.same_source;
}

-- two parts of one request
pub ReturnsPart-join : {gives : Giving} {refuses : Refusing} (n : ℕ) (a b raw mid left : List ℕ)
    → ReturnsPart gives refuses n a raw mid → ReturnsPart gives refuses (n - length a) b mid left
    → ReturnsPart gives refuses n (a ++ b) raw left
ReturnsPart-join {gives} {refuses} n a b raw mid left p q =
    let rest_len : (n - length a) - length b ≡ n - length (a ++ b) = omega (arith, length-append a b) in
    record {
      joins = λ more rest h.
          let inner = q.joins more rest (subst (λ k. gives left k more rest) (sym rest_len) h) in
          subst (λ l. gives raw n l rest) (sym (append_assoc a b more)) (p.joins (b ++ more) rest inner);
      splits = λ bytes rest h.
          let outer = p.splits bytes rest h in
          let inner = q.splits outer.0 rest outer.2 in
          (inner.0, outer.1 ∙ ap (λ l. a ++ l) inner.1 ∙ sym (append_assoc a b inner.0), subst (λ k. gives left k inner.0 rest) rest_len inner.2);
      same_errors = λ kind. (
        λ h. (p.same_errors kind).0 ((q.same_errors kind).0 (subst (λ k. refuses left k kind) (sym rest_len) h)),
        λ h. subst (λ k. refuses left k kind) rest_len ((q.same_errors kind).1 ((p.same_errors kind).1 h)),
      );
    }

-- a part that is the whole request
pub ReturnsPart-whole : {gives : Giving} {refuses : Refusing} (n : ℕ) (got raw left : List ℕ)
    → ((l : List ℕ) → gives l 0 [] l) → length got ≡ n → ReturnsPart gives refuses n got raw left → gives raw n got left
ReturnsPart-whole {gives} {refuses} n got raw left nothing whole p =
    let over : n - length got ≡ 0 = omega arith in
    subst (λ l. gives raw n l left) (append-nil got) (p.joins [] left (subst (λ k. gives left k [] left) (sym over) (nothing left)))

-- no bytes yet
pub ReturnsPart-none : {gives : Giving} {refuses : Refusing} (n : ℕ) (raw : List ℕ) → ReturnsPart gives refuses n [] raw raw
ReturnsPart-none {gives} {refuses} n raw =
    let same : n ≡ n - 0 = omega arith in
    record {
      joins = λ more rest h. subst (λ k. gives raw k more rest) (sym same) h;
      splits = λ bytes rest h.
          (bytes, refl, subst (λ k. gives raw k bytes rest) same h);
      same_errors = λ kind.
          (λ h. subst (λ k. refuses raw k kind) (sym same) h, λ h. subst (λ k. refuses raw k kind) same h);
    }

-- an error of the rest of a request is one of the request
pub RequestError-join : (gives : Giving) (refuses : Refusing) (n : ℕ) (got : List ℕ) (a b : Option (List ℕ))
    (kind : ErrorKind) → IfKnown a b (ReturnsPart gives refuses n got) → RequestError refuses (n - length got) b kind
    → RequestError refuses n a kind
RequestError-join gives refuses n got None None kind taken errors = errors
RequestError-join gives refuses n got None (Some y) kind taken errors = (y, n - length got, errors)
RequestError-join gives refuses n got (Some x) None kind taken errors = absurd taken
RequestError-join gives refuses n got (Some x) (Some y) kind taken errors = (taken.same_errors kind).0 errors

pub Fails-join : (a b c : ℕ) → a ≤ b → Fails b c → Fails a c
Fails-join a b c p q = omega arith

pub length-put_mid : (a : ℕ) (xs ys : List ℕ) → a ≤ length xs → length ys ≡ length xs - a → length (put_mid a (length xs - a) xs ys) ≡ length xs
length-put_mid a xs ys within fits = simp (length-append, length-take, length-drop) (omega arith)

pub put_mid_front : (a b n : ℕ) (xs ys : List ℕ) → a ≤ length xs → n ≤ length ys → take (a + n) (put_mid a b xs ys) ≡ take a xs ++ take n ys
put_mid_front a b n xs ys within fits =
    let post = post_of a b xs in
    take-add a n (take a xs ++ (ys ++ post))
    ∙ ap (λ l. l ++ take n (drop a (take a xs ++ (ys ++ post)))) (take_at (take a xs) (ys ++ post) a (length-take-le a xs within))
    ∙ ap (λ l. take a xs ++ take n l) (drop_at (take a xs) (ys ++ post) a (length-take-le a xs within))
    ∙ ap (λ l. take a xs ++ l) (take-append-le n ys post fits)

-- a read into the rest of a buffer whose front is filled
pub ReturnsPart-fill : (gives : Giving) (refuses : Refusing) (filled count : ℕ) (buffer part : List ℕ)
    (old mid new : Option (List ℕ)) → filled ≤ length buffer → length part ≡ length buffer - filled
    → count ≤ length part → IfKnown old mid (ReturnsPart gives refuses (length buffer) (take filled buffer))
    → IfKnown mid new (ReturnsPart gives refuses (length part) (take count part))
    → (length (put_mid filled (length buffer - filled) buffer part) ≡ length buffer)
    × IfKnown old new (ReturnsPart gives refuses (length (put_mid filled (length buffer - filled) buffer part))
    (take (filled + count) (put_mid filled (length buffer - filled) buffer part)))
ReturnsPart-fill gives refuses filled count buffer part old mid new within fits fewer p q =
    let after = put_mid filled (length buffer - filled) buffer part in
    let len : length after ≡ length buffer = length-put_mid filled buffer part within fits in
    let front : take (filled + count) after ≡ take filled buffer ++ take count part = put_mid_front filled (length buffer - filled) count buffer part within fewer in
    let left : length part ≡ length buffer - length (take filled buffer) = omega (arith, length-take-le filled buffer within) in
    let joined : IfKnown old new (ReturnsPart gives refuses (length buffer) (take filled buffer ++ take count part)) =
    IfKnown-join old mid new (λ x y z s t. ReturnsPart-join (length buffer) (take filled buffer) (take count part) x y
    z s (subst (λ k. ReturnsPart gives refuses k (take count part) y z) left t)) p q in (
      len,
      subst (λ l. IfKnown old new (ReturnsPart gives refuses (length after) l)) (sym front)
          (subst (λ k. IfKnown old new (ReturnsPart gives refuses k (take filled buffer ++ take count part))) (sym len)
          joined),
    )

-- the whole buffer is filled
pub ReturnsPart-filled : (gives : Giving) (refuses : Refusing) (filled : ℕ) (buffer : List ℕ)
    (old new : Option (List ℕ)) → ((l : List ℕ) → gives l 0 [] l) → length buffer ≤ filled
    → IfKnown old new (ReturnsPart gives refuses (length buffer) (take filled buffer))
    → IfKnown old new (λ raw rest. gives raw (length buffer) buffer rest)
ReturnsPart-filled gives refuses filled buffer old new nothing full taken =
    let whole : take filled buffer ≡ buffer = take_all filled buffer full in
    IfKnown-weaker old new (λ x y t. ReturnsPart-whole (length buffer) buffer x y nothing refl (subst (λ l. ReturnsPart gives refuses (length buffer) l x y) whole t)) taken

-- a source that gave some bytes was not at its end
pub not_at_end : (old : Option (List ℕ)) (count n : ℕ) → IfSome old (λ raw. 0 < n → (count ≡ 0) ↔ (raw ≡ [])) → 0 < n → (count ≡ 0 → ⊥) → old ≡ Some [] → ⊥
not_at_end old count n end some more e =
    let P : Option (List ℕ) → Type 0 = λ o. IfSome o (λ raw. 0 < n → (count ≡ 0) ↔ (raw ≡ [])) in
    more ((subst P e end some).1 refl)

-- a claim about errors under a premise that can't hold
pub IfErr-vacuous : {X E A : Type 0} (Q : E → Type 0) (r : Result X E) → (A → ⊥) → IfErr r (λ e. A → Q e)
IfErr-vacuous Q (Ok x) never = tt
IfErr-vacuous Q (Err e) never = λ a. absurd (never a)

-- an error of the rest of a buffer
pub RequestError-fill : (gives : Giving) (refuses : Refusing) (filled : ℕ) (buffer part : List ℕ)
    (old mid : Option (List ℕ)) (kind : ErrorKind) → filled ≤ length buffer → length part ≡ length buffer - filled
    → IfKnown old mid (ReturnsPart gives refuses (length buffer) (take filled buffer))
    → RequestError refuses (length part) mid kind
    → RequestError refuses (length (put_mid filled (length buffer - filled) buffer part)) old kind
RequestError-fill gives refuses filled buffer part old mid kind within fits taken errors =
    let len : length (put_mid filled (length buffer - filled) buffer part) ≡ length buffer = length-put_mid filled buffer part within fits in
    let left : length part ≡ length buffer - length (take filled buffer) = omega (arith, length-take-le filled buffer within) in
    subst (λ k. RequestError refuses k old kind) (sym len) (RequestError-join gives refuses (length buffer) (take filled buffer) old mid kind taken (subst (λ k. RequestError refuses k mid kind) left errors))

-- the device's failure stays, and an error of the rest of a buffer is one of the whole
pub error_fill : (F : Type 0) (gives : Giving) (refuses : Refusing) (filled : ℕ) (buffer part : List ℕ)
    (old mid : Option (List ℕ)) (kind : ErrorKind) → filled ≤ length buffer → length part ≡ length buffer - filled
    → IfKnown old mid (ReturnsPart gives refuses (length buffer) (take filled buffer)) → F
    ⊎ RequestError refuses (length part) mid kind → F
    ⊎ RequestError refuses (length (put_mid filled (length buffer - filled) buffer part)) old kind
error_fill F gives refuses filled buffer part old mid kind within fits taken (inl failed) = inl failed
error_fill F gives refuses filled buffer part old mid kind within fits taken (inr errors) = inr (RequestError-fill gives refuses filled buffer part old mid kind within fits taken errors)

-- what isn't empty in the end wasn't before
pub not_empty_before : (old new : Option (List ℕ)) → IfKnown old new IsTail → IfSome new (λ raw. raw ≡ [] → ⊥) → IfSome old (λ raw. raw ≡ [] → ⊥)
not_empty_before None new tail more = tt
not_empty_before (Some x) None tail more = absurd tail
not_empty_before (Some x) (Some y) tail more = λ e. more (nil_from_length y (omega (arith, ap length tail.1, ap length e, length-append tail.0 y)))

-- no byte is returned where nothing is unread
pub ends : (n : ℕ) (old : Option (List ℕ)) → IfSome old (λ raw. raw ≡ []) → IfSome old (λ raw. 0 < n → (◌≡◌ {A = ℕ} 0 0) ↔ (raw ≡ []))
ends n None end = tt
ends n (Some raw) end = λ _. (λ _. end, λ _. refl)

-- a request that is given as a whole
pub ReturnsPart-given : (gives : Giving) (refuses : Refusing) (n : ℕ) (got raw left : List ℕ)
    → ((l : List ℕ) → gives l 0 [] l) → ((l bytes rest : List ℕ) → gives l 0 bytes rest → (bytes ≡ []) × (rest ≡ l))
    → ((l : List ℕ) (m : ℕ) (bytes rest others tail : List ℕ) → gives l m bytes rest → gives l m others tail
    → (bytes ≡ others) × (rest ≡ tail)) → ((l : List ℕ) (m : ℕ) (bytes rest : List ℕ) (kind : ErrorKind)
    → gives l m bytes rest → refuses l m kind → ⊥) → length got ≡ n → gives raw n got left
    → ReturnsPart gives refuses n got raw left
ReturnsPart-given gives refuses n got raw left takes_nothing gives_nothing unique apart whole given =
    let over : n - length got ≡ 0 = omega arith in
    record {
      joins = λ more rest h.
          let none = gives_nothing left more rest (subst (λ k. gives left k more rest) over h) in
          let bytes : got ≡ got ++ more = sym (append-nil got) ∙ ap (λ l. got ++ l) (sym none.0) in
          subst (λ l. gives raw n (got ++ more) l) (sym none.1) (subst (λ l. gives raw n l left) bytes given);
      splits = λ bytes rest h.
          let one = unique raw n bytes rest got left h given in
          ([], one.0 ∙ sym (append-nil got), subst (λ k. gives left k [] rest) (sym over) (subst (λ l. gives left 0 [] l) (sym one.1) (takes_nothing left)));
      same_errors = λ kind. (
        λ h. absurd (apart left 0 [] left kind (takes_nothing left) (subst (λ k. refuses left k kind) over h)),
        λ h. absurd (apart raw n got left kind given h),
      );
    }

-- Chunks one after another.

pub IsFront-join : (x y z : List ℕ) → IsFront x y → IsFront y z → IsFront x z
IsFront-join x y z (a, p) (b, q) = (a ++ b, q ∙ ap (λ l. l ++ b) p ∙ append_assoc x a b)

-- a sink that isn't asked
pub Grows-refl : {S : Type 0} {written : S → Option (List ℕ)} {failures : S → ℕ} {same : S → S → Type 0} (a : S) → same a a → Grows written failures same a a
Grows-refl {written} a self_same = record {
  front = IfKnown-refl IsFront (written a) (λ x. ([], sym (append-nil x)));
  counted = omega arith;
  same_sink = self_same;
}

pub Grows-join : {S : Type 0} {written : S → Option (List ℕ)} {failures : S → ℕ} {same : S → S → Type 0} (a b c : S)
    → (same a b → same b c → same a c) → Grows written failures same a b → Grows written failures same b c
    → Grows written failures same a c
Grows-join {written = written} a b c join p q = record {
  front = IfKnown-join (written a) (written b) (written c) IsFront-join p.front q.front;
  counted = omega arith;
  same_sink = join p.same_sink q.same_sink;
}
