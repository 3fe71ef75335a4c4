-- A call of a device takes or gives a part: a front of a chunk that is written, or the first bytes of what is
-- unread.
use Rattle.std.proofs.Common.{◌≡◌, ◌↔◌, ℕ, ◌+◌, ◌-◌, ◌<◌, ◌≤◌, Bool, true, false, List, [], ◌++◌, length, take, drop, Option, Some, None, IfSome, sym, ap, ◌∙◌, arith, append_assoc, length-append}
use Rattle.std.proofs.lemmas.List.{append-nil, take-append-drop, length-drop, length-take, length-take-le}
use Rattle.std.specs.Io.KnownBytes.{Keeps, Appends, Consumes, IsAtEnd}
use Rattle.capnp_frame.specs.Prelude.{same_front, IsTail}
use Rattle.capnp_frame.proofs.sources.JoinedRequestPartsLemmas.{IfKnown-weaker}
use Rattle.capnp.specs.Prelude.{IfKnown, Adds, LeavesFront, Splits, RunsShort, ReturnsPart, if_known}

-- a front of the chunk
pub front_left : (a b : Option (List ℕ)) (chunk : List ℕ) (done : ℕ) → Appends a b (take done chunk) → IfKnown a b (Adds (LeavesFront chunk))
front_left None b chunk done p = tt
front_left (Some x) None chunk done p = absurd p
front_left (Some x) (Some y) chunk done p = (take done chunk, (drop done chunk, sym (take-append-drop done chunk)), p)

-- and no more by a call that takes nothing
pub front_kept : (a b c : Option (List ℕ)) (chunk : List ℕ) (done : ℕ) → Appends a b (take done chunk) → Keeps b c → IfKnown a c (Adds (LeavesFront chunk))
front_kept None b c chunk done p kept = tt
front_kept (Some x) None c chunk done p kept = absurd p
front_kept (Some x) (Some y) None chunk done p kept = absurd kept
front_kept (Some x) (Some y) (Some z) chunk done p kept = front_left (Some x) (Some z) chunk done (kept ∙ p)

pub nothing_added : (b c : Option (List ℕ)) (bytes : List ℕ) → bytes ≡ [] → Appends b c bytes → Keeps b c
nothing_added None c bytes none p = tt
nothing_added (Some y) None bytes none p = absurd p
nothing_added (Some y) (Some z) bytes none p = p ∙ ap (λ l. y ++ l) none ∙ append-nil y

-- What is unread, by whether the bytes are known.

-- the first bytes of what is unread are a part of a plain request
pub part_split : (n : ℕ) (got raw left : List ℕ) → length got ≤ n → raw ≡ got ++ left → ReturnsPart Splits RunsShort n got raw left
part_split n got raw left within spelled =
    let long : length raw ≡ length got + length left = ap length spelled ∙ length-append got left in
    record {
      joins = λ more rest h. (spelled ∙ ap (λ l. got ++ l) h.0 ∙ sym (append_assoc got more rest), omega (arith, length-append got more, h.1, within));
      splits = λ bytes rest h.
          let cut : bytes ≡ take (length got) bytes ++ drop (length got) bytes = sym (take-append-drop (length got) bytes) in
          let fits : length got ≤ length bytes = omega (arith, h.1, within) in
          let joined = sym spelled ∙ h.0 ∙ ap (λ l. l ++ rest) cut ∙ append_assoc (take (length got) bytes) (drop (length got) bytes) rest in
          let same = same_front got (take (length got) bytes) left (drop (length got) bytes ++ rest) (sym (length-take-le (length got) bytes fits)) joined in
          (drop (length got) bytes, cut ∙ ap (λ l. l ++ drop (length got) bytes) (sym same.0), (same.1, omega (arith, length-drop (length got) bytes, h.1)));
      same_errors = λ kind. (λ h. (omega (arith, h.0, long, within), h.1), λ h. (omega (arith, h.0, long, within), h.1));
    }

pub part_given : (known : Bool) (old new : Option (List ℕ)) (count : ℕ) (buffer : List ℕ) → Consumes old new (take count buffer)
    → IfKnown (if_known known old) (if_known known new) (ReturnsPart Splits RunsShort (length buffer) (take count buffer))
part_given false old new count buffer taken = tt
part_given true None new count buffer taken = tt
part_given true (Some raw) None count buffer taken = absurd taken
part_given true (Some raw) (Some left) count buffer taken = part_split (length buffer) (take count buffer) raw left (omega (arith, length-take count buffer)) taken

-- no byte is given at the end alone
pub none_at_end : (known : Bool) (old new : Option (List ℕ)) (count : ℕ) (buffer : List ℕ) → count ≤ length buffer → Consumes old new (take count buffer)
    → (count ≡ 0 → 0 < length buffer → IsAtEnd new) → IfSome (if_known known old) (λ raw. 0 < length buffer → (count ≡ 0) ↔ (raw ≡ []))
none_at_end false old new count buffer within taken end = tt
none_at_end true None new count buffer within taken end = tt
none_at_end true (Some raw) None count buffer within taken end = absurd taken
none_at_end true (Some raw) (Some left) count buffer within taken end = λ room. (
  λ none. taken ∙ ap (λ k. take k buffer ++ left) none ∙ end none room,
  λ empty. omega (arith, ap length empty, ap length taken, length-append (take count buffer) left, length-take-le count buffer within),
)

-- what is consumed leaves a tail
pub tail_left : (known : Bool) (old new : Option (List ℕ)) (amount : ℕ) → IfKnown (if_known known old) (if_known known new) (λ raw left. left ≡ drop amount raw)
    → IfKnown (if_known known old) (if_known known new) IsTail
tail_left false old new amount left = tt
tail_left true old new amount left = IfKnown-weaker old new (λ raw rest is. (take amount raw, sym (take-append-drop amount raw) ∙ ap (λ l. take amount raw ++ l) (sym is))) left
