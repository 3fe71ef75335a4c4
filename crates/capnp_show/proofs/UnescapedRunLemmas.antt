-- Runs of characters that are shown as they are, in JSON and in markup, and the escaped ones between them.
use Rattle.std.proofs.Common.{arith, ◌≡◌, ℕ, suc, ◌+◌, ◌/◌, ◌<◌, ◌≤◌, List, [], ◌∷◌, ◌++◌, length, get_or, take, drop, refl, sym, ap, subst, ◌∙◌, append-nil, append_assoc, ⊎_elim, length-append}
use Rattle.std.specs.List.{All}
use Rattle.std.specs.Prelude.{IsUtf8}
use Rattle.std.specs.Char.{encode_utf8}
use Rattle.std.specs.Str.{chars, IsCharBoundary}
use Rattle.std.proofs.Math.Utf8.{encode, encodes}
use Rattle.std.proofs.lemmas.List.{get_or_append_left, get_or-append-add, take-append-drop}
use Rattle.std.proofs.lemmas.Bool.{cases_lt}
use Rattle.std.proofs.lemmas.Str.{encode_ascii, encodes-chars, chars-append, chars_past_char, IsUtf8-take, IsUtf8-drop, length-encode, len_utf8_bounds}
use Rattle.std.proofs.str.Laws.{two}
use Rattle.capnp_show.specs.declared.escapes.Escape.{Escape}
use Rattle.capnp_show.specs.declared.escapes.Escape.TheVariants.{Plain}
use Rattle.capnp_show.specs.declared.markup.Mark.{Mark}
use Rattle.capnp_show.specs.declared.markup.Mark.TheVariants.{Plain as PlainMark}
use Rattle.capnp_show.specs.Plain.{IsPlainByte}
use Rattle.capnp_show.specs.Output.{IsControl, IsJsonEscapeOf, IsMarkOf, IsMarked, AreJsonEscaped, none_shown, one_shown, json_escaped, AreMarked, none_marked, one_marked}

-- the bytes before others, and those after others
all_front : (front back : List ℕ) → All IsPlainByte (front ++ back) → All IsPlainByte front
all_front front back all = λ k d below. subst IsPlainByte (get_or_append_left front back d k below) (all k d (omega (arith, length-append front back)))

all_back : (front back : List ℕ) → All IsPlainByte (front ++ back) → All IsPlainByte back
all_back front back all = λ k d below. subst IsPlainByte (get_or-append-add front back k d) (all (length front + k) d (omega (arith, length-append front back)))

-- a character of such bytes is no control character, and has neither a letter nor a name
low_escape : (c : ℕ) → c < 128 → IsPlainByte c → IsJsonEscapeOf c Plain
low_escape c low is = (λ control. ⊎_elim (λ few. absurd (omega arith)) (λ many. absurd (omega arith)) control, is.1, is.5)

low_mark : (c : ℕ) → c < 128 → IsPlainByte c → IsMarkOf c PlainMark
low_mark c low is = (λ control. ⊎_elim (λ few. absurd (omega arith)) (λ many. absurd (omega arith)) control, is.2, is.3, is.4, is.1)

no_control : (c : ℕ) → 128 ≤ c → All IsPlainByte (encode c) → IsControl c → ⊥
no_control c high all control = ⊎_elim (λ few. absurd (omega arith)) (λ many.
    let first : IsPlainByte (192 + c / 64) = (subst (All IsPlainByte) (two c high (omega arith)) all) 0 0 (omega arith) in
    first.7 (omega arith)) control

high_escape : (c : ℕ) → 128 ≤ c → All IsPlainByte (encode c) → IsJsonEscapeOf c Plain
high_escape c high all = (no_control c high all, λ is. absurd (omega arith), λ is. absurd (omega arith))

high_mark : (c : ℕ) → 128 ≤ c → All IsPlainByte (encode c) → IsMarkOf c PlainMark
high_mark c high all = (no_control c high all, λ is. absurd (omega arith), λ is. absurd (omega arith), λ is. absurd (omega arith), λ is. absurd (omega arith))

plain_escape : (c : ℕ) → All IsPlainByte (encode c) → IsJsonEscapeOf c Plain
plain_escape c all = ⊎_elim
    (λ low. low_escape c low ((subst (All IsPlainByte) (encode_ascii c low) all) 0 0 (omega arith)))
    (λ high. high_escape c high all) (cases_lt c 128)

plain_mark : (c : ℕ) → All IsPlainByte (encode c) → IsMarkOf c PlainMark
plain_mark c all = ⊎_elim
    (λ low. low_mark c low ((subst (All IsPlainByte) (encode_ascii c low) all) 0 0 (omega arith)))
    (λ high. high_mark c high all) (cases_lt c 128)

-- what is shown of a string, and then of what follows it
escaped_append : (xs bs ys cs : List ℕ) → AreJsonEscaped xs bs → AreJsonEscaped ys cs → AreJsonEscaped (xs ++ ys) (bs ++ cs)
escaped_append xs bs _ _ one none_shown = subst (λ (l : List ℕ). AreJsonEscaped l (bs ++ [])) (sym (append-nil xs)) (subst (AreJsonEscaped xs) (sym (append-nil bs)) one)
escaped_append xs bs _ _ one (one_shown ys cs c e before is) =
    subst (λ (l : List ℕ). AreJsonEscaped l (bs ++ (cs ++ json_escaped c e))) (append_assoc xs ys (c ∷ []))
    (subst (AreJsonEscaped ((xs ++ ys) ++ c ∷ [])) (append_assoc bs cs (json_escaped c e))
    (one_shown (xs ++ ys) (bs ++ cs) c e (escaped_append xs bs ys cs one before) is))

marked_append : (xs bs ys cs : List ℕ) → AreMarked xs bs → AreMarked ys cs → AreMarked (xs ++ ys) (bs ++ cs)
marked_append xs bs _ _ one none_marked = subst (λ (l : List ℕ). AreMarked l (bs ++ [])) (sym (append-nil xs)) (subst (AreMarked xs) (sym (append-nil bs)) one)
marked_append xs bs _ _ one (one_marked ys cs added c mark before is gives) =
    subst (λ (l : List ℕ). AreMarked l (bs ++ (cs ++ added))) (append_assoc xs ys (c ∷ []))
    (subst (AreMarked ((xs ++ ys) ++ c ∷ [])) (append_assoc bs cs added)
    (one_marked (xs ++ ys) (bs ++ cs) added c mark (marked_append xs bs ys cs one before) is gives))

-- a run of such characters
run_escaped : (cs : List ℕ) → All IsPlainByte (encodes cs) → AreJsonEscaped cs (encodes cs)
run_escaped [] all = none_shown
run_escaped (c ∷ cs) all =
    escaped_append (c ∷ []) (encode c) cs (encodes cs)
    (one_shown [] [] c Plain none_shown (plain_escape c (all_front (encode c) (encodes cs) all)))
    (run_escaped cs (all_back (encode c) (encodes cs) all))

run_marked : (cs : List ℕ) → All IsPlainByte (encodes cs) → AreMarked cs (encodes cs)
run_marked [] all = none_marked
run_marked (c ∷ cs) all =
    marked_append (c ∷ []) (encode c) cs (encodes cs)
    (one_marked [] [] (encode c) c PlainMark none_marked (plain_mark c (all_front (encode c) (encodes cs) all)) refl)
    (run_marked cs (all_back (encode c) (encodes cs) all))

pub plain_escaped : (bytes : List ℕ) → IsUtf8 bytes → All IsPlainByte bytes → AreJsonEscaped (chars bytes) bytes
plain_escaped bytes utf8 all = subst (AreJsonEscaped (chars bytes)) (encodes-chars bytes utf8)
    (run_escaped (chars bytes) (subst (All IsPlainByte) (sym (encodes-chars bytes utf8)) all))

pub plain_marked : (bytes : List ℕ) → IsUtf8 bytes → All IsPlainByte bytes → AreMarked (chars bytes) bytes
plain_marked bytes utf8 all = subst (AreMarked (chars bytes)) (encodes-chars bytes utf8)
    (run_marked (chars bytes) (subst (All IsPlainByte) (sym (encodes-chars bytes utf8)) all))

-- a run, and then another character
pub escaped_more : (shown bytes plain : List ℕ) (c : ℕ) (e : Escape) → AreJsonEscaped shown bytes → IsUtf8 plain → All IsPlainByte plain → IsJsonEscapeOf c e
    → AreJsonEscaped ((shown ++ chars plain) ++ c ∷ []) ((bytes ++ plain) ++ json_escaped c e)
escaped_more shown bytes plain c e before utf8 all is =
    one_shown (shown ++ chars plain) (bytes ++ plain) c e (escaped_append shown bytes (chars plain) plain before (plain_escaped plain utf8 all)) is

pub marked_more : (shown bytes plain added : List ℕ) (c : ℕ) (mark : Mark) → AreMarked shown bytes → IsUtf8 plain → All IsPlainByte plain → IsMarkOf c mark
    → IsMarked c mark added → AreMarked ((shown ++ chars plain) ++ c ∷ []) ((bytes ++ plain) ++ added)
marked_more shown bytes plain added c mark before utf8 all is gives =
    one_marked (shown ++ chars plain) (bytes ++ plain) added c mark (marked_append shown bytes (chars plain) plain before (plain_marked plain utf8 all)) is gives

pub escaped_last : (shown bytes plain : List ℕ) → AreJsonEscaped shown bytes → IsUtf8 plain → All IsPlainByte plain → AreJsonEscaped (shown ++ chars plain) (bytes ++ plain)
escaped_last shown bytes plain before utf8 all = escaped_append shown bytes (chars plain) plain before (plain_escaped plain utf8 all)

pub marked_last : (shown bytes plain : List ℕ) → AreMarked shown bytes → IsUtf8 plain → All IsPlainByte plain → AreMarked (shown ++ chars plain) (bytes ++ plain)
marked_last shown bytes plain before utf8 all = marked_append shown bytes (chars plain) plain before (plain_marked plain utf8 all)

-- the characters that are shown so far and those that follow, after a run and one more
pub characters_more : (all shown rest plain after : List ℕ) (c : ℕ) → all ≡ shown ++ chars rest → chars rest ≡ chars plain ++ c ∷ chars after
    → all ≡ ((shown ++ chars plain) ++ c ∷ []) ++ chars after
characters_more all shown rest plain after c before is =
    before ∙ ap (λ (l : List ℕ). shown ++ l) is ∙ sym (append_assoc shown (chars plain) (c ∷ chars after)) ∙ sym (append_assoc (shown ++ chars plain) (c ∷ []) (chars after))

-- a string that is cut before a character
pub cut_before : (shown front back after : List ℕ) (n c : ℕ) → IsUtf8 shown → IsCharBoundary shown n → front ≡ take n shown → back ≡ drop n shown
    → back ≡ encode_utf8 c ++ after → (length after < length shown) × (chars shown ≡ chars front ++ c ∷ chars after)
cut_before shown front back after n c utf8 boundary is_front is_back next =
    let whole : shown ≡ front ++ back = sym (ap (λ (l : List ℕ). l ++ back) is_front ∙ ap (λ (l : List ℕ). take n shown ++ l) is_back ∙ take-append-drop n shown) in
    let front_utf8 : IsUtf8 front = subst IsUtf8 (sym is_front) (IsUtf8-take shown n utf8 boundary) in
    let back_utf8 : IsUtf8 back = subst IsUtf8 (sym is_back) (IsUtf8-drop shown n utf8 boundary) in (
      omega (arith, ap length whole, length-append front back, ap length next, length-append (encode_utf8 c) after, length-encode c, (len_utf8_bounds c).0),
      ap chars whole ∙ chars-append front back front_utf8 ∙ ap (λ (l : List ℕ). chars front ++ l) (chars_past_char back after c back_utf8 next),
    )
