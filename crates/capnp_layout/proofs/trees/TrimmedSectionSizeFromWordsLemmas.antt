-- How many pointers and data words trimming keeps of a section, or of each element: as many as its words show.
use Rattle.std.proofs.lemmas.List.{take-take}
use Rattle.std.proofs.Common.{◌≡◌, ℕ, zero, suc, ◌+◌, ◌-◌, ◌<◌, ◌≤◌, false, max, List, ◌∷◌, length, map, take, drop, Option, Some, slice_get, refl, sym, []}
use Rattle.std.proofs.Common.{◌∙◌, ap, arith}
use Rattle.std.specs.Prelude.{option_and_then}
use Rattle.capnp_layout.specs.Prelude.{words_from, Form, null, struct, numbers, pointers, structs, Trees, none, tree, count, first, following, keep_word, cut_zeros, keep_tree, cut_nulls, least_data, least_pointers, trim, is_null as null_there, is_object, Lands, local, far, double_far, Target, word_at, places, pointer_places, elements_from, At, nowhere, at, most_used}
use Rattle.capnp_layout.specs.Tree.{is_null}
use Rattle.capnp_layout.specs.declared.place.Place.{Place}
use Rattle.capnp_layout.proofs.pointers.ErrorExcludesObjectLemmas.{not_null}
use Rattle.capnp_layout.proofs.trees.TrimCommutesWithPartsLemmas.{trim_first, trim_after, count_cut_trim}
use Rattle.capnp_layout.proofs.trees.KeptTreesPlacedNoDeeperLemmas.{halves, long_places}

-- pointers that are needed, by their words
lands_word : (m : List (List ℕ)) (place : Place) (l : Target) → Lands m place l → (w : ℕ) × (word_at m place ≡ Some (suc w))
lands_word m place l (local {word = suc w} e p k) = (w, e)
lands_word m place l (local {word = zero} e p k) = absurd (omega arith)
lands_word m place l (far {word = suc w} e f g k) = (w, e)
lands_word m place l (far {word = zero} e f g k) = absurd (omega (arith, f.far))
lands_word m place l (double_far {word = suc w} e f g i q there k) = (w, e)
lands_word m place l (double_far {word = zero} e f g i q there k) = absurd (omega (arith, f.far))

keep_both : (rest : Trees) (words : List ℕ) (form : Form) (children : Trees) (w : ℕ) → count rest ≡ length words → is_null form ≡ false
    → count (keep_tree rest form children) ≡ length (keep_word words (suc w))
keep_both (tree f h r) (x ∷ words) form children w e some = omega arith
keep_both (tree f h r) [] form children w e some = absurd (omega arith)
keep_both none (x ∷ words) form children w e some = absurd (omega arith)
keep_both none [] null children w e some = cc
keep_both none [] (struct words) children w e some = refl
keep_both none [] (numbers c values) children w e some = refl
keep_both none [] pointers children w e some = refl
keep_both none [] (structs d p elements) children w e some = refl

keep_neither : (rest : Trees) (words : List ℕ) (children : Trees) → count rest ≡ length words → count (keep_tree rest null children) ≡ length (keep_word words 0)
keep_neither (tree f h r) (x ∷ words) children e = omega arith
keep_neither (tree f h r) [] children e = absurd (omega arith)
keep_neither none (x ∷ words) children e = absurd (omega arith)
keep_neither none [] children e = refl

drop_get : (start : ℕ) (words : List ℕ) (w : ℕ) → slice_get words start ≡ Some w → drop start words ≡ w ∷ drop (start + 1) words
drop_get start [] w e = absurd (cc)
drop_get zero (x ∷ words) w e = let same : x ≡ w = cc in ap (λ (n : ℕ). n ∷ words) same
drop_get (suc start) (x ∷ words) w e =
    let next : suc (start + 1) ≡ suc start + 1 = omega arith in
    drop_get start words w e ∙ ap (λ (n : ℕ). w ∷ drop n (x ∷ words)) next

there_word : (m : List (List ℕ)) (segment word : ℕ) (words : List ℕ) (w : ℕ) → slice_get m segment ≡ Some words → word_at m (record { segment = segment; word = word }) ≡ Some w
    → slice_get words word ≡ Some w
there_word m segment word words w there e =
    ap (λ (o : Option (List ℕ)). option_and_then (λ (l : List ℕ). slice_get l word) o) (sym there) ∙ e

pub used_pointers : (m : List (List ℕ)) (words : List ℕ) (segment start p : ℕ) (t : Trees) (traversed : ℕ) → slice_get m segment ≡ Some words → At m (places segment start p) t traversed
    → count (cut_nulls t) ≡ length (cut_zeros (words_from words start p))
used_pointers m words segment start zero t traversed there nowhere = refl
used_pointers m words segment start (suc p) t traversed there (at {children = h} {rest = r} {following = b} (null_there e) inner after) =
    let rest = used_pointers m words segment (start + 1) p r b there after in
    let front = drop_get start words 0 (there_word m segment start words 0 there e) in
    keep_neither (cut_nulls r) (cut_zeros (words_from words (start + 1) p)) h rest ∙ ap (λ (l : List ℕ). length (cut_zeros (take (suc p) l))) (sym front)
used_pointers m words segment start (suc p) t traversed there (at {children = h} {rest = r} {following = b} (is_object {landing = l} {start = s} {shape = shape} lands e begins is_at) inner after) =
    let rest = used_pointers m words segment (start + 1) p r b there after in
    let word = lands_word m (record { segment = segment; word = start }) l lands in
    let front = drop_get start words (suc word.0) (there_word m segment start words (suc word.0) there word.1) in
    keep_both (cut_nulls r) (cut_zeros (words_from words (start + 1) p)) shape.form h word.0 rest (not_null _ _ _ shape is_at) ∙ ap (λ (l : List ℕ). length (cut_zeros (take (suc p) l))) (sym front)

pub used_where_some : (m : List (List ℕ)) (words : List ℕ) (segment start p : ℕ) (t : Trees) (traversed : ℕ) → (0 < p → slice_get m segment ≡ Some words) → At m (places segment start p) t traversed
    → count (cut_nulls t) ≡ length (cut_zeros (words_from words start p))
used_where_some m words segment start zero t traversed there nowhere = refl
used_where_some m words segment start (suc p) t traversed there are_at = used_pointers m words segment start (suc p) t traversed (there (omega arith)) are_at

-- what elements need
pub least_data_is : (words : List ℕ) (start d p n : ℕ) → least_data (elements_from words start d p n) ≡ most_used words start d (d + p) n
least_data_is words start d p zero = refl
least_data_is words start d p (suc n) =
    let on : start + d + p ≡ start + (d + p) = omega arith in
    ap (λ (k : ℕ). max (length (cut_zeros (words_from words start d))) k) (ap (λ (s : ℕ). least_data (elements_from words s d p n)) on ∙ least_data_is words (start + (d + p)) d p n)

pub elements_take : (words : List ℕ) (start d p e n : ℕ) → e ≤ d → map (take e) (elements_from words start d p n) ≡ elements_from words start e (d + p - e) n
elements_take words start d p e zero le = refl
elements_take words start d p e (suc n) le =
    let on : start + d + p ≡ start + e + (d + p - e) = omega arith in
    let one : take e (words_from words start d) ≡ words_from words start e = take-take e d (drop start words) le in
    ap (λ (l : List ℕ). l ∷ map (take e) (elements_from words (start + d + p) d p n)) one
    ∙ ap (λ (l : List (List ℕ)). words_from words start e ∷ l) (elements_take words (start + d + p) d p e n le ∙ ap (λ (s : ℕ). elements_from words s e (d + p - e) n) on)

least_pointers_is : (m : List (List ℕ)) (words : List ℕ) (segment start d p : ℕ) (elements : List (List ℕ)) (t : Trees) (traversed : ℕ) → slice_get m segment ≡ Some words
    → At m (pointer_places segment start d p (length elements)) t traversed → least_pointers p elements (trim t) ≡ most_used words (start + d) p (d + p) (length elements)
least_pointers_is m words segment start d p [] t traversed there are_at = refl
least_pointers_is m words segment start d p (element ∷ elements) t traversed there are_at =
    let h = halves m (places segment (start + d) p) (pointer_places segment (start + d + p) d p (length elements)) p t traversed (long_places segment (start + d) p) are_at in
    let one : count (cut_nulls (first p (trim t))) ≡ length (cut_zeros (words_from words (start + d) p)) =
    ap (λ (x : Trees). count (cut_nulls x)) (sym (trim_first p t)) ∙ count_cut_trim (first p t) ∙ used_pointers m words segment (start + d) p (first p t) h.one there h.front in
    let rest : least_pointers p elements (following p (trim t)) ≡ most_used words (start + d + p + d) p (d + p) (length elements) =
    ap (least_pointers p elements) (sym (trim_after p t)) ∙ least_pointers_is m words segment (start + d + p) d p elements (following p t) h.two there h.back in
    let on : start + d + p + d ≡ start + d + (d + p) = omega arith in
    rw (one, rest, on) refl

no_pointers_used : (words : List ℕ) (start step : ℕ) (elements : List (List ℕ)) (t : Trees) → least_pointers 0 elements t ≡ most_used words start 0 step (length elements)
no_pointers_used words start step [] t = refl
no_pointers_used words start step (element ∷ elements) t = ap (λ (k : ℕ). max 0 k) (no_pointers_used words (start + step) step elements t)

-- also where there are no trees, wherever they would be
pub least_pointers_are : (m : List (List ℕ)) (words : List ℕ) (segment start d p : ℕ) (elements : List (List ℕ)) (t : Trees) (traversed : ℕ) → (0 < p → slice_get m segment ≡ Some words)
    → At m (pointer_places segment start d p (length elements)) t traversed → least_pointers p elements (trim t) ≡ most_used words (start + d) p (d + p) (length elements)
least_pointers_are m words segment start d zero elements t traversed there are_at = no_pointers_used words (start + d) (d + 0) elements (trim t)
least_pointers_are m words segment start d (suc p) elements t traversed there are_at = least_pointers_is m words segment start d (suc p) elements t traversed (there (omega arith)) are_at
