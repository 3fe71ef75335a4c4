-- The outcome of a reader of slices or buffers: it keeps `ReadsFlat` where it finds a message, and where it fails.
use Rattle.std.proofs.Common.{◌≡◌, ℕ, ◌+◌, ◌*◌, ◌<◌, Option, Some, None, IfSome, Result, Ok, Err, inl, inr, List, length, drop, refl, sym, subst}
use Rattle.std.specs.Prelude.{sum}
use Rattle.std.specs.Result.{IsErrAnd}
use Rattle.capnp_frame.specs.declared.error.Error.{Error}
use Rattle.capnp_frame.specs.declared.error.ErrorKind.{ErrorKind}
use Rattle.capnp_frame.specs.declared.error.ErrorKind.TheVariants.{OutOfMemory}
use Rattle.capnp_frame.specs.declared.serialize.segment_table.Padding.{Padding}
use Rattle.capnp_frame.specs.Prelude.{table_size, KeepsPadding, KeepsLimit, number, declared_lengths, declared_padding, declared_segments, HoldsMessage, FlatForm, by_words, by_fields, count_of, AcceptsSeveral, FlatError, FlatRules, FoundBy, RulesError, Leaves, OrOutOfMemory, AcceptsFlat, ReadsFlat}
use Rattle.capnp_frame.proofs.encodings.DeclaredMessageIsFrontFrameLemmas.{found_from_holds, within_declared}
use Rattle.capnp_frame.proofs.slices.FlatErrorLemmas.{FlatError-once, frame_counted, FlatError-apart}

-- no line holds where a message is
found_apart : (rules : FlatRules) (kind : ErrorKind) (bytes rest : List ℕ) (message : List (List ℕ)) → FoundBy rules message bytes rest → RulesError rules kind bytes → ⊥
found_apart rules kind bytes rest message begins =
    FlatError-apart rules.form rules.padding rules.limit kind bytes message rest (begins.encoding, begins.is_encoding, begins.spelled) begins.within

-- where a call fails, it fails by its rules

memory_alone : (X : Type 0) (form : FlatForm) (rule : Padding) (limit : Option ℕ) (bytes : List ℕ) (message : List (List ℕ)) (error : Error)
    → OrOutOfMemory form ((error.kind ≡ OutOfMemory) × AcceptsSeveral form bytes) (FlatError form rule limit error.kind bytes)
    → count_of form (number bytes) ≡ length message → (FlatError form rule limit error.kind bytes → ⊥)
    → AcceptsFlat {X = X} form message (Err error)
memory_alone X (by_words empty) rule limit bytes message error (inl memory) count none = (memory.0, subst (λ k. 1 < k) count memory.1.2)
memory_alone X (by_words empty) rule limit bytes message error (inr met) count none = absurd (none met)
memory_alone X by_fields rule limit bytes message error met count none = absurd (none met)

first_line : (form : FlatForm) (rule : Padding) (limit : Option ℕ) (bytes : List ℕ) (own kind : ErrorKind)
    → OrOutOfMemory form ((own ≡ OutOfMemory) × AcceptsSeveral form bytes) (FlatError form rule limit own bytes)
    → FlatError form rule limit kind bytes → OrOutOfMemory form (own ≡ OutOfMemory) (own ≡ kind)
first_line (by_words empty) rule limit bytes own kind (inl memory) line = inl memory.0
first_line (by_words empty) rule limit bytes own kind (inr met) line = inr (FlatError-once (by_words empty) rule limit own kind bytes met line)
first_line by_fields rule limit bytes own kind met line = FlatError-once by_fields rule limit own kind bytes met line

pub reads_none : {X : Type 0} (rules : FlatRules) (bytes : List ℕ) (left : Option (List ℕ)) (segments : X → List (List ℕ))
    (error : Error) (result : Result X Error) → IsErrAnd result (λ own. own ≡ error) → IfSome left (λ left. left ≡ bytes)
    → OrOutOfMemory rules.form ((error.kind ≡ OutOfMemory) × AcceptsSeveral rules.form bytes) (RulesError rules error.kind bytes)
    → ReadsFlat rules bytes left segments result
reads_none rules bytes left segments error (Ok x) is stays errors = absurd is
reads_none {X} rules bytes left segments error (Err own) is stays errors =
    subst (λ e. ReadsFlat rules bytes left segments (Err e)) (sym is) (record {
      found = tt;
      accepted = λ message rest begins. memory_alone X rules.form rules.padding rules.limit bytes message error errors
          (frame_counted rules.form rules.padding rules.limit bytes message rest (begins.encoding, begins.is_encoding, begins.spelled) begins.within)
          (found_apart rules error.kind bytes rest message begins);
      unchanged = stays;
      errors = errors;
      exact = λ kind line. first_line rules.form rules.padding rules.limit bytes error.kind kind errors line;
    })

-- where a call finds a message, that message is there

accepts : {X : Type 0} (form : FlatForm) (message : List (List ℕ)) (x : X) → AcceptsFlat form message (Ok x)
accepts (by_words empty) message x = tt
accepts by_fields message x = refl

leaves : (left : Option (List ℕ)) (is_found : List ℕ → Type 0) (rest : List ℕ) → IfSome left (λ left. left ≡ rest) → is_found rest → Leaves left is_found
leaves None is_found rest is begins = (rest, begins)
leaves (Some left) is_found rest is begins = subst is_found (sym is) begins

pub reads_found : {X : Type 0} (rules : FlatRules) (bytes : List ℕ) (left : Option (List ℕ)) (segments : X → List (List ℕ)) (x : X)
    (count : ℕ) → HoldsMessage bytes count → segments x ≡ declared_segments count bytes
    → KeepsLimit (declared_lengths count bytes) rules.limit → KeepsPadding rules.padding (declared_padding count bytes)
    → IfSome left (λ left. left ≡ drop (table_size count + 8 * sum (declared_lengths count bytes)) bytes)
    → ReadsFlat rules bytes left segments (Ok x)
reads_found rules bytes left segments x count holds are keeps kept is =
    let rest = drop (table_size count + 8 * sum (declared_lengths count bytes)) bytes in
    let frame = (found_from_holds rules.padding bytes count holds kept).begins in
    let begins : FoundBy rules (segments x) bytes rest = subst (λ l. FoundBy rules l bytes rest) (sym are) (record {
      encoding = frame.0;
      is_encoding = frame.1;
      within = within_declared bytes count rules.limit holds keeps;
      spelled = frame.2;
    }) in
    record {
      found = leaves left (FoundBy rules (segments x) bytes) rest is begins;
      accepted = λ message after others. accepts rules.form message x;
      unchanged = tt;
      errors = tt;
      exact = λ kind line. found_apart rules kind bytes rest (segments x) begins line;
    }

-- what is returned, with the segments seen in another way

pub reads_shown : {X Y : Type 0} (rules : FlatRules) (bytes : List ℕ) (left : Option (List ℕ)) (segments : X → List (List ℕ))
    (others : Y → List (List ℕ)) (x : X) (y : Y) → others y ≡ segments x → ReadsFlat rules bytes left segments (Ok x)
    → ReadsFlat rules bytes left others (Ok y)
reads_shown rules bytes left segments others x y same reported = record {
  found = subst (λ l. Leaves left (FoundBy rules l bytes)) (sym same) reported.found;
  accepted = λ message rest begins. accepts rules.form message y;
  unchanged = tt;
  errors = tt;
  exact = reported.exact;
}

pub reads_passed : {X Y : Type 0} (rules : FlatRules) (bytes : List ℕ) (left : Option (List ℕ)) (segments : X → List (List ℕ))
    (others : Y → List (List ℕ)) (error : Error) (result : Result Y Error) → IsErrAnd result (λ own. own ≡ error)
    → ReadsFlat rules bytes left segments (Err error) → ReadsFlat rules bytes left others result
reads_passed rules bytes left segments others error result is reported = reads_none rules bytes left others error result is reported.unchanged reported.errors
