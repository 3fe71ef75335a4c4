-- Skipping the next message reports whether there was one, and fails as reading it does.
use Rattle.std.proofs.Common.{◌≡◌, ℕ, List, Option, Some, None, IfSome, Bool, true, false, is_some, Ok, Err, sym, ◌∙◌}
use Rattle.std.specs.Prelude.{IsTrue}
use Rattle.std.specs.Option.{option_map}
use Rattle.capnp_frame.specs.declared.error.Error.{Error}
use Rattle.capnp_frame.specs.declared.io.Read.{Ghosts}
use Rattle.capnp_frame.specs.declared.serialize.segment_table.Padding.TheVariants.{Zero}
use Rattle.capnp_frame.specs.Prelude.{ReadsStream}
use Rattle.capnp.specs.declared.streams.Format.{Format}
use Rattle.capnp.specs.Prelude.{ReturnsEncodings, grammar_of, rules_of}
use Rattle.capnp.proofs.RunOutputMessageByMessageLemmas.{format_lawful, format_requested}
use Rattle.capnp.proofs.SourceEncodingLemmas.{nothing_begins, nothing_begins_known}
use Rattle.capnp_uses.specs.Streaming.{SkipsNextMessage}

-- what holds of all holds of what is known
of_known : {X : Type 0} (o : Option X) (P : X → Type 0) → ((x : X) → P x) → IfSome o P
of_known None P all = tt
of_known (Some x) P all = all x

pub skips : {S X : Type 0} (source : Ghosts S) (old new : S) (format : Format) (limit : Option ℕ) (segments : X → List (List ℕ))
    (found : Option X) (reported : Bool) → reported ≡ is_some found
    → ReturnsEncodings (grammar_of Zero format) limit (source.unread old) (source.unread new) (Ok (option_map segments found))
    → ReadsStream source old new (rules_of Zero format) limit (Ok (option_map segments found))
    → SkipsNextMessage source old new format limit (Ok reported)
skips source old new format limit segments None reported is encodings reads = record {
  passed = λ yes. let never : false ≡ true = sym is ∙ yes in cc;
  none = λ no. reads.none;
  accepted = nothing_begins Zero (format_lawful format) (format_requested Zero format) limit (λ m. IsTrue reported) (source.unread old) reads.none;
  end = λ empty. is;
  errors = tt;
  exact = reads.exact;
  kinds = tt;
  failed = tt;
  advances = reads.advances;
}
skips source old new format limit segments (Some x) reported is encodings reads = record {
  passed = λ yes. (segments x, reads.within, encodings.found);
  none = λ no. let never : true ≡ false = sym is ∙ no in cc;
  accepted = of_known (source.unread old) _ (λ raw message rest begins. is);
  end = λ empty. absurd (nothing_begins_known Zero (format_lawful format) (format_requested Zero format) limit (segments x) (source.unread old)
      (source.unread new) empty encodings.found);
  errors = tt;
  exact = reads.exact;
  kinds = tt;
  failed = tt;
  advances = reads.advances;
}

pub skip_fails : {S : Type 0} (source : Ghosts S) (old new : S) (format : Format) (limit : Option ℕ) (error : Error)
    → ReturnsEncodings (grammar_of Zero format) limit (source.unread old) (source.unread new) (Err error)
    → ReadsStream source old new (rules_of Zero format) limit (Err error)
    → SkipsNextMessage source old new format limit (Err error)
skip_fails source old new format limit error encodings reads = record {
  passed = tt;
  none = tt;
  accepted = encodings.accepted;
  end = reads.end;
  errors = reads.errors;
  exact = reads.exact;
  kinds = reads.kinds;
  failed = reads.failed;
  advances = reads.advances;
}
