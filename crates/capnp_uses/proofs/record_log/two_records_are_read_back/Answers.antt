-- The log that is read has both records.
use Rattle.std.proofs.Common.{inl, inr, [], ◌∷◌, sym, subst}
use Rattle.capnp.specs.Prelude.{IsLog}
use Rattle.capnp_uses.proofs.record_log.two_records_are_read_back.Goals as goal

pub returns : goal.returns
returns g c =
    let limit = c.args.options.traversal_limit_in_words in
    let first = g.S.ReaderSegments.segments c.args.first.now in
    let second = g.T.ReaderSegments.segments c.args.second.now in
    let one = c.in_ok-append_segments.ensures.appended limit [] (record { writable = tt; few = tt; size = tt; appended = c.new-log.ensures.items }) c.requires.first_size in
    let two = c.in_ok-append_segments-2.ensures.appended limit (first ∷ []) one c.requires.second_size in
    let shown = subst (λ log. IsLog limit (first ∷ second ∷ []) log) (sym c.deref.ensures.value) two in
    let read = c.read_log.ensures.read.back (first ∷ second ∷ []) shown in
    record {
      read = record {
        back = elim read [ inl memory ↦ inl memory | inr same ↦ inr (same.0, same.1) ];
        ends = elim read [ inl memory ↦ inl memory | inr same ↦ inr (_, shown, same.2) ];
      };
      options = c.read_log.ensures.options;
      errors = tt;
    }
