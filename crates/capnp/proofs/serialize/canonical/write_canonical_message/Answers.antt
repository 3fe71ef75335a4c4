-- The chunks of the one segment of the form.
use Rattle.std.proofs.Common.{◌≡◌, ◌∙◌, ℕ, List, ◌∷◌, [], Err, inr, refl, sym, ap, subst}
use Rattle.std.proofs.lemmas.Result.{err_from_is_err_and}
use Rattle.capnp_frame.specs.Prelude.{IsWritable}
use Rattle.capnp_message.specs.Seen.{root_of}
use Rattle.capnp.specs.Prelude.{IsFrameEncoding, IsForm}
use Rattle.capnp.proofs.MessageWriteLemmas.{frame_bytes_added, Adds-weaker}
use Rattle.capnp.proofs.CanonicalFormWriteLemmas.{one_writable, without_form, form_written, form_untouched}
use Rattle.capnp.proofs.serialize.canonical.write_canonical_message.Given as given
use Rattle.capnp.proofs.serialize.canonical.write_canonical_message.Goals as goal

pub returns-in_err-form : goal.returns-in_err-form
returns-in_err-form g c =
    let p = err_from_is_err_and c.from_residual.result c.from_residual.ensures.1 in
    let reported = c.in_err-form.ensures in
    rw (p.1, p.2) (record {
      encoding = λ plain. tt;
      form_error = λ kind form_error. (reported.exact kind form_error, refl);
      writes = without_form g.W.Write g.met.W.Write.keeps _ _ _ (Err c.in_err-form.field-0.0) refl reported.returned;
      untouched = inr (inr refl);
    })

-- the form that was returned
form : (g : given.Over) (c : goal.After-drop-form g) → IsForm (root_of g.S.ReaderSegments.segments c.args.reader.now) c.in_ok-form.form.items
form g c = record { words_are = c.in_ok-form.ensures.returned; whole = c.in_ok-form.ensures.whole }

segment : (g : given.Over) (c : goal.After-drop-form g) → c.new.result ≡ c.in_ok-form.form.items ∷ []
segment g c = c.new.ensures ∙ ap (λ (b : List ℕ). b ∷ []) c.as_slice.ensures.value

pub write_segments-requires : goal.write_segments-requires
write_segments-requires g c =
    let form : IsForm (root_of g.S.ReaderSegments.segments c.args.reader.now) c.in_ok-form.form.items =
    record { words_are = c.in_ok-form.ensures.returned; whole = c.in_ok-form.ensures.whole } in
    let segment : c.new.result ≡ c.in_ok-form.form.items ∷ [] = c.new.ensures ∙ ap (λ (b : List ℕ). b ∷ []) c.as_slice.ensures.value in
    subst IsWritable (sym segment) (one_writable _ _ form)

pub returns : goal.returns
returns g c =
    let wrote = c.write_segments.ensures in
    record {
      encoding = λ plain. Adds-weaker c.write_segments.result _ _
          (λ encoding p. (
            c.in_ok-form.form.items,
            form g c,
            subst (λ (s : List (List ℕ)). IsFrameEncoding s encoding) (segment g c) (frame_bytes_added g.W.Write.appends plain _ encoding p),
          ))
          wrote.parts.written;
      form_error = λ kind form_error. absurd (c.in_ok-form.ensures.exact kind form_error);
      writes = form_written g.W.Write _ _ _ _ _ c.write_segments.result (form g c) (segment g c) wrote;
      untouched = form_untouched g.W.Write _ _ _ _ _ c.write_segments.result (form g c) (segment g c) wrote;
    }
