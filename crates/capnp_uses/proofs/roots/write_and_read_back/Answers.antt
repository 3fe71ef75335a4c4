-- What was written is one encoding, which is read.
use Rattle.std.proofs.Common.{inl, inr, refl, Ok, Err}
use Rattle.std.proofs.lemmas.Result.{err_from_is_err_and}
use Rattle.capnp_frame.specs.declared.serialize.segment_table.Padding.TheVariants.{Zero}
use Rattle.capnp.proofs.MemoryWriteErrorLemmas.{format_memory}
use Rattle.capnp_uses.proofs.WriteAndReadLemmas.{added_alone, written_and_read}
use Rattle.capnp_uses.proofs.roots.write_and_read_back.Goals as goal

pub returns-in_err-write_message : goal.returns-in_err-write_message
returns-in_err-write_message g c =
    let p = err_from_is_err_and c.from_residual.result c.from_residual.ensures.1 in
    let written = c.in_err-write_message.ensures in
    let errors = format_memory c.args.format (g.S.ReaderSegments.segments c.args.message.now) _ c.requires written.errors written.failed in
    rw (p.1, p.2) (record {
      back = tt;
      size = tt;
      few = tt;
      options_are = tt;
      errors = elim errors [ inl many ↦ inl many | inr memory ↦ inr (inr memory) ];
    })

pub returns-in_err-reader : goal.returns-in_err-reader
returns-in_err-reader g c =
    let p = err_from_is_err_and c.from_residual-in_err-reader.result c.from_residual-in_err-reader.ensures.1 in
    let encoding = added_alone c.args.format (g.S.ReaderSegments.segments c.args.message.now) c.new-encoding.result.items _ c.deref-source.result.now c.new-encoding.ensures.items
    c.deref-source.ensures.value (c.in_ok-write_message.ensures.encoding (λ chunk encoding same. same)) in
    rw (p.1, p.2) (written_and_read Zero c.args.format c.args.options _ _ _ (g.S.ReaderSegments.segments c.args.message.now) (Err c.in_err-reader.field-0.0) c.deref-source.result.now
    encoding c.requires c.in_ok-write_message.ensures.count.few refl refl refl (inl c.in_err-reader.ensures))

pub returns-in-Some : goal.returns-in-Some
returns-in-Some g c =
    let encoding = added_alone c.args.format (g.S.ReaderSegments.segments c.args.message.now) c.new-encoding.result.items _ c.deref-source.result.now c.new-encoding.ensures.items
    c.deref-source.ensures.value (c.in_ok-write_message.ensures.encoding (λ chunk encoding same. same)) in
    written_and_read Zero c.args.format c.args.options _ _ _ (g.S.ReaderSegments.segments c.args.message.now) (Ok c.in-Some.reader) c.deref-source.result.now
    encoding c.requires c.in_ok-write_message.ensures.count.few refl refl refl (rw c.in-Some.is at c.in_ok-reader.ensures)

pub returns : goal.returns
returns g c =
    let encoding = added_alone c.args.format (g.S.ReaderSegments.segments c.args.message.now) c.new-encoding.result.items _ c.deref-source.result.now c.new-encoding.ensures.items
    c.deref-source.ensures.value (c.in_ok-write_message.ensures.encoding (λ chunk encoding same. same)) in
    written_and_read Zero c.args.format c.args.options _ _ _ (g.S.ReaderSegments.segments c.args.message.now) (Err c.from_kind.result) c.deref-source.result.now
    encoding c.requires c.in_ok-write_message.ensures.count.few refl refl refl (inr (c.from_kind.ensures, rw c.in-None.is at c.in_ok-reader.ensures))
