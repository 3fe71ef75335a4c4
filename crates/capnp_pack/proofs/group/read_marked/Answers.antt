-- Each byte is read by its bit.
use Rattle.std.proofs.Common.{rules, take}
use Rattle.std.proofs.lemmas.List.{length-take-le, take_all, take_more_set}
use Rattle.capnp_frame.proofs.sources.JoinedRequestPartsLemmas.{Advances-join}
use Rattle.capnp_pack.proofs.unpacking.UnpackerOutcomeFromSourceCallLemmas.{takes_err}
use Rattle.capnp_pack.proofs.words.MarkedByteReadLemmas.{marks_more, marks_all, marks_cut}
use Rattle.capnp_pack.proofs.group.read_marked.Goals as goal

pub returns-in_err-byte : goal.returns-in_err-byte
returns-in_err-byte g c =
    takes_err g.R.Read g.met.R.Read.keeps _ _ _ _ _ _ _ c.from_residual.ensures.1
    (marks_cut _ c.args.tag c.loop-byte.bits _ (take c.loop-byte.byte-index c.loop-byte.word) _ _ _ (search (rules, length-take-le)) c.loop-byte.invariant.0 c.in_err-byte.ensures.errors)
    c.loop-byte.invariant.1 c.in_err-byte.ensures.asked

pub loop-byte-preserved : goal.loop-byte-preserved
loop-byte-preserved g c = (
  marks_more c.args.tag c.loop-byte.bits c.in_ok-byte.field-0 (take c.loop-byte.byte-index c.loop-byte.word) _ _ _ _
      (take_more_set c.loop-byte.word c.loop-byte.byte-index c.in_ok-byte.field-0 (search rules)) c.loop-byte.invariant.0 c.in_ok-byte.ensures.found,
  Advances-join _ _ _ (g.met.R.Read.keeps.transitive _ _ _) c.loop-byte.invariant.1 c.read_byte.ensures.asked.advances,
)

pub returns : goal.returns
returns g c =
    record {
      found = marks_all c.args.tag c.loop-byte.bits (take c.loop-byte.byte-index c.loop-byte.word) c.loop-byte.word _ _
          (take_all c.loop-byte.byte-index c.loop-byte.word (search rules)) c.loop-byte.invariant.0;
      errors = tt;
      asked = record { failed = tt; advances = c.loop-byte.invariant.1 };
    }
