-- Each chunk is written as its text, and a replacement for the bytes after it.
use Rattle.std.proofs.Common.{◌<◌, ◌≡◌, ◌++◌, length, encode_utf8, sym, ◌∙◌, append_assoc, append-nil, rules}
use lib.Utf8.{encode}
use Rattle.std.specs.Fmt.{HasWritten}
use Rattle.std.specs.Str.Lossy.{utf8_lossy}
use Rattle.std.proofs.Output.{has_written_append, has_written_of_eq}
use Rattle.std.proofs.lemmas.Str.{utf8_lossy_chunk, utf8_lossy_last_chunk, utf8_lossy_empty}
use Rattle.capnp_wire.proofs.text.display.write_replaced.Goals as goal

pub loop-chunk-preserved-in-Continue-branch-2 : goal.loop-chunk-preserved-in-Continue-branch-2
unfolding encode
loop-chunk-preserved-in-Continue-branch-2 g c =
    λ plain.
    let now = c.loop-chunk.invariant plain in
    let steps = c.in-Some.ensures.steps in
    let some : 0 < length c.in-Some.chunk.invalid.now = search rules in
    let text = utf8_lossy_chunk _ _ _ _ steps.0 steps.3.0 steps.3.1 some in
    let first : HasWritten g.W.Write.write_str_gives c.loop-chunk.f c.in-Some.chunk.valid.now c.write_str.new.self = search rules in
    let second : HasWritten g.W.Write.write_str_gives c.write_str.new.self (encode_utf8 0xFFFD) c.write_char.new.self = search rules in (
      now.0 ++ (c.in-Some.chunk.valid.now ++ encode_utf8 0xFFFD),
      has_written_append _ _ _ _ _ _ now.1 (has_written_append _ _ _ _ _ _ first second),
      simp append_assoc (rw text at now.2),
    )

pub loop-chunk-preserved : goal.loop-chunk-preserved
loop-chunk-preserved g c =
    λ plain.
    let now = c.loop-chunk.invariant plain in
    let steps = c.in-Some.ensures.steps in
    let none : length c.in-Some.chunk.invalid.now ≡ 0 = search rules in
    let text = utf8_lossy_last_chunk _ _ _ _ steps.0 steps.3.0 none (steps.2 none) in
    let first : HasWritten g.W.Write.write_str_gives c.loop-chunk.f c.in-Some.chunk.valid.now c.write_str.new.self = search rules in (
      now.0 ++ c.in-Some.chunk.valid.now,
      has_written_append _ _ _ _ _ _ now.1 first,
      rw append_assoc (rw text at now.2),
    )

pub returns : goal.returns
returns g c =
    λ plain ok.
    let now = c.loop-chunk.invariant plain in
    let all : now.0 ≡ utf8_lossy c.args.bytes.now = sym (append-nil _) ∙ rw (utf8_lossy_empty _ c.in-None.ensures.steps.0) at now.2 in
    has_written_of_eq _ _ _ _ _ all now.1
