-- Each chunk is one more word.
use Rattle.std.proofs.Common.{ℕ, ◌+◌, ◌<◌, ◌≤◌, List, [], ◌∷◌, length, map, get_or, ◌∙◌, ap, arith}
use Rattle.std.proofs.lemmas.List.{take_all}
use Rattle.capnp_frame.specs.Prelude.{bytes_of}
use Rattle.capnp_frame.specs.declared.words.Word.{Word}
use Rattle.capnp_layout.specs.Prelude.{number_of, put, word_numbers}
use Rattle.capnp_layout.proofs.words.PutBytesAsWordsLemmas.{length-word_numbers, put_one, put_next}
use Rattle.capnp_layout.proofs.block.WordBlockItem.put_bytes.Goals as goal

pub loop-index-preserved : goal.loop-index-preserved
loop-index-preserved c =
    let at : ℕ = c.args.at in
    let i : ℕ = c.loop-index.index in
    let chunks : List (List ℕ) = c.as_chunks.result.0.now in
    let room : at + length chunks ≤ length (word_numbers c.args.block.now) = omega (arith, c.requires.room, c.as_chunks.ensures.front_len) in
    let here : at + i < length c.loop-index.block =
    omega (arith, room, length-word_numbers c.args.block.now, c.loop-index.auto.block, c.loop-index-test.true) in
    put_one (λ (word : Word). number_of 256 (bytes_of word)) (at + i) c.word_of_bytes.result c.loop-index.block here
    ∙ ap (λ (bytes : List ℕ). put (at + i) (number_of 256 bytes ∷ []) (word_numbers c.loop-index.block)) c.word_of_bytes.ensures
    ∙ ap (λ (words : List ℕ). put (at + i) (number_of 256 (get_or chunks i []) ∷ []) words) c.loop-index.invariant
    ∙ put_next at i chunks (word_numbers c.args.block.now) c.loop-index-test.true room

pub returns-clause-words : goal.returns-clause-words
returns-clause-words c =
    let all = take_all c.loop-index.index c.as_chunks.result.0.now (omega arith) in
    c.loop-index.invariant ∙ ap (λ (l : List (List ℕ)). put c.args.at (map (number_of 256) l) (word_numbers c.args.block.now)) (all ∙ c.as_chunks.ensures.front)

pub returns-clause-len : goal.returns-clause-len
returns-clause-len c =
    omega (arith, length-word_numbers c.loop-index.block, length-word_numbers c.args.block.now, c.loop-index.auto.block)
