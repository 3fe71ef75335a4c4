-- The word and its tag are in the buffer, in front of the words after it.
use Rattle.std.proofs.Common.{rules, length, take, ◌≡◌, Ok, refl, sym}
use Rattle.capnp_pack.proofs.packing.PackerOutcomeFromSinkCallLemmas.{hands_passed}
use Rattle.capnp_pack.proofs.words.ChunkWordLemmas.{each_word}
use Rattle.capnp_pack.proofs.packing.GrantCoversGroupAndRestLemmas.{literal_granted}
use Rattle.capnp_pack.proofs.packing.HandedAndBufferedBytesJoinLemmas.{Hands-same}
use Rattle.capnp_pack.proofs.packing.LeftAfterFailureLemmas.{left_literal}
use Rattle.capnp_pack.proofs.packing.BufferedGroupLemmas.{made_literal, literal_front}
use Rattle.capnp_pack.proofs.packed_write.pack_literal.Goals as goal

pub returns-clause-hands : goal.returns-clause-hands
returns-clause-hands g c =
    let is : length c.args.word.now ≡ 8 = search rules in
    let full = c.requires.full in
    let front = literal_front c.args.word.now 255 _ _ is (sym full) refl c.push_word-end.ensures.word in
    let words = c.literal_run-words.result in
    let (group, made, handed) = made_literal (λ _. words) (λ used. take used c.pack_run.new.bytes) g.W.Write.appends _ _ _ _ _ _ _ _ (Ok c.in_ok-filled.filled)
    is (each_word c.args.others.now c.told-others) full front (Hands-same g.W.Write.appends _ _) c.literal_run-words.ensures c.in_ok-filled.ensures.hands.handed in
    record {
      handed = (words, refl, group, made, handed);
      left = tt;
      errors = tt;
      failed = tt;
      grows = c.pack_run.ensures.hands.grows;
    }

pub returns-in_err-filled-clause-hands : goal.returns-in_err-filled-clause-hands
returns-in_err-filled-clause-hands g c =
    let is : length c.args.word.now ≡ 8 = search rules in
    let full = c.requires.full in
    let front = literal_front c.args.word.now 255 _ _ is (sym full) refl c.push_word-end.ensures.word in
    hands_passed g.W.Write _ _ _ _ _ _ _ _ c.from_residual.ensures.1
    (left_literal g.W.Write.appends g.W.Write.leaves _ _ _ _ _ _ _ _ is (each_word c.args.others.now c.told-others) full front (Hands-same g.W.Write.appends _ _))
    c.in_err-filled.ensures.hands

pub returns-clause-granted : goal.returns-clause-granted
returns-clause-granted g c group count more made granted =
    let is : length c.args.word.now ≡ 8 = search rules in
    let full = c.requires.full in
    let front = literal_front c.args.word.now 255 _ _ is (sym full) refl c.push_word-end.ensures.word in
    let (k, run, left) = literal_granted (g.W.Write.grants c.args.sink.now) c.args.word.now c.args.others.now count more _ _ group _ _ is
    (each_word c.args.others.now c.told-others) full c.told-bytes c.push_word-end.array_long c.requires.room c.push_word-end.ensures.room front made granted in
    c.in_ok-filled.ensures.granted k more run left

pub returns-in_err-filled-clause-granted : goal.returns-in_err-filled-clause-granted
returns-in_err-filled-clause-granted g c group count more made granted =
    let is : length c.args.word.now ≡ 8 = search rules in
    let full = c.requires.full in
    let front = literal_front c.args.word.now 255 _ _ is (sym full) refl c.push_word-end.ensures.word in
    let (k, run, left) = literal_granted (g.W.Write.grants c.args.sink.now) c.args.word.now c.args.others.now count more _ _ group _ _ is
    (each_word c.args.others.now c.told-others) full c.told-bytes c.push_word-end.array_long c.requires.room c.push_word-end.ensures.room front made granted in
    absurd (c.in_err-filled.ensures.granted k more run left)
