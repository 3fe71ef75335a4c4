-- Pointers that are copied one after the other (src/copied.rt), up to the first that fails.
use Rattle.std.proofs.Common.{◌≡◌, ℕ, suc, ◌+◌, ◌^◌, ◌<◌, ◌≤◌, ◌⊎◌, inl, inr, length, take, List, [], ◌∷◌, ◌++◌, Result, Ok, Err, refl, sym, ◌∙◌, ap, subst, arith}
use Rattle.std.specs.Prelude.{slice_set, get_or, false, min, ◌-◌}
use Rattle.std.specs.Result.{IsErrAnd}
use Rattle.std.proofs.lemmas.Bool.{cases_lt}
use Rattle.std.proofs.lemmas.List.{take_all, take_more_set, get_or-set_same, get_or-set_other}
use Rattle.capnp_frame.specs.declared.error.Error.{Error}
use Rattle.capnp_frame.specs.declared.error.ErrorKind.{ErrorKind}
use Rattle.capnp_frame.specs.declared.error.ErrorKind.TheVariants.{AllocationTooLarge}
use Rattle.capnp_layout.specs.Prelude.{Trees, total_words, nothing, output, too_large}
use Rattle.capnp_wire.specs.Prelude.{PointsToTree, Struct, Pointer, Denotes, pointer_in}
use Rattle.capnp_orphans.specs.Segments.{Segment, body_of, Appends}
use Rattle.capnp_orphans.specs.Holds.{AreValues, HoldsValue}
use Rattle.capnp_orphans.specs.Adding.{Keeps, AddsOrphan, FailsToAdd, Writes, SegmentHasRoom, RoomError}
use Rattle.capnp_orphans.specs.Copied.{pointers_up_to, TakesCopy, CopyError, TakesCopies, CopiesPointers}
use Rattle.capnp_orphans.specs.OrphanLaws.{one_value_more, keeps_on}
use Rattle.capnp_orphans.proofs.PointerCopyWordsAndErrorLemmas.{PointerCopyError, copy_fails, same_copies, copy_at, appends_none, appends_both, length-appended, null_is_word_zero}

-- The first pointers are copied.
pub record ArePointersCopied (fields : Struct) (count : ℕ) (old new : Segment) (pointers : List ℕ) : Type 0 where
  pub words : ℕ
  pub taken : TakesCopies fields count words
  pub appended : Appends words old new
  pub keeps : Keeps old new
  pub copies : AreValues PointsToTree (body_of new) (pointers_up_to fields count) (take count pointers)
  pub nulls : (index : ℕ) → index < count → Denotes (pointer_in fields index) nothing → get_or pointers index 0 ≡ 0
  pub unfailed : (index before : ℕ) (kind : ErrorKind) → index < count → TakesCopies fields index before → PointerCopyError (pointer_in fields index) before old kind → ⊥
  pub most : new.most ≡ old.most
  pub memory : old.capacity ≤ new.capacity
  pub within_memory : 0 < count → length new.bytes ≤ new.capacity
  pub stays_within : length old.bytes ≤ old.capacity → length new.bytes ≤ new.capacity

-- no pointer is copied yet
pub none_copied : (fields : Struct) (old : Segment) (pointers : List ℕ) → ArePointersCopied fields 0 old old pointers
none_copied fields old pointers = record {
  words = 0;
  taken = refl;
  appended = appends_none old;
  keeps = λ word form children h. h;
  copies = tt;
  nulls = λ index low null_is. absurd (omega (arith, low));
  unfailed = λ index before kind low taken copy_error. absurd (omega (arith, low));
  most = refl;
  memory = omega arith;
  within_memory = λ some. absurd (omega (arith, some));
  stays_within = λ within. within;
}

-- one more pointer is copied
pub one_copied : {T : Type 0} (fields : Struct) (count : ℕ) (old between new : Segment) (pointers : List ℕ) (pointer : Pointer) (word : T → ℕ) (object : T) → pointer ≡ pointer_in fields count
    → count < length pointers → ArePointersCopied fields count old between pointers → AddsOrphan (HoldsValue (PointsToTree pointer)) between new word (Ok object)
    → Writes (TakesCopy pointer) (CopyError pointer) between new (Ok object) → ArePointersCopied fields (count + 1) old new (slice_set pointers count (word object))
one_copied {T} fields count old between new pointers pointer word object same within so adds writes =
    let next : suc count ≡ count + 1 = omega arith in
    let takes : TakesCopy (pointer_in fields count) writes.appended.0 = subst (λ (p : Pointer). TakesCopy p writes.appended.0) same writes.appended.1 in
    let holds : HoldsValue (PointsToTree (pointer_in fields count)) (body_of new) (word object) = subst (λ (p : Pointer). HoldsValue (PointsToTree p) (body_of new) (word object)) same adds.orphan in
    let added : Result T Error = Ok object in
    let fails : FailsToAdd (TakesCopy (pointer_in fields count)) (CopyError (pointer_in fields count)) between added =
    subst (λ (p : Pointer). FailsToAdd (TakesCopy p) (CopyError p) between added) same writes.failing in
    record {
      words = so.words + writes.appended.0;
      taken = subst (λ (n : ℕ). TakesCopies fields n (so.words + writes.appended.0)) next (so.words, writes.appended.0, so.taken, takes, refl);
      appended = appends_both so.words writes.appended.0 old between new so.appended writes.appended.2;
      keeps = keeps_on old between new so.keeps adds.keeps;
      copies = subst (λ (n : ℕ). AreValues PointsToTree (body_of new) (pointers_up_to fields n) (take (count + 1) (slice_set pointers count (word object)))) next
          (subst (λ (l : List ℕ). AreValues PointsToTree (body_of new) (pointers_up_to fields count ++ pointer_in fields count ∷ []) l) (sym (take_more_set pointers count (word object) within))
          (one_value_more PointsToTree between new (pointers_up_to fields count) (take count pointers) (pointer_in fields count) (word object) adds.keeps so.copies holds));
      nulls = λ index low null_is. elim (cases_lt index count) [
        | inl less ↦ get_or-set_other pointers count index (word object) 0 (λ at. omega (arith, less, at)) ∙ so.nulls index less null_is
        | inr more ↦ (let here : index ≡ count = omega (arith, low, more) in
            ap (λ (n : ℕ). get_or (slice_set pointers count (word object)) n 0) here ∙ get_or-set_same pointers count (word object) 0 within
            ∙ null_is_word_zero (pointer_in fields count) (body_of new) (word object) (subst (λ (n : ℕ). Denotes (pointer_in fields n) nothing) here null_is) holds)
      ];
      unfailed = λ index before kind low taken copy_error. elim (cases_lt index count) [
        | inl less ↦ so.unfailed index before kind less taken copy_error
        | inr more ↦ (let here : index ≡ count = omega (arith, low, more) in
            let words_are : so.words ≡ before = same_copies fields count so.words before so.taken (subst (λ (n : ℕ). TakesCopies fields n before) here taken) in
            copy_fails (pointer_in fields count) before kind old between added (subst (λ (n : ℕ). Appends n old between) words_are so.appended) so.most fails
            (subst (λ (n : ℕ). PointerCopyError (pointer_in fields n) before old kind) here copy_error))
      ];
      most = writes.most ∙ so.most;
      memory = omega (arith, so.memory, writes.memory);
      within_memory = λ some. writes.within_memory;
      stays_within = λ within. writes.within_memory;
    }

-- a copy of too many words
abbrev IsLargeCopy : Pointer → ErrorKind → Type 0
IsLargeCopy pointer kind = (trees : Trees) × PointsToTree pointer trees × (2 ^ 29 ≤ total_words (output false trees)) × (kind ≡ too_large false (total_words (output false trees)))

large_copy : (pointer : Pointer) (trees : Trees) → PointsToTree pointer trees → 2 ^ 29 ≤ total_words trees → IsLargeCopy pointer (AllocationTooLarge (min (total_words trees) (2 ^ 32 - 1)))
large_copy pointer trees points_to many = (trees, points_to, many, refl)

-- all pointers are copied
pub all_copied : {T : Type 0} (fields : Struct) (count : ℕ) (old new : Segment) (pointers : List ℕ) (made : T → List ℕ) (object : T) → length pointers ≡ count → made object ≡ pointers
    → ArePointersCopied fields count old new pointers → CopiesPointers fields count old new made (Ok object)
all_copied fields count old new pointers made object long same so = record {
  copies = subst (λ (l : List ℕ). AreValues PointsToTree (body_of new) (pointers_up_to fields count) l) (take_all count pointers (omega (arith, long)) ∙ sym same) so.copies;
  nulls = λ index low null_is. ap (λ (l : List ℕ). get_or l index 0) same ∙ so.nulls index low null_is;
  keeps = so.keeps;
  appended = (so.words, so.taken, so.appended);
  kind = tt;
  fits = λ words takes room. refl;
  exact = λ index before kind low taken room errors. so.unfailed index before kind low taken (inl (inl errors));
  large = λ index before trees low taken room points_to many. so.unfailed index before (AllocationTooLarge (min (total_words trees) (2 ^ 32 - 1))) low taken (inl (inr (large_copy (pointer_in fields index) trees points_to many)));
  long = λ index before words low taken room takes many. so.unfailed index before (AllocationTooLarge words) low taken (inr (words, takes, refl, inl many));
  full = λ index before words low taken room takes many. so.unfailed index before (AllocationTooLarge words) low taken (inr (words, takes, refl, inr many));
  most = so.most;
  memory = so.memory;
  within_memory = so.within_memory;
  stays_within = so.stays_within;
}

-- room for copies is room for each
room_at : (words before last : ℕ) (old between : Segment) → SegmentHasRoom words old → Appends before old between → old.capacity ≤ between.capacity → before + last ≤ words → SegmentHasRoom last between
room_at words before last old between room appends memory fits =
    (omega (arith, room.0, length-appended before old between appends, fits), omega (arith, room.1, length-appended before old between appends, fits, memory))

-- copying fails at the first pointer that can't be copied, and at no other one
error_there : {T : Type 0} (fields : Struct) (at_index : ℕ) (old between : Segment) (pointers : List ℕ) (error : Error) (index before : ℕ) (kind : ErrorKind)
    → ArePointersCopied fields at_index old between pointers → FailsToAdd {T = T} (TakesCopy (pointer_in fields at_index)) (CopyError (pointer_in fields at_index)) between (Err error)
    → TakesCopies fields index before → SegmentHasRoom before old → PointerCopyError (pointer_in fields index) before old kind → error.kind ≡ kind
error_there {T} fields at_index old between pointers error index before kind so fails taken room copy_error =
    let failed : Result T Error = Err error in
    elim (cases_lt index at_index) [
      | inl less ↦ absurd (so.unfailed index before kind less taken copy_error)
      | inr more ↦ elim (cases_lt at_index index) [
        | inl less ↦ (let c = copy_at fields index at_index before less taken in
            let words_are : c.before ≡ so.words = same_copies fields at_index c.before so.words c.taken so.taken in
            let fits = fails.fits c.last c.one (room_at before so.words c.last old between room so.appended so.memory (omega (arith, c.fits, words_are))) in
            absurd (cc))
        | inr most ↦ (let here : index ≡ at_index = omega (arith, more, most) in
            let words_are : so.words ≡ before = same_copies fields at_index so.words before so.taken (subst (λ (n : ℕ). TakesCopies fields n before) here taken) in
            copy_fails (pointer_in fields at_index) before kind old between failed (subst (λ (n : ℕ). Appends n old between) words_are so.appended) so.most fails
            (subst (λ (n : ℕ). PointerCopyError (pointer_in fields n) before old kind) here copy_error))
      ]
    ]

-- one of the pointers is not copied
pub copy_failed : {T U : Type 0} (fields : Struct) (count index : ℕ) (old between new : Segment) (pointers : List ℕ) (pointer : Pointer) (made : U → List ℕ) (error : Error)
    (result : Result U Error) → result ≡ Err error → pointer ≡ pointer_in fields index → index < count → ArePointersCopied fields index old between pointers → Keeps between new
    → Writes {T = T} (TakesCopy pointer) (CopyError pointer) between new (Err error) → CopiesPointers {T = U} fields count old new made result
copy_failed {T} {U} fields count index old between new pointers pointer made error result failed same within so keeps writes =
    let fails : FailsToAdd {T = T} (TakesCopy (pointer_in fields index)) (CopyError (pointer_in fields index)) between (Err error) =
    subst (λ (p : Pointer). FailsToAdd {T = T} (TakesCopy p) (CopyError p) between (Err error)) same writes.failing in
    let stays : between ≡ new = sym writes.unchanged in
    subst (λ (r : Result U Error). CopiesPointers fields count old new made r) (sym failed) (record {
      copies = tt;
      nulls = λ at low null_is. tt;
      keeps = keeps_on old between new so.keeps keeps;
      appended = tt;
      kind = record {
        index = index;
        before = so.words;
        within = within;
        taken = so.taken;
        appended = subst (λ (s : Segment). Appends so.words old s) stays so.appended;
        cause = subst (λ (s : Segment). CopyError (pointer_in fields index) error.kind ⊎ ((words : ℕ) × TakesCopy (pointer_in fields index) words × RoomError words s error.kind)) stays fails.kind;
      };
      fits = λ words takes room.
          (let c = copy_at fields count index words within takes in
          let words_are : c.before ≡ so.words = same_copies fields index c.before so.words c.taken so.taken in
          fails.fits c.last c.one (room_at words so.words c.last old between room so.appended so.memory (omega (arith, c.fits, words_are))));
      exact = λ at before kind low taken room errors. error_there fields index old between pointers error at before kind so fails taken room (inl (inl errors));
      large = λ at before trees low taken room points_to many.
          error_there fields index old between pointers error at before (AllocationTooLarge (min (total_words trees) (2 ^ 32 - 1))) so fails taken room
          (inl (inr (large_copy (pointer_in fields at) trees points_to many)));
      long = λ at before words low taken room takes many.
          error_there fields index old between pointers error at before (AllocationTooLarge words) so fails taken room (inr (words, takes, refl, inl many));
      full = λ at before words low taken room takes many.
          error_there fields index old between pointers error at before (AllocationTooLarge words) so fails taken room (inr (words, takes, refl, inr many));
      most = writes.most ∙ so.most;
      memory = omega (arith, so.memory, writes.memory);
      within_memory = tt;
      stays_within = λ within. subst (λ (s : Segment). length s.bytes ≤ s.capacity) stays (so.stays_within within);
    })

-- what is true of the pointers is true of the draft that has them
pub copies_of : {T U : Type 0} (fields : Struct) (count : ℕ) (old new : Segment) (pointers : List ℕ) (made : U → List ℕ) (object : T) (other : U) → made other ≡ pointers
    → CopiesPointers fields count old new (λ (o : T). pointers) (Ok object) → CopiesPointers fields count old new made (Ok other)
copies_of {T} {U} fields count old new pointers made object other same so = record {
  copies = subst (λ (l : List ℕ). AreValues PointsToTree (body_of new) (pointers_up_to fields count) l) (sym same) so.copies;
  nulls = λ index low null_is. ap (λ (l : List ℕ). get_or l index 0) same ∙ so.nulls index low null_is;
  keeps = so.keeps;
  appended = so.appended;
  kind = tt;
  fits = so.fits;
  exact = so.exact;
  large = so.large;
  long = so.long;
  full = so.full;
  most = so.most;
  memory = so.memory;
  within_memory = so.within_memory;
  stays_within = so.stays_within;
}

pub copies_not : {T U : Type 0} (fields : Struct) (count : ℕ) (old new : Segment) (pointers : T → List ℕ) (made : U → List ℕ) (error : Error) (result : Result U Error) → result ≡ Err error
    → CopiesPointers {T = T} fields count old new pointers (Err error) → CopiesPointers {T = U} fields count old new made result
copies_not {T} {U} fields count old new pointers made error result failed so = subst (λ (r : Result U Error). CopiesPointers fields count old new made r) (sym failed) (record {
  copies = tt;
  nulls = λ index low null_is. tt;
  keeps = so.keeps;
  appended = tt;
  kind = so.kind;
  fits = so.fits;
  exact = so.exact;
  large = so.large;
  long = so.long;
  full = so.full;
  most = so.most;
  memory = so.memory;
  within_memory = tt;
  stays_within = so.stays_within;
})

-- what `?` returns
pub same_failure : {T : Type 0} (error : Error) (result : Result T Error) → IsErrAnd result (λ other. other ≡ error) → result ≡ Err error
same_failure error (Ok object) is = absurd is
same_failure error (Err other) is = ap (λ (e : Error). Err e) is

-- as many pointers
pub as_many_pointers : {T : Type 0} (fields : Struct) (count same : ℕ) (old new : Segment) (made : T → List ℕ) (result : Result T Error) → count ≡ same → CopiesPointers fields count old new made result
    → CopiesPointers fields same old new made result
as_many_pointers fields count same old new made result is so = subst (λ (n : ℕ). CopiesPointers fields n old new made result) is so
