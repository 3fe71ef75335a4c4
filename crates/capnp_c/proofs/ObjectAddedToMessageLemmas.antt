-- What adding an object to a message returns and leaves: where the builder is of another region, where the object
-- can't be written, where there is no room for it, and where it is added.
use Rattle.std.proofs.Common.{◌≡◌, ℕ, ◌+◌, ◌-◌, ◌*◌, ◌<◌, List, length, take, drop, Ok, Err, refl, sym, ap, subst, arith}
use Rattle.std.specs.Prelude.{Result}
use Rattle.capnp_frame.specs.declared.error.Error.{Error}
use Rattle.capnp_frame.specs.declared.error.ErrorKind.{ErrorKind}
use Rattle.capnp_frame.specs.Prelude.{kind_number}
use Rattle.capnp_orphans.specs.Segments.{AppendsObject}
use Rattle.capnp_orphans.specs.Adding.{Keeps}
use Rattle.capnp_orphans.specs.Regions.{segment_in, IsUsed, AppendsInRegion}
use Rattle.capnp_c.specs.declared.building.builder.LinsjoarBuilder.{LinsjoarBuilder}
use Rattle.capnp_c.specs.Building.{IsBuilder, segment_of, IsTooLong, HasRoomFor, Adds}
use Rattle.capnp_c.proofs.in_place.FollowedPointerResultLemmas.{kind_positive}

-- an object that can't be written has no words, and another one has just one number of them
pub never_ok : (error : Error) (words : ℕ) → ◌≡◌ {A = Result ℕ Error} (Err error) (Ok words) → ⊥
never_ok error words e = cc

pub same_words : (words other : ℕ) → ◌≡◌ {A = Result ℕ Error} (Ok words) (Ok other) → other ≡ words
same_words words other e = cc

-- no message in the region has as many bytes as the builder says
pub no_builder_adds : (takes : ℕ → Type 0) (fails : ErrorKind → Type 0) (holds : List ℕ → List ℕ → ℕ → Type 0) (builder : LinsjoarBuilder) (region : List ℕ) → (IsBuilder builder region → ⊥)
    → Adds takes fails holds builder builder region region 0 27
no_builder_adds takes fails holds builder region denied = record {
  no_builder = λ other. refl;
  builds = λ zero. absurd (omega (arith, zero));
  orphan_is = λ zero. absurd (omega (arith, zero));
  appended = λ zero. absurd (omega (arith, zero));
  keeps = λ word form children is. is;
  accepted = λ is. absurd (denied is);
  long = λ is. absurd (denied is);
  full = λ is. absurd (denied is);
  errors = λ is. absurd (denied is);
  table = refl;
  len = refl;
  stays = λ some. (refl, refl, refl);
}

-- the object can't be written, or has no room: this number is returned
pub fails_adding : (takes : ℕ → Type 0) (fails : ErrorKind → Type 0) (holds : List ℕ → List ℕ → ℕ → Type 0) (builder : LinsjoarBuilder) (region : List ℕ) (result : ℕ) → IsBuilder builder region → 0 < result
    → ((words : ℕ) → takes words → (IsTooLong builder words → ⊥) → HasRoomFor builder region words → ⊥) → ((words : ℕ) → takes words → IsTooLong builder words → result ≡ 15)
    → ((words : ℕ) → takes words → (IsTooLong builder words → ⊥) → (HasRoomFor builder region words → ⊥) → result ≡ 2) → ((kind : ErrorKind) → fails kind → result ≡ kind_number kind)
    → Adds takes fails holds builder builder region region 0 result
fails_adding takes fails holds builder region result is some never long full errors = record {
  no_builder = λ other. absurd (other is);
  builds = λ zero. absurd (omega (arith, zero, some));
  orphan_is = λ zero. absurd (omega (arith, zero, some));
  appended = λ zero. absurd (omega (arith, zero, some));
  keeps = λ word form children h. h;
  accepted = λ there words own short room. absurd (never words own short room);
  long = λ there. long;
  full = λ there. full;
  errors = λ there. errors;
  table = refl;
  len = refl;
  stays = λ more. (refl, refl, refl);
}

-- it can't be written, with the error of this kind
pub unwritten_adds : (takes : ℕ → Type 0) (fails : ErrorKind → Type 0) (holds : List ℕ → List ℕ → ℕ → Type 0) (builder : LinsjoarBuilder) (region : List ℕ) (kind : ErrorKind) → IsBuilder builder region
    → ((words : ℕ) → takes words → ⊥) → ((other : ErrorKind) → fails other → kind ≡ other) → Adds takes fails holds builder builder region region 0 (kind_number kind)
unwritten_adds takes fails holds builder region kind is none one =
    fails_adding takes fails holds builder region (kind_number kind) is (kind_positive kind) (λ words own short room. none words own) (λ words own long. absurd (none words own))
    (λ words own short full. absurd (none words own)) (λ other fail. ap kind_number (one other fail))

-- no segment has room for it
pub too_long_adds : (takes : ℕ → Type 0) (fails : ErrorKind → Type 0) (holds : List ℕ → List ℕ → ℕ → Type 0) (builder : LinsjoarBuilder) (region : List ℕ) (words : ℕ) → IsBuilder builder region
    → ((other : ℕ) → takes other → other ≡ words) → ((kind : ErrorKind) → fails kind → ⊥) → IsTooLong builder words → Adds takes fails holds builder builder region region 0 15
too_long_adds takes fails holds builder region words is one never long =
    fails_adding takes fails holds builder region 15 is (omega arith)
    (λ other own short room. short (subst (λ (n : ℕ). IsTooLong builder n) (sym (one other own)) long)) (λ other own past. refl)
    (λ other own short full. absurd (short (subst (λ (n : ℕ). IsTooLong builder n) (sym (one other own)) long))) (λ kind fail. absurd (never kind fail))

-- the region has no room for it
pub full_region_adds : (takes : ℕ → Type 0) (fails : ErrorKind → Type 0) (holds : List ℕ → List ℕ → ℕ → Type 0) (builder : LinsjoarBuilder) (region : List ℕ) (words : ℕ) → IsBuilder builder region
    → ((other : ℕ) → takes other → other ≡ words) → ((kind : ErrorKind) → fails kind → ⊥) → (IsTooLong builder words → ⊥) → (HasRoomFor builder region words → ⊥)
    → Adds takes fails holds builder builder region region 0 2
full_region_adds takes fails holds builder region words is one never short full =
    fails_adding takes fails holds builder region 2 is (omega arith)
    (λ other own below room. full (subst (λ (n : ℕ). HasRoomFor builder region n) (one other own) room))
    (λ other own long. absurd (short (subst (λ (n : ℕ). IsTooLong builder n) (one other own) long))) (λ other own below past. refl) (λ kind fail. absurd (never kind fail))

-- it is added
pub object_added : (takes : ℕ → Type 0) (fails : ErrorKind → Type 0) (holds : List ℕ → List ℕ → ℕ → Type 0) (old new : LinsjoarBuilder) (before after : List ℕ) (words orphan : ℕ) → IsBuilder old before
    → takes words → ((kind : ErrorKind) → fails kind → ⊥) → ((other : ℕ) → takes other → other ≡ words) → (IsTooLong old words → ⊥) → HasRoomFor old before words
    → AppendsInRegion holds words (old.used - 8) (drop 8 before) (drop 8 after) orphan → new.used ≡ old.used + 8 * words → take 8 after ≡ take 8 before → length after ≡ length before
    → Adds takes fails holds old new before after orphan 0
object_added takes fails holds old new before after words orphan is own never one short room appends used_is table long =
    let end : old.used - 8 + 8 * words ≡ new.used - 8 = omega (arith, used_is, is.0) in
    let object = subst (λ (n : ℕ). AppendsObject holds words (segment_of old before) (segment_in (drop 8 after) n) (Ok orphan)) end appends.appended in
    record {
      no_builder = λ other. absurd (other is);
      builds = λ zero. (is, (omega (arith, is.0, used_is), subst (λ (n : ℕ). IsUsed (drop 8 after) n) end appends.continued));
      orphan_is = λ zero. object.holds_is;
      appended = λ zero. (words, own, object.appended, used_is);
      keeps = subst (λ (n : ℕ). Keeps (segment_of old before) (segment_in (drop 8 after) n)) end appends.keeps;
      accepted = λ there other taken below fits. refl;
      long = λ there other taken past_most. absurd (short (subst (λ (n : ℕ). IsTooLong old n) (one other taken) past_most));
      full = λ there other taken below full. absurd (full (subst (λ (n : ℕ). HasRoomFor old before n) (sym (one other taken)) room));
      errors = λ there kind fail. absurd (never kind fail);
      table = table;
      len = long;
      stays = λ more. absurd (omega (arith, more));
    }
