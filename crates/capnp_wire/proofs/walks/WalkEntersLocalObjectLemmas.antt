-- A walk that meets a list of numbers in its pointer's segment meets nothing below it. It enters a list of
-- pointers, or a struct.
use Rattle.std.proofs.Common.{◌≡◌, Bool, ℕ, ◌+◌, ◌<◌, List, Option, refl, ◌∙◌, ap, subst}
use Rattle.capnp_layout.specs.Prelude.{words_of, code_of, width, words_for, IsObject, words_in, traversed_of, object_of, local_struct_of, pointers_of, Within, less, output_body_of}
use Rattle.capnp_wire.specs.Prelude.{CountsMore, EntersObject, Walked}
use Rattle.capnp_layout.specs.declared.place.Place.{Place}
use Rattle.capnp_layout.specs.declared.number_list.NumberList.{NumberList}
use Rattle.capnp_layout.specs.declared.pointer.StructSize.{StructSize}
use Rattle.capnp_layout.specs.declared.fast_path.LocalStruct.{LocalStruct}
use Rattle.capnp_layout.specs.declared.pointer_run.PointerRun.{PointerRun}
use Rattle.capnp_layout.specs.declared.object.Body.TheVariants.{Struct, Numbers, Pointers}
use Rattle.capnp_wire.proofs.walks.WalkProgressLemmas.{entered, walked_alone}
use Rattle.capnp_layout.proofs.pointers.LocalObjectIsAtLemmas.{list_output}

-- a walk that meets a list of numbers meets nothing below it
pub number_list_walked : {m : List (List ℕ)} {c : Bool} {place : Place} {nesting : ℕ} {limit left counted_then counted_now : Option ℕ} {traversed words : ℕ}
    (list : NumberList)
    → IsObject m place (object_of list) → 0 < nesting → traversed ≡ traversed_of (Numbers list.size list.count) → words ≡ words_for list.count (width (code_of list.size))
    → Within limit traversed → left ≡ less limit traversed → CountsMore counted_then counted_now words → Walked m c place nesting limit left counted_then counted_now
number_list_walked {c = c} {limit = limit} {left = left} {counted_then = before} {counted_now = now} list is deep traversed_is words_are within left_is counted =
    let output_words = words_are ∙ ap words_in (list_output c (words_of list.segment.now) list.start.word (Numbers list.size list.count) tt) in
    walked_alone
    (entered (record {
      there = is;
      deep = deep;
      within = subst (Within limit) traversed_is within;
      left_is = subst (λ (x : ℕ). left ≡ less limit x) traversed_is left_is;
      counted = subst (CountsMore before now) output_words counted;
    }))
    refl

-- one that meets a list of pointers enters it
pub pointer_list_entered : {m : List (List ℕ)} {c : Bool} {place : Place} {nesting : ℕ} {limit left counted_then counted_now : Option ℕ} (list : PointerRun)
    → IsObject m place (pointers_of list) → 0 < nesting → Within limit list.count → left ≡ less limit list.count → CountsMore counted_then counted_now list.count
    → EntersObject m c place (pointers_of list) nesting limit left counted_then counted_now
pointer_list_entered {c = c} {counted_then = before} {counted_now = now} list is deep within left_is counted = record {
  there = is;
  deep = deep;
  within = within;
  left_is = left_is;
  counted = subst (CountsMore before now) (ap words_in (list_output c (words_of list.segment.now) list.first.word (Pointers list.count) tt)) counted;
}

-- and one that meets a struct enters it
pub struct_enters : {m : List (List ℕ)} {c : Bool} {place : Place} {found : LocalStruct} {size : StructSize} {nesting : ℕ} {limit left counted_then counted_now : Option ℕ} {traversed words : ℕ}
    → IsObject m place (local_struct_of found) → 0 < nesting → traversed ≡ found.size.data_words + found.size.pointers → words ≡ size.data_words + size.pointers
    → Struct size ≡ output_body_of c (words_of found.segment.now) found.start.word (Struct found.size)
    → Within limit traversed → left ≡ less limit traversed → CountsMore counted_then counted_now words → EntersObject m c place (local_struct_of found) nesting limit left counted_then counted_now
struct_enters {limit = limit} {left = left} {counted_then = before} {counted_now = now} is deep traversed_is words_are output within left_is counted = record {
  there = is;
  deep = deep;
  within = subst (Within limit) traversed_is within;
  left_is = subst (λ (x : ℕ). left ≡ less limit x) traversed_is left_is;
  counted = subst (CountsMore before now) (words_are ∙ ap words_in output) counted;
}
