-- Each segment is below those before it.
use Rattle.std.proofs.Common.{◌≡◌, suc, arith, ap, sym, subst, ◌∙◌, take, ◌+◌, ◌++◌, ◌∷◌, [], List, ℕ, length, Vec, Global}
use Rattle.std.proofs.lemmas.List.{take_all}
use Rattle.std.proofs.Math.Seq.{take-suc}
use Rattle.capnp_show.specs.Arrows.{AreTops, none_drawn, one_drawn, plus, height_of}
use Rattle.capnp_show.specs.declared.owners.Word.{Word}
use Rattle.capnp_show.proofs.arrows.Grid.new.Goals as goal

next_drawn : (segments more : List (Vec Word Global)) (tops all_tops : List ℕ) (height last : ℕ) (words : Vec Word Global) → more ≡ segments ++ words ∷ []
    → all_tops ≡ tops ++ plus height 48 ∷ [] → last ≡ plus height (height_of (length words.items)) → AreTops segments tops height → AreTops more all_tops last
next_drawn segments more tops all_tops height last words more_is all_tops_are last_is drawn =
    subst (λ (s : List (Vec Word Global)). AreTops s all_tops last) (sym more_is)
    (subst (λ (t : List ℕ). AreTops (segments ++ words ∷ []) t last) (sym all_tops_are)
    (subst (λ (h : ℕ). AreTops (segments ++ words ∷ []) (tops ++ plus height 48 ∷ []) h) (sym last_is) (one_drawn segments tops height words drawn)))

pub loop-words-init : goal.loop-words-init
loop-words-init c = subst (λ (tops : List ℕ). AreTops [] tops 0) (sym c.new-tops.ensures.items) none_drawn

pub loop-words-preserved : goal.loop-words-preserved
loop-words-preserved c =
    let more : c.loop-words.words-index + 1 ≡ suc c.loop-words.words-index = omega arith in
    let next = ap (λ (n : ℕ). take n c.segments-words-items.result.now) more
    ∙ take-suc c.segments-words-items.result.now c.loop-words.words-index c.words-item.result c.loop-words-test.true
    ∙ ap (λ (words : Vec Word Global). take c.loop-words.words-index c.segments-words-items.result.now ++ words ∷ []) (sym c.words-item.is) in
    next_drawn _ _ c.loop-words.tops.items c.push.new.self.items c.loop-words.height c.saturating_add-height.result c.words-item.result next
    (c.in_ok-push.ensures.items ∙ ap (λ (top : ℕ). c.loop-words.tops.items ++ top ∷ []) c.saturating_add.ensures)
    (c.saturating_add-height.ensures ∙ ap (plus c.loop-words.height) (c.part_height.ensures ∙ ap height_of (c.len.ensures ∙ c.words-item.result.ok.0))) c.loop-words.invariant

pub returns : goal.returns
returns c =
    let all = take_all c.loop-words.words-index c.segments-words-items.result.now c.loop-words-test.false in
    (c.loop-words.height, subst (λ (segments : List (Vec Word Global)). AreTops segments c.loop-words.tops.items c.loop-words.height) (all ∙ c.segments-words-items.ensures) c.loop-words.invariant)
