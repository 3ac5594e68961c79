-- The three tests in their order. Assumes nothing.
use Rattle.std.proofs.Common.{◌≡◌, refl, ◌-◌, ◌≤◌, ◌<◌, ℕ, Bool, length, get_or, ap, ◌∙◌, arith}
use Rattle.std.proofs.Math.Dec.{leb}
use Rattle.std.proofs.lemmas.Bool.{lt-leb}
use Rattle.guard.specs.Tells.{Tells, tells_le, tells_then, tells_else}
use Rattle.guard.specs.Test.{tells_climbing}
use Rattle.guard.proofs.climbs.Goals as goal
use Rattle.guard.proofs.climbs.Goals.{then-last-most, else-last-most}

not-both : (r : Bool) (last most step rate : ℕ) → r ≡ leb last most → most < last → Tells r ((last ≤ most) × (step ≤ rate))
not-both r last most step rate e h = tells_else r (e ∙ lt-leb last most h) (λ x. omega arith)

both : (r : Bool) (last most step s rate : ℕ) → s ≡ step → r ≡ leb s rate → last ≤ most → Tells r ((last ≤ most) × (step ≤ rate))
both r last most step s rate f e h = tells_then r (leb step rate) (e ∙ ap (λ x. leb x rate) f) h (tells_le step rate)

pub returns-then-bounded : goal.returns-then-bounded
returns-then-bounded c =
    let a = c.args in
    let last = get_or a.numbers.now (length a.numbers.now - 1) 0 in
    let step = last - get_or a.numbers.now (length a.numbers.now - a.period) 0 in
    let bounded : Tells c.if-last-most.bounded ((last ≤ a.most) × (step ≤ a.rate)) =
    elim c.if-last-most.branch [
      | then-last-most w ↦ both _ last a.most step _ a.rate c.saturating_sub-step.ensures w.bounded-is w.if-last-most.true
      | else-last-most w ↦ not-both _ last a.most step a.rate w.bounded-is w.if-last-most.false
    ] in
    tells_climbing a.numbers.now a.period a.rate a.most c.requires.0 c.requires.1 c.rises.result (tells_then _ _ refl (bounded.0 c.if-bounded.true) c.rises.ensures)

pub returns-else-bounded : goal.returns-else-bounded
returns-else-bounded c =
    let a = c.args in
    let last = get_or a.numbers.now (length a.numbers.now - 1) 0 in
    let step = last - get_or a.numbers.now (length a.numbers.now - a.period) 0 in
    let bounded : Tells c.if-last-most.bounded ((last ≤ a.most) × (step ≤ a.rate)) =
    elim c.if-last-most.branch [
      | then-last-most w ↦ both _ last a.most step _ a.rate c.saturating_sub-step.ensures w.bounded-is w.if-last-most.true
      | else-last-most w ↦ not-both _ last a.most step a.rate w.bounded-is w.if-last-most.false
    ] in
    tells_climbing a.numbers.now a.period a.rate a.most c.requires.0 c.requires.1 c.if-last-most.bounded (tells_else _ c.if-bounded.false (bounded.1 c.if-bounded.false))
