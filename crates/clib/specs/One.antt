-- ONE RESULT: two calls of an entry point on the same input give, answer and leave the same. Assumes nothing.
use Rattle.std.specs.Prelude.{◌≡◌, Bool, List, ◌⊎◌, ℕ, ◌≤◌, ◌<◌, length}
use Rattle.std.proofs.Common.{sym, ap, ◌∙◌, inl, inr}
use Rattle.curve.proofs.OrderLaws.{le_or_lt}
use Rattle.sheet.specs.Makes.{AllBytes}
use Rattle.verdict.specs.Verdict.{told}
use Rattle.verdict.proofs.OneVerdict.{one-verdict}
use Rattle.verdict.specs.declared.Answer.{Answer}
use Rattle.layout.specs.Over.{over}
use Rattle.opening.proofs.OpenLaws.{one-opening}
use Rattle.run.specs.Slot as slot
use Rattle.clib.specs.Numbers.{answer_numbers, total_numbers, judged_numbers, open_numbers, slot_numbers, tally_numbers, tally_of, case_numbers, figures_at, figure_numbers}
use Rattle.clib.specs.Told.{OpensInto, SlotsInto, Untouched, SlotTold, JudgesInto}

pub one_open : (bytes run answer run' run'' answer' answer'' : List ℕ) (done other : Bool) → AllBytes bytes
    → OpensInto bytes run answer run' answer' done → OpensInto bytes run answer run'' answer'' other → (run' ≡ run'') × (answer' ≡ answer'') × (done ≡ other)
one_open bytes run answer run' run'' answer' answer'' done other all f g = go (le_or_lt answer_numbers (length answer))
  where
    go : (answer_numbers ≤ length answer) ⊎ (length answer < answer_numbers) → (run' ≡ run'') × (answer' ≡ answer'') × (done ≡ other)
    go (inr h) =
        let x = f.too_short h in
        let y = g.too_short h in
        (x.1 ∙ sym y.1, x.2 ∙ sym y.2, x.0 ∙ sym y.0)
    go (inl h) =
        let x = f.long-enough h in
        let y = g.long-enough h in
        let one = one-opening bytes run run' run'' x.reply y.reply all x.opens y.opens in
        (one.1, x.told ∙ ap (λ r. over answer 0 (open_numbers r)) one.0 ∙ sym y.told, x.done-is ∙ sym y.done-is)

-- what a slot leaves, and that it was done
pub record Same (run outcomes notes tally answer : List ℕ) (done : Bool) (run' outcomes' notes' tally' answer' : List ℕ) (done' : Bool) : Type 0 where
  pub run_is : run ≡ run'
  pub outcomes_are : outcomes ≡ outcomes'
  pub notes_are : notes ≡ notes'
  pub tally-is : tally ≡ tally'
  pub told : answer ≡ answer'
  pub done-is : done ≡ done'

module _ (run offers outcomes notes tally answer : List ℕ) (r o n t a : List ℕ) (d : Bool) (r' o' n' t' a' : List ℕ) (d' : Bool) where
  same-short : Untouched run outcomes notes tally answer r o n t a d → Untouched run outcomes notes tally answer r' o' n' t' a' d' → Same r o n t a d r' o' n' t' a' d'
  same-short x y = record {
    run_is = x.run_is ∙ sym y.run_is;
    outcomes_are = x.outcomes_are ∙ sym y.outcomes_are;
    notes_are = x.notes_are ∙ sym y.notes_are;
    tally-is = x.tally-is ∙ sym y.tally-is;
    told = x.told ∙ sym y.told;
    done-is = x.done-is ∙ sym y.done-is;
  }

  same-told : SlotTold run offers outcomes notes tally answer r o n t a d → SlotTold run offers outcomes notes tally answer r' o' n' t' a' d' → Same r o n t a d r' o' n' t' a' d'
  same-told x y =
      let one = slot.one-slot run offers outcomes notes (tally_of tally) r r' o o' n n' x.after y.after x.reply y.reply x.slots.machine y.slots.machine in
      record {
        run_is = one.run_is;
        outcomes_are = one.outcomes_are;
        notes_are = one.notes_are;
        tally-is = x.tally-is ∙ ap (λ u. over tally 0 (tally_numbers u)) one.tally-is ∙ sym y.tally-is;
        told = x.told ∙ ap (λ u. over answer 0 (slot_numbers u)) one.answers ∙ sym y.told;
        done-is = x.done-is ∙ sym y.done-is;
      }

  pub one-slot : SlotsInto run offers outcomes notes tally answer r o n t a d → SlotsInto run offers outcomes notes tally answer r' o' n' t' a' d' → Same r o n t a d r' o' n' t' a' d'
  one-slot f g = go (le_or_lt total_numbers (length tally)) (le_or_lt answer_numbers (length answer))
    where
      go : (total_numbers ≤ length tally) ⊎ (length tally < total_numbers) → (answer_numbers ≤ length answer) ⊎ (length answer < answer_numbers) → Same r o n t a d r' o' n' t' a' d'
      go (inr h) k = same-short (f.too_short (inl h)) (g.too_short (inl h))
      go (inl h) (inr k) = same-short (f.too_short (inr k)) (g.too_short (inr k))
      go (inl h) (inl k) = same-told (f.long-enough h k) (g.long-enough h k)

pub one_judge : (bytes answer answer' answer'' : List ℕ) (done other : Bool) → JudgesInto bytes answer answer' done → JudgesInto bytes answer answer'' other → (answer' ≡ answer'') × (done ≡ other)
one_judge bytes answer answer' answer'' done other f g = go (le_or_lt judged_numbers (length answer))
  where
    go : (judged_numbers ≤ length answer) ⊎ (length answer < judged_numbers) → (answer' ≡ answer'') × (done ≡ other)
    go (inr h) =
        let x = f.too_short h in
        let y = g.too_short h in
        (x.1 ∙ sym y.1, x.0 ∙ sym y.0)
    go (inl h) =
        let x = f.long-enough h in
        let y = g.long-enough h in
        let one = one-verdict bytes (record { verdict = x.case; figures = x.figures }) (record { verdict = y.case; figures = y.figures }) x.judges y.judges in
        (x.told ∙ ap (λ (v : Answer). over (over answer figures_at (figure_numbers v.figures)) 0 (case_numbers (told v.verdict))) one ∙ sym y.told, x.done-is ∙ sym y.done-is)
