-- What the entry points for C do: what the library does, with its answer in lent slices; nothing at all where a slice for the answer is too short. Each input has one result. Assumes nothing.
use Rattle.std.specs.Prelude.{◌≡◌, refl, Bool, true, false, List, ◌⊎◌, ℕ, ◌≤◌, ◌<◌, length}
use Rattle.std.proofs.Common.{ap, ◌∙◌, inl, inr, arith}
use Rattle.curve.specs.declared.Slots.{Slots}
use Rattle.verdict.specs.Verdict as verdict
use Rattle.verdict.specs.declared.Verdict.{Verdict}
use Rattle.layout.specs.Over.{over}
use Rattle.opening.specs.Open as opening
use Rattle.run.specs.Slot.{Reply}
use Rattle.run.specs.Exact.{Promises}
use Rattle.run.specs.declared.tally.Tally.{Tally}
use Rattle.clib.specs.Numbers.{answer_numbers, total_numbers, judged_numbers, open_numbers, slot_numbers, tally_numbers, tally_of, case_numbers, figures_at, figure_numbers}

-- OPEN
pub record OpenTold (bytes run answer run' answer' : List ℕ) (done : Bool) : Type 0 where
  pub reply : opening.Answer
  pub opens : opening.Opens bytes run run' reply
  pub told : answer' ≡ over answer 0 (open_numbers reply)
  pub done-is : done ≡ true

pub record OpensInto (bytes run answer run' answer' : List ℕ) (done : Bool) : Type 0 where
  pub too_short : length answer < answer_numbers → (done ≡ false) × (run' ≡ run) × (answer' ≡ answer)
  pub long-enough : answer_numbers ≤ length answer → OpenTold bytes run answer run' answer' done

-- SLOT
pub record SlotTold (run offers outcomes notes tally answer run' outcomes' notes' tally' answer' : List ℕ) (done : Bool) : Type 0 where
  pub reply : Reply
  pub after : Tally
  pub slots : Promises run offers outcomes notes (tally_of tally) run' outcomes' notes' after reply
  pub tally-is : tally' ≡ over tally 0 (tally_numbers after)
  pub told : answer' ≡ over answer 0 (slot_numbers reply)
  pub done-is : done ≡ true

pub record Untouched (run outcomes notes tally answer run' outcomes' notes' tally' answer' : List ℕ) (done : Bool) : Type 0 where
  pub run_is : run' ≡ run
  pub outcomes_are : outcomes' ≡ outcomes
  pub notes_are : notes' ≡ notes
  pub tally-is : tally' ≡ tally
  pub told : answer' ≡ answer
  pub done-is : done ≡ false

pub record SlotsInto (run offers outcomes notes tally answer run' outcomes' notes' tally' answer' : List ℕ) (done : Bool) : Type 0 where
  pub too_short : (length tally < total_numbers) ⊎ (length answer < answer_numbers) → Untouched run outcomes notes tally answer run' outcomes' notes' tally' answer' done
  pub long-enough : total_numbers ≤ length tally → answer_numbers ≤ length answer → SlotTold run offers outcomes notes tally answer run' outcomes' notes' tally' answer' done

-- JUDGE
pub record JudgeTold (bytes answer answer' : List ℕ) (done : Bool) : Type 0 where
  pub case : Verdict
  pub figures : List Slots
  pub judges : verdict.Judges bytes case figures
  pub told : answer' ≡ over (over answer figures_at (figure_numbers figures)) 0 (case_numbers (verdict.told case))
  pub done-is : done ≡ true

pub record JudgesInto (bytes answer answer' : List ℕ) (done : Bool) : Type 0 where
  pub too_short : length answer < judged_numbers → (done ≡ false) × (answer' ≡ answer)
  pub long-enough : judged_numbers ≤ length answer → JudgeTold bytes answer answer' done

-- the ways in which the entry points come to their ends
module _ (bytes run answer : List ℕ) where
  pub open_short : length answer < answer_numbers → OpensInto bytes run answer run answer false
  open_short h = record { too_short = λ _. (refl, refl, refl); long-enough = λ k. absurd (omega arith) }

  pub open_told : answer_numbers ≤ length answer → (run' answer' : List ℕ) (reply : opening.Answer) → opening.Opens bytes run run' reply → answer' ≡ over answer 0 (open_numbers reply)
      → OpensInto bytes run answer run' answer' true
  open_told h run' answer' reply o t = record { too_short = λ k. absurd (omega arith); long-enough = λ _. record { reply = reply; opens = o; told = t; done-is = refl } }

module _ (run offers outcomes notes tally answer : List ℕ) where
  pub slot-short : (length tally < total_numbers) ⊎ (length answer < answer_numbers) → SlotsInto run offers outcomes notes tally answer run outcomes notes tally answer false
  slot-short h = record {
    too_short = λ _. record { run_is = refl; outcomes_are = refl; notes_are = refl; tally-is = refl; told = refl; done-is = refl };
    long-enough = λ k l. absurd (not_both h k l);
  }
    where
      not_both : (length tally < total_numbers) ⊎ (length answer < answer_numbers) → total_numbers ≤ length tally → answer_numbers ≤ length answer → ⊥
      not_both (inl a) k l = omega arith
      not_both (inr a) k l = omega arith

  pub slot-told : total_numbers ≤ length tally → answer_numbers ≤ length answer → (run' outcomes' notes' tally' answer' : List ℕ) (after : Tally) (reply : Reply)
      → Promises run offers outcomes notes (tally_of tally) run' outcomes' notes' after reply → tally' ≡ over tally 0 (tally_numbers after) → answer' ≡ over answer 0 (slot_numbers reply)
      → SlotsInto run offers outcomes notes tally answer run' outcomes' notes' tally' answer' true
  slot-told h g run' outcomes' notes' tally' answer' after reply p e t = record {
    too_short = λ k. absurd (not_short k);
    long-enough = λ _ _. record { reply = reply; after = after; slots = p; tally-is = e; told = t; done-is = refl };
  }
    where
      not_short : (length tally < total_numbers) ⊎ (length answer < answer_numbers) → ⊥
      not_short (inl a) = omega arith
      not_short (inr a) = omega arith

module _ (bytes answer : List ℕ) where
  pub judge_short : length answer < judged_numbers → JudgesInto bytes answer answer false
  judge_short h = record { too_short = λ _. (refl, refl); long-enough = λ k. absurd (omega arith) }

  pub judge_told : judged_numbers ≤ length answer → (answer' : List ℕ) (case : Verdict) (figures : List Slots) → verdict.Judges bytes case figures
      → (middle : List ℕ) → middle ≡ over answer figures_at (figure_numbers figures) → answer' ≡ over middle 0 (case_numbers (verdict.told case))
      → JudgesInto bytes answer answer' true
  judge_told h answer' case figures j middle f t = record {
    too_short = λ k. absurd (omega arith);
    long-enough = λ _. record { case = case; figures = figures; judges = j; told = t ∙ ap (λ (l : List ℕ). over l 0 (case_numbers (verdict.told case))) f; done-is = refl };
  }
