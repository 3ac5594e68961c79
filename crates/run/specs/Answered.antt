-- Back from the answer of a slot: a refused slot changed nothing; a slot that answered a number on the run after a history was lent what it asks, was none too many, and
-- is done by the rules. Assumes nothing.
use Rattle.std.specs.Prelude.{◌≡◌, List, ◌⊎◌, ℕ, ◌*◌, ◌≤◌, ◌<◌, length}
use Rattle.std.proofs.Common.{sym, inl, inr, arith}
use Rattle.std.proofs.Math.Decide.{ℕ_discrete}
use Rattle.curve.proofs.OrderLaws.{le_or_lt}
use Rattle.sheet.specs.Sheet.{Sheet, WellMade, session_count}
use Rattle.rules.specs.Model.{after}
use Rattle.layout.specs.Sound.{most_slots}
use Rattle.history.specs.After.{IsRun}
use Rattle.intake.specs.Intakes.{outcome_numbers}
use Rattle.send.specs.Send.{note_numbers}
use Rattle.run.specs.Brought.{Within, within_or_not}
use Rattle.run.specs.Slot.{sent, refused, SlotWhich, slot_which, Refuses, sent_or_refused}
use Rattle.run.specs.ByRules.{tally_by, Done, Fitting, ByRules}
use Rattle.run.specs.Exact.{Promises}
use Rattle.run.specs.declared.tally.Tally.{Tally}

module _ (run offers outcomes notes : List ℕ) (tally : Tally) (run' outcomes' notes' : List ℕ) (tally' : Tally) where
  -- A REFUSED SLOT CHANGES NOTHING
  pub unchanged : (number place : ℕ) → Promises run offers outcomes notes tally run' outcomes' notes' tally' (refused number place)
      → Refuses number run outcomes notes tally run' outcomes' notes' tally' (refused number place)
  unchanged number place p = go (ℕ_discrete p.machine.why 0) (slot_which run offers tally)
    where
      by : (why : ℕ) → Refuses why run outcomes notes tally run' outcomes' notes' tally' (refused number place) → Refuses number run outcomes notes tally run' outcomes' notes' tally' (refused number place)
      by why r =
          let e : why ≡ number = cc r.answers in
          rw e at r

      go : Dec (p.machine.why ≡ 0) → SlotWhich run offers tally → Refuses number run outcomes notes tally run' outcomes' notes' tally' (refused number place)
      go (no d) w = by p.machine.why (p.machine.refuses d)
      go (yes d) (inl w) = absurd (sent_or_refused _ number place (sym (p.machine.fits d _ w.1).answers))
      go (yes d) (inr w) = by 18 (p.machine.too_much d w.1)

  module _ (sheet : Sheet) (history : List (List ℕ)) (k : ℕ) where
    -- a slot that answered
    pub record Answered : Type 0 where
      pub fitting : Fitting sheet history run offers outcomes notes tally run' outcomes' notes' tally' (sent k)
      pub left : length history < most_slots
      pub within : Within (tally_by sheet (after sheet history) offers tally)
      pub done : Done sheet history run offers outcomes notes tally run' outcomes' notes' tally' (sent k)

    not_refused : (number : ℕ) → Refuses number run outcomes notes tally run' outcomes' notes' tally' (sent k) → ⊥
    not_refused number r = sent_or_refused k number 0 r.answers

    -- AN ANSWERED SLOT IS DONE: each refusal is ruled out by the answer
    pub answered : WellMade sheet → length history ≤ most_slots → IsRun sheet history run → Promises run offers outcomes notes tally run' outcomes' notes' tally' (sent k) → Answered
    answered made most is p =
        go (ℕ_discrete (length offers) (session_count sheet)) (le_or_lt (outcome_numbers * session_count sheet) (length outcomes)) (le_or_lt (note_numbers * sheet.capacity) (length notes))
        (le_or_lt most_slots (length history)) (within_or_not (tally_by sheet (after sheet history) offers tally))
      where
        r : ByRules sheet history run offers outcomes notes tally run' outcomes' notes' tally' (sent k)
        r = p.rules sheet made history most is

        fit : length offers ≡ session_count sheet → outcome_numbers * session_count sheet ≤ length outcomes → note_numbers * sheet.capacity ≤ length notes
            → Fitting sheet history run offers outcomes notes tally run' outcomes' notes' tally' (sent k)
        fit e a b = record { offered = e; outcomes-fit = a; notes-fit = b }

        go : Dec (length offers ≡ session_count sheet)
            → (outcome_numbers * session_count sheet ≤ length outcomes) ⊎ (length outcomes < outcome_numbers * session_count sheet)
            → (note_numbers * sheet.capacity ≤ length notes) ⊎ (length notes < note_numbers * sheet.capacity)
            → (most_slots ≤ length history) ⊎ (length history < most_slots)
            → Within (tally_by sheet (after sheet history) offers tally) ⊎ (Within (tally_by sheet (after sheet history) offers tally) → ⊥)
            → Answered
        go (no d) a b h w = absurd (not_refused 15 (r.amiss d))
        go (yes e) (inr a) b h w = absurd (not_refused 16 (r.scant e (inl a)))
        go (yes e) (inl a) (inr b) h w = absurd (not_refused 16 (r.scant e (inr b)))
        go (yes e) (inl a) (inl b) (inl h) w = absurd (not_refused 17 (r.spent (fit e a b) (omega arith)))
        go (yes e) (inl a) (inl b) (inr h) (inr n) = absurd (not_refused 18 (r.too_much (fit e a b) h n))
        go (yes e) (inl a) (inl b) (inr h) (inl w) = record { fitting = fit e a b; left = h; within = w; done = r.done (fit e a b) h w }
