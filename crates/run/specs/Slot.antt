-- What a slot answers and leaves, for any slices and any tally: the refusals 13 to 18, each with nothing changed, or the slot done. One answer and one content for each input. Assumes nothing.
use Rattle.std.specs.Prelude.{◌≡◌, refl, List, ◌≢◌, ◌⊎◌, ℕ, ◌+◌, ◌≤◌, length, set, Option, Some, None, Result, Ok, Err}
use Rattle.std.proofs.Common.{sym, ap, ◌∙◌, inl, inr, arith}
use Rattle.std.proofs.Math.Decide.{ℕ_discrete}
use Rattle.sheet.specs.Limits.{most_capacity}
use Rattle.layout.specs.Layout.{done_at}
use Rattle.send.specs.Send.{send_run, send_notes, send_count, SentAll}
use Rattle.send.specs.Sent.{send_count-most}
use Rattle.intake.specs.Intakes.{intakes_of, outcomes_of}
use Rattle.run.specs.Summed.{sums_of}
use Rattle.run.specs.Brought.{Within, totals_of, brought_up, brought_which}
use Rattle.run.specs.Why.{capacity_of, period_of, count_of, done_of, Fit, Why, one-why, fit_of, not_18}
use Rattle.refusal.specs.Numbers.{number_of as cause_number}
use Rattle.refusal.specs.declared.Cause.{Cause}
use Rattle.refusal.specs.declared.Refusal.{Refusal}
use Rattle.run.specs.declared.tally.Tally.{Tally}

-- how many were sent, or a refusal's number and place
pub data Reply : Type 0 where
  sent : ℕ → Reply
  refused : ℕ → ℕ → Reply

abbrev pub told : Result ℕ Refusal → Reply
told (Ok k) = sent k
told (Err why) = refused (cause_number why.cause) why.place

-- the number of the refusal for which a slot may not be run, 0 where it may
abbrev pub why_of : Result (Unit {0}) Cause → ℕ
why_of (Ok _) = 0
why_of (Err cause) = cause_number cause

-- the sums of a slot in which the link sends up to so many packets, and what they make of a tally; the run's own capacity is c
abbrev pub brings_with : ℕ → List ℕ → List ℕ → Tally → Option Tally
brings_with capacity run offers tally = brought_up tally (sums_of run offers (count_of run)) capacity

abbrev pub totals_with : ℕ → List ℕ → List ℕ → Tally → Tally
totals_with capacity run offers tally = totals_of tally (sums_of run offers (count_of run)) capacity

abbrev pub slot_brings : List ℕ → List ℕ → Tally → Option Tally
slot_brings run = brings_with (capacity_of run) run

abbrev pub slot_totals : List ℕ → List ℕ → Tally → Tally
slot_totals run = totals_with (capacity_of run) run

-- the run when all sessions have had their intake
abbrev pub taken_in : List ℕ → List ℕ → List ℕ
taken_in run offers = intakes_of run offers (period_of run) (done_of run) (count_of run)

-- a refused slot: nothing changes
pub record Refuses (number : ℕ) (run outcomes notes : List ℕ) (tally : Tally) (run' outcomes' notes' : List ℕ) (tally' : Tally) (reply : Reply) : Type 0 where
  pub answers : reply ≡ refused number 0
  pub run_is : run' ≡ run
  pub outcomes_are : outcomes' ≡ outcomes
  pub notes_are : notes' ≡ notes
  pub tally-is : tally' ≡ tally

-- a slot done, in which the link sends up to so many packets
pub record Runs (capacity : ℕ) (run offers outcomes notes : List ℕ) (after : Tally) (run' outcomes' notes' : List ℕ) (tally' : Tally) (reply : Reply) : Type 0 where
  pub answers : reply ≡ sent (send_count (taken_in run offers) (count_of run) capacity)
  pub run_is : run' ≡ set (send_run (taken_in run offers) (count_of run) capacity) done_at (done_of run + 1)
  pub outcomes_are : outcomes' ≡ outcomes_of run offers outcomes (count_of run)
  pub notes_are : notes' ≡ send_notes (taken_in run offers) notes (count_of run) capacity
  pub tally-is : tally' ≡ after

-- SLOT: 13 to 17 in their order, then 18 exactly where a total would be too much, then the slot
pub record Slots (run offers outcomes notes : List ℕ) (tally : Tally) (run' outcomes' notes' : List ℕ) (tally' : Tally) (reply : Reply) : Type 0 where
  pub why : ℕ
  pub because : Why run offers (length outcomes) (length notes) why
  pub refuses : why ≢ 0 → Refuses why run outcomes notes tally run' outcomes' notes' tally' reply
  pub too_much : why ≡ 0 → slot_brings run offers tally ≡ None → Refuses 18 run outcomes notes tally run' outcomes' notes' tally' reply
  pub fits : why ≡ 0 → (after : Tally) → slot_brings run offers tally ≡ Some after → Runs (capacity_of run) run offers outcomes notes after run' outcomes' notes' tally' reply

-- a slot whose refusal has no place: how many packets were sent, and the tally after it
abbrev pub Steps : (run offers outcomes notes : List ℕ) → Tally → (run' outcomes' notes' : List ℕ) → Result (ℕ × Tally) Cause → Type 0
Steps run offers outcomes notes tally run' outcomes' notes' (Ok done) = Slots run offers outcomes notes tally run' outcomes' notes' done.1 (sent done.0)
Steps run offers outcomes notes tally run' outcomes' notes' (Err cause) = Slots run offers outcomes notes tally run' outcomes' notes' tally (refused (cause_number cause) 0)

-- a slot's totals fit, or are too much
abbrev pub SlotWhich : List ℕ → List ℕ → Tally → Type 0
SlotWhich run offers tally =
    (Within (slot_totals run offers tally) × (slot_brings run offers tally ≡ Some (slot_totals run offers tally))) ⊎ ((Within (slot_totals run offers tally) → ⊥) × (slot_brings run offers tally ≡ None))

pub slot_which : (run offers : List ℕ) (tally : Tally) → SlotWhich run offers tally
slot_which run offers tally = brought_which tally (sums_of run offers (count_of run)) (capacity_of run)

much_or_fits : (t : Tally) → None ≡ Some t → ⊥
much_or_fits t e =
    let z : ◌≡◌ {A = ℕ} 0 1 = cc in
    omega arith

fits_one : (t u : Tally) → Some t ≡ Some u → t ≡ u
fits_one t u e = ap (λ (b : Option Tally). elim b [ Some x ↦ x | None ↦ t ]) e

module _ (run offers outcomes notes : List ℕ) (tally : Tally) where
  -- the three ways, as the program comes to them
  pub slots-refused : (why : ℕ) → Why run offers (length outcomes) (length notes) why → why ≢ 0
      → Slots run offers outcomes notes tally run outcomes notes tally (refused why 0)
  slots-refused why w n = record {
    why = why;
    because = w;
    refuses = λ _. record { answers = refl; run_is = refl; outcomes_are = refl; notes_are = refl; tally-is = refl };
    too_much = λ e. absurd (n e);
    fits = λ e. absurd (n e);
  }

  pub slots_much : Fit run offers (length outcomes) (length notes) → slot_brings run offers tally ≡ None
      → Slots run offers outcomes notes tally run outcomes notes tally (refused 18 0)
  slots_much f e = record {
    why = 0;
    because = Why.none f;
    refuses = λ n. absurd (n refl);
    too_much = λ _ _. record { answers = refl; run_is = refl; outcomes_are = refl; notes_are = refl; tally-is = refl };
    fits = λ _ after g. absurd (much_or_fits after (sym e ∙ g));
  }

  pub slots-run : (after : Tally) (run' outcomes' notes' : List ℕ) (reply : Reply) → Fit run offers (length outcomes) (length notes) → slot_brings run offers tally ≡ Some after
      → Runs (capacity_of run) run offers outcomes notes after run' outcomes' notes' after reply
      → Slots run offers outcomes notes tally run' outcomes' notes' after reply
  slots-run after run' outcomes' notes' reply f e r = record {
    why = 0;
    because = Why.none f;
    refuses = λ n. absurd (n refl);
    too_much = λ _ g. absurd (much_or_fits after (sym g ∙ e));
    fits = λ _ other g.
        record { answers = r.answers; run_is = r.run_is; outcomes_are = r.outcomes_are; notes_are = r.notes_are; tally-is = fits_one after other (sym e ∙ g) };
  }

-- and back, from the answer: 18 only where a total would be too much, a number sent only where the slot is done
abbrev number_of : ℕ → Reply → ℕ
number_of k (sent n) = k
number_of k (refused number place) = number

abbrev sent_count_of : Reply → ℕ
sent_count_of (sent n) = n
sent_count_of (refused number place) = 0

pub sent_or_refused : (k number place : ℕ) → sent k ≡ refused number place → ⊥
sent_or_refused k number place e =
    let z = ap (number_of (number + 1)) e in
    omega arith

module _ (run offers outcomes notes : List ℕ) (tally : Tally) (run' outcomes' notes' : List ℕ) (tally' : Tally) (reply : Reply) (s : Slots run offers outcomes notes tally run' outcomes' notes' tally' reply) where
  pub slots_18 : reply ≡ refused 18 0 → Fit run offers (length outcomes) (length notes) × (slot_brings run offers tally ≡ None)
  slots_18 e = go (ℕ_discrete s.why 0) (slot_which run offers tally)
    where
      go : Dec (s.why ≡ 0) → SlotWhich run offers tally → Fit run offers (length outcomes) (length notes) × (slot_brings run offers tally ≡ None)
      go (no d) w =
          let z = ap (number_of 0) (sym (s.refuses d).answers ∙ e) in
          absurd (not_18 run offers (length outcomes) (length notes) s.why s.because z)
      go (yes d) (inl w) = absurd (sent_or_refused _ 18 0 (sym (s.fits d _ w.1).answers ∙ e))
      go (yes d) (inr w) = (fit_of run offers (length outcomes) (length notes) s.why s.because d, w.1)

  pub slots-sent : (k : ℕ) → reply ≡ sent k
      → Fit run offers (length outcomes) (length notes) × (slot_brings run offers tally ≡ Some (slot_totals run offers tally)) × Runs (capacity_of run) run offers outcomes notes (slot_totals run offers tally) run' outcomes' notes' tally' reply
  slots-sent k e = go (ℕ_discrete s.why 0) (slot_which run offers tally)
    where
      go : Dec (s.why ≡ 0) → SlotWhich run offers tally
          → Fit run offers (length outcomes) (length notes) × (slot_brings run offers tally ≡ Some (slot_totals run offers tally)) × Runs (capacity_of run) run offers outcomes notes (slot_totals run offers tally) run' outcomes' notes' tally' reply
      go (no d) w = absurd (sent_or_refused k _ 0 (sym e ∙ (s.refuses d).answers))
      go (yes d) (inl w) = (fit_of run offers (length outcomes) (length notes) s.why s.because d, w.1, s.fits d _ w.1)
      go (yes d) (inr w) = absurd (sent_or_refused k 18 0 (sym e ∙ (s.too_much d w.1).answers))

  -- and then at most 64 packets went
  pub slots-few : (k : ℕ) → reply ≡ sent k → k ≤ most_capacity
  slots-few k e =
      let d = slots-sent k e in
      omega (arith, ap sent_count_of (sym e ∙ d.2.answers), send_count-most (taken_in run offers) (count_of run) (capacity_of run), d.0.opened.capacity)

-- the sending's part of a slot done
pub runs_by : (capacity : ℕ) (run offers outcomes notes taken sent' outcomes' notes' : List ℕ) (k : ℕ) (after : Tally) → taken ≡ taken_in run offers → outcomes' ≡ outcomes_of run offers outcomes (count_of run)
    → SentAll taken notes (count_of run) capacity sent' notes' k
    → Runs capacity run offers outcomes notes after (set sent' done_at (done_of run + 1)) outcomes' notes' after (sent k)
runs_by capacity run offers outcomes notes taken sent' outcomes' notes' k after e f s = record {
  answers = ap sent (s.went ∙ ap (λ (l : List ℕ). send_count l (count_of run) capacity) e);
  run_is = ap (λ (l : List ℕ). set l done_at (done_of run + 1)) (s.run_is ∙ ap (λ (l : List ℕ). send_run l (count_of run) capacity) e);
  outcomes_are = f;
  notes_are = s.notes_are ∙ ap (λ (l : List ℕ). send_notes l notes (count_of run) capacity) e;
  tally-is = refl;
}

-- the number sent is small
pub sent-small : (run notes run' notes' : List ℕ) (count c k : ℕ) → c ≤ most_capacity → SentAll run notes count c run' notes' k → k ≤ most_capacity
sent-small run notes run' notes' count c k h s = omega (arith, s.went, send_count-most run count c)

-- ONE SLOT: two calls on the same input answer and leave the same
pub record Same (run run' outcomes outcomes' notes notes' : List ℕ) (tally tally' : Tally) (reply reply' : Reply) : Type 0 where
  pub run_is : run ≡ run'
  pub outcomes_are : outcomes ≡ outcomes'
  pub notes_are : notes ≡ notes'
  pub tally-is : tally ≡ tally'
  pub answers : reply ≡ reply'

module _ (run offers outcomes notes : List ℕ) (tally : Tally) (r r' o o' n n' : List ℕ) (t t' : Tally) (a a' : Reply) where
  same-refused : (number other : ℕ) → number ≡ other → Refuses number run outcomes notes tally r o n t a → Refuses other run outcomes notes tally r' o' n' t' a' → Same r r' o o' n n' t t' a a'
  same-refused number other e x y = record {
    run_is = x.run_is ∙ sym y.run_is;
    outcomes_are = x.outcomes_are ∙ sym y.outcomes_are;
    notes_are = x.notes_are ∙ sym y.notes_are;
    tally-is = x.tally-is ∙ sym y.tally-is;
    answers = x.answers ∙ ap (λ (i : ℕ). refused i 0) e ∙ sym y.answers;
  }

  same-run : (after : Tally) → Runs (capacity_of run) run offers outcomes notes after r o n t a → Runs (capacity_of run) run offers outcomes notes after r' o' n' t' a' → Same r r' o o' n n' t t' a a'
  same-run after x y = record {
    run_is = x.run_is ∙ sym y.run_is;
    outcomes_are = x.outcomes_are ∙ sym y.outcomes_are;
    notes_are = x.notes_are ∙ sym y.notes_are;
    tally-is = x.tally-is ∙ sym y.tally-is;
    answers = x.answers ∙ sym y.answers;
  }

  pub one-slot : Slots run offers outcomes notes tally r o n t a → Slots run offers outcomes notes tally r' o' n' t' a' → Same r r' o o' n n' t t' a a'
  one-slot x y =
      go (one-why run offers (length outcomes) (length notes) x.why y.why x.because y.because) (ℕ_discrete x.why 0) (slot_which run offers tally)
    where
      go : x.why ≡ y.why → Dec (x.why ≡ 0) → SlotWhich run offers tally → Same r r' o o' n n' t t' a a'
      go e (no d) w = same-refused x.why y.why e (x.refuses d) (y.refuses (λ z. d (e ∙ z)))
      go e (yes d) (inl w) = same-run _ (x.fits d _ w.1) (y.fits (sym e ∙ d) _ w.1)
      go e (yes d) (inr w) = same-refused 18 18 refl (x.too_much d w.1) (y.too_much (sym e ∙ d) w.1)
