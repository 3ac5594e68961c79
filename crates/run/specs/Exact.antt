-- THE TWO LEVELS TIED: a slot that does what the machine's definition says does what the rules say, where the slice is the run after a history. Assumes nothing.
use Rattle.std.specs.Prelude.{◌≡◌, refl, ◌≢◌, ◌⊎◌, get_or}
use Rattle.std.proofs.Common.{sym, subst, ◌∙◌, inl, inr, length-append, take_at}
use Rattle.std.proofs.Math.Path.{ap, ap₂}
use mathlib.Core.List.{List, [], ◌∷◌, ◌++◌}
use Prim.Native.Nat.{ℕ, suc, ◌+◌, ◌-◌, ◌*◌, ◌≤◌, ◌<◌}
use native.Mathlib.Omega.{arith}
use Rattle.std.proofs.Math.ListN.{length, set, drop}
use Rattle.std.proofs.lemmas.List.{get_or_at}
use Rattle.curve.specs.Total.{total}
use Rattle.curve.proofs.TotalLaws.{total_cong}
use Rattle.sheet.specs.Sheet.{Sheet, WellMade, session_count}
use Rattle.rules.specs.Model.{Past, waiting_of, over, takes, no_room, sends, past, after}
use Rattle.rules.specs.Base.{offers_of}
use Rattle.rules.proofs.BaseLaws.{after-past}
use Rattle.rules.proofs.Laws.{run_is}
use Rattle.rules.proofs.Sums.{waiting-total, sends-split, sends-count}
use Rattle.layout.specs.Layout.{run_numbers, capacity_at, period_at, count_at, done_at, block}
use Rattle.layout.specs.Sound.{most_slots, Sound}
use Rattle.guard.specs.Opened.{Opened}
use Rattle.intake.specs.Intakes.{outcome_numbers, share_at, outcomes_of}
use Rattle.intake.specs.declared.Share.{Share}
use Rattle.send.specs.Send.{note_numbers, send_run}
use Rattle.history.specs.Run.{RunReads}
use Rattle.history.specs.After.{moving_of, run_with, run_after, IsRun}
use Rattle.exact.specs.Written.{outcomes_by, notes_of}
use Rattle.exact.specs.Slot as slot
use Rattle.exact.specs.Opened.{blocks-sound, passes}
use Rattle.run.specs.Summed.{sums_of}
use Rattle.run.specs.Brought.{Within, totals_of, brought_fits, brought_much}
use Rattle.run.specs.Why.{capacity_of, period_of, count_of, done_of, Fit, Why, one-why}
use Rattle.run.specs.Slot.{Reply, sent, slot_totals, taken_in, Refuses, Runs, Slots, Same, one-slot}
use Rattle.run.specs.ByRules.{tally_by, Done, Fitting, ByRules, FollowsRules}
use Rattle.run.specs.declared.tally.Tally.{Tally}

-- the run after t slots of any offers, and the slot that follows
module _ (sheet : Sheet) (made : WellMade sheet) (told : ℕ → List ℕ) (t : ℕ) (rest run : List ℕ) (is : run ≡ run_with sheet (past sheet told t) ++ rest) (few : t ≤ most_slots) where
  reads : RunReads sheet t (moving_of sheet (past sheet told t)) rest run
  reads = slot.run_with_reads sheet made told t rest run is

  sound : (i : ℕ) → i < session_count sheet → Sound (block run i) sheet.period t
  sound = blocks-sound sheet made told t rest run is few

  -- the head's numbers
  capacity-is : capacity_of run ≡ sheet.capacity
  capacity-is = reads.head capacity_at (omega arith)

  period-is : period_of run ≡ sheet.period
  period-is = reads.head period_at (omega arith)

  sessions_are : count_of run ≡ session_count sheet
  sessions_are = reads.head count_at (omega arith)

  done-is : done_of run ≡ t
  done-is = reads.head done_at (omega arith)

  -- THE SUMS
  sums_are : sums_of run (told t) (count_of run)
      ≡ record {
        offered = total (λ i. get_or (told t) i 0) (session_count sheet);
        taken_in = total (λ i. takes sheet (past sheet told t) i (get_or (told t) i 0)) (session_count sheet);
        over = total (λ i. over sheet (past sheet told t) i (get_or (told t) i 0)) (session_count sheet);
        no_room = total (λ i. no_room sheet (past sheet told t) i (get_or (told t) i 0)) (session_count sheet);
        waiting = length (past sheet told t).waiting;
      }
  sums_are =
      let n = session_count sheet in
      let share = slot.shares_are sheet made told t rest run is sound in
      rw (
        sessions_are,
        total_cong (λ i. (share_at run (told t) i).taken) (λ i. takes sheet (past sheet told t) i (get_or (told t) i 0)) n (λ i h. ap (λ (x : Share). x.taken) (share i h)),
        total_cong (λ i. (share_at run (told t) i).over) (λ i. over sheet (past sheet told t) i (get_or (told t) i 0)) n (λ i h. ap (λ (x : Share). x.over) (share i h)),
        total_cong (λ i. (share_at run (told t) i).no_room) (λ i. no_room sheet (past sheet told t) i (get_or (told t) i 0)) n (λ i h. ap (λ (x : Share). x.no_room) (share i h)),
        total_cong _ (waiting_of (past sheet told t)) n (slot.waits_are sheet made told t rest run is sound) ∙ waiting-total sheet told t,
      )

  -- THE TALLY
  pub totals_are : (tally : Tally) → slot_totals run (told t) tally ≡ tally_by sheet (past sheet told t) (told t) tally
  totals_are tally =
      ap₂ (totals_of tally) sums_are capacity-is
      ∙ rw (sym (sends-count sheet told t)) (ap (λ k. with_waiting k) left)
    where
      with_waiting : ℕ → Tally
      with_waiting k = record {
        offered = tally.offered + total (λ i. get_or (told t) i 0) (session_count sheet);
        taken_in = tally.taken_in + total (λ i. takes sheet (past sheet told t) i (get_or (told t) i 0)) (session_count sheet);
        over = tally.over + total (λ i. over sheet (past sheet told t) i (get_or (told t) i 0)) (session_count sheet);
        no_room = tally.no_room + total (λ i. no_room sheet (past sheet told t) i (get_or (told t) i 0)) (session_count sheet);
        sent = tally.sent + length (sends sheet (past sheet told t) (told t)).0;
        waiting = k;
      }

      left : length (past sheet told t).waiting + total (λ i. takes sheet (past sheet told t) i (get_or (told t) i 0)) (session_count sheet) - length (sends sheet (past sheet told t) (told t)).0
          ≡ length (sends sheet (past sheet told t) (told t)).1
      left = omega (arith, sends-split sheet told t)

  -- the intake of the machine's definition
  taken_is : taken_in run (told t) ≡ slot.taken sheet made told t rest run is sound
  unfolding slot.taken
  taken_is = rw (period-is, done-is, sessions_are)

-- a history with one slot more, as a sequence
module _ (sheet : Sheet) (history : List (List ℕ)) (offers : List ℕ) where
  abbrev longer : List (List ℕ)
  longer = history ++ (offers ∷ [])

  abbrev told : ℕ → List ℕ
  told = offers_of longer

  told_is : told (length history) ≡ offers
  told_is = get_or_at history offers [] [] (length history) refl

  before-is : past sheet told (length history) ≡ after sheet history
  before-is =
      sym (after-past sheet longer (length history) (omega (arith, length-append history (offers ∷ []))))
      ∙ ap (after sheet) (take_at history (offers ∷ []) (length history) refl)

  after_is : past sheet told (suc (length history)) ≡ after sheet longer
  after_is =
      let n : length longer ≡ suc (length history) = omega (arith, length-append history (offers ∷ [])) in
      ap (past sheet told) (sym n) ∙ sym (run_is sheet longer)

module _ (run offers outcomes notes : List ℕ) (tally : Tally) (run' outcomes' notes' : List ℕ) (tally' : Tally) (reply : Reply) (s : Slots run offers outcomes notes tally run' outcomes' notes' tally' reply)
    (sheet : Sheet) (made : WellMade sheet) (history : List (List ℕ)) (most : length history ≤ most_slots) (is : IsRun sheet history run) where
  abbrev t : ℕ
  t = length history

  abbrev offered : ℕ → List ℕ
  offered = told sheet history offers

  abbrev rest : List ℕ
  rest = drop run_numbers run

  is-past : run ≡ run_with sheet (past sheet offered t) ++ rest
  unfolding run_after
  is-past = is ∙ ap (λ p. run_with sheet p ++ rest) (sym (before-is sheet history offers))

  opened : Opened run
  opened = passes sheet made offered t rest run is-past most

  sessions : count_of run ≡ session_count sheet
  sessions = sessions_are sheet made offered t rest run is-past most

  capacity : capacity_of run ≡ sheet.capacity
  capacity = capacity-is sheet made offered t rest run is-past most

  done : done_of run ≡ t
  done = done-is sheet made offered t rest run is-past most

  size : run_numbers ≤ length run
  size = omega (arith, (reads sheet made offered t rest run is-past most).size)

  totals : slot_totals run offers tally ≡ tally_by sheet (after sheet history) offers tally
  totals =
      ap (λ (o : List ℕ). slot_totals run o tally) (sym (told_is sheet history offers))
      ∙ totals_are sheet made offered t rest run is-past most tally
      ∙ ap₂ (λ (p : Past) (o : List ℕ). tally_by sheet p o tally) (before-is sheet history offers) (told_is sheet history offers)

  -- by the number of the refusal
  refuses : (number : ℕ) → number ≢ 0 → Why run offers (length outcomes) (length notes) number → Refuses number run outcomes notes tally run' outcomes' notes' tally' reply
  refuses number n w =
      let e = one-why run offers (length outcomes) (length notes) s.why number s.because w in
      subst (λ k. Refuses k run outcomes notes tally run' outcomes' notes' tally' reply) e (s.refuses (λ z. n (sym e ∙ z)))

  fit : Fitting sheet history run offers outcomes notes tally run' outcomes' notes' tally' reply → t < most_slots → Fit run offers (length outcomes) (length notes)
  fit f less = record {
    size = size;
    opened = opened;
    offered = f.offered ∙ sym sessions;
    outs_fit = rw sessions f.outcomes-fit;
    sents_fit = rw capacity f.notes-fit;
    left = omega (arith, done);
  }

  no_why : Fit run offers (length outcomes) (length notes) → s.why ≡ 0
  no_why f = one-why run offers (length outcomes) (length notes) s.why 0 s.because (Why.none f)

  -- THE SLOT, where the machine's is done
  slot-done : Fitting sheet history run offers outcomes notes tally run' outcomes' notes' tally' reply
      → Runs (capacity_of run) run offers outcomes notes (slot_totals run offers tally) run' outcomes' notes' tally' reply
      → Done sheet history run offers outcomes notes tally run' outcomes' notes' tally' reply
  unfolding run_after
  slot-done f r =
      let up : t + 1 ≡ suc t = omega arith in
      let o = told_is sheet history offers in
      let p = before-is sheet history offers in
      let sound-run = sound sheet made offered t rest run is-past most in
      let taken : taken_in run offers ≡ slot.taken sheet made offered t rest run is-past sound-run =
      ap (taken_in run) (sym o) ∙ taken_is sheet made offered t rest run is-past most in
      record {
        answers =
            r.answers
            ∙ ap sent (rw (taken, sessions, capacity) (slot.count-is sheet made offered t rest run is-past sound-run) ∙ ap₂ (λ (q : Past) (l : List ℕ). length (sends sheet q l).0) p o);
        run_is =
            r.run_is
            ∙ rw (taken, sessions, capacity, done) (ap (λ k. set (send_run (slot.taken sheet made offered t rest run is-past sound-run) (session_count sheet) sheet.capacity) done_at k) up ∙ slot.run_is sheet made offered t rest run is-past sound-run)
            ∙ ap (λ (q : Past). run_with sheet q ++ rest) (after_is sheet history offers);
        outcomes_are =
            r.outcomes_are
            ∙ ap₂ (λ (l : List ℕ) (n : ℕ). outcomes_of run l outcomes n) (sym o) sessions
            ∙ slot.outcomes_are sheet made offered t rest run is-past sound-run outcomes f.outcomes-fit
            ∙ ap₂ (λ (q : Past) (l : List ℕ). outcomes_by sheet q l ++ drop (outcome_numbers * session_count sheet) outcomes) p o;
        notes_are =
            r.notes_are
            ∙ rw (taken, sessions, capacity) (slot.notes_are sheet made offered t rest run is-past sound-run notes f.notes-fit)
            ∙ ap₂ (λ (q : Past) (l : List ℕ). notes_of (sends sheet q l).0 ++ drop (note_numbers * length (sends sheet q l).0) notes) p o;
        tally-is = r.tally-is ∙ totals;
      }

  pub by-rules : ByRules sheet history run offers outcomes notes tally run' outcomes' notes' tally' reply
  by-rules = record {
    amiss = λ n. refuses 15 (omega arith) (Why.amiss size opened (λ e. n (e ∙ sessions)));
    scant = λ e d. refuses 16 (omega arith) (Why.scant size opened (e ∙ sym sessions) (scarce d));
    spent = λ f e. refuses 17 (omega arith) (Why.spent size opened (f.offered ∙ sym sessions) (rw sessions f.outcomes-fit) (rw capacity f.notes-fit) (done ∙ e));
    too_much = λ f less n. s.too_much (no_why (fit f less)) (brought_much tally (sums_of run offers (count_of run)) (capacity_of run) (λ w. n (subst Within totals w)));
    done = λ f less w. slot-done f (s.fits (no_why (fit f less)) (slot_totals run offers tally) (brought_fits tally (sums_of run offers (count_of run)) (capacity_of run) (subst Within (sym totals) w)));
  }
    where
      scarce : (length outcomes < outcome_numbers * session_count sheet) ⊎ (length notes < note_numbers * sheet.capacity)
          → (length outcomes < outcome_numbers * count_of run) ⊎ (length notes < note_numbers * capacity_of run)
      scarce (inl a) = inl (omega (arith, ap (λ n. outcome_numbers * n) sessions))
      scarce (inr a) = inr (omega (arith, ap (λ n. note_numbers * n) capacity))

-- WHAT A SLOT PROMISES, at both levels
pub record Promises (run offers outcomes notes : List ℕ) (tally : Tally) (run' outcomes' notes' : List ℕ) (tally' : Tally) (reply : Reply) : Type 0 where
  pub machine : Slots run offers outcomes notes tally run' outcomes' notes' tally' reply
  pub rules : FollowsRules run offers outcomes notes tally run' outcomes' notes' tally' reply

-- THE THEOREM: the second follows from the first
pub promises : {run offers outcomes notes : List ℕ} {tally : Tally} {run' outcomes' notes' : List ℕ} {tally' : Tally} {reply : Reply}
    → Slots run offers outcomes notes tally run' outcomes' notes' tally' reply → Promises run offers outcomes notes tally run' outcomes' notes' tally' reply
promises s = record { machine = s; rules = by-rules _ _ _ _ _ _ _ _ _ _ s }

-- ONE ANSWER: two calls on the same input that both keep the promise answer and leave the same
pub one-promise : (run offers outcomes notes : List ℕ) (tally : Tally) (r r' o o' n n' : List ℕ) (t t' : Tally) (a a' : Reply)
    → Promises run offers outcomes notes tally r o n t a → Promises run offers outcomes notes tally r' o' n' t' a' → Same r r' o o' n n' t t' a a'
one-promise run offers outcomes notes tally r r' o o' n n' t t' a a' x y = one-slot run offers outcomes notes tally r r' o o' n n' t t' a a' x.machine y.machine
