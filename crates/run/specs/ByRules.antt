-- A SLOT BY THE RULES: what a slot answers and leaves where the slice is the run after a history on a sheet. Document 01's rules over the whole history, and the refusals 15 to 18 in their order. Definitions alone.
use Rattle.std.specs.Prelude.{◌≡◌, List, [], ◌∷◌, ◌++◌, ◌≢◌, ◌⊎◌, ℕ, ◌+◌, ◌*◌, ◌≤◌, ◌<◌, length, get_or, drop}
use Rattle.curve.specs.Total.{total}
use Rattle.sheet.specs.Sheet.{Sheet, WellMade, session_count}
use Rattle.rules.specs.Model.{Past, over, takes, no_room, sends, after}
use Rattle.layout.specs.Layout.{run_numbers}
use Rattle.layout.specs.Sound.{most_slots}
use Rattle.history.specs.After.{run_after, IsRun}
use Rattle.intake.specs.Intakes.{outcome_numbers}
use Rattle.send.specs.Send.{note_numbers}
use Rattle.exact.specs.Written.{outcomes_by, notes_of}
use Rattle.run.specs.Brought.{Within}
use Rattle.run.specs.Slot.{Reply, sent, Refuses}
use Rattle.run.specs.declared.tally.Tally.{Tally}

-- THE TALLY: offered, taken in, over, no room and sent are added to; waiting is set
abbrev pub tally_by : Sheet → Past → List ℕ → Tally → Tally
tally_by sheet p offers tally =
    record {
      offered = tally.offered + total (λ i. get_or offers i 0) (session_count sheet);
      taken_in = tally.taken_in + total (λ i. takes sheet p i (get_or offers i 0)) (session_count sheet);
      over = tally.over + total (λ i. over sheet p i (get_or offers i 0)) (session_count sheet);
      no_room = tally.no_room + total (λ i. no_room sheet p i (get_or offers i 0)) (session_count sheet);
      sent = tally.sent + length (sends sheet p offers).0;
      waiting = length (sends sheet p offers).1;
    }

module _ (sheet : Sheet) (history : List (List ℕ)) (run offers outcomes notes : List ℕ) (tally : Tally) (run' outcomes' notes' : List ℕ) (tally' : Tally) (reply : Reply) where
  -- a slot done: the run is that after the history with this slot added; numbers past those written stay
  pub record Done : Type 0 where
    pub answers : reply ≡ sent (length (sends sheet (after sheet history) offers).0)
    pub run_is : run' ≡ run_after sheet (history ++ (offers ∷ [])) ++ drop run_numbers run
    pub outcomes_are : outcomes' ≡ outcomes_by sheet (after sheet history) offers ++ drop (outcome_numbers * session_count sheet) outcomes
    pub notes_are : notes' ≡ notes_of (sends sheet (after sheet history) offers).0 ++ drop (note_numbers * length (sends sheet (after sheet history) offers).0) notes
    pub tally-is : tally' ≡ tally_by sheet (after sheet history) offers tally

  -- a refused slot: nothing changes
  abbrev pub Refused : ℕ → Type 0
  Refused number = Refuses number run outcomes notes tally run' outcomes' notes' tally' reply

  -- neither the offers nor the result slices are amiss
  pub record Fitting : Type 0 where
    pub offered : length offers ≡ session_count sheet
    pub outcomes-fit : outcome_numbers * session_count sheet ≤ length outcomes
    pub notes-fit : note_numbers * sheet.capacity ≤ length notes

  -- each refusal where those before it do not apply; else the slot is done
  pub record ByRules : Type 0 where
    pub amiss : length offers ≢ session_count sheet → Refused 15
    pub scant : length offers ≡ session_count sheet → (length outcomes < outcome_numbers * session_count sheet) ⊎ (length notes < note_numbers * sheet.capacity) → Refused 16
    pub spent : Fitting → length history ≡ most_slots → Refused 17
    pub too_much : Fitting → length history < most_slots → (Within (tally_by sheet (after sheet history) offers tally) → ⊥) → Refused 18
    pub done : Fitting → length history < most_slots → Within (tally_by sheet (after sheet history) offers tally) → Done

-- of every sheet within 01's limits and every history of up to a million slots whose run the slice is
abbrev pub FollowsRules : (run offers outcomes notes : List ℕ) → Tally → (run' outcomes' notes' : List ℕ) → Tally → Reply → Type 0
FollowsRules run offers outcomes notes tally run' outcomes' notes' tally' reply =
    (sheet : Sheet) → WellMade sheet → (history : List (List ℕ)) → length history ≤ most_slots → IsRun sheet history run
    → ByRules sheet history run offers outcomes notes tally run' outcomes' notes' tally' reply
