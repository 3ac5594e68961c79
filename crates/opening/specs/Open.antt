-- What `open` answers and leaves in the run, for any bytes and any slice: the refusals 13, 1 to 11 and 12 with their places, or the run before slot 1. Assumes nothing.
use Rattle.std.specs.Prelude.{◌≡◌, Result, Ok, Err, List, [], ◌++◌, ℕ, ◌≤◌, ◌<◌, length, drop}
use Rattle.refusal.specs.Numbers.{number_of}
use Rattle.refusal.specs.declared.Refusal.{Refusal}
use Rattle.sheet.specs.Bytes.{sheet_of}
use Rattle.verdict.specs.Verdict.{Case, passed, failed, unreadable, Says}
use Rattle.layout.specs.Layout.{run_numbers}
use Rattle.history.specs.After.{run_after}

-- opened, or a refusal's number and place
pub data Answer : Type 0 where
  opened : Answer
  refused : ℕ → ℕ → Answer

abbrev pub told : Result Unit Refusal → Answer
told (Ok _) = opened
told (Err r) = refused (number_of r.cause) r.place

-- by the verdict on the sheet: the reading's refusal, 12 with the least failing slot count, or opened
abbrev pub answer_by : Case → Answer
answer_by (passed slack t) = opened
answer_by (failed t) = refused 12 t
answer_by (unreadable number place) = refused number place

-- the run after the empty history, before slot 1 with nothing taken in; a refused call leaves the slice as it was. Numbers past the run stay in any case
abbrev pub run_by : Case → List ℕ → List ℕ → List ℕ
run_by (passed slack t) bytes run = run_after (sheet_of bytes) [] ++ drop run_numbers run
run_by (failed t) bytes run = run
run_by (unreadable number place) bytes run = run

-- OPEN: 13 first, then what the verdict says
pub record Opens (bytes run after : List ℕ) (answer : Answer) : Type 0 where
  pub too_short : length run < run_numbers → (answer ≡ refused 13 0) × (after ≡ run)
  pub long-enough : run_numbers ≤ length run → (v : Case) → Says bytes v → (answer ≡ answer_by v) × (after ≡ run_by v bytes run)
