-- The library's answers as lists of numbers, for callers that know numbers alone. Definitions alone.
use Rattle.std.specs.Prelude.{List, [], ◌∷◌, map, ℕ}
use Rattle.curve.specs.declared.Slots.{Slots}
use Rattle.verdict.specs.Verdict.{Case, passed, failed, unreadable}
use Rattle.opening.specs.Open as opening
use Rattle.run.specs.Slot as slot
use Rattle.run.specs.Totals.{six_totals, tally_of as tally_from}
use Rattle.run.specs.declared.tally.Tally.{Tally}

-- how many numbers an answer to opening or a slot has, a tally, and an answer to judging
abbrev pub answer_numbers : ℕ
answer_numbers = 2

abbrev pub total_numbers : ℕ
total_numbers = 6

abbrev pub judged_numbers : ℕ
judged_numbers = 19

-- 0 and 0, or the refusal's number and place
abbrev pub open_numbers : opening.Answer → List ℕ
open_numbers opening.opened = 0 ∷ 0 ∷ []
open_numbers (opening.refused number place) = number ∷ place ∷ []

-- 0 and how many packets were sent, or the refusal's number and place
abbrev pub slot_numbers : slot.Reply → List ℕ
slot_numbers (slot.sent k) = 0 ∷ k ∷ []
slot_numbers (slot.refused number place) = number ∷ place ∷ []

-- the six totals in 01's order, and back
abbrev pub tally_numbers : Tally → List ℕ
tally_numbers t = six_totals t

abbrev pub tally_of : List ℕ → Tally
tally_of l = tally_from l

-- the case: 0 with slack and slot count, 1 with the failing slot count, 2 with the refusal's number and place
abbrev pub case_numbers : Case → List ℕ
case_numbers (passed slack t) = 0 ∷ slack ∷ t ∷ []
case_numbers (failed t) = 1 ∷ t ∷ 0 ∷ []
case_numbers (unreadable number place) = 2 ∷ number ∷ place ∷ []

-- the figures stand behind the case
abbrev pub figures_at : ℕ
figures_at = 3

abbrev pub figure_numbers : List Slots → List ℕ
figure_numbers figures = map (λ (s : Slots). s.0) figures
