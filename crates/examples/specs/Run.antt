-- A run by the rules, as the numbers of a table's row: slot by slot what it writes for each session and for each packet sent, and what it takes in. Assumes nothing.
use Rattle.std.specs.Prelude.{List, [], ◌∷◌, ◌++◌, ℕ, length}
use Rattle.sheet.specs.Sheet.{Sheet}
use Rattle.rules.specs.Model.{Past, took, taken_in, arrivals, sends, after}
use Rattle.exact.specs.Written.{outcomes_by, notes_of}
use Rattle.examples.specs.Table.{Slot}

-- a slot after a past. Its outcomes and its packets sent are those that the contract of `slot` has it write
unfoldable pub slot_by : Sheet → Past → List ℕ → Slot
slot_by sheet p offers = record {
  outcomes = outcomes_by sheet p offers;
  taken = notes_of (arrivals sheet (took (taken_in sheet p offers)) (length p.taken));
  sent = notes_of (sends sheet p offers).0;
}

-- the slots that follow a history, each after all that came before it
unfoldable pub run_by : Sheet → List (List ℕ) → List (List ℕ) → List Slot
run_by sheet history [] = []
run_by sheet history (offers ∷ rest) = slot_by sheet (after sheet history) offers ∷ run_by sheet (history ++ (offers ∷ [])) rest
