-- What the functions that print say: which text they put into the page for which answer of the library. Definitions alone.
use Rattle.std.specs.Prelude.{◌≡◌, List, ℕ, ◌+◌, ◌≤◌, length, get_or}
use Rattle.std.specs.declared.result.Result.{Result}
use Rattle.std.specs.declared.result.Result.TheVariants.{Ok, Err}
use Rattle.curve.specs.declared.Slots.{Slots}
use Rattle.sheet.specs.Bytes.{count_of}
use Rattle.verdict.specs.Verdict.{Says, passed, Figures}
use Rattle.layout.specs.Layout.{done_at}
use Rattle.opening.specs.Open.{Opens, Answer, opened, refused}
use Rattle.run.specs.Slot.{told}
use Rattle.run.specs.Exact.{Promises}
use Rattle.run.specs.declared.tally.Tally.{Tally}
use Rattle.console.specs.Text.{line_bytes, refused_line}
use Rattle.console.specs.Put.{Put}
use Rattle.slotrun.specs.Text.{passed_line, slot_text, refusal_of}
use Rattle.refusal.specs.Numbers.{number_of}
use Rattle.refusal.specs.declared.Refusal.{Refusal}
use Rattle.slotrun.specs.declared.slots.Over.{Over}

-- the lines of a slot take no more than this
abbrev pub slot_bytes : ℕ
slot_bytes = 16384

-- A SLOT: it is done on the run and the tally, with slices that are long enough for every sheet, and its text stands in the page
pub record Shows (run offers : List ℕ) (before : Tally) (page run' : List ℕ) (after : Tally) (page' : List ℕ) (ended : Result Unit Over) : Type 0 where
  pub outcomes : List ℕ
  pub outcomes' : List ℕ
  pub notes : List ℕ
  pub notes' : List ℕ
  pub answer : Result ℕ Refusal
  pub outcomes-fit : 48 ≤ length outcomes
  pub notes-fit : 192 ≤ length notes
  pub does : Promises run offers outcomes notes before run' outcomes' notes' after (told answer)
  pub puts : Put page (slot_text (get_or run' done_at 0) notes' (told answer)) page'
  pub ends : ended ≡ refusal_of answer
  pub fits : length page' ≤ length page + slot_bytes

-- the first line of a run that is opened: the verdict's slack and slot count, and the figures of the sessions
pub record Opened (bytes page page' : List ℕ) (count : ℕ) : Type 0 where
  pub slack : ℕ
  pub t : ℕ
  pub figures : List Slots
  pub says : Says bytes (passed slack t)
  pub figures_are : Figures bytes figures
  pub puts : Put page (passed_line slack t figures (count_of bytes)) page'
  pub count-is : count ≡ count_of bytes
  pub fits : length page' ≤ length page + line_bytes

-- and the one line of a sheet that can't be run
pub record Told (number place : ℕ) (page page' : List ℕ) (n p : ℕ) : Type 0 where
  pub puts : Put page (refused_line number place) page'
  pub number_is : n ≡ number
  pub place_is : p ≡ place
  pub fits : length page' ≤ length page + line_bytes

abbrev pub FirstIs : Answer → List ℕ → List ℕ → List ℕ → Result ℕ Refusal → Type 0
FirstIs opened bytes page page' (Ok count) = Opened bytes page page' count
FirstIs opened bytes page page' (Err refusal) = ⊥
FirstIs (refused number place) bytes page page' (Ok count) = ⊥
FirstIs (refused number place) bytes page page' (Err refusal) = Told number place page page' (number_of refusal.cause) refusal.place

-- THE FIRST LINE, for what opening answers
pub record Begins (bytes run page run' page' : List ℕ) (f : Result ℕ Refusal) : Type 0 where
  pub answer : Answer
  pub opens : Opens bytes run run' answer
  pub first : FirstIs answer bytes page page' f
