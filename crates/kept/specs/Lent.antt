-- What a call of `slot` asks to be lent, so that it is answered; and a tally that began at zero with its run. Definitions alone.
use Rattle.std.specs.Prelude.{List, ◌≡◌, ℕ, suc, ◌+◌, ◌*◌, ◌≤◌, ◌<◌, length}
use Rattle.sheet.specs.Sheet.{Sheet, session_count}
use Rattle.sheet.specs.Bytes.{sheet_of}
use Rattle.rules.specs.Model.{past}
use Rattle.intake.specs.Intakes.{outcome_numbers}
use Rattle.send.specs.Send.{note_numbers}
use Rattle.run.specs.Brought.{Within}
use Rattle.run.specs.ByRules.{tally_by}
use Rattle.run.specs.Slot.{Reply}
use Rattle.run.specs.Exact.{Promises}
use Rattle.run.specs.declared.tally.Tally.{Tally}
use Rattle.kept.specs.Calls.{Between, Calls}

module _ (bytes : List ℕ) (n : ℕ) (c : Calls bytes n) where
  abbrev sheet : Sheet
  sheet = sheet_of bytes

  -- a tally with room for slot n + 1 with these offers: each of the five totals that are added to, with what the slot adds to it, is at most 4,294,967,295
  abbrev pub TallyRoom : List ℕ → Tally → Type 0
  TallyRoom offers tally = Within (tally_by sheet (past sheet c.offers n) offers tally)

  -- ONE CALL MORE of `slot`, lent what it asks: one offer for each session, large enough slices, and a tally with room. Refused calls may stand before it, and of its reply nothing
  -- is known but the contract
  pub record Lent : Type 0 where
    pub run : List ℕ
    pub offers : List ℕ
    pub outcomes : List ℕ
    pub notes : List ℕ
    pub tally : Tally
    pub run' : List ℕ
    pub outcomes' : List ℕ
    pub notes' : List ℕ
    pub tally' : Tally
    pub reply : Reply
    pub between : Between (c.left n) run
    pub slot : Promises run offers outcomes notes tally run' outcomes' notes' tally' reply
    pub offered : length offers ≡ session_count sheet
    pub outcomes-fit : outcome_numbers * session_count sheet ≤ length outcomes
    pub notes-fit : note_numbers * sheet.capacity ≤ length notes
    pub tally-fits : TallyRoom offers tally

  -- A TALLY THAT BEGAN AT ZERO with its run and went to each slot. What slot n left stands at n
  pub record FromZero : Type 0 where
    pub begins : c.tally 0 ≡ record { offered = 0; taken_in = 0; over = 0; no_room = 0; sent = 0; waiting = 0 }
    pub goes_on : (u : ℕ) → u < n → c.tally (suc u) ≡ c.tally' u

-- a tally adds up: offered = taken in + over + no room, and taken in = sent + waiting
pub record AddsUp (t : Tally) : Type 0 where
  pub offers : t.offered ≡ t.taken_in + t.over + t.no_room
  pub packets : t.taken_in ≡ t.sent + t.waiting
