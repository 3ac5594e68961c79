-- A run as its caller sees it: one call of `open` that answered opened, then calls of `slot` that answered, with any refused calls between them. Each is given with what it was
-- lent and what it left, and nothing is known of it but its contract. Definitions alone.
use Rattle.std.specs.Prelude.{List, ℕ, suc, ◌+◌, ◌*◌, ◌<◌, eqb, get_or}
use Rattle.curve.specs.Total.{total}
use Rattle.sheet.specs.Makes.{AllBytes}
use Rattle.rules.specs.Count.{ind}
use Rattle.intake.specs.Intakes.{taken_outcome, over_outcome, no_room_outcome}
use Rattle.send.specs.Send.{note_numbers, session_at, packet_at, deadline_at}
use Rattle.opening.specs.Open.{Opens, opened, refused as notOpened}
use Rattle.run.specs.Slot.{sent, refused}
use Rattle.run.specs.Exact.{Promises}
use Rattle.run.specs.declared.tally.Tally.{Tally}

-- REFUSED CALLS, any number of them, one after the other on a slice: slots with any offers, slices, tally and refusal, and openings with any bytes and refusal. The first found
-- the slice as `was`, and the last left it as `is`
pub data Between (was : List ℕ) : (is : List ℕ) → Type 0 where
  none : Between was was
  slot : {found offers outcomes notes : List ℕ} {tally : Tally} {is outcomes' notes' : List ℕ} {tally' : Tally} {number place : ℕ} → Between was found
      → Promises found offers outcomes notes tally is outcomes' notes' tally' (refused number place)
      → Between was is
  opening : {found bytes is : List ℕ} {number place : ℕ} → Between was found → AllBytes bytes → Opens bytes found is (notOpened number place) → Between was is

-- CALLS: n slots on a sheet's bytes. What slot u + 1 was lent and left stands at u
pub record Calls (bytes : List ℕ) (n : ℕ) : Type 0 where
  pub start : List ℕ
  -- the run's slice as slot u + 1 found it, and as slot u left it; `left 0` is as the opening left it
  pub run : ℕ → List ℕ
  pub left : ℕ → List ℕ
  pub offers : ℕ → List ℕ
  pub outcomes : ℕ → List ℕ
  pub outcomes' : ℕ → List ℕ
  pub notes : ℕ → List ℕ
  pub notes' : ℕ → List ℕ
  pub tally : ℕ → Tally
  pub tally' : ℕ → Tally
  -- how many packets slot u + 1 answered that it sent
  pub sent_count : ℕ → ℕ
  -- the sheet and the offers are bytes
  pub bytes_are : AllBytes bytes
  pub offers_are : (u : ℕ) → u < n → AllBytes (offers u)
  -- the contracts of `open`, which answered opened, and of each `slot`, which answered a number; before each slot refused calls may stand
  pub opens : Opens bytes start (left 0) opened
  pub between : (u : ℕ) → u < n → Between (left u) (run u)
  pub slots : (u : ℕ) → u < n → Promises (run u) (offers u) (outcomes u) (notes u) (tally u) (left (suc u)) (outcomes' u) (notes' u) (tally' u) (sent (sent_count u))

module _ (bytes : List ℕ) (n : ℕ) (c : Calls bytes n) where
  -- what slot u + 1 offered to session i, and what it wrote of it: taken in, over, no room
  abbrev pub offered_in : ℕ → ℕ → ℕ
  offered_in i u = get_or (c.offers u) i 0

  abbrev pub took_in : ℕ → ℕ → ℕ
  took_in i u = get_or (c.outcomes' u) (taken_outcome i) 0

  abbrev pub over_in : ℕ → ℕ → ℕ
  over_in i u = get_or (c.outcomes' u) (over_outcome i) 0

  abbrev pub no_room_in : ℕ → ℕ → ℕ
  no_room_in i u = get_or (c.outcomes' u) (no_room_outcome i) 0

  -- its j-th note, from 0: session, packet, deadline
  abbrev pub note_session : ℕ → ℕ → ℕ
  note_session u j = get_or (c.notes' u) (note_numbers * j + session_at) 0

  abbrev pub note_packet : ℕ → ℕ → ℕ
  note_packet u j = get_or (c.notes' u) (note_numbers * j + packet_at) 0

  abbrev pub note_deadline : ℕ → ℕ → ℕ
  note_deadline u j = get_or (c.notes' u) (note_numbers * j + deadline_at) 0

  -- packets of session i among its first k notes, and among all
  abbrev pub noted_first : ℕ → ℕ → ℕ → ℕ
  noted_first i u = total (λ j. ind (eqb (note_session u j) (suc i)))

  abbrev pub sent_in : ℕ → ℕ → ℕ
  sent_in i u = noted_first i u (c.sent_count u)
