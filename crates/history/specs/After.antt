-- THE RUN AFTER A HISTORY: what each of the 12,288 numbers is, as a function of the sheet and of all the slots so far. Definitions alone.
use Rattle.std.specs.Prelude.{◌≡◌, true, false, List, ◌++◌, ℕ, zero, suc, ◌%◌, leb, eqb, length, drop}
use Rattle.curve.specs.Total.{total}
use Rattle.curve.specs.Curve.{Curve, at}
use Rattle.curve.specs.Delay.{Due, slots_of, delay}
use Rattle.sheet.specs.Sheet.{Session, Sheet, session}
use Rattle.rules.specs.Count.{count_all}
use Rattle.rules.specs.Deadline.{deadline}
use Rattle.rules.specs.Model.{Past, took, of_session, listed, after}
use Rattle.rules.specs.Ahead.{ahead}
use Rattle.layout.specs.Layout.{run_numbers, ring}
use Rattle.history.specs.Image.{Moving, run_of}

-- what lies ahead of a curve after t slots: ahead_t(1), .., ahead_t(n)
unfoldable pub ahead_table : ℕ → Curve → (ℕ → ℕ) → ℕ → List ℕ
ahead_table P F A t = listed (λ j. ahead (at P F) A t (suc j)) (length F.table)

-- the deadline of packet N, by the slot that took it in: slot u + 1, where A(u) < N. With a j packets taken in during slot j + 1
unfoldable pub due_of : (ℕ → Due) → (ℕ → ℕ) → ℕ → ℕ → ℕ
due_of D a N zero = 0
due_of D a N (suc u) = elim (leb N (total a u)) [ true ↦ due_of D a N u | false ↦ slots_of (deadline D a N (suc u)) ]

-- of A packets, the one whose deadline was written last at place j of the ring: the largest N with (N-1) mod 256 = j, or 0 where there is none
unfoldable pub last_at : ℕ → ℕ → ℕ
last_at zero j = 0
last_at (suc A) j = elim (eqb (A % ring) j) [ true ↦ suc A | false ↦ last_at A j ]

-- the ring of deadlines after t slots; 0 where none was written yet
unfoldable pub ring_of : (ℕ → Due) → (ℕ → ℕ) → ℕ → List ℕ
ring_of D a t = listed (λ j. due_of D a (last_at (total a t) j) t) ring

-- what changes in a session's block, after t slots that took in a 0, .., a (t-1) of its packets, with so many sent
abbrev pub moving_at : ℕ → Session → (ℕ → ℕ) → ℕ → ℕ → Moving
moving_at P s a sent t =
    record {
      taken = total a t;
      sent = sent;
      service-ahead = ahead_table P s.service (total a) t;
      envelope-ahead = ahead_table P s.envelope (total a) t;
      deadlines = ring_of (delay P s.service) a t;
    }

-- of session i in a past
abbrev pub moving_of : Sheet → Past → ℕ → Moving
moving_of sheet p i = moving_at sheet.period (session sheet i) (took p.taken i) (count_all (of_session i) p.sent) (length p.taken)

-- the run with this past
unfoldable pub run_with : Sheet → Past → List ℕ
run_with sheet p = run_of sheet (length p.taken) (moving_of sheet p)

-- THE RUN after a history of offers, the oldest slot first
unfoldable pub run_after : Sheet → List (List ℕ) → List ℕ
run_after sheet history = run_with sheet (after sheet history)

-- a slice is the run after a history: its first 12,288 numbers are; those past them are no part of it
abbrev pub IsRun : Sheet → List (List ℕ) → List ℕ → Type 0
IsRun sheet history run = run ≡ run_after sheet history ++ drop run_numbers run
