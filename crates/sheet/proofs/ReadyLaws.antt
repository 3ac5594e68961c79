-- Laws of specs/Ready.antt. What may be taken for granted once the sheet has been read: where its sessions lie, and that they are well made. Assumes nothing.
use Rattle.std.specs.Prelude.{◌≡◌, Ok, List, ℕ, ◌≤◌, ◌<◌, length, get_or, drop}
use Rattle.std.proofs.Common.{sym, ap, ◌∙◌, arith, length-drop}
use Rattle.sheet.specs.Limits.{most_capacity, most_sessions, longest_period}
use Rattle.sheet.specs.Sheet.{session, session_count, WellMadeSession}
use Rattle.sheet.specs.Bytes.{record_bytes, session_of, sheet_of}
use Rattle.sheet.specs.Starts.{start_of}
use Rattle.sheet.proofs.StartsLaws.{count-is, session-at, start_fits}
use Rattle.sheet.specs.Makes.{AllBytes}
use Rattle.sheet.proofs.MakesLaws.{makes}
use Rattle.sheet.specs.Told.{Reads}
use Rattle.sheet.proofs.TellsLaws.{read_tells}
use Rattle.sheet.proofs.WalkLaws.{from-here}
use Rattle.sheet.specs.declared.Reading.{Reading}
use Rattle.sheet.specs.Ready.{Ready, on_from}

-- so it is when the reader says so
pub ready_from : (bytes : List ℕ) (r : Reading) → AllBytes bytes → Reads bytes (Ok r) → Ready bytes r.starts r.count r.capacity.0 r.period.0
ready_from bytes r all w =
    let t = read_tells bytes r w in
    record {
      reads = t.reads;
      made = makes bytes all t.reads;
      count-is = t.count;
      capacity = t.capacity;
      period = t.period-is;
      sixteen = w.sixteen;
      each = t.each;
    }

-- a sheet that reads
module _ (bytes starts : List ℕ) (count c P : ℕ) (r : Ready bytes starts count c P) where
  pub period-is : P ≡ (sheet_of bytes).period
  unfolding sheet_of
  period-is = r.period

  pub capacity-is : c ≡ (sheet_of bytes).capacity
  unfolding sheet_of
  capacity-is = r.capacity

  pub sessions_are : count ≡ session_count (sheet_of bytes)
  sessions_are = r.count-is ∙ sym (count-is bytes)

  -- its numbers are small
  pub some-period : 1 ≤ P
  some-period = omega (arith, period-is, r.made.some-period)

  pub few-slots : P ≤ longest_period
  few-slots = omega (arith, period-is, r.made.period)

  pub some-sessions : 1 ≤ count
  some-sessions = omega (arith, sessions_are, r.made.some-session)

  pub few-sessions : count ≤ most_sessions
  few-sessions = omega (arith, sessions_are, r.made.few)

  pub some-packets : 1 ≤ c
  some-packets = omega (arith, capacity-is, r.made.some-capacity)

  pub few-packets : c ≤ most_capacity
  few-packets = omega (arith, capacity-is, r.made.capacity)

  pub made_at : (i : ℕ) → i < count → WellMadeSession P (session (sheet_of bytes) i)
  made_at i h = rw period-is (r.made.each i (omega (arith, sessions_are)))

  module _ (i : ℕ) (h : i < count) where
    pub below-most : i < most_sessions
    below-most = omega (arith, few-sessions)

    -- session i starts within the bytes
    pub start-inside : get_or starts i 0 ≤ length bytes
    start-inside = omega (arith, r.each i h, start_fits bytes r.reads i (omega (arith, r.count-is)))

    pub rest-is : on_from bytes (get_or starts i 0) ≡ drop (start_of bytes i) bytes
    rest-is = from-here bytes (get_or starts i 0) ∙ ap (λ k. drop k bytes) (r.each i h)

    -- its bytes are all there
    pub rest-fits : record_bytes (on_from bytes (get_or starts i 0)) ≤ length (on_from bytes (get_or starts i 0))
    rest-fits =
        let at = start_of bytes i in
        rw rest-is (omega (arith, length-drop at bytes, start_fits bytes r.reads i (omega (arith, r.count-is))))

    -- it is the sheet's
    pub session-there : session_of (on_from bytes (get_or starts i 0)) ≡ session (sheet_of bytes) i
    session-there = ap session_of rest-is ∙ sym (session-at bytes i (omega (arith, r.count-is)))

    pub rest-made : WellMadeSession P (session_of (on_from bytes (get_or starts i 0)))
    rest-made = rw session-there (made_at i h)
