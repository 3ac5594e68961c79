-- Laws of specs/Makes.antt. Bytes that read give a sheet within all of document 01's limits, so that what stands on a sheet may take its limits for granted. Assumes nothing.
use Rattle.std.specs.Prelude.{◌≡◌, List, ℕ, ◌+◌, ◌*◌, ◌≤◌, ◌<◌, length, take, drop}
use Rattle.std.proofs.Common.{arith, length-take, length-drop, get_or-drop}
use Rattle.words.specs.Words.{byte_at, words, length-words}
use Rattle.sheet.specs.Limits.{fixed_bytes}
use Rattle.sheet.specs.Refusal.{none, Clear}
use Rattle.sheet.proofs.RefusalLaws.{clear-append}
use Rattle.sheet.specs.Sheet.{session, session_count, WellMadeSession, WellMade}
use Rattle.sheet.specs.Bytes.{count_of, period_of, service_length, envelope_length, envelope_place, record_bytes, session_of, sheet_of}
use Rattle.sheet.specs.Reading.{field_lines, table_lines, tables_lines, session_lines, reading}
use Rattle.sheet.specs.Clears.{FieldsRead}
use Rattle.sheet.proofs.ClearsLaws.{clear-head, clear-fields, clear-curve}
use Rattle.sheet.specs.Starts.{start_of}
use Rattle.sheet.proofs.StartsLaws.{count-is, session-at, clear-parts, clear_at}
use Rattle.sheet.specs.Makes.{AllBytes}

-- a table whose bytes are all there has as many values as the record says
pub length-table : (rest : List ℕ) (from n : ℕ) → from + 2 * n ≤ length rest → length (words (take (2 * n) (drop from rest))) ≡ n
length-table rest from n h =
    rw (length-words (take (2 * n) (drop from rest)), length-take (2 * n) (drop from rest), length-drop from rest) (omega arith)

-- a session whose record is all there has the tables that its lengths say
module _ (rest : List ℕ) (all : record_bytes rest ≤ length rest) where
  pub service-length : length (session_of rest).service.table ≡ service_length rest
  unfolding session_of
  service-length = length-table rest fixed_bytes (service_length rest) (omega arith)

  pub envelope-length : length (session_of rest).envelope.table ≡ envelope_length rest
  unfolding session_of
  envelope-length = length-table rest (envelope_place rest) (envelope_length rest) all

module _ (P : ℕ) (rest : List ℕ) (place : ℕ) (e : Clear (session_lines P rest place)) where
  -- the three groups of a session's lines
  pub session-fields : FieldsRead P rest
  unfolding session_lines
  session-fields = clear-fields P rest place (clear-append (field_lines P rest place) _ e).0

  service-clear : Clear (table_lines P (session_of rest).service (place + fixed_bytes) (place + 3))
  unfolding session_lines tables_lines
  service-clear = (clear-append _ _ (clear-append (field_lines P rest place) _ e).1).0

  envelope-clear : Clear (table_lines P (session_of rest).envelope (place + envelope_place rest) (place + 5))
  unfolding session_lines tables_lines
  envelope-clear = (clear-append (table_lines P (session_of rest).service (place + fixed_bytes) (place + 3)) _ (clear-append (field_lines P rest place) _ e).1).1

-- SESSION: one whose lines do not apply is well made. Its room is a byte and one more
pub clear-session : (P : ℕ) (rest : List ℕ) (place : ℕ) → Clear (session_lines P rest place) → 1 ≤ P → byte_at rest 2 < 256 → WellMadeSession P (session_of rest)
unfolding session_of
clear-session P rest place e p byte =
    let f = session-fields P rest place e in
    let n = service-length rest f.all in
    let k = envelope-length rest f.all in
    record {
      service = clear-curve P (session_of rest).service (place + fixed_bytes) (place + 3) p (omega arith) (omega arith) f.service-rate (service-clear P rest place e);
      envelope = clear-curve P (session_of rest).envelope (place + envelope_place rest) (place + 5) p (omega arith) (omega arith) f.envelope-rate (envelope-clear P rest place e);
      promises = f.promises;
      some-room = omega arith;
      room = omega arith;
    }

-- SHEET
pub makes : (bytes : List ℕ) → AllBytes bytes → reading bytes ≡ none → WellMade (sheet_of bytes)
unfolding sheet_of
makes bytes all e =
    let h = clear-head bytes (clear-parts bytes e).0 in
    let count : session_count (sheet_of bytes) ≡ count_of bytes = count-is bytes in
    record {
      some-capacity = h.some-capacity;
      capacity = h.capacity;
      some-period = h.some-period;
      period = h.period;
      some-session = omega arith;
      few = omega arith;
      each = λ i below. each h.some-period i (omega arith);
    }
  where
    each : 1 ≤ period_of bytes → (i : ℕ) → i < count_of bytes → WellMadeSession (period_of bytes) (session (sheet_of bytes) i)
    each p i below =
        let start = start_of bytes i in
        rw (session-at bytes i below)
        (clear-session (period_of bytes) (drop start bytes) start (clear_at bytes e i below) p (rw (get_or-drop start bytes 2 0) (all (start + 2))))
