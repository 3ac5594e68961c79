-- The bytes of a sheet within document 01's limits read, and they give that very sheet: the reader refuses no sheet that it should take, and mixes up no two. Assumes nothing.
use Rattle.std.specs.Prelude.{◌≡◌, List, [], ◌∷◌, ◌++◌, ℕ, ◌+◌, ◌*◌, ◌≤◌, take, drop}
use Rattle.std.proofs.Math.Path.{refl, sym, ap}
use Rattle.std.proofs.Common.{◌∙◌, append_assoc, le-ltb, take_at, drop_at, drop-drop}
use native.Mathlib.Omega.{arith}
use Rattle.std.proofs.Math.ListN.{length, length-append}
use Rattle.words.specs.Words.{words}
use Rattle.words.specs.Written.{each_two, length-each_two, words-each_two}
use Rattle.sheet.specs.Limits.{head_bytes, fixed_bytes}
use Rattle.sheet.specs.Refusal.{none, Clear}
use Rattle.sheet.proofs.RefusalLaws.{clear-nil, next-clear, append-clear}
use Rattle.sheet.specs.Sheet.{Session, Sheet, WellMadeSession, WellMade}
use Rattle.sheet.specs.Bytes.{service_length, envelope_length, service_rate, envelope_rate, room_of, envelope_place, record_bytes, session_of, sessions_of, sheet_of}
use Rattle.sheet.specs.Reading.{head_lines, table_lines, tables_lines, field_lines, session_lines, body_lines, lines, reading}
use Rattle.sheet.specs.Clears.{HeadReads, FieldsRead}
use Rattle.sheet.proofs.ClearsLaws.{head_clear, fields-clear, curve-clear}
use Rattle.sheet.specs.Written.{session_bytes, body_bytes, bytes_of, EachMade}
use Rattle.sheet.proofs.WrittenLaws.{length-session, made-first, made-next, made-sessions, short-enough}

-- of two tables' bytes and others after them, the first table and the second
first-table : (a b post : List ℕ) → words (take (2 * length a) ((each_two a ++ each_two b) ++ post)) ≡ a
first-table a b post =
    rw (append_assoc (each_two a) (each_two b) post, take_at (each_two a) (each_two b ++ post) (2 * length a) (length-each_two a), words-each_two a)

second-table : (a b post : List ℕ) → words (take (2 * length b) (drop (2 * length a) ((each_two a ++ each_two b) ++ post))) ≡ b
second-table a b post =
    rw (
      append_assoc (each_two a) (each_two b) post,
      drop_at (each_two a) (each_two b ++ post) (2 * length a) (length-each_two a),
      take_at (each_two b) post (2 * length b) (length-each_two b),
      words-each_two b,
    )

-- a session's bytes, with whatever comes after them
module _ (s : Session) (post : List ℕ) where
  -- the fixed bytes
  service-length-back : service_length (session_bytes s ++ post) ≡ length s.service.table
  unfolding session_bytes
  service-length-back = refl

  envelope-length-back : envelope_length (session_bytes s ++ post) ≡ length s.envelope.table
  unfolding session_bytes
  envelope-length-back = refl

  service-rate-back : service_rate (session_bytes s ++ post) ≡ s.service.rate
  unfolding session_bytes
  service-rate-back = omega arith

  envelope-rate-back : envelope_rate (session_bytes s ++ post) ≡ s.envelope.rate
  unfolding session_bytes
  envelope-rate-back = omega arith

  room_back : 1 ≤ s.room → room_of (session_bytes s ++ post) ≡ s.room
  unfolding session_bytes
  room_back h = omega arith

  -- the record ends where the session's bytes do
  pub record_back : record_bytes (session_bytes s ++ post) ≡ length (session_bytes s)
  unfolding session_bytes
  record_back = sym (length-session s)

  pub rest_back : drop (record_bytes (session_bytes s ++ post)) (session_bytes s ++ post) ≡ post
  rest_back = drop_at (session_bytes s) post (record_bytes (session_bytes s ++ post)) (sym record_back)

  -- the tables
  service-back : words (take (2 * service_length (session_bytes s ++ post)) (drop fixed_bytes (session_bytes s ++ post))) ≡ s.service.table
  unfolding session_bytes
  service-back = first-table s.service.table s.envelope.table post

  envelope-back : words (take (2 * envelope_length (session_bytes s ++ post)) (drop (envelope_place (session_bytes s ++ post)) (session_bytes s ++ post))) ≡ s.envelope.table
  unfolding session_bytes
  envelope-back =
      let n = length s.service.table in
      ap (λ r. words (take (2 * length s.envelope.table) r)) (sym (drop-drop (2 * n) fixed_bytes (session_bytes s ++ post)))
      ∙ second-table s.service.table s.envelope.table post

  -- SESSION: it reads back
  pub session-back : 1 ≤ s.room → session_of (session_bytes s ++ post) ≡ s
  unfolding session_of
  session-back h = rw (service-back, envelope-back, service-rate-back, envelope-rate-back, room_back h)

  -- and none of its lines applies
  pub session-clear : (P place : ℕ) → WellMadeSession P s → Clear (session_lines P (session_bytes s ++ post) place)
  unfolding session_lines tables_lines
  session-clear P place w =
      let rest = session_bytes s ++ post in
      let back : session_of rest ≡ s = session-back w.some-room in
      append-clear (field_lines P rest place) _ (fields-clear P rest place fields)
      (append-clear (table_lines P (session_of rest).service (place + fixed_bytes) (place + 3)) _
      (curve-clear P (session_of rest).service (place + fixed_bytes) (place + 3) (rw back w.service))
      (curve-clear P (session_of rest).envelope (place + envelope_place rest) (place + 5) (rw back w.envelope)))
    where
      fields : FieldsRead P (session_bytes s ++ post)
      fields =
          record {
            service-long = rw service-length-back w.service.curve.long;
            service-short = rw service-length-back w.service.short;
            envelope-long = rw envelope-length-back w.envelope.curve.long;
            envelope-short = rw envelope-length-back w.envelope.short;
            promises = rw service-rate-back w.promises;
            service-rate = rw service-rate-back w.service.rate;
            envelope-rate = rw envelope-rate-back w.envelope.rate;
            all = omega (arith, record_back, length-append (session_bytes s) post);
          }

pub body_clear : (P : ℕ) (ss : List Session) (place : ℕ) → EachMade P ss → Clear (body_lines P (body_bytes ss) place (length ss))
unfolding body_lines body_bytes
body_clear P [] place each = next-clear 11 _ place [] (le-ltb 0 0 (omega arith)) clear-nil
body_clear P (s ∷ ss) place each =
    let rest = session_bytes s ++ body_bytes ss in
    append-clear (session_lines P rest place) _ (session-clear s (body_bytes ss) P place (made-first P s ss each))
    (rw (rest_back s (body_bytes ss)) (body_clear P ss (place + record_bytes rest) (made-next P s ss each)))

pub sessions-back : (P : ℕ) (ss : List Session) → EachMade P ss → sessions_of (body_bytes ss) (length ss) ≡ ss
unfolding sessions_of body_bytes
sessions-back P [] each = refl
sessions-back P (s ∷ ss) each =
    rw (session-back s (body_bytes ss) (made-first P s ss each).some-room, rest_back s (body_bytes ss), sessions-back P ss (made-next P s ss each))

head-reads : (sheet : Sheet) → WellMade sheet → HeadReads (bytes_of sheet)
unfolding bytes_of
head-reads sheet w =
    let short = short-enough sheet w in
    record {
      long = omega arith;
      little = omega arith;
      all = omega arith;
      one = refl;
      some-capacity = w.some-capacity;
      capacity = w.capacity;
      some-period = w.some-period;
      period = w.period;
      some-session = w.some-session;
      few = w.few;
    }

-- READS
pub reads : (sheet : Sheet) → WellMade sheet → reading (bytes_of sheet) ≡ none
unfolding reading lines bytes_of
reads sheet w =
    append-clear (head_lines (bytes_of sheet)) _ (head_clear (bytes_of sheet) (head-reads sheet w))
    (body_clear sheet.period sheet.sessions head_bytes (made-sessions sheet w))

-- READS BACK
pub reads-back : (sheet : Sheet) → WellMade sheet → sheet_of (bytes_of sheet) ≡ sheet
unfolding sheet_of bytes_of
reads-back sheet w = rw (sessions-back sheet.period sheet.sessions (made-sessions sheet w))
