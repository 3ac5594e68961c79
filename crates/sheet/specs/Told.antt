-- What the reader's answer says in document 01's numbers, and what it has to say of the bytes. Assumes nothing.
use Rattle.std.specs.Prelude.{◌≡◌, true, false, Result, Ok, Err, List, ℕ, ◌*◌, ltb, length, get_or, take, drop, replicate}
use Rattle.refusal.specs.Numbers.{number_of}
use Rattle.refusal.specs.declared.Refusal.{Refusal as Refused}
use Rattle.curve.specs.Drawn.{drawn}
use Rattle.sheet.specs.Limits.{most_sessions, fixed_bytes}
use Rattle.sheet.specs.Refusal.{Refusal, none, refused}
use Rattle.sheet.specs.Sheet.{Session}
use Rattle.sheet.specs.Bytes.{capacity_of, period_of, count_of, service_length, envelope_length, envelope_place}
use Rattle.sheet.specs.Reading.{reading}
use Rattle.sheet.specs.Starts.{start_of}
use Rattle.sheet.specs.declared.fields.Session.{Session as SessionAt}
use Rattle.sheet.specs.declared.Reading.{Reading}

-- c, P and M; or a refusal's number and place
pub data Answer : Type 0 where
  read : ℕ → ℕ → ℕ → Answer
  refusal : ℕ → ℕ → Answer

-- the numbers and values of each case
abbrev pub told : Result Reading Refused → Answer
told (Ok r) = read r.capacity.0 r.period.0 r.count
told (Err r) = refusal (number_of r.cause) r.place

-- a check's answer
abbrev pub fault : Result Unit Refused → Refusal
fault (Ok _) = none
fault (Err r) = refused (number_of r.cause) r.place

unfoldable pub answer_to : Refusal → List ℕ → Answer
answer_to none bytes = read (capacity_of bytes) (period_of bytes) (count_of bytes)
answer_to (refused number place) bytes = refusal number place

-- ANSWER: c, P and M of bytes that read, else the reading's refusal
abbrev pub answer : List ℕ → Answer
answer bytes = answer_to (reading bytes) bytes

-- how many sessions an answer gives starts for
unfoldable pub sessions_read : Answer → ℕ
sessions_read (read c P m) = m
sessions_read (refusal number place) = 0

-- the starts of none
abbrev pub no_starts : List ℕ
no_starts = replicate most_sessions 0

-- the j-th of the sixteen places: a session's start, 0 past the last
unfoldable pub placed : List ℕ → ℕ → ℕ → ℕ
placed bytes m j = elim (ltb j m) [ true ↦ start_of bytes j | false ↦ 0 ]

-- the starts that are told: none beside a refusal
abbrev pub starts_told : Result Reading Refused → List ℕ
starts_told (Ok r) = r.starts
starts_told (Err r) = no_starts

pub record Reads (bytes : List ℕ) (r : Result Reading Refused) : Type 0 where
  pub outcome_is : told r ≡ answer bytes
  pub sixteen : length (starts_told r) ≡ most_sessions
  pub each : (j : ℕ) → get_or (starts_told r) j 0 ≡ placed bytes (sessions_read (answer bytes)) j

-- a session taken apart: its two curves, and its room
pub record SessionIn (session : Session) (s : SessionAt) : Type 0 where
  pub service : drawn s.service ≡ session.service
  pub envelope : drawn s.envelope ≡ session.envelope
  pub room : s.room.0 ≡ session.room

-- where its tables lie in the bytes that start with it
pub record Lies (rest : List ℕ) (s : SessionAt) : Type 0 where
  pub service : s.service.table.0.now ≡ take (2 * service_length rest) (drop fixed_bytes rest)
  pub envelope : s.envelope.table.0.now ≡ take (2 * envelope_length rest) (drop (envelope_place rest) rest)

-- the session that it is
abbrev pub as_session : SessionAt → Session
as_session s = record { service = drawn s.service; envelope = drawn s.envelope; room = s.room.0 }
