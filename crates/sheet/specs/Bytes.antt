-- What sheet bytes mean, field by field in document 01's order: the link's numbers, and each session's curves and room. Assumes nothing.
use Rattle.std.specs.Prelude.{List, [], ◌∷◌, ℕ, zero, suc, ◌+◌, ◌*◌, take, drop}
use Rattle.words.specs.Words.{byte_at, word_at, long_at}
use Rattle.curve.specs.Lookup.{curve_of}
use Rattle.sheet.specs.Limits.{head_bytes, fixed_bytes}
use Rattle.sheet.specs.Sheet.{Session, Sheet}

-- the number of bytes that follow, the version, c, P and M
abbrev pub following : List ℕ → ℕ
following bytes = long_at bytes 0

abbrev pub version_of : List ℕ → ℕ
version_of bytes = byte_at bytes 4

abbrev pub capacity_of : List ℕ → ℕ
capacity_of bytes = byte_at bytes 5

abbrev pub period_of : List ℕ → ℕ
period_of bytes = byte_at bytes 6

abbrev pub count_of : List ℕ → ℕ
count_of bytes = byte_at bytes 7

-- a session's fields, in the bytes from its start on
abbrev pub service_length : List ℕ → ℕ
service_length rest = byte_at rest 0

abbrev pub envelope_length : List ℕ → ℕ
envelope_length rest = byte_at rest 1

abbrev pub room_of : List ℕ → ℕ
room_of rest = byte_at rest 2 + 1

abbrev pub service_rate : List ℕ → ℕ
service_rate rest = word_at rest 3

abbrev pub envelope_rate : List ℕ → ℕ
envelope_rate rest = word_at rest 5

-- where its envelope's values begin, and how many bytes it has
abbrev pub envelope_place : List ℕ → ℕ
envelope_place rest = fixed_bytes + 2 * service_length rest

abbrev pub record_bytes : List ℕ → ℕ
record_bytes rest = envelope_place rest + 2 * envelope_length rest

unfoldable pub session_of : List ℕ → Session
session_of rest =
    record {
      service = curve_of (take (2 * service_length rest) (drop fixed_bytes rest)) (service_rate rest);
      envelope = curve_of (take (2 * envelope_length rest) (drop (envelope_place rest) rest)) (envelope_rate rest);
      room = room_of rest;
    }

-- m sessions, one after the other
unfoldable pub sessions_of : List ℕ → ℕ → List Session
sessions_of rest zero = []
sessions_of rest (suc m) = session_of rest ∷ sessions_of (drop (record_bytes rest) rest) m

unfoldable pub sheet_of : List ℕ → Sheet
sheet_of bytes =
    record {
      capacity = capacity_of bytes;
      period = period_of bytes;
      sessions = sessions_of (drop head_bytes bytes) (count_of bytes);
    }
