-- The bytes of a sheet as document 01 lays them out. Assumes nothing.
use Rattle.std.specs.Prelude.{List, [], ◌∷◌, ◌++◌, ℕ, ◌+◌, ◌-◌, ◌<◌, length, get_or}
use Rattle.words.specs.Written.{two_bytes, four_bytes, each_two}
use Rattle.sheet.specs.Limits.{version, head_bytes, length_bytes}
use Rattle.sheet.specs.Sheet.{Session, Sheet, nobody, session_count, WellMadeSession}

-- the table lengths, room minus 1, the rates, the service values, the envelope values
unfoldable pub session_bytes : Session → List ℕ
session_bytes s =
    (length s.service.table ∷ length s.envelope.table ∷ (s.room - 1) ∷ [])
    ++ (two_bytes s.service.rate ++ (two_bytes s.envelope.rate ++ (each_two s.service.table ++ each_two s.envelope.table)))

-- the sessions' bytes in order
unfoldable pub body_bytes : List Session → List ℕ
body_bytes [] = []
body_bytes (s ∷ ss) = session_bytes s ++ body_bytes ss

-- the number of bytes that follow, the version, c, P, M, the sessions
unfoldable pub bytes_of : Sheet → List ℕ
bytes_of sheet =
    four_bytes (head_bytes - length_bytes + length (body_bytes sheet.sessions))
    ++ (version ∷ sheet.capacity ∷ sheet.period ∷ session_count sheet ∷ body_bytes sheet.sessions)

-- each of a list of sessions is well made
abbrev pub EachMade : ℕ → List Session → Type 0
EachMade P ss = (i : ℕ) → i < length ss → WellMadeSession P (get_or ss i nobody)
