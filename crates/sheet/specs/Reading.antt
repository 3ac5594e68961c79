-- The reading of a sheet with its refusals 1 to 11 and their places, line by line as document 01 tables them and in the order that it reads. Assumes nothing.
use Rattle.std.specs.Prelude.{not, ◌||◌, List, [], ◌∷◌, ◌++◌, ℕ, zero, suc, ◌+◌, ◌-◌, ltb, eqb, length, drop}
use Rattle.curve.specs.Curve.{Curve, at}
use Rattle.sheet.specs.Limits.{version, most_capacity, longest_period, most_sessions, longest_table, largest_value, largest_rate, head_bytes, fixed_bytes, length_bytes, most_following}
use Rattle.sheet.specs.Refusal.{Refusal, Line, line, first, outside}
use Rattle.sheet.specs.Bytes.{following, version_of, capacity_of, period_of, count_of, service_length, envelope_length, service_rate, envelope_rate, envelope_place, record_bytes, session_of}

-- 1 to 6
unfoldable pub head_lines : List ℕ → List Line
head_lines bytes =
    line 1 (ltb (length bytes) head_bytes) 0
    ∷ line 2 (ltb most_following (following bytes) || not (eqb (following bytes) (length bytes - length_bytes))) 0
    ∷ line 3 (not (eqb (version_of bytes) version)) 4
    ∷ line 4 (outside 1 most_capacity (capacity_of bytes)) 5
    ∷ line 5 (outside 1 longest_period (period_of bytes)) 6
    ∷ line 6 (outside 1 most_sessions (count_of bytes)) 7
    ∷ []

-- 10, of a table's values left to right: one above 500, or below the one before it
unfoldable pub value_lines : List ℕ → ℕ → ℕ → List Line
value_lines [] before place = []
value_lines (v ∷ vs) before place = line 10 (ltb largest_value v || ltb v before) place ∷ value_lines vs v (place + 2)

-- 10, of a table and its join: F(n+1-P) + r is below F(n)
unfoldable pub table_lines : ℕ → Curve → ℕ → ℕ → List Line
table_lines P F place ratePlace =
    value_lines F.table 0 place
    ++ (line 10 (ltb (at P F (length F.table + 1 - P) + F.rate) (at P F (length F.table))) ratePlace ∷ [])

-- 7, 8, 9, 7, of a session that starts at a place
unfoldable pub field_lines : ℕ → List ℕ → ℕ → List Line
field_lines P rest place =
    line 7 (ltb (length rest) fixed_bytes) place
    ∷ line 8 (outside P longest_table (service_length rest)) place
    ∷ line 8 (outside P longest_table (envelope_length rest)) (place + 1)
    ∷ line 9 (outside 1 largest_rate (service_rate rest)) (place + 3)
    ∷ line 9 (outside 0 largest_rate (envelope_rate rest)) (place + 5)
    ∷ line 7 (ltb (length rest) (record_bytes rest)) place
    ∷ []

-- 10, of its service and of its envelope
unfoldable pub tables_lines : ℕ → List ℕ → ℕ → List Line
tables_lines P rest place =
    table_lines P (session_of rest).service (place + fixed_bytes) (place + 3)
    ++ table_lines P (session_of rest).envelope (place + envelope_place rest) (place + 5)

unfoldable pub session_lines : ℕ → List ℕ → ℕ → List Line
session_lines P rest place = field_lines P rest place ++ tables_lines P rest place

-- m sessions, and last 11
unfoldable pub body_lines : ℕ → List ℕ → ℕ → ℕ → List Line
body_lines P rest place zero = line 11 (ltb 0 (length rest)) place ∷ []
body_lines P rest place (suc m) = session_lines P rest place ++ body_lines P (drop (record_bytes rest) rest) (place + record_bytes rest) m

unfoldable pub lines : List ℕ → List Line
lines bytes = head_lines bytes ++ body_lines (period_of bytes) (drop head_bytes bytes) head_bytes (count_of bytes)

-- READING: the first line that applies
unfoldable pub reading : List ℕ → Refusal
reading bytes = first (lines bytes)
