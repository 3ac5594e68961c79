-- Laws of specs/Written.antt. The bytes of a sheet as document 01 lays them out, how many they are, and that each is a byte, so that the limits can be shown to leave no sheet without bytes. Assumes nothing.
use Rattle.std.specs.Prelude.{◌≡◌, List, [], ◌∷◌, ◌++◌, ℕ, zero, suc, ◌+◌, ◌-◌, ◌*◌, ◌/◌, ◌%◌, ◌≤◌, ◌<◌, length, get_or}
use Rattle.std.proofs.Common.{arith, length-append}
use Rattle.words.specs.Written.{two_bytes, four_bytes, each_two, length-each_two}
use Rattle.curve.specs.Curve.{Curve}
use Rattle.sheet.specs.Limits.{version, longest_table, head_bytes, fixed_bytes, length_bytes, most_following}
use Rattle.sheet.specs.Sheet.{Session, Sheet, session, session_count, WellMadeCurve, WellMadeSession, WellMade}
use Rattle.sheet.specs.Makes.{AllBytes}
use Rattle.sheet.specs.Written.{session_bytes, body_bytes, bytes_of, EachMade}

pub length-session : (s : Session) → length (session_bytes s) ≡ fixed_bytes + 2 * length s.service.table + 2 * length s.envelope.table
unfolding session_bytes
length-session s =
    omega
    (arith, length-append (each_two s.service.table) (each_two s.envelope.table), length-each_two s.service.table, length-each_two s.envelope.table)

pub length-bytes : (sheet : Sheet) → length (bytes_of sheet) ≡ head_bytes + length (body_bytes sheet.sessions)
unfolding bytes_of
length-bytes sheet = omega arith

-- the first, and those after it
pub made-first : (P : ℕ) (s : Session) (ss : List Session) → EachMade P (s ∷ ss) → WellMadeSession P s
made-first P s ss each = each 0 (omega arith)

pub made-next : (P : ℕ) (s : Session) (ss : List Session) → EachMade P (s ∷ ss) → EachMade P ss
made-next P s ss each i h = each (suc i) (omega arith)

pub made-sessions : (sheet : Sheet) → WellMade sheet → EachMade sheet.period sheet.sessions
unfolding session
made-sessions sheet w i h = w.each i h

-- a session has at most 7 + 128 + 128 bytes
pub body_short : (P : ℕ) (ss : List Session) → EachMade P ss → length (body_bytes ss) ≤ 263 * length ss
unfolding body_bytes
body_short P [] each = omega arith
body_short P (s ∷ ss) each =
    let w = made-first P s ss each in
    let n : length s.service.table ≤ longest_table = w.service.short in
    let k : length s.envelope.table ≤ longest_table = w.envelope.short in
    omega (arith, length-append (session_bytes s) (body_bytes ss), length-session s, body_short P ss (made-next P s ss each))

-- so no more bytes follow the length than 01 allows
pub short-enough : (sheet : Sheet) → WellMade sheet → head_bytes - length_bytes + length (body_bytes sheet.sessions) ≤ most_following
short-enough sheet w = omega (arith, body_short sheet.period sheet.sessions (made-sessions sheet w), w.few)

-- what makes a list of bytes
pub all_nil : AllBytes []
all_nil i = omega arith

pub all_cons : (x : ℕ) (xs : List ℕ) → x < 256 → AllBytes xs → AllBytes (x ∷ xs)
all_cons x xs h all zero = h
all_cons x xs h all (suc i) = all i

pub all_append : (xs ys : List ℕ) → AllBytes xs → AllBytes ys → AllBytes (xs ++ ys)
all_append [] ys a b = b
all_append (x ∷ xs) ys a b = all_cons x (xs ++ ys) (a 0) (all_append xs ys (λ i. a (suc i)) b)

pub all_two : (v : ℕ) → v < 65536 → AllBytes (two_bytes v)
all_two v h = all_cons (v / 256) (v % 256 ∷ []) (omega arith) (all_cons (v % 256) [] (omega arith) all_nil)

pub all-each_two : (vs : List ℕ) → ((i : ℕ) → i < length vs → get_or vs i 0 < 65536) → AllBytes (each_two vs)
unfolding each_two
all-each_two [] h = all_nil
all-each_two (v ∷ vs) h = all_append (two_bytes v) (each_two vs) (all_two v (h 0 (omega arith))) (all-each_two vs (λ i l. h (suc i) (omega arith)))

pub table-bytes : (P : ℕ) (F : Curve) → WellMadeCurve P F → AllBytes (each_two F.table)
table-bytes P F w = all-each_two F.table (λ i h. omega (arith, w.values i h))

pub session-bytes : (P : ℕ) (s : Session) → WellMadeSession P s → AllBytes (session_bytes s)
unfolding session_bytes
session-bytes P s w =
    let n : length s.service.table ≤ longest_table = w.service.short in
    let k : length s.envelope.table ≤ longest_table = w.envelope.short in
    let room : s.room - 1 < 256 = omega (arith, w.room) in
    let service_rate : s.service.rate < 65536 = omega (arith, w.service.rate) in
    let envelope_rate : s.envelope.rate < 65536 = omega (arith, w.envelope.rate) in
    let tables = each_two s.service.table ++ each_two s.envelope.table in
    let rated = two_bytes s.envelope.rate ++ tables in
    let fixed = two_bytes s.service.rate ++ rated in
    let t : AllBytes tables = all_append (each_two s.service.table) (each_two s.envelope.table) (table-bytes P s.service w.service) (table-bytes P s.envelope w.envelope) in
    let r : AllBytes rated = all_append (two_bytes s.envelope.rate) tables (all_two s.envelope.rate envelope_rate) t in
    let f : AllBytes fixed = all_append (two_bytes s.service.rate) rated (all_two s.service.rate service_rate) r in
    all_cons (length s.service.table) (length s.envelope.table ∷ (s.room - 1) ∷ fixed) (omega arith)
    (all_cons (length s.envelope.table) ((s.room - 1) ∷ fixed) (omega arith) (all_cons (s.room - 1) fixed room f))

pub body_all_bytes : (P : ℕ) (ss : List Session) → EachMade P ss → AllBytes (body_bytes ss)
unfolding body_bytes
body_all_bytes P [] each = all_nil
body_all_bytes P (s ∷ ss) each =
    all_append (session_bytes s) (body_bytes ss) (session-bytes P s (made-first P s ss each)) (body_all_bytes P ss (made-next P s ss each))

-- BYTES: a sheet within the limits is written in bytes
pub written_bytes : (sheet : Sheet) → WellMade sheet → AllBytes (bytes_of sheet)
unfolding bytes_of
written_bytes sheet w =
    let v = head_bytes - length_bytes + length (body_bytes sheet.sessions) in
    let short : v ≤ most_following = short-enough sheet w in
    let body = body_bytes sheet.sessions in
    let few : session_count sheet < 256 = omega (arith, w.few) in
    let capacity : sheet.capacity < 256 = omega (arith, w.capacity) in
    let period : sheet.period < 256 = omega (arith, w.period) in
    let m : AllBytes (session_count sheet ∷ body) = all_cons (session_count sheet) body few (body_all_bytes sheet.period sheet.sessions (made-sessions sheet w)) in
    let p : AllBytes (sheet.period ∷ session_count sheet ∷ body) = all_cons sheet.period (session_count sheet ∷ body) period m in
    let c : AllBytes (sheet.capacity ∷ sheet.period ∷ session_count sheet ∷ body) = all_cons sheet.capacity (sheet.period ∷ session_count sheet ∷ body) capacity p in
    let one : AllBytes (version ∷ sheet.capacity ∷ sheet.period ∷ session_count sheet ∷ body) = all_cons version (sheet.capacity ∷ sheet.period ∷ session_count sheet ∷ body) (omega arith) c in
    let four : AllBytes (four_bytes v) = all_append (two_bytes (v / 65536)) (two_bytes (v % 65536)) (all_two (v / 65536) (omega arith)) (all_two (v % 65536) (omega arith)) in
    all_append (four_bytes v) (version ∷ sheet.capacity ∷ sheet.period ∷ session_count sheet ∷ body) four one
