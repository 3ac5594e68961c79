-- Laws of specs/Starts.antt. Where each session's record starts in the sheet's bytes, so that a session can be spoken of by its index alone: what it says, that its lines do not apply in a sheet that reads, and that it lies within the bytes. Assumes nothing.
use Rattle.std.specs.Prelude.{◌≡◌, refl, List, ℕ, zero, suc, ◌+◌, ◌≤◌, ◌<◌, length, drop, get_or}
use Rattle.std.proofs.Common.{sym, ap, ◌∙◌, arith, length-drop, drop-drop}
use Rattle.sheet.specs.Limits.{head_bytes}
use Rattle.sheet.specs.Refusal.{none, Clear}
use Rattle.sheet.proofs.RefusalLaws.{clear-append}
use Rattle.sheet.specs.Sheet.{nobody, session}
use Rattle.sheet.specs.Bytes.{period_of, count_of, record_bytes, session_of, sessions_of, sheet_of}
use Rattle.sheet.specs.Reading.{head_lines, session_lines, body_lines, lines, reading}
use Rattle.sheet.proofs.ClearsLaws.{clear-fields}
use Rattle.sheet.specs.Starts.{start_of}

pub start-zero : (bytes : List ℕ) → start_of bytes 0 ≡ head_bytes
unfolding start_of
start-zero bytes = refl

pub start-suc : (bytes : List ℕ) (i : ℕ) → start_of bytes (suc i) ≡ start_of bytes i + record_bytes (drop (start_of bytes i) bytes)
unfolding start_of
start-suc bytes i = refl

length-sessions : (rest : List ℕ) (m : ℕ) → length (sessions_of rest m) ≡ m
unfolding sessions_of
length-sessions rest zero = refl
length-sessions rest (suc m) = ap suc (length-sessions (drop (record_bytes rest) rest) m)

pub count-is : (bytes : List ℕ) → length (sheet_of bytes).sessions ≡ count_of bytes
unfolding sheet_of
count-is bytes = length-sessions (drop head_bytes bytes) (count_of bytes)

-- what follows the j-th record starts at the next one
next : (bytes : List ℕ) (j : ℕ) → drop (record_bytes (drop (start_of bytes j) bytes)) (drop (start_of bytes j) bytes) ≡ drop (start_of bytes (suc j)) bytes
unfolding start_of
next bytes j = drop-drop (record_bytes (drop (start_of bytes j) bytes)) (start_of bytes j) bytes

-- the i-th of the m sessions from the j-th on
session-from : (bytes : List ℕ) (i j m : ℕ) → i < m → get_or (sessions_of (drop (start_of bytes j) bytes) m) i nobody ≡ session_of (drop (start_of bytes (j + i)) bytes)
unfolding sessions_of
session-from bytes i j zero h = absurd (omega arith)
session-from bytes zero j (suc m) h =
    let e : j + 0 ≡ j = omega arith in
    ap (λ k. session_of (drop (start_of bytes k) bytes)) (sym e)
session-from bytes (suc i) j (suc m) h =
    let e : j + suc i ≡ suc j + i = omega arith in
    ap (λ r. get_or (sessions_of r m) i nobody) (next bytes j) ∙ session-from bytes i (suc j) m (omega arith) ∙ ap (λ k. session_of (drop (start_of bytes k) bytes)) (sym e)

pub session-at : (bytes : List ℕ) (i : ℕ) → i < count_of bytes → session (sheet_of bytes) i ≡ session_of (drop (start_of bytes i) bytes)
unfolding session sheet_of start_of
session-at bytes i h =
    let e : 0 + i ≡ i = omega arith in
    session-from bytes i 0 (count_of bytes) h ∙ ap (λ k. session_of (drop (start_of bytes k) bytes)) e

-- the lines of the i-th of the m sessions from the j-th on
lines_from : (P : ℕ) (bytes : List ℕ) (i j m : ℕ) → i < m → Clear (body_lines P (drop (start_of bytes j) bytes) (start_of bytes j) m)
    → Clear (session_lines P (drop (start_of bytes (j + i)) bytes) (start_of bytes (j + i)))
unfolding body_lines
lines_from P bytes i j zero h e = absurd (omega arith)
lines_from P bytes zero j (suc m) h e =
    let z : j + 0 ≡ j = omega arith in
    rw z (clear-append _ _ e).0
lines_from P bytes (suc i) j (suc m) h e =
    let z : j + suc i ≡ suc j + i = omega arith in
    let c = (clear-append (session_lines P (drop (start_of bytes j) bytes) (start_of bytes j)) _ e).1 in
    rw z (lines_from P bytes i (suc j) m (omega arith) (rw (next bytes j, ← start-suc bytes j) at c))

pub clear-parts : (bytes : List ℕ) → reading bytes ≡ none → Clear (head_lines bytes) × Clear (body_lines (period_of bytes) (drop head_bytes bytes) head_bytes (count_of bytes))
unfolding reading lines
clear-parts bytes e = clear-append (head_lines bytes) (body_lines (period_of bytes) (drop head_bytes bytes) head_bytes (count_of bytes)) e

-- in a sheet that reads, no line of the i-th session applies
pub clear_at : (bytes : List ℕ) → reading bytes ≡ none → (i : ℕ) → i < count_of bytes → Clear (session_lines (period_of bytes) (drop (start_of bytes i) bytes) (start_of bytes i))
unfolding start_of
clear_at bytes e i h =
    let z : 0 + i ≡ i = omega arith in
    rw z at (lines_from (period_of bytes) bytes i 0 (count_of bytes) h (clear-parts bytes e).1)

-- and its record lies within the bytes
pub start_fits : (bytes : List ℕ) → reading bytes ≡ none → (i : ℕ) → i < count_of bytes → start_of bytes i + record_bytes (drop (start_of bytes i) bytes) ≤ length bytes
unfolding session_lines
start_fits bytes e i h =
    let fields = clear-fields _ _ _ (clear-append _ _ (clear_at bytes e i h)).0 in
    omega (arith, fields.all, length-drop (start_of bytes i) bytes)
