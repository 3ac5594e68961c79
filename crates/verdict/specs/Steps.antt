-- What the search keeps at each of its three loops: the shares tried, the load of the sessions so far, and the walk over slot counts. Assumes nothing.
use Rattle.std.specs.Prelude.{◌≡◌, Option, Some, None, List, ℕ, ◌+◌, ◌≤◌, ◌<◌, length, get_or}
use Rattle.curve.specs.declared.Slots.{Slots}
use Rattle.sheet.specs.Sheet.{session}
use Rattle.sheet.specs.Bytes.{session_of, sheet_of}
use Rattle.verdict.specs.Load.{load}
use Rattle.verdict.specs.Passes.{Passes, Fails}
use Rattle.verdict.specs.Walk.{Lead, Row, Kept}
use Rattle.verdict.specs.Link.{walk_end}
use Rattle.verdict.specs.Share.{better}

-- POSITIONS: the first x shares of t slots are tried
pub record Shares (P : ℕ) (rest : List ℕ) (t : ℕ) (tries : List ℕ) (x : ℕ) : Type 0 where
  pub places : length tries ≡ 65
  pub each : (j : ℕ) → j < x → get_or tries j 0 ≡ better P (session_of rest).envelope (session_of rest).service t j

-- SESSIONS: the load of the first m sessions of a sheet's bytes
unfoldable pub part_load : List ℕ → ℕ → ℕ → ℕ → ℕ
part_load bytes P m = load P (λ i. (session (sheet_of bytes) i).envelope) (λ i. (session (sheet_of bytes) i).service) m

-- SLOTS: before t is tried
pub record Walking (L C : ℕ → ℕ) (R P t : ℕ) (loads : List ℕ) (slack first steady : ℕ) : Type 0 where
  pub from : 1 ≤ t
  pub to : t ≤ walk_end + 1
  pub short : steady < P
  pub lead : Lead L C t slack first
  pub row : Row L R P 128 t steady
  pub kept : Kept L t loads

-- where the walk's ways out meet: no failing slot count, or the first
pub record Found (L C : ℕ → ℕ) (failing : Option Slots) (m w : ℕ) : Type 0 where
  pub none : failing ≡ None → Passes L C m w
  pub some : (t : Slots) → failing ≡ Some t → Fails L C t.0
