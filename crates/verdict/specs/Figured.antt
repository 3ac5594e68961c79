-- What the program keeps while it works out the figures, so that each step of its loops is one lemma: the largest so far within a session, and the figures of the sessions done so far. Assumes nothing.
use Rattle.std.specs.Prelude.{◌≡◌, List, true, false, ℕ, suc, ◌+◌, ◌-◌, ◌≤◌, ltb, get_or, replicate}
use Rattle.std.proofs.Math.ListN.{length}
use Rattle.curve.specs.Curve.{Curve, at}
use Rattle.curve.specs.declared.Slots.{Slots}
use Rattle.sheet.specs.Limits.{most_sessions}
use Rattle.sheet.specs.Sheet.{session}
use Rattle.sheet.specs.Bytes.{count_of, period_of, sheet_of}
use Rattle.verdict.specs.Figure.{lag, largest, figure}

-- before position x: l is the largest of the positions 1..x-1
pub record Figured (P : ℕ) (b S : Curve) (x l : ℕ) : Type 0 where
  pub from : 1 ≤ x
  pub within : x ≤ length b.table + 1
  pub is : l ≡ largest (λ i. lag P S (at P b (suc i)) (suc i)) (x - 1)

-- the j-th of the figures of the first m sessions, 0 past them
unfoldable pub figure_to : List ℕ → ℕ → ℕ → ℕ
figure_to bytes m j =
    elim (ltb j m) [ true ↦ figure (period_of bytes) (session (sheet_of bytes) j).envelope (session (sheet_of bytes) j).service | false ↦ 0 ]

-- before session i: the figures of the sessions before it stand in their places
pub record Done (bytes : List ℕ) (i : ℕ) (figures : List Slots) : Type 0 where
  pub within : i ≤ count_of bytes
  pub sixteen : length figures ≡ most_sessions
  pub each : (j : ℕ) → (get_or figures j (record { 0 = 0 })).0 ≡ figure_to bytes i j

abbrev pub no_slots : Slots
no_slots = record { 0 = 0 }

abbrev pub no_figures : List Slots
no_figures = replicate most_sessions no_slots
