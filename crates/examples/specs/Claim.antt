-- What it is for a row of the table to hold, in the definitions that the public contracts use, and the theorem that every row does. Assumes nothing.
use Rattle.std.specs.Prelude.{◌≡◌, List, [], ◌∷◌, map, ℕ, get_or}
use Rattle.std.proofs.Common.{sym, subst, ap, ◌∙◌, arith}
use Rattle.std.proofs.Math.ListN.{get_or-map}
use Rattle.sheet.specs.Bytes.{sheet_of}
use Rattle.sheet.specs.Makes.{AllBytes}
use Rattle.verdict.specs.Verdict.{Judges}
use Rattle.verdict.proofs.OneVerdict.{one-verdict}
use Rattle.verdict.specs.declared.Answer.{Answer}
use Rattle.examples.specs.Computed.{judged}
use Rattle.examples.specs.Table.{Row, table}
use Rattle.examples.specs.Run.{run_by}
use Rattle.examples.specs.Rows.{as_byte, computed, table_computes}

-- HOLDS: the bytes mean the sheet; the row's verdict and figures meet the contract of `judge` on them; and a run on their sheet goes as the row has it
pub record Holds (row : Row) : Type 0 where
  pub all-bytes : AllBytes row.bytes
  pub means : sheet_of row.bytes ≡ row.sheet
  pub judged : Judges row.bytes row.verdict row.figures
  pub runs : run_by (sheet_of row.bytes) [] row.offers ≡ row.slots

-- each of some rows
abbrev pub Every : (Row → Type 0) → List Row → Type 0
Every Q [] = Unit {0}
Every Q (row ∷ rows) = Q row × Every Q rows

-- numbers that stay when they are cut down to bytes are bytes
bytes-by : (bytes : List ℕ) → map as_byte bytes ≡ bytes → AllBytes bytes
bytes-by bytes e i =
    let f : get_or bytes i 0 ≡ as_byte (get_or bytes i 0) = ap (λ (l : List ℕ). get_or l i 0) (sym e) ∙ get_or-map as_byte bytes i 0 in
    omega arith

-- a row that computes holds
holds : (row : Row) → computed row ≡ row → Holds row
unfolding computed
holds row e =
    let all = bytes-by row.bytes (ap (λ (r : Row). r.bytes) e) in
    record {
      all-bytes = all;
      means = ap (λ (r : Row). r.sheet) e;
      judged = subst (λ (r : Row). Judges row.bytes r.verdict r.figures) e (judged row.bytes all);
      runs = ap (λ (r : Row). r.slots) e;
    }

every : (rows : List Row) → map computed rows ≡ rows → Every Holds rows
every [] e = tt
every (row ∷ rows) e =
    let first : computed row ≡ row = cc in
    let rest : map computed rows ≡ rows = cc in
    (holds row first, every rows rest)

-- ALL HOLD: K1 to K8
pub all_hold : Every Holds table
all_hold = every table table_computes

-- so whatever meets the contract of `judge` on the bytes of a row is the row's answer
pub answers : (row : Row) → Holds row → (r : Answer) → Judges row.bytes r.verdict r.figures → r ≡ record { verdict = row.verdict; figures = row.figures }
answers row h r j = one-verdict row.bytes r (record { verdict = row.verdict; figures = row.figures }) j h.judged
