-- Before slot 1: the run that opening leaves is the run after the empty history. Assumes nothing.
use Rattle.std.specs.Prelude.{◌≡◌, [], ℕ, zero, suc, ◌<◌, replicate}
use Rattle.std.proofs.Math.Path.{sym, fun_ext}
use Rattle.std.proofs.Common.{ap, ◌∙◌, arith}
use Rattle.std.proofs.Math.ListN.{length}
use Rattle.std.proofs.lemmas.List.{length-replicate}
use Rattle.std.proofs.Math.Seq.{ext_get_or}
use Rattle.curve.specs.Total.{total}
use Rattle.curve.proofs.TotalLaws.{total-zero}
use Rattle.curve.specs.Curve.{Curve, at}
use Rattle.curve.proofs.CurveLaws.{at_table}
use Rattle.curve.specs.Delay.{Due, delay}
use Rattle.sheet.specs.Sheet.{Session, Sheet, session}
use Rattle.rules.specs.Steps.{steps}
use Rattle.rules.specs.Count.{count_all}
use Rattle.rules.proofs.Facts.{listed_at, length-listed}
use Rattle.rules.specs.Model.{took, after}
use Rattle.rules.specs.Ahead.{ahead}
use Rattle.rules.proofs.AheadLaws.{ahead-zero}
use Rattle.layout.specs.Layout.{ring}
use Rattle.layout.specs.Splice.{zeros-at}
use Rattle.history.specs.Image.{run_of, fresh, opened_run}
use Rattle.history.specs.After.{ahead_table, due_of, last_at, ring_of, moving_at, run_with, run_after}

module _ (a : ℕ → ℕ) where
  -- what lies ahead is the curve itself
  ahead-fresh : (P : ℕ) (F : Curve) → ahead_table P F (total a) 0 ≡ F.table
  unfolding ahead_table
  ahead-fresh P F =
      ext_get_or 0 (ahead_table P F (total a) 0) F.table (length-listed _ (length F.table))
      (λ j h.
      let k : j < length F.table = omega (arith, length-listed (λ i. ahead (at P F) (total a) 0 (suc i)) (length F.table)) in
      listed_at _ (length F.table) j k ∙ omega (arith, ahead-zero (at P F) (total a) (suc j), total-zero a, at_table P F j k))

  -- and no deadline is written
  ring-fresh : (D : ℕ → Due) → ring_of D a 0 ≡ replicate ring 0
  unfolding ring_of due_of
  ring-fresh D =
      let n = length-listed (λ j. due_of D a (last_at (total a 0) j) 0) ring in
      ext_get_or 0 (ring_of D a 0) (replicate ring 0) (n ∙ sym (length-replicate ring zero)) (λ j h. listed_at _ ring j (omega (arith, n)) ∙ sym (zeros-at ring j))

moving-fresh : (P : ℕ) (s : Session) (a : ℕ → ℕ) → moving_at P s a 0 0 ≡ fresh s
moving-fresh P s a = rw (total-zero a, ahead-fresh a P s.service, ahead-fresh a P s.envelope, ring-fresh a (delay P s.service))

pub opened-run : (sheet : Sheet) → opened_run sheet ≡ run_after sheet []
unfolding opened_run run_after run_with after steps count_all
opened-run sheet = ap (run_of sheet 0) (sym (fun_ext (λ i. moving-fresh sheet.period (session sheet i) (took [] i))))
