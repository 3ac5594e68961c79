-- Each answer is that of the verdict's case. Assumes nothing.
use Rattle.std.proofs.Common.{ap, ◌∙◌, List, ◌++◌, ℕ, drop, refl}
use Rattle.sheet.specs.Bytes.{sheet_of}
use Rattle.verdict.specs.Verdict.{passed}
use Rattle.layout.specs.Layout.{run_numbers}
use Rattle.history.specs.Opened.{opened-run}
use Rattle.opening.proofs.OpenLaws.{opens_by}
use Rattle.opening.proofs.open_sheet.Goals as goal

pub returns-in-Passed : goal.returns-in-Passed
returns-in-Passed c = (
  opens_by _ _ _ _ (passed _ _) c.requires (rw c.in-Passed.is at c.judge_sheet-answer.ensures.says) refl
      (c.write_run.ensures ∙ ap (λ (l : List ℕ). l ++ drop run_numbers c.args.run.now) (opened-run (sheet_of c.args.sheet.now.bytes.now))),
  c.judge_sheet-answer.ensures,
)
