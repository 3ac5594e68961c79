-- The total, behind `cut` where a slot is unfinished. Assumes nothing.
use Rattle.std.proofs.Common.{◌≡◌, arith}
use Rattle.slotrun.specs.Text.{cut_line, total_line}
use Rattle.slotrun.specs.Laws.{end_whole, end_cut}
use Rattle.console.specs.Put.{Put, put_both}
use Rattle.slotrun.proofs.lines.put_ending.Goals as goal
use Rattle.slotrun.proofs.lines.put_ending.Goals.{then-held-ne0, else-held-ne0}

pub returns-clause-put : goal.returns-clause-put
returns-clause-put g c = elim c.if-held-ne0.branch [
  | then-held-ne0 w ↦
      let total : Put w.put_text.new.self (total_line c.args.tally) c.put_total.new.page = rw (← w.page-is) c.put_total.ensures.put in
      rw (end_cut c.args.held c.args.tally (omega arith)) (put_both c.args.page.now cut_line (total_line c.args.tally) w.put_text.ensures total)
  | else-held-ne0 w ↦ let e : c.args.held ≡ 0 = omega arith in rw (e, end_whole, ← w.page-is) c.put_total.ensures.put
]
