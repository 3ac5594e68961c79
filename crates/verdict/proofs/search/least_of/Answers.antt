-- The least of the first i numbers, one more each turn. Assumes nothing.
use Rattle.std.proofs.Common.{get_or, sym, ◌∙◌, arith}
use Rattle.curve.proofs.LeastLaws.{least_zero}
use Rattle.verdict.proofs.ShareLaws.{least-next}
use Rattle.verdict.proofs.search.least_of.Goals as goal

pub loop-i-init : goal.loop-i-init
loop-i-init c = sym (least_zero (λ k. get_or c.args.tries.now k 0))

pub loop-i-preserved : goal.loop-i-preserved
loop-i-preserved c = c.min-best.ensures ∙ least-next (λ k. get_or c.args.tries.now k 0) c.loop-i.i c.loop-i.best (omega arith) c.loop-i.invariant
