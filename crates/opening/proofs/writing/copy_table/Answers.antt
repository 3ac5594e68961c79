-- After i turns the first i values are written. Assumes nothing.
use Rattle.std.proofs.Common.{◌≡◌, sym, ap, ◌∙◌, ℕ, ◌+◌, arith, length, get_or, set}
use Rattle.words.specs.Words.{words}
use Rattle.layout.specs.Over.{over, puts, puts_none, puts-more}
use Rattle.opening.proofs.writing.copy_table.Goals as goal

pub loop-i-init : goal.loop-i-init
loop-i-init c = sym (puts_none _ _ _)

pub loop-i-preserved : goal.loop-i-preserved
loop-i-preserved c =
    let place : ℕ → ℕ = λ j. c.args.at + j in
    let value : ℕ → ℕ = λ j. get_or (words c.args.table.now.0.now) j 0 in
    ap (λ l. set l (c.args.at + c.loop-i.i) c.entry.result) c.loop-i.invariant
    ∙ ap (λ v. set (puts c.args.block.now place value c.loop-i.i) (c.args.at + c.loop-i.i) v) c.entry.ensures.value
    ∙ puts-more c.args.block.now place value c.loop-i.i

pub returns : goal.returns
unfolding over
returns c =
    let e : c.loop-i.i ≡ length (words c.args.table.now.0.now) = omega (arith, c.len-i-end.ensures) in
    rw e at c.loop-i.invariant
