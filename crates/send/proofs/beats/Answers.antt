-- Each case of the comparison has its own answer. Assumes nothing.
use Rattle.std.proofs.Common.{sym, ltb, ap₂, ◌∙◌, arith}
use Rattle.send.specs.Choice.{beats_idle, beats-due, idle}
use Rattle.send.proofs.beats.Goals as goal

pub returns-then-waits : goal.returns-then-waits
returns-then-waits c count best h least =
    ap₂ ltb c.head_due.ensures least ∙ sym (beats-due _ _ _ _ (c.waits.ensures.0 c.if-waits.true) (λ e. omega (arith, h, e)))

pub returns-else-waits : goal.returns-else-waits
returns-else-waits c count best h least = c.if-waits.false ∙ sym (beats_idle _ _ _ _ (idle c.args.run.now c.args.session _ c.waits.ensures.1 c.if-waits.false))
