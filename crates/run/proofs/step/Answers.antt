-- The refusals leave all as it was; a run that passes them has what each call asks. Assumes nothing.
use Rattle.std.proofs.Common.{refl, sym, ap, ◌∙◌, length, arith}
use Rattle.run.specs.Summed.{all_sharing}
use Rattle.run.specs.Brought.{brought_up}
use Rattle.run.specs.Why.{capacity_of, Fit, fit_of, fit-sound}
use Rattle.run.specs.Slot.{slots-run, runs_by, sent-small}
use Rattle.run.proofs.step.Goals as goal
use Rattle.run.proofs.step.Goals.{In_ok-may_run}

-- none of 13 to 17
fit : (c : In_ok-may_run) → Fit c.args.run.now c.args.offers.now (length c.args.outcomes.now) (length c.args.sent.now)
fit c = fit_of _ _ _ _ 0 c.in_ok-may_run.ensures refl

pub sum_up-sums-requires : goal.sum_up-sums-requires
sum_up-sums-requires c =
    let f = fit (goal.at.sum_up-sums-requires c).In_ok-may_run in
    rw f.offered (all_sharing _ _ _ _ (fit-sound _ _ _ _ f))

pub intake_all-requires-clause-all_sound : goal.intake_all-requires-clause-all_sound
intake_all-requires-clause-all_sound c =
    let f = fit (goal.at.intake_all-requires-clause-all_sound c).In_ok-may_run in
    (rw f.offered (fit-sound _ _ _ _ f), f.left)

pub overflow_cast-result : goal.overflow_cast-result
overflow_cast-result c = omega (arith, sent-small _ _ _ _ _ _ _ (fit (goal.at.overflow_cast-result c).In_ok-may_run).opened.capacity c.send-k.ensures)

pub returns : goal.returns
returns c =
    let a = c.args in
    let f = fit (goal.at.returns c).In_ok-may_run in
    let sums = rw f.offered at c.sum_up-sums.ensures.0 in
    slots-run a.run.now a.offers.now a.outcomes.now a.sent.now a.tally _ _ _ _ _ f
    (ap (λ s. brought_up a.tally s (capacity_of a.run.now)) (sym sums) ∙ sym c.brought_up.ensures ∙ c.in_ok-after.ensures.ok_part)
    (runs_by _ a.run.now a.offers.now a.outcomes.now a.sent.now _ _ _ _ _ _ (rw f.offered at c.intake_all.ensures.run_after) (rw f.offered at c.intake_all.ensures.outcomes_after) (rw f.offered at c.send-k.ensures))
