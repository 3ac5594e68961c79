-- Each refusal has its own answer; the guard's test tells both ways. Assumes nothing.
use Rattle.std.proofs.Common.{inl, inr, arith}
use Rattle.guard.specs.Opened.{Opened}
use Rattle.run.specs.Why.{Why}
use Rattle.run.proofs.may_run.Goals as goal
use Rattle.run.proofs.may_run.Goals.{Else-not-opened}

-- once the test has said yes
is-opened : (c : Else-not-opened) → Opened c.args.run.now
is-opened c = c.opened.ensures.0 c.if-not-opened.false

pub returns-then-run-lt-RUN_NUMBERS : goal.returns-then-run-lt-RUN_NUMBERS
returns-then-run-lt-RUN_NUMBERS c = Why.short c.if-run-lt-RUN_NUMBERS.true

pub returns-then-not-opened : goal.returns-then-not-opened
returns-then-not-opened c = Why.closed c.if-run-lt-RUN_NUMBERS.false (c.opened.ensures.1 c.if-not-opened.true)

pub returns-then-offers-count : goal.returns-then-offers-count
returns-then-offers-count c =
    Why.amiss c.if-run-lt-RUN_NUMBERS.false (is-opened (goal.at.returns-then-offers-count c).Else-not-opened) c.if-offers-count.true

pub returns-then-outcomes-count : goal.returns-then-outcomes-count
returns-then-outcomes-count c =
    Why.scant c.if-run-lt-RUN_NUMBERS.false (is-opened (goal.at.returns-then-outcomes-count c).Else-not-opened) c.if-offers-count.false (inl c.if-outcomes-count.true)

pub returns-then-sent-capacity : goal.returns-then-sent-capacity
returns-then-sent-capacity c =
    Why.scant c.if-run-lt-RUN_NUMBERS.false (is-opened (goal.at.returns-then-sent-capacity c).Else-not-opened) c.if-offers-count.false (inr c.if-sent-capacity.true)

pub returns-then-not-left : goal.returns-then-not-left
returns-then-not-left c =
    let o = is-opened (goal.at.returns-then-not-left c).Else-not-opened in
    Why.spent c.if-run-lt-RUN_NUMBERS.false o c.if-offers-count.false c.if-outcomes-count.false c.if-sent-capacity.false (omega (arith, o.done, c.if-not-left.true))

pub returns : goal.returns
returns c =
    let o = is-opened (goal.at.returns c).Else-not-opened in
    Why.none (record { size = c.if-run-lt-RUN_NUMBERS.false; opened = o; offered = c.if-offers-count.false; outs_fit = c.if-outcomes-count.false; sents_fit = c.if-sent-capacity.false; left = c.if-not-left.false })
