-- Each sum tells whether one total would pass the most; where none would, they are the tally. Assumes nothing.
use Rattle.std.proofs.Common.{sym, ◌∙◌, arith}
use Rattle.run.specs.Brought.{brought_much, brought_by}
use Rattle.run.proofs.tally.brought_up.Goals as goal

pub returns-in_err-checked_add : goal.returns-in_err-checked_add
returns-in_err-checked_add c =
    let a = c.args in
    c.from_residual.ensures ∙ sym (brought_much a.tally a.sums a.capacity (λ w. c.in_err-checked_add.ensures (omega (arith, w.offered))))

pub returns-in_err-checked_add-2 : goal.returns-in_err-checked_add-2
returns-in_err-checked_add-2 c =
    let a = c.args in
    c.from_residual-in_err-checked_add-2.ensures ∙ sym (brought_much a.tally a.sums a.capacity (λ w. c.in_err-checked_add-2.ensures (omega (arith, w.taken_in))))

pub returns-in_err-checked_add-3 : goal.returns-in_err-checked_add-3
returns-in_err-checked_add-3 c =
    let a = c.args in
    c.from_residual-in_err-checked_add-3.ensures ∙ sym (brought_much a.tally a.sums a.capacity (λ w. c.in_err-checked_add-3.ensures (omega (arith, w.over))))

pub returns-in_err-checked_add-4 : goal.returns-in_err-checked_add-4
returns-in_err-checked_add-4 c =
    let a = c.args in
    c.from_residual-in_err-checked_add-4.ensures ∙ sym (brought_much a.tally a.sums a.capacity (λ w. c.in_err-checked_add-4.ensures (omega (arith, w.no_room))))

pub returns-in_err-checked_add-5 : goal.returns-in_err-checked_add-5
returns-in_err-checked_add-5 c =
    let a = c.args in
    c.from_residual-in_err-checked_add-5.ensures ∙ sym (brought_much a.tally a.sums a.capacity (λ w. c.in_err-checked_add-5.ensures (omega (arith, c.min-sent.ensures, w.sent))))

pub returns : goal.returns
returns c =
    let a = c.args in
    let offered = c.in_ok-checked_add.ensures in
    let taken_in = c.in_ok-checked_add-2.ensures in
    let over = c.in_ok-checked_add-3.ensures in
    let no_room = c.in_ok-checked_add-4.ensures in
    let sent = c.in_ok-checked_add-5.ensures in
    rw (offered.1, taken_in.1, over.1, no_room.1, sent.1)
    (brought_by a.tally a.sums a.capacity c.min-sent.result c.min-sent.ensures
    (omega (arith, offered.0)) (omega (arith, taken_in.0)) (omega (arith, over.0)) (omega (arith, no_room.0)) (omega (arith, sent.0)))
