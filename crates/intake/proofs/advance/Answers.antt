-- Each turn of the loop reads what stood there at first, so after j turns j numbers of the new table are written; the last comes after the loop. Assumes nothing.
use Rattle.std.proofs.Common.{◌≡◌, ◌+◌, ◌-◌, ◌<◌, ℕ, List, min, length, get_or, ap, ap₂, ◌∙◌, arith}
use Rattle.std.proofs.Math.ListN.{set}
use Rattle.intake.specs.Advance.{advancing, advancing-none, advancing-all, advancing-more, next_in, next-join}
use Rattle.intake.proofs.advance.Goals as goal

pub loop-j-init : goal.loop-j-init
loop-j-init c =
    let a = c.args in
    advancing-none a.own.now a.ahead.now a.period a.rate a.total

pub loop-j-preserved : goal.loop-j-preserved
loop-j-preserved c =
    let a = c.args in
    let j = c.loop-j.j in
    let so_far = advancing a.own.now a.ahead.now a.period a.rate a.total j in
    let next = get_or so_far (j + 1) 0 in
    let own = a.total + get_or a.own.now j 0 in
    let h : j < length a.ahead.now = omega (arith, c.loop-j-test.true) in
    ap₂ (λ (r : List ℕ) (v : ℕ). set r j v) c.loop-j.invariant (c.min.ensures ∙ ap (λ (r : List ℕ). min (get_or r (j + 1) 0) own) c.loop-j.invariant)
    ∙ advancing-more a.own.now a.ahead.now a.period a.rate a.total c.requires j h next
    (next_in a.own.now a.ahead.now a.period a.rate a.total c.requires j h (omega (arith, c.loop-j-test.true)))

pub returns : goal.returns
returns c =
    let a = c.args in
    let end = length a.ahead.now - 1 in
    let h : end < length a.ahead.now = omega (arith, c.requires.period, c.requires.long) in
    let e : c.loop-j.j ≡ end = omega (arith, c.loop-j-test.false, c.loop-j.auto.j-end) in
    let up : end + 1 ≡ length a.ahead.now = omega arith in
    let so_far = advancing a.own.now a.ahead.now a.period a.rate a.total in
    ap₂ (λ (r : List ℕ) (v : ℕ). set r end v) (c.loop-j.invariant ∙ ap so_far e) c.min-2.ensures
    ∙ advancing-more a.own.now a.ahead.now a.period a.rate a.total c.requires end h _
    (next-join a.own.now a.ahead.now a.period a.rate a.total c.requires end h (omega arith))
    ∙ ap so_far up
    ∙ advancing-all a.own.now a.ahead.now a.period a.rate a.total c.requires
