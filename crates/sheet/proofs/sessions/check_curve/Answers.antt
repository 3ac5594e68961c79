-- The values' lines come first, and then the join's, whose two values stand in the table. Assumes nothing.
use Rattle.std.proofs.Common.{sym}
use Rattle.std.proofs.lemmas.Result.{err_from_is_err_and}
use Rattle.words.specs.Words.{words}
use Rattle.curve.specs.Drawn.{drawn}
use Rattle.sheet.specs.Reading.{value_lines, table_lines}
use Rattle.sheet.proofs.Values.{join_falls, join_holds}
use Rattle.sheet.proofs.ToldLaws.{check_found, check_next}
use Rattle.sheet.proofs.sessions.check_curve.Goals as goal

pub returns-in_err-check_values : goal.returns-in_err-check_values
unfolding table_lines
returns-in_err-check_values c =
    let p = err_from_is_err_and c.from_residual.result c.from_residual.ensures.1 in
    rw (p.1, p.2) (check_found (value_lines (words c.args.curve.now.table.0.now) 0 c.args.place) _ c.check_values.ensures c.in_err-check_values.was)

pub returns-then-entry-curve : goal.returns-then-entry-curve
unfolding table_lines
returns-then-entry-curve c =
    let F = drawn c.args.curve.now in
    let e = rw (c.entry.ensures.value, c.entry-2.ensures.value, c.len-n.ensures) at c.if-entry-curve.true in
    rw c.at.ensures
    (check_next (value_lines F.table 0 c.args.place) _ c.check_values.ensures c.in_ok-check_values.was (sym (join_falls c.args.period.0 F c.args.rate_place c.requires.period.0 c.requires.period.1 e)))

pub returns : goal.returns
unfolding table_lines
returns c =
    let F = drawn c.args.curve.now in
    let e = rw (c.entry.ensures.value, c.entry-2.ensures.value, c.len-n.ensures) at c.if-entry-curve.false in
    check_next (value_lines F.table 0 c.args.place) _ c.check_values.ensures c.in_ok-check_values.was (sym (join_holds c.args.period.0 F c.args.rate_place c.requires.period.0 c.requires.period.1 e))
