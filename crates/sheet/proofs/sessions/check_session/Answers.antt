-- The fields' lines come first, and then the curves'. Assumes nothing.
use Rattle.std.proofs.Common.{rules}
use Rattle.std.proofs.lemmas.Result.{err_from_is_err_and}
use Rattle.sheet.specs.Reading.{field_lines, session_lines}
use Rattle.sheet.proofs.ClearsLaws.{clear-fields}
use Rattle.sheet.proofs.ToldLaws.{check_clear, check_found, check_next}
use Rattle.sheet.proofs.sessions.check_session.Goals as goal

pub returns-in_err-check_fields : goal.returns-in_err-check_fields
unfolding session_lines
returns-in_err-check_fields c =
    let p = err_from_is_err_and c.from_residual.result c.from_residual.ensures.1 in
    rw (p.1, p.2) (check_found (field_lines c.args.period.0 c.args.rest.now c.args.place) _ c.check_fields.ensures c.in_err-check_fields.was)

pub check_curves-requires : goal.check_curves-requires
check_curves-requires c = (search rules, search rules, clear-fields _ _ _ (check_clear _ c.check_fields.ensures c.in_ok-check_fields.was))

pub returns : goal.returns
unfolding session_lines
returns c = check_next (field_lines c.args.period.0 c.args.rest.now c.args.place) _ c.check_fields.ensures c.in_ok-check_fields.was c.check_curves.ensures
