-- The service's lines come first, and then the envelope's; what `fields` finds are the session's curves. Assumes nothing.
use Rattle.std.proofs.Common.{◌≡◌, ◌+◌, ◌*◌, length, ap, ◌∙◌, arith}
use Rattle.std.proofs.lemmas.Result.{err_from_is_err_and}
use Rattle.curve.specs.Curve.{Curve}
use Rattle.curve.specs.Drawn.{drawn}
use Rattle.sheet.specs.Limits.{fixed_bytes}
use Rattle.sheet.specs.Bytes.{service_length, envelope_length, envelope_place, service_rate, envelope_rate, session_of}
use Rattle.sheet.specs.Refusal.{first}
use Rattle.sheet.specs.Reading.{table_lines, tables_lines}
use Rattle.sheet.specs.Told.{fault}
use Rattle.sheet.proofs.MakesLaws.{service-length, envelope-length}
use Rattle.sheet.proofs.ToldLaws.{check_found, check_next}
use Rattle.sheet.proofs.sessions.check_curves.Goals as goal
use Rattle.sheet.proofs.sessions.check_curves.Goals.{After-check_curve, After-fields-session}

-- the two curves as they were found: how long their tables are, and their rates
services : (c : After-fields-session) → length (drawn c.fields-session.result.service).table ≡ service_length c.args.rest.now
services c = ap (λ (F : Curve). length F.table) c.fields-session.ensures.is.service ∙ service-length c.args.rest.now c.requires.2.all

envelopes : (c : After-fields-session) → length (drawn c.fields-session.result.envelope).table ≡ envelope_length c.args.rest.now
envelopes c = ap (λ (F : Curve). length F.table) c.fields-session.ensures.is.envelope ∙ envelope-length c.args.rest.now c.requires.2.all

serving : (c : After-fields-session) → c.fields-session.result.service.rate.0 ≡ service_rate c.args.rest.now
unfolding session_of
serving c = ap (λ (F : Curve). F.rate) c.fields-session.ensures.is.service

keeping : (c : After-fields-session) → c.fields-session.result.envelope.rate.0 ≡ envelope_rate c.args.rest.now
unfolding session_of
keeping c = ap (λ (F : Curve). F.rate) c.fields-session.ensures.is.envelope

-- what is found of the service
service : (c : After-check_curve) → fault c.check_curve.result
    ≡ first (table_lines c.args.period.0 (session_of c.args.rest.now).service (c.args.place + fixed_bytes) (c.args.place + 3))
service c =
    c.check_curve.ensures ∙ ap (λ F. first (table_lines c.args.period.0 F (c.args.place + fixed_bytes) (c.args.place + 3))) c.fields-session.ensures.is.service

pub overflow_cast-join : goal.overflow_cast-join
overflow_cast-join c = omega (arith, services (goal.at.overflow_cast-join c).After-fields-session, c.len.ensures, c.requires.2.service-short)

pub overflow_mul-join : goal.overflow_mul-join
overflow_mul-join c = omega (arith, services (goal.at.overflow_mul-join c).After-fields-session, c.len.ensures, c.requires.2.service-short)

pub overflow_add-join : goal.overflow_add-join
overflow_add-join c = omega (arith, services (goal.at.overflow_add-join c).After-fields-session, c.len.ensures, c.requires.2.service-short)

pub check_curve-requires-clause-period : goal.check_curve-requires-clause-period
check_curve-requires-clause-period c =
    let n = services (goal.at.check_curve-requires-clause-period c).After-fields-session in
    (c.requires.0, omega (arith, n, c.requires.2.service-long))

pub check_curve-requires-clause-small : goal.check_curve-requires-clause-small
check_curve-requires-clause-small c =
    let s = (goal.at.check_curve-requires-clause-small c).After-fields-session in
    (omega (arith, services s, c.requires.2.service-short), omega (arith, serving s, c.requires.2.service-rate), omega arith)

pub returns-in_err-check_curve : goal.returns-in_err-check_curve
unfolding tables_lines
returns-in_err-check_curve c =
    let p = err_from_is_err_and c.from_residual.result c.from_residual.ensures.1 in
    let lines = table_lines c.args.period.0 (session_of c.args.rest.now).service (c.args.place + fixed_bytes) (c.args.place + 3) in
    rw (p.1, p.2) (check_found lines _ (service (goal.at.returns-in_err-check_curve c).After-check_curve) c.in_err-check_curve.was)

pub check_curve-requires-2-clause-period : goal.check_curve-requires-2-clause-period
check_curve-requires-2-clause-period c =
    let n = envelopes (goal.at.check_curve-requires-2-clause-period c).After-fields-session in
    (c.requires.0, omega (arith, n, c.requires.2.envelope-long))

pub check_curve-requires-2-clause-small : goal.check_curve-requires-2-clause-small
check_curve-requires-2-clause-small c =
    let s = (goal.at.check_curve-requires-2-clause-small c).After-fields-session in (
      omega (arith, envelopes s, c.requires.2.envelope-short),
      omega (arith, keeping s, c.requires.2.envelope-rate),
      omega (arith, services s, c.len.ensures, c.requires.2.service-short),
    )

pub returns : goal.returns
unfolding tables_lines
returns c =
    let s = (goal.at.returns c).After-check_curve in
    let lines = table_lines c.args.period.0 (session_of c.args.rest.now).service (c.args.place + fixed_bytes) (c.args.place + 3) in
    let e : c.args.place + 7 + 2 * c.len.result ≡ c.args.place + envelope_place c.args.rest.now = omega (arith, c.len.ensures, services (goal.at.returns c).After-fields-session) in
    check_next lines _ (service s) c.in_ok-check_curve.was
    (c.check_curve-2.ensures
    ∙ ap (λ F. first (table_lines c.args.period.0 F (c.args.place + 7 + 2 * c.len.result) (c.args.place + 5))) c.fields-session.ensures.is.envelope
    ∙ ap (λ k. first (table_lines c.args.period.0 (session_of c.args.rest.now).envelope k (c.args.place + 5))) e)
