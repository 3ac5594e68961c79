-- Each field stands where its definition says. Assumes nothing.
use Rattle.std.proofs.Common.{◌≡◌, ◌+◌, ◌-◌, ◌*◌, arith}
use Rattle.sheet.specs.Bytes.{service_length, envelope_length, session_of}
use Rattle.sheet.proofs.fields.fields.Goals as goal
use Rattle.sheet.proofs.fields.fields.Goals.{After-byte-2}

-- how long the two parts are
services : (c : After-byte-2) → 7 + 2 * c.byte.result - 7 ≡ 2 * service_length c.args.rest.now
services c = omega (arith, c.byte.ensures.0)

envelopes : (c : After-byte-2) → 7 + 2 * c.byte.result + 2 * c.byte-2.result - (7 + 2 * c.byte.result) ≡ 2 * envelope_length c.args.rest.now
envelopes c = omega (arith, c.byte-2.ensures.0)

pub returns-clause-is : goal.returns-clause-is
unfolding session_of
returns-clause-is c =
    let a = services (goal.at.returns-clause-is c).After-byte-2 in
    let b = envelopes (goal.at.returns-clause-is c).After-byte-2 in
    record {
      service = rw (a, c.word.ensures.0);
      envelope = rw (b, c.byte.ensures.0, c.word-2.ensures.0);
      room = rw c.byte-3.ensures.0;
    }

pub returns-clause-lies : goal.returns-clause-lies
returns-clause-lies c =
    let a = services (goal.at.returns-clause-lies c).After-byte-2 in
    let b = envelopes (goal.at.returns-clause-lies c).After-byte-2 in
    record { service = rw a; envelope = rw (b, c.byte.ensures.0) }
