-- Laws of specs/Ready.antt. What the verdict's functions may take for granted of a session taken apart. Assumes nothing.
use Rattle.std.specs.Prelude.{◌≡◌, List, ℕ, ◌+◌, ◌*◌, ◌≤◌, ◌<◌}
use Rattle.std.proofs.Common.{ap, arith}
use Rattle.curve.specs.Curve.{Curve, at}
use Rattle.curve.proofs.Bounds.{at_most}
use Rattle.curve.specs.Drawn.{drawn}
use Rattle.curve.specs.Lookup.{Sized}
use Rattle.sheet.specs.Limits.{longest_period}
use Rattle.sheet.specs.Sheet.{Session, Sheet, session, session_count, WellMadeCurve, WellMade}
use Rattle.sheet.specs.Bytes.{sheet_of}
use Rattle.sheet.specs.Told.{SessionIn}
use Rattle.sheet.proofs.ToldLaws.{service_in, envelope_in}
use Rattle.sheet.specs.Ready.{Ready}
use Rattle.sheet.proofs.ReadyLaws.{few-slots, made_at}
use Rattle.sheet.specs.declared.fields.Session.{Session as SessionAt}
use Rattle.verdict.specs.Load.{Tables}
use Rattle.verdict.specs.Ready.{Drawn}

-- a curve within 01's limits is one that the look-ups take, and its values are small
module _ (P : ℕ) (F : Curve) (g : WellMadeCurve P F) where
  pub sized : P ≤ longest_period → Sized P F
  sized few =
      record {
        period = g.curve.period;
        few = few;
        long = g.curve.long;
        short = g.short;
        rate = omega (arith, g.rate);
      }

  pub curve-most : (x : ℕ) → at P F x ≤ 500 + 256 * x
  curve-most = at_most P F 500 256 g.curve.period g.curve.long g.values g.rate

-- a session taken apart has such curves
module _ (P : ℕ) (s : SessionAt) (d : Drawn P s) where
  pub service-sized : Sized P (drawn s.service)
  service-sized = sized P (drawn s.service) d.service d.few

  pub envelope-sized : Sized P (drawn s.envelope)
  envelope-sized = sized P (drawn s.envelope) d.envelope d.few

-- and the envelope's values are the session's
pub envelope-at : (P : ℕ) (session : Session) (s : SessionAt) → SessionIn session s → (x : ℕ) → at P (drawn s.envelope) x ≡ at P session.envelope x
envelope-at P session s lies x = ap (λ F. at P F x) (envelope_in session s lies)

-- a well-made sheet's tables
pub made-tables : (sheet : Sheet) → WellMade sheet → Tables sheet.period (λ i. (session sheet i).envelope) (λ i. (session sheet i).service) (session_count sheet)
made-tables sheet made =
    record {
      envelope-long = λ i h. (made.each i h).envelope.curve.long;
      envelope-short = λ i h. (made.each i h).envelope.short;
      service-long = λ i h. (made.each i h).service.curve.long;
      service-short = λ i h. (made.each i h).service.short;
    }

-- each session of a sheet that reads is one
pub rest_drawn : (bytes starts : List ℕ) (count c P : ℕ) (r : Ready bytes starts count c P) (i : ℕ) → i < count
    → (s : SessionAt) → SessionIn (session (sheet_of bytes) i) s
    → Drawn P s
rest_drawn bytes starts count c P r i h s lies =
    let made = made_at bytes starts count c P r i h in
    record {
      service = rw (service_in _ s lies) made.service;
      envelope = rw (envelope_in _ s lies) made.envelope;
      promises = rw (ap (λ (F : Curve). F.rate) (service_in _ s lies)) made.promises;
      few = few-slots bytes starts count c P r;
    }
