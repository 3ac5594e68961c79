-- Laws of specs/Told.antt. What the reader's answer says in document 01's numbers, and what a check that comes first leaves to those after it. Assumes nothing.
use Rattle.std.specs.Prelude.{◌≡◌, Result, Ok, Err, List, ◌++◌, ℕ}
use Rattle.std.proofs.Common.{sym, ap, ◌∙◌, arith}
use Rattle.curve.specs.Drawn.{drawn}
use Rattle.refusal.specs.declared.Refusal.{Refusal as Refused}
use Rattle.sheet.specs.Refusal.{Refusal, Line, first, Clear}
use Rattle.sheet.proofs.RefusalLaws.{first_found, first-clear}
use Rattle.sheet.specs.Sheet.{Session}
use Rattle.sheet.specs.declared.fields.Session.{Session as SessionAt}
use Rattle.sheet.specs.Told.{read, refusal, fault, SessionIn, as_session}

-- the two are apart
pub read-refusal : (c P m number place : ℕ) → read c P m ≡ refusal number place → ⊥
read-refusal c P m number place e =
    let z : ◌≡◌ {A = ℕ} 0 1 = cc in
    omega arith

-- a check that finds nothing: none of its lines applies
pub check_clear : (xs : List Line) {a : Result Unit Refused} {u : Unit} → fault a ≡ first xs → a ≡ Ok u → Clear xs
check_clear xs f e = sym f ∙ ap fault e

-- what it finds is found first
pub check_found : (xs ys : List Line) {a : Result Unit Refused} {r : Refused} → fault a ≡ first xs → a ≡ Err r → fault (Err r) ≡ first (xs ++ ys)
check_found xs ys f e = sym (first_found xs ys _ _ (sym f ∙ ap fault e))

-- with nothing found, it is left to what comes after
pub check_next : (xs ys : List Line) {a : Result Unit Refused} {u : Unit} {o : Refusal} → fault a ≡ first xs → a ≡ Ok u → o ≡ first ys → o ≡ first (xs ++ ys)
check_next xs ys f e g = g ∙ sym (first-clear xs ys (check_clear xs f e))

module _ (session : Session) (s : SessionAt) (h : SessionIn session s) where
  -- the parts are the session's curves
  pub service_in : drawn s.service ≡ session.service
  service_in = h.service

  pub envelope_in : drawn s.envelope ≡ session.envelope
  envelope_in = h.envelope

  -- and it is that session
  pub session_is : as_session s ≡ session
  session_is = λ i. record { service = service_in i; envelope = envelope_in i; room = h.room i }
