-- The verdict's contract leaves one answer, and always some: two answers that both meet it for the same bytes are equal, and of any bytes one of the three cases holds. Assumes nothing.
use Rattle.std.specs.Prelude.{◌≡◌, refl, ◌⊎◌, List, ℕ, ◌≤◌}
use Rattle.std.proofs.Common.{sym, ap, ◌∙◌, inl, inr, arith, ext_get_or}
use Rattle.refusal.specs.Numbers.{number_of}
use Rattle.curve.specs.declared.Slots.{Slots}
use Rattle.sheet.specs.Refusal.{Refusal, none, refused}
use Rattle.sheet.specs.Bytes.{sheet_of}
use Rattle.sheet.specs.Reading.{reading}
use Rattle.sheet.specs.Makes.{AllBytes}
use Rattle.sheet.proofs.MakesLaws.{makes}
use Rattle.sheet.proofs.OneAnswer.{refused-one}
use Rattle.verdict.specs.Passes.{Passes, Fails}
use Rattle.verdict.proofs.PassesLaws.{passed-one, failed-one, not_both}
use Rattle.verdict.proofs.AnswerLaws.{some-answer, fails_by}
use Rattle.verdict.specs.Link.{walk_end}
use Rattle.verdict.proofs.LinkLaws.{even}
use Rattle.verdict.proofs.ReadyLaws.{made-tables}
use Rattle.verdict.specs.Verdict.{load_of, can_send, Case, passed, failed, unreadable, told, Says, Judges}
use Rattle.verdict.specs.declared.Verdict.{Verdict}
use Rattle.verdict.specs.declared.Verdict.TheVariants.{Passed, Failed, Unreadable}
use Rattle.verdict.specs.declared.Answer.{Answer}

-- the three cases are apart
passed-failed : (m t w : ℕ) → passed m t ≡ failed w → ⊥
passed-failed m t w e =
    let z : ◌≡◌ {A = ℕ} 0 1 = cc in
    omega arith

passed-unreadable : (m t n p : ℕ) → passed m t ≡ unreadable n p → ⊥
passed-unreadable m t n p e =
    let z : ◌≡◌ {A = ℕ} 0 1 = cc in
    omega arith

failed-unreadable : (w n p : ℕ) → failed w ≡ unreadable n p → ⊥
failed-unreadable w n p e =
    let z : ◌≡◌ {A = ℕ} 0 1 = cc in
    omega arith

-- a verdict is known by what it tells
pub told-one : (a b : Verdict) → told a ≡ told b → a ≡ b
told-one (Passed m t) (Passed n w) e =
    let em : m.0 ≡ n.0 = cc in
    let et : t.0 ≡ w.0 = cc in
    λ i. Passed (record { 0 = em i }) (record { 0 = et i })
told-one (Failed t) (Failed w) e =
    let et : t.0 ≡ w.0 = cc in
    λ i. Failed (record { 0 = et i })
told-one (Unreadable r) (Unreadable s) e =
    let en : number_of r.cause ≡ number_of s.cause = cc in
    let ep : r.place ≡ s.place = cc in
    ap Unreadable (refused-one r s en ep)
told-one (Passed m t) (Failed w) e = absurd (passed-failed _ _ _ e)
told-one (Passed m t) (Unreadable r) e = absurd (passed-unreadable _ _ _ _ e)
told-one (Failed w) (Passed m t) e = absurd (passed-failed _ _ _ (sym e))
told-one (Failed w) (Unreadable r) e = absurd (failed-unreadable _ _ _ e)
told-one (Unreadable r) (Passed m t) e = absurd (passed-unreadable _ _ _ _ (sym e))
told-one (Unreadable r) (Failed w) e = absurd (failed-unreadable _ _ _ (sym e))

-- bytes that read are not refused
read-refused : (o : Refusal) (n p : ℕ) → o ≡ none → o ≡ refused n p → ⊥
read-refused o n p e f =
    let z : ◌≡◌ {A = ℕ} 0 1 = cc in
    omega arith

-- of the same bytes only one case holds
pub one-case : (bytes : List ℕ) (c d : Case) → Says bytes c → Says bytes d → c ≡ d
one-case bytes (passed m t) (passed n w) f g =
    let e = passed-one (load_of (sheet_of bytes)) (can_send (sheet_of bytes).capacity) m t n w f.1 g.1 in
    λ i. passed (e.0 i) (e.1 i)
one-case bytes (failed t) (failed w) f g = ap failed (failed-one (load_of (sheet_of bytes)) (can_send (sheet_of bytes).capacity) t w f.1 g.1)
one-case bytes (unreadable n p) (unreadable k q) f g =
    let e : refused n p ≡ refused k q = sym f ∙ g in
    cc
one-case bytes (passed m t) (failed w) f g = absurd (not_both (load_of (sheet_of bytes)) (can_send (sheet_of bytes).capacity) m t w f.1 g.1)
one-case bytes (failed w) (passed m t) f g = absurd (not_both (load_of (sheet_of bytes)) (can_send (sheet_of bytes).capacity) m t w g.1 f.1)
one-case bytes (passed m t) (unreadable n p) f g = absurd (read-refused (reading bytes) n p f.0 g)
one-case bytes (failed w) (unreadable n p) f g = absurd (read-refused (reading bytes) n p f.0 g)
one-case bytes (unreadable n p) (passed m t) f g = absurd (read-refused (reading bytes) n p g.0 f)
one-case bytes (unreadable n p) (failed w) f g = absurd (read-refused (reading bytes) n p g.0 f)

-- a tuple struct is known by its number
slots-one : (s t : Slots) → s.0 ≡ t.0 → s ≡ t
slots-one s t e = λ i. record { 0 = e i }

-- ONE ANSWER
pub one-verdict : (bytes : List ℕ) (r s : Answer) → Judges bytes r.verdict r.figures → Judges bytes s.verdict s.figures → r ≡ s
one-verdict bytes r s a b =
    let v : r.verdict ≡ s.verdict = told-one r.verdict s.verdict (one-case bytes (told r.verdict) (told s.verdict) a.says b.says) in
    let f : r.figures ≡ s.figures =
    ext_get_or (record { 0 = 0 }) r.figures s.figures (a.figures_are.sixteen ∙ sym b.figures_are.sixteen)
    (λ j h. slots-one _ _ (a.figures_are.each j ∙ sym (b.figures_are.each j)))
    in
    λ i. record { verdict = v i; figures = f i }

-- SOME ANSWER
pub some-verdict : (bytes : List ℕ) → AllBytes bytes → (c : Case) × Says bytes c
some-verdict bytes all = go (reading bytes) refl
  where
    read : (e : reading bytes ≡ none)
        → ((slack : ℕ) × (w : ℕ) × Passes (load_of (sheet_of bytes)) (can_send (sheet_of bytes).capacity) slack w) ⊎ ((w : ℕ) × Fails (load_of (sheet_of bytes)) (can_send (sheet_of bytes).capacity) w)
        → (c : Case) × Says bytes c
    read e (inl f) = (passed f.0 f.1, (e, f.2))
    read e (inr f) = (failed f.0, (e, f.1))

    go : (o : Refusal) → reading bytes ≡ o → (c : Case) × Says bytes c
    go none e =
        let made = makes bytes all e in
        read e (some-answer _ _ _ walk_end (even _ _ made.capacity made.period) _ _ _ made.some-period made.period (made-tables (sheet_of bytes) made))
    go (refused n p) e = (unreadable n p, e)

-- a failing slot count is far below 4,294,967,296
pub failed-by : (bytes : List ℕ) → AllBytes bytes → (t : ℕ) → Says bytes (failed t) → t ≤ walk_end
failed-by bytes all t h =
    let made = makes bytes all h.0 in
    fails_by _ _ _ walk_end (even _ _ made.capacity made.period) _ _ _ made.some-period made.period (made-tables (sheet_of bytes) made) t h.1
