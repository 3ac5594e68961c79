-- Laws of specs/Open.antt. What `open` answers and leaves in the run, for any bytes and any slice: the refusals 13, 1 to 11 and 12 with their places, or the run before slot 1. Assumes nothing.
use Rattle.std.specs.Prelude.{◌≡◌, refl, List, ◌⊎◌, ℕ, ◌≤◌, ◌<◌, length}
use Rattle.std.proofs.Common.{sym, ap, ◌∙◌, inl, inr, arith}
use Rattle.curve.proofs.OrderLaws.{le_or_lt}
use Rattle.sheet.specs.Makes.{AllBytes}
use Rattle.verdict.specs.Verdict.{Case, passed, failed, unreadable, Says}
use Rattle.verdict.proofs.OneVerdict.{one-case, some-verdict}
use Rattle.layout.specs.Layout.{run_numbers}
use Rattle.opening.specs.Open.{Answer, opened, refused, answer_by, run_by, Opens}

-- a slice that is too short, and one that is not, with the case that holds
pub opens-short : (bytes run : List ℕ) → length run < run_numbers → Opens bytes run run (refused 13 0)
opens-short bytes run h = record { too_short = λ k. (refl, refl); long-enough = λ k. absurd (omega arith) }

pub opens_by : (bytes run after : List ℕ) (answer : Answer) (v : Case) → run_numbers ≤ length run → Says bytes v
    → answer ≡ answer_by v → after ≡ run_by v bytes run → Opens bytes run after answer
opens_by bytes run after answer v h s a r =
    record {
      too_short = λ k. absurd (omega arith);
      long-enough = λ k w t.
          let e = one-case bytes v w s t in
          (a ∙ ap answer_by e, r ∙ ap (λ u. run_by u bytes run) e);
    }

-- ONE ANSWER: two calls on the same bytes and the same slice answer and leave the same
pub one-opening : (bytes run after other : List ℕ) (a b : Answer) → AllBytes bytes → Opens bytes run after a → Opens bytes run other b → (a ≡ b) × (after ≡ other)
one-opening bytes run after other a b all f g = go (le_or_lt run_numbers (length run))
  where
    go : (run_numbers ≤ length run) ⊎ (length run < run_numbers) → (a ≡ b) × (after ≡ other)
    go (inr h) = ((f.too_short h).0 ∙ sym (g.too_short h).0, (f.too_short h).1 ∙ sym (g.too_short h).1)
    go (inl h) =
        let v = some-verdict bytes all in
        let x = f.long-enough h v.0 v.1 in
        let y = g.long-enough h v.0 v.1 in
        (x.0 ∙ sym y.0, x.1 ∙ sym y.1)

-- A REFUSED OPENING CHANGES NOTHING
pub opened_or_refused : (number place : ℕ) → opened ≡ refused number place → ⊥
opened_or_refused number place e =
    let z : ◌≡◌ {A = ℕ} 0 1 = cc in
    omega arith

pub unchanged : (bytes run after : List ℕ) (number place : ℕ) → AllBytes bytes → Opens bytes run after (refused number place) → after ≡ run
unchanged bytes run after number place all o = go (le_or_lt run_numbers (length run)) (some-verdict bytes all)
  where
    go : (run_numbers ≤ length run) ⊎ (length run < run_numbers) → ((v : Case) × Says bytes v) → after ≡ run
    go (inr h) v = (o.too_short h).1
    go (inl h) (passed slack t, s) = absurd (opened_or_refused number place (sym (o.long-enough h (passed slack t) s).0))
    go (inl h) (failed t, s) = (o.long-enough h (failed t) s).1
    go (inl h) (unreadable other at, s) = (o.long-enough h (unreadable other at) s).1
