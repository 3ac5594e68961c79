-- The first of the refusals 13 to 17 that applies to a slot, or 0 where none does, and that no two do. Assumes nothing.
use Rattle.std.specs.Prelude.{◌≡◌, refl, List, ◌≢◌, ◌⊎◌, ℕ, ◌*◌, ◌≤◌, ◌<◌, length, get_or}
use Rattle.std.proofs.Common.{inl, inr, arith}
use Rattle.layout.specs.Layout.{run_numbers, capacity_at, period_at, count_at, done_at}
use Rattle.layout.specs.Sound.{most_slots}
use Rattle.guard.specs.Opened.{Opened}
use Rattle.send.specs.Send.{note_numbers}
use Rattle.intake.specs.Intakes.{AllSound, outcome_numbers}

-- the head's numbers
abbrev pub capacity_of : List ℕ → ℕ
capacity_of run = get_or run capacity_at 0

abbrev pub period_of : List ℕ → ℕ
period_of run = get_or run period_at 0

abbrev pub count_of : List ℕ → ℕ
count_of run = get_or run count_at 0

abbrev pub done_of : List ℕ → ℕ
done_of run = get_or run done_at 0

-- the numbers of a result slice are too few
abbrev pub Scant : List ℕ → ℕ → ℕ → Type 0
Scant run outs sents = (outs < outcome_numbers * count_of run) ⊎ (sents < note_numbers * capacity_of run)

-- a slot may be run, but for the tally
pub record Fit (run offers : List ℕ) (outs sents : ℕ) : Type 0 where
  pub size : run_numbers ≤ length run
  pub opened : Opened run
  pub offered : length offers ≡ count_of run
  pub outs_fit : outcome_numbers * count_of run ≤ outs
  pub sents_fit : note_numbers * capacity_of run ≤ sents
  pub left : done_of run < most_slots

-- WHY: each refusal where those before it do not apply
pub data Why (run offers : List ℕ) (outs sents : ℕ) : ℕ → Type 0 where
  short : length run < run_numbers → Why run offers outs sents 13
  closed : run_numbers ≤ length run → (Opened run → ⊥) → Why run offers outs sents 14
  amiss : run_numbers ≤ length run → Opened run → length offers ≢ count_of run → Why run offers outs sents 15
  scant : run_numbers ≤ length run → Opened run → length offers ≡ count_of run → Scant run outs sents → Why run offers outs sents 16
  spent : run_numbers ≤ length run → Opened run → length offers ≡ count_of run → outcome_numbers * count_of run ≤ outs → note_numbers * capacity_of run ≤ sents → done_of run ≡ most_slots → Why run offers outs sents 17
  none : Fit run offers outs sents → Why run offers outs sents 0

-- the same, read from the input to the number
pub record Whence (run offers : List ℕ) (outs sents r : ℕ) : Type 0 where
  pub short : length run < run_numbers → r ≡ 13
  pub closed : run_numbers ≤ length run → (Opened run → ⊥) → r ≡ 14
  pub amiss : run_numbers ≤ length run → Opened run → length offers ≢ count_of run → r ≡ 15
  pub scant : run_numbers ≤ length run → Opened run → length offers ≡ count_of run → Scant run outs sents → r ≡ 16
  pub spent : run_numbers ≤ length run → Opened run → length offers ≡ count_of run → outcome_numbers * count_of run ≤ outs → note_numbers * capacity_of run ≤ sents → done_of run ≡ most_slots → r ≡ 17
  pub none : Fit run offers outs sents → r ≡ 0

module _ (run offers : List ℕ) (outs sents : ℕ) where
  not_scant : outcome_numbers * count_of run ≤ outs → note_numbers * capacity_of run ≤ sents → Scant run outs sents → ⊥
  not_scant a b (inl h) = omega arith
  not_scant a b (inr h) = omega arith

  pub whence : (r : ℕ) → Why run offers outs sents r → Whence run offers outs sents r
  whence r (short h) = record {
    short = λ _. refl;
    closed = λ s. absurd (omega arith);
    amiss = λ s. absurd (omega arith);
    scant = λ s. absurd (omega arith);
    spent = λ s. absurd (omega arith);
    none = λ f. absurd (omega (arith, f.size));
  }
  whence r (closed h n) = record {
    short = λ s. absurd (omega arith);
    closed = λ _ _. refl;
    amiss = λ s o. absurd (n o);
    scant = λ s o. absurd (n o);
    spent = λ s o. absurd (n o);
    none = λ f. absurd (n f.opened);
  }
  whence r (amiss h o n) = record {
    short = λ s. absurd (omega arith);
    closed = λ s m. absurd (m o);
    amiss = λ _ _ _. refl;
    scant = λ s p e. absurd (n e);
    spent = λ s p e. absurd (n e);
    none = λ f. absurd (n f.offered);
  }
  whence r (scant h o e x) = record {
    short = λ s. absurd (omega arith);
    closed = λ s m. absurd (m o);
    amiss = λ s p m. absurd (m e);
    scant = λ _ _ _ _. refl;
    spent = λ s p q a b. absurd (not_scant a b x);
    none = λ f. absurd (not_scant f.outs_fit f.sents_fit x);
  }
  whence r (spent h o e a b d) = record {
    short = λ s. absurd (omega arith);
    closed = λ s m. absurd (m o);
    amiss = λ s p m. absurd (m e);
    scant = λ s p q x. absurd (not_scant a b x);
    spent = λ _ _ _ _ _ _. refl;
    none = λ f. absurd (omega (arith, f.left));
  }
  whence r (none f) = record {
    short = λ s. absurd (omega (arith, f.size));
    closed = λ s m. absurd (m f.opened);
    amiss = λ s p m. absurd (m f.offered);
    scant = λ s p q x. absurd (not_scant f.outs_fit f.sents_fit x);
    spent = λ s p q a b d. absurd (omega (arith, f.left));
    none = λ _. refl;
  }

  -- ONE NUMBER
  pub one-why : (r q : ℕ) → Why run offers outs sents r → Why run offers outs sents q → r ≡ q
  one-why r q w (short h) = (whence r w).short h
  one-why r q w (closed h n) = (whence r w).closed h n
  one-why r q w (amiss h o n) = (whence r w).amiss h o n
  one-why r q w (scant h o e x) = (whence r w).scant h o e x
  one-why r q w (spent h o e a b d) = (whence r w).spent h o e a b d
  one-why r q w (none f) = (whence r w).none f

  pub fit_of : (r : ℕ) → Why run offers outs sents r → r ≡ 0 → Fit run offers outs sents
  fit_of r (short h) e = absurd (omega arith)
  fit_of r (closed h n) e = absurd (omega arith)
  fit_of r (amiss h o n) e = absurd (omega arith)
  fit_of r (scant h o q x) e = absurd (omega arith)
  fit_of r (spent h o q a b d) e = absurd (omega arith)
  fit_of r (none f) e = f

  -- 18 is no refusal of the slices: it comes after all of these
  pub not_18 : (r : ℕ) → Why run offers outs sents r → r ≢ 18
  not_18 r (short h) e = omega arith
  not_18 r (closed h n) e = omega arith
  not_18 r (amiss h o n) e = omega arith
  not_18 r (scant h o q x) e = omega arith
  not_18 r (spent h o q a b d) e = omega arith
  not_18 r (none f) e = omega arith

  -- what the intake asks
  pub fit-sound : Fit run offers outs sents → AllSound run (count_of run) (period_of run) (done_of run)
  fit-sound f = record { few = f.opened.few; size = f.size; sound = f.opened.blocks }
