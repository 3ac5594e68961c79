-- What a slot's intake makes of a run's sessions in order, each by its own block, and the three numbers that it tells of each session. Assumes nothing.
use Rattle.std.specs.Prelude.{◌≡◌, ◌⊎◌, get_or, set, take, drop}
use Rattle.std.proofs.Math.Path.{refl, ap, ap₂}
use Rattle.std.proofs.Common.{sym, ◌∙◌, inl, inr, add-one}
use mathlib.Core.List.{List, ◌++◌}
use Prim.Native.Nat.{ℕ, zero, suc, ◌+◌, ◌-◌, ◌*◌, ◌≤◌, ◌<◌}
use native.Mathlib.Omega.{arith}
use Rattle.std.proofs.Math.ListN.{length, length-set}
use Rattle.curve.proofs.OrderLaws.{le_or_lt}
use Rattle.sheet.specs.Limits.{most_sessions}
use Rattle.layout.specs.Layout.{run_numbers, head_numbers, block_numbers, block_at, part, block}
use Rattle.layout.specs.Sound.{Sound}
use Rattle.layout.specs.Part.{part_length, part_lent}
use Rattle.layout.specs.Over.{over, length_over, over_out, over-part}
use Rattle.layout.specs.Splice.{over-apart, over_splice}
use Rattle.intake.specs.Share.{share_of}
use Rattle.intake.specs.Intake.{intake_of, length-took_in}
use Rattle.intake.specs.declared.Share.{Share}

-- a run whose first `count` blocks are sound
pub record AllSound (run : List ℕ) (count P done : ℕ) : Type 0 where
  pub few : count ≤ most_sessions
  pub size : run_numbers ≤ length run
  pub sound : (i : ℕ) → i < count → Sound (block run i) P done

-- three numbers are told of a session, in this order: taken in, over, no room
abbrev pub outcome_numbers : ℕ
outcome_numbers = 3

abbrev pub taken_outcome : ℕ → ℕ
taken_outcome i = outcome_numbers * i

abbrev pub over_outcome : ℕ → ℕ
over_outcome i = outcome_numbers * i + 1

abbrev pub no_room_outcome : ℕ → ℕ
no_room_outcome i = outcome_numbers * i + 2

-- the share of session i: its own block decides, as it was before the slot
abbrev pub share_at : List ℕ → List ℕ → ℕ → Share
share_at run offers i = share_of (block run i) (get_or offers i 0)

-- the run when so many sessions have had their intake
unfoldable pub intakes_of : List ℕ → List ℕ → ℕ → ℕ → ℕ → List ℕ
intakes_of run offers P done zero = run
intakes_of run offers P done (suc i) = over (intakes_of run offers P done i) (block_at i) (intake_of (block run i) P done (get_or offers i 0))

abbrev pub told : List ℕ → ℕ → Share → List ℕ
told outcomes i s = set (set (set outcomes (taken_outcome i) s.taken) (over_outcome i) s.over) (no_room_outcome i) s.no_room

-- and the outcomes
unfoldable pub outcomes_of : List ℕ → List ℕ → List ℕ → ℕ → List ℕ
outcomes_of run offers outcomes zero = outcomes
outcomes_of run offers outcomes (suc i) = told (outcomes_of run offers outcomes i) i (share_at run offers i)

module _ (run offers : List ℕ) (P done : ℕ) where
  pub intakes_none : intakes_of run offers P done 0 ≡ run
  unfolding intakes_of
  intakes_none = refl

  pub length_intakes : (n : ℕ) → length (intakes_of run offers P done n) ≡ length run
  unfolding intakes_of
  length_intakes zero = refl
  length_intakes (suc i) = length_over (intakes_of run offers P done i) (block_at i) _ ∙ length_intakes i

  module _ (size : run_numbers ≤ length run) where
    new-length : (i : ℕ) → i < most_sessions → length (intake_of (block run i) P done (get_or offers i 0)) ≡ block_numbers
    new-length i h = length-took_in (block run i) P done _ ∙ part_length run (block_at i) block_numbers (omega arith)

    -- a block whose turn has not come is as it was
    pub intakes_later : (n : ℕ) → n ≤ most_sessions → (j : ℕ) → n ≤ j → j < most_sessions → block (intakes_of run offers P done n) j ≡ block run j
    unfolding intakes_of
    intakes_later zero h j a b = refl
    intakes_later (suc i) h j a b =
        let l = length_intakes i in
        let k = new-length i h in
        over-apart (intakes_of run offers P done i) (block_at i) (intake_of (block run i) P done (get_or offers i 0)) (block_at j) block_numbers (omega arith) (inr (omega arith))
        ∙ intakes_later i (omega arith) j (omega arith) b

    -- the others are their own intake
    pub intakes_each : (n : ℕ) → n ≤ most_sessions → (j : ℕ) → j < n → block (intakes_of run offers P done n) j ≡ intake_of (block run j) P done (get_or offers j 0)
    unfolding intakes_of
    intakes_each zero h j b = absurd (omega arith)
    intakes_each (suc i) h j b = go (intakes_each i (omega arith) j) (le_or_lt i j)
      where
        go : (j < i → block (intakes_of run offers P done i) j ≡ intake_of (block run j) P done (get_or offers j 0)) → (i ≤ j) ⊎ (j < i)
            → block (over (intakes_of run offers P done i) (block_at i) (intake_of (block run i) P done (get_or offers i 0))) j ≡ intake_of (block run j) P done (get_or offers j 0)
        go ih (inl a) =
            let e : j ≡ i = omega arith in
            let l = length_intakes i in
            let k = new-length i h in
            rw e (ap (λ w. part (block_at i) w (over (intakes_of run offers P done i) (block_at i) (intake_of (block run i) P done (get_or offers i 0)))) (sym k)
            ∙ over-part (intakes_of run offers P done i) (block_at i) (intake_of (block run i) P done (get_or offers i 0)) (omega arith))
        go ih (inr a) =
            let l = length_intakes i in
            let k = new-length i h in
            over-apart (intakes_of run offers P done i) (block_at i) (intake_of (block run i) P done (get_or offers i 0)) (block_at j) block_numbers (omega arith) (inl (omega arith))
            ∙ ih a

    -- the head, and the numbers past the blocks whose turn has come, are as they were
    pub intakes_out : (n : ℕ) → n ≤ most_sessions → (x : ℕ) → (x < head_numbers) ⊎ (block_at n ≤ x) → get_or (intakes_of run offers P done n) x 0 ≡ get_or run x 0
    unfolding intakes_of
    intakes_out zero h x d = refl
    intakes_out (suc i) h x (inl a) =
        over_out (intakes_of run offers P done i) (block_at i) (intake_of (block run i) P done (get_or offers i 0)) x (inl (omega arith)) ∙ intakes_out i (omega arith) x (inl a)
    intakes_out (suc i) h x (inr a) =
        over_out (intakes_of run offers P done i) (block_at i) (intake_of (block run i) P done (get_or offers i 0)) x (inr (omega (arith, new-length i h)))
        ∙ intakes_out i (omega arith) x (inr (omega arith))

    -- one more session: its block is lent, and comes back
    pub block_lent : (i : ℕ) → i < most_sessions → (z : List ℕ) → z ≡ intakes_of run offers P done i → take (block_at i + block_numbers - block_at i) (drop (block_at i) z) ≡ block run i
    block_lent i h z e = part_lent z (block_at i) block_numbers ∙ ap (λ (y : List ℕ). block y i) e ∙ intakes_later i (omega arith) i (omega arith) h

    pub intakes_more : (i : ℕ) → i < most_sessions → (z y : List ℕ) → z ≡ intakes_of run offers P done i → y ≡ intake_of (block run i) P done (get_or offers i 0)
        → take (block_at i) z ++ (y ++ drop (block_at i + block_numbers - block_at i) (drop (block_at i) z)) ≡ intakes_of run offers P done (i + 1)
    unfolding intakes_of
    intakes_more i h z y e f =
        let l = ap length e ∙ length_intakes i in
        let k = ap length f ∙ new-length i h in
        over_splice z (block_at i) (block_at i + block_numbers - block_at i) y (omega arith) (omega arith)
        ∙ ap₂ (λ (u v : List ℕ). over u (block_at i) v) e f
        ∙ ap (intakes_of run offers P done) (sym (add-one i))

module _ (run offers outcomes : List ℕ) where
  pub outcomes-none : outcomes_of run offers outcomes 0 ≡ outcomes
  unfolding outcomes_of
  outcomes-none = refl

  pub length-outcomes : (n : ℕ) → length (outcomes_of run offers outcomes n) ≡ length outcomes
  unfolding outcomes_of
  length-outcomes zero = refl
  length-outcomes (suc i) = simp length-set (length-outcomes i)

  -- one more session
  pub outcomes-more : (i : ℕ) (z : List ℕ) (s : Share) → z ≡ outcomes_of run offers outcomes i → s ≡ share_at run offers i → told z i s ≡ outcomes_of run offers outcomes (i + 1)
  unfolding outcomes_of
  outcomes-more i z s e f = ap₂ (λ (y : List ℕ) (t : Share). told y i t) e f ∙ ap (outcomes_of run offers outcomes) (sym (add-one i))
