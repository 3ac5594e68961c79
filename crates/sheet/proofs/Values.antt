-- One value further along a table: what its line does to the first fault. Assumes nothing.
use Rattle.std.specs.Prelude.{◌≡◌, ◌⊎◌, List, [], ◌∷◌, ℕ, suc, ◌+◌, ◌-◌, ◌≤◌, ◌<◌, ltb, length, get_or, drop}
use Rattle.std.proofs.Common.{sym, ◌∙◌, inl, inr, add-one, arith, lt-ltb, le-ltb, drop_of_length-le, drop-cons}
use Rattle.std.proofs.Math.Path.{ap}
use Rattle.curve.specs.Curve.{Curve, at}
use Rattle.curve.proofs.CurveLaws.{at_table}
use Rattle.sheet.specs.Limits.{largest_value}
use Rattle.sheet.specs.Refusal.{none, refused, line, first}
use Rattle.sheet.proofs.RefusalLaws.{first-here, first_next, clear-nil, or_left, or_right, or_neither}
use Rattle.sheet.specs.Reading.{value_lines}

-- past the last value there is none
pub values-none : (vs : List ℕ) (before place i : ℕ) → length vs ≤ i → first (value_lines (drop i vs) before place) ≡ none
unfolding value_lines
values-none vs before place i h = ap (λ l. first (value_lines l before place)) (drop_of_length-le vs h) ∙ clear-nil

module _ (vs : List ℕ) (before place i : ℕ) (h : i < length vs) where
  here : first (value_lines (drop i vs) before place) ≡ first (value_lines (get_or vs i 0 ∷ drop (suc i) vs) before place)
  here = ap (λ l. first (value_lines l before place)) (drop-cons vs i 0 h)

  -- above 500
  pub values_above : largest_value < get_or vs i 0 → first (value_lines (drop i vs) before place) ≡ refused 10 place
  unfolding value_lines
  values_above a = here ∙ first-here _ _ _ _ (or_left (ltb largest_value (get_or vs i 0)) (ltb (get_or vs i 0) before) (lt-ltb largest_value (get_or vs i 0) a))

  -- below the one before it
  pub values_falling : get_or vs i 0 ≤ largest_value → get_or vs i 0 < before → first (value_lines (drop i vs) before place) ≡ refused 10 place
  unfolding value_lines
  values_falling a b =
      here
      ∙ first-here _ _ _ _
      (or_right (ltb largest_value (get_or vs i 0)) (ltb (get_or vs i 0) before) (le-ltb largest_value (get_or vs i 0) a) (lt-ltb (get_or vs i 0) before b))

  -- so either of them is refused
  pub values_faulty : (v : ℕ) → v ≡ get_or vs i 0 → (largest_value < v) ⊎ ((v ≤ largest_value) × (v < before)) → first (value_lines (drop i vs) before place) ≡ refused 10 place
  values_faulty v e (inl a) = values_above (omega (arith, e))
  values_faulty v e (inr a) = values_falling (omega (arith, e)) (omega (arith, e))

  -- neither
  pub values-next : get_or vs i 0 ≤ largest_value → before ≤ get_or vs i 0
      → first (value_lines (drop i vs) before place) ≡ first (value_lines (drop (i + 1) vs) (get_or vs i 0) (place + 2))
  unfolding value_lines
  values-next a b =
      here
      ∙ first_next _ _ _ _
      (or_neither (ltb largest_value (get_or vs i 0)) (ltb (get_or vs i 0) before) (le-ltb largest_value (get_or vs i 0) a) (le-ltb (get_or vs i 0) before b))
      ∙ ap (λ k. first (value_lines (drop k vs) (get_or vs i 0) (place + 2))) (sym (add-one i))

-- the join's two values, as they stand in the table
pub join-low : (P : ℕ) (F : Curve) → 1 ≤ P → P ≤ length F.table → at P F (length F.table + 1 - P) ≡ get_or F.table (length F.table - P) 0
join-low P F p l =
    let e : length F.table + 1 - P ≡ suc (length F.table - P) = omega arith in
    ap (at P F) e ∙ at_table P F (length F.table - P) (omega arith)

pub join_high : (P : ℕ) (F : Curve) → 1 ≤ length F.table → at P F (length F.table) ≡ get_or F.table (length F.table - 1) 0
join_high P F l =
    let e : length F.table ≡ suc (length F.table - 1) = omega arith in
    ap (at P F) e ∙ at_table P F (length F.table - 1) (omega arith)

-- the join's line, by those two values
module _ (P : ℕ) (F : Curve) (place : ℕ) (p : 1 ≤ P) (l : P ≤ length F.table) where
  pub join_falls : get_or F.table (length F.table - P) 0 + F.rate < get_or F.table (length F.table - 1) 0
      → first (line 10 (ltb (at P F (length F.table + 1 - P) + F.rate) (at P F (length F.table))) place ∷ []) ≡ refused 10 place
  join_falls h =
      first-here _ _ _ _ (lt-ltb _ _ (rw (join-low P F p l, join_high P F (omega arith)) h))

  pub join_holds : get_or F.table (length F.table - 1) 0 ≤ get_or F.table (length F.table - P) 0 + F.rate
      → first (line 10 (ltb (at P F (length F.table + 1 - P) + F.rate) (at P F (length F.table))) place ∷ []) ≡ none
  join_holds h =
      first_next _ _ _ _ (le-ltb _ _ (rw (join-low P F p l, join_high P F (omega arith)) h)) ∙ clear-nil
