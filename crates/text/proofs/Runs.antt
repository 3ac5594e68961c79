-- A line's turn, by what the line begins with. Assumes nothing.
use Rattle.std.proofs.Common.{◌≡◌, refl, sym, List, [], ◌∷◌, ◌++◌, ℕ, ◌<◌, ◌≤◌, length, get_or, arith, subst, eq-eqb, ne_eqb}
use Rattle.std.specs.Borrow.{Bor, MutBor}
use Rattle.std.specs.Bool.{MatchBool}
use Rattle.std.specs.Io.KnownBytes.{Appends}
use Rattle.std.specs.declared.option.Option.{Option}
use Rattle.std.specs.Prelude.{Ok, Err, OnOk}
use Rattle.std.specs.Result.{result_and}
use Rattle.std.specs.declared.result.Result.{Result}
use Rattle.text.specs.Runs.{Ran, RunsLine}

-- what follows where a call did not fail
pub on_map : {E A B : Type 0} (r : Result Unit E) → OnOk r A → (A → B) → OnOk r B
on_map (Ok u) x f = f x
on_map (Err e) x f = tt

-- a call that answers r, where that is no failure
pub on_ran : {E F W : Type 0} (step : F → MutBor W → Bor (List ℕ) → Result Unit E → MutBor W → F → Type 0) {f h : F} {lent left : MutBor W} {told : Bor (List ℕ)} (r : Result Unit E)
    → step f lent told r left h → OnOk r (Ran (λ e x y z k. step e x y (Ok tt) z k) f lent.now told.now left.now h)
on_ran step {f} {h} {lent} {left} {told} (Ok u) s = record { lent = lent; before = refl; told = told; tells = refl; left = left; after = refl; ran = s }
on_ran step (Err e) s = tt

-- what holds where neither of two calls failed
pub both_on : {E A B C : Type 0} (one two : Result Unit E) → OnOk one A → OnOk two B → (A → B → C) → OnOk (result_and one two) C
both_on (Ok u) (Ok v) x y f = f x y
both_on (Ok u) (Err e) x y f = tt
both_on (Err e) two x y f = tt

module _ {F W : Type 0} (contents : W → Option (List ℕ)) (call : F → MutBor W → Bor (List ℕ) → MutBor W → F → Type 0) (f g : F) (w v : W) where
  pub passes_empty : (line : List ℕ) → length line < 1 → RunsLine contents call (f, w) line (f, w)
  passes_empty [] h = refl
  passes_empty (b ∷ rest) h = absurd (omega arith)

  pub writes_comment : (line : List ℕ) → 1 ≤ length line → get_or line 0 0 ≡ 35 → Appends (contents w) (contents v) (line ++ (10 ∷ [])) → RunsLine contents call (f, w) line (f, v)
  writes_comment [] h e a = absurd (omega arith)
  writes_comment (b ∷ rest) h e a = subst (λ t. MatchBool t ((f ≡ f) × Appends (contents w) (contents v) ((b ∷ rest) ++ (10 ∷ []))) (Ran call f w (b ∷ rest) v f)) (sym (eq-eqb b 35 e)) (refl, a)

  pub runs_other : (line : List ℕ) → 1 ≤ length line → (get_or line 0 0 ≡ 35 → ⊥) → Ran call f w line v g → RunsLine contents call (f, w) line (g, v)
  runs_other [] h n r = absurd (omega arith)
  runs_other (b ∷ rest) h n r = subst (λ t. MatchBool t ((g ≡ f) × Appends (contents w) (contents v) ((b ∷ rest) ++ (10 ∷ []))) (Ran call f w (b ∷ rest) v g)) (sym (ne_eqb b 35 n)) r
