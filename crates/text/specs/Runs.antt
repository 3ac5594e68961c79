-- How the lines of a text are run. Assumes nothing.
use Rattle.std.specs.Prelude.{◌≡◌, ◌==◌, List, [], ◌∷◌, ◌++◌, ℕ, MatchBool}
use Rattle.std.specs.Borrow.{Bor, MutBor}
use Rattle.std.specs.Io.KnownBytes.{Appends}
use Rattle.std.specs.declared.option.Option.{Option}

-- a call with a line, which took the caller from f to g and the writer from w to v
pub record Ran {F W : Type 0} (call : F → MutBor W → Bor (List ℕ) → MutBor W → F → Type 0) (f : F) (w : W) (line : List ℕ) (v : W) (g : F) : Type 0 where
  pub lent : MutBor W
  pub before : lent.now ≡ w
  pub told : Bor (List ℕ)
  pub tells : told.now ≡ line
  pub left : MutBor W
  pub after : left.now ≡ v
  pub ran : call f lent told left g

-- an empty line is passed over, one that starts with '#' is written as it stands, and any other is run
abbrev pub RunsLine : {F W : Type 0} → (W → Option (List ℕ)) → (F → MutBor W → Bor (List ℕ) → MutBor W → F → Type 0) → F × W → List ℕ → F × W → Type 0
RunsLine contents call s [] t = t ≡ s
RunsLine contents call s (b ∷ rest) t = MatchBool (b == 35) ((t.0 ≡ s.0) × Appends (contents s.1) (contents t.1) ((b ∷ rest) ++ (10 ∷ []))) (Ran call s.0 s.1 (b ∷ rest) t.1 t.0)
