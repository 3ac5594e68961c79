-- The words of the stop rule, over any load and any link: a slack as far as T slot counts can tell, a link that gains the same in every period, and slot
-- counts at which the load has grown by no more. Assumes nothing.
use Rattle.std.specs.Prelude.{◌≡◌, ℕ, ◌+◌, ◌≤◌, ◌<◌}

-- passed, as far as t = 1..T can tell
pub record PassesTo (L C : ℕ → ℕ) (T m w : ℕ) : Type 0 where
  pub from : 1 ≤ w
  pub to : w ≤ T
  pub gives : L w + m ≡ C w
  pub least : (t : ℕ) → 1 ≤ t → t ≤ T → L t + m ≤ C t
  pub first : (t : ℕ) → 1 ≤ t → t < w → L t + m < C t

-- C gains R in every P slots, past T0: c·t gains c·P, and a curve its rate
abbrev pub Gains : (ℕ → ℕ) → ℕ → ℕ → ℕ → Type 0
Gains C R P T0 = (t : ℕ) → T0 < t + P → C (t + P) ≡ C t + R

-- the load at u + P is at most R more than at u; where C gains R, the slack is then no less
abbrev pub Steady : (ℕ → ℕ) → ℕ → ℕ → ℕ → Type 0
Steady L R P u = L (u + P) ≤ L u + R

-- the last P slot counts up to T are so
abbrev pub Settled : (ℕ → ℕ) → ℕ → ℕ → ℕ → Type 0
Settled L R P T = (u : ℕ) → T < u + P + P → u + P ≤ T → Steady L R P u
