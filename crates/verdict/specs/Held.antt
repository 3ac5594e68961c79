-- What stands in the two windows of the search, the first values and the last ones, before slot count t is tried and while it is. Assumes nothing.
use Rattle.std.specs.Prelude.{◌≡◌, List, ℕ, ◌+◌, ◌≤◌, min, length}
use Rattle.verdict.specs.Window.{window_places, Window}

-- before t is tried: the last values reach to `end`, and a new window is due once t is past it. The farthest that t's shares go back is in it too
pub record Seen (bytes : List ℕ) (P n end t : ℕ) (firsts recent tries : List ℕ) : Type 0 where
  pub first : Window bytes P 0 n firsts
  pub places : length recent ≡ window_places
  pub last : t ≤ end → Window bytes P end n recent
  pub near : end + min t 64 ≤ t + 127
  pub long : length tries ≡ 65

-- while t is tried: the values of the last 64 slot counts, and of t, are in the window
pub record Held (bytes : List ℕ) (P n end t : ℕ) (recent : List ℕ) : Type 0 where
  pub ahead : t ≤ end
  pub near : end + min t 64 ≤ t + 127
  pub values : Window bytes P end n recent
