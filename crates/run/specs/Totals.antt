-- A tally as its six totals, in the order in which they are told. Assumes nothing.
use Rattle.std.specs.Prelude.{List, [], ◌∷◌, ℕ, get_or}
use Rattle.run.specs.declared.tally.Tally.{Tally}

-- offered, taken in, over, no room, sent, waiting
abbrev pub six_totals : Tally → List ℕ
six_totals t = t.offered ∷ t.taken_in ∷ t.over ∷ t.no_room ∷ t.sent ∷ t.waiting ∷ []

abbrev pub tally_of : List ℕ → Tally
tally_of l = record { offered = get_or l 0 0; taken_in = get_or l 1 0; over = get_or l 2 0; no_room = get_or l 3 0; sent = get_or l 4 0; waiting = get_or l 5 0 }
