-- What the turns of the loop over standard input hand on: less than a slot in the block, text that fits the page, and a refusal. Assumes nothing.
use Rattle.std.specs.Prelude.{ℕ, ◌≡◌, ◌≤◌, ◌<◌}
use Rattle.std.specs.declared.result.Result.{Result}
use Rattle.std.specs.declared.result.Result.TheVariants.{Ok, Err}
use Rattle.std.proofs.Common.{arith}
use Rattle.slotrun.specs.declared.slots.Over.{Over}
use Rattle.slotrun.specs.declared.slots.Over.TheVariants.{Refused, Ended}

abbrev pub Ready : ℕ → ℕ → ℕ → ℕ → Type 0
Ready count room held used = (held < count) × (used ≤ room)

abbrev pub Goes : ℕ → ℕ → ℕ → ℕ → Result Unit Over → Type 0
Goes count room held used (Ok done) = Ready count room held used
Goes count room held used (Err over) = Unit

-- a larger page has room too
pub goes_wider : (count room more held used : ℕ) (t : Result Unit Over) → Goes count room held used t → room ≤ more → Goes count more held used t
goes_wider count room more held used (Ok done) g h = (g.0, omega (arith, g.1))
goes_wider count room more held used (Err over) g h = tt

-- a refusal ends the run; after a slot that is done it goes on, or ends because text was lost
abbrev pub HandsOn : Result Unit Over → Result Unit Over → Type 0
HandsOn (Err over) result = result ≡ Err over
HandsOn (Ok done) (Ok more) = Unit
HandsOn (Ok done) (Err Ended) = Unit
HandsOn (Ok done) (Err (Refused number)) = ⊥
