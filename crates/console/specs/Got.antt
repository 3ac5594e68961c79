-- What a read brings: how many bytes it can be, and which. No bytes are the end. Assumes nothing.
use Rattle.std.specs.Prelude.{ℕ, ◌≡◌, ◌≤◌, ◌<◌, List, length, take, drop}
use Rattle.std.specs.Io.KnownBytes.{Consumes, IsAtEnd, ReadConsumes}
use Rattle.std.specs.declared.option.Option.{Option}
use Rattle.std.specs.declared.result.Result.{Result}
use Rattle.std.specs.declared.result.Result.TheVariants.{Ok, Err}
use Rattle.std.proofs.Common.{arith}

-- the bytes are at least `least` and at most `most`
abbrev pub Within : {E : Type 0} → ℕ → ℕ → Result ℕ E → Type 0
Within least most (Ok n) = (least ≤ n) × (n ≤ most)
Within least most (Err error) = Unit

-- what the input holds loses what a read brings, which stands at the start of what was lent; at the end it holds nothing more
abbrev pub Takes : {E : Type 0} → Option (List ℕ) → Option (List ℕ) → Result ℕ E → List ℕ → Type 0
Takes old new got into = ReadConsumes old new got into

-- what the input holds loses the bytes from `from` to `to`
abbrev pub TakesTo : Option (List ℕ) → Option (List ℕ) → ℕ → ℕ → List ℕ → List ℕ → Type 0
TakesTo old new from to before after = Consumes old new (drop from (take to after)) × (take from after ≡ take from before)

-- what reads bring, one after another, stands from `from` on, and where it does not fill what was lent the input holds nothing more
abbrev pub TakesOn : {E : Type 0} → Option (List ℕ) → Option (List ℕ) → ℕ → List ℕ → List ℕ → Result ℕ E → Type 0
TakesOn old new from before after (Ok n) = TakesTo old new from n before after × (n < length before → IsAtEnd new)
TakesOn old new from before after (Err error) = (n : ℕ) × TakesTo old new from n before after

-- wider bounds hold too
pub within_wider : {E : Type 0} {least most low high : ℕ} (g : Result ℕ E) → Within least most g → low ≤ least → most ≤ high → Within low high g
within_wider (Ok n) w l h = (omega (arith, w.0), omega (arith, w.1))
within_wider (Err error) w l h = tt
