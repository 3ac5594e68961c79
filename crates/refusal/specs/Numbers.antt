-- The number that document 01 gives each cause of a refusal. Assumes nothing.
use Rattle.std.specs.Prelude.{List, [], ◌∷◌, ℕ, ◌-◌, get_or}
use Rattle.refusal.specs.declared.Cause.{Cause}
use Rattle.refusal.specs.declared.Cause.TheVariants.{TooShort, Length, Version, Capacity, Period, Sessions, CutOff, TableLength, Rate, Value, LeftOver, Fails, RunTooShort, NoRun, Offers, ResultsTooShort, SlotsDone, TallyFull}

abbrev pub number_of : Cause → ℕ
number_of TooShort = 1
number_of Length = 2
number_of Version = 3
number_of Capacity = 4
number_of Period = 5
number_of Sessions = 6
number_of CutOff = 7
number_of TableLength = 8
number_of Rate = 9
number_of Value = 10
number_of LeftOver = 11
number_of Fails = 12
number_of RunTooShort = 13
number_of NoRun = 14
number_of Offers = 15
number_of ResultsTooShort = 16
number_of SlotsDone = 17
number_of TallyFull = 18

-- the causes in the order of their numbers, from 1 on
abbrev pub causes : List Cause
causes =
    TooShort ∷ Length ∷ Version ∷ Capacity ∷ Period ∷ Sessions ∷ CutOff ∷ TableLength ∷ Rate ∷ Value ∷ LeftOver ∷ Fails ∷ RunTooShort ∷ NoRun ∷ Offers
    ∷ ResultsTooShort ∷ SlotsDone ∷ TallyFull ∷ []

-- the cause that has a number; of a number that no cause has, the first
abbrev pub cause_of : ℕ → Cause
cause_of n = get_or causes (n - 1) TooShort
