-- Laws of specs/Numbers.antt: a cause and its number lead to each other. Assumes nothing.
use Rattle.std.specs.Prelude.{◌≡◌, refl}
use Rattle.std.proofs.Common.{sym, ap, ◌∙◌}
use Rattle.refusal.specs.Numbers.{number_of, cause_of}
use Rattle.refusal.specs.declared.Cause.{Cause}
use Rattle.refusal.specs.declared.Cause.TheVariants.{TooShort, Length, Version, Capacity, Period, Sessions, CutOff, TableLength, Rate, Value, LeftOver, Fails, RunTooShort, NoRun, Offers, ResultsTooShort, SlotsDone, TallyFull}

-- the number of a cause leads back to it
pub cause-back : (a : Cause) → cause_of (number_of a) ≡ a
cause-back TooShort = refl
cause-back Length = refl
cause-back Version = refl
cause-back Capacity = refl
cause-back Period = refl
cause-back Sessions = refl
cause-back CutOff = refl
cause-back TableLength = refl
cause-back Rate = refl
cause-back Value = refl
cause-back LeftOver = refl
cause-back Fails = refl
cause-back RunTooShort = refl
cause-back NoRun = refl
cause-back Offers = refl
cause-back ResultsTooShort = refl
cause-back SlotsDone = refl
cause-back TallyFull = refl

-- so a cause is known by its number
pub number-one : (a b : Cause) → number_of a ≡ number_of b → a ≡ b
number-one a b e = sym (cause-back a) ∙ ap cause_of e ∙ cause-back b
