-- Laws of specs/Base.antt. The theorem over a history as a list of offers, for a sheet that a reader accepts and that the verdict passes: no assumption is left but these two.
use Rattle.std.specs.Prelude.{◌≡◌, refl, List, [], ℕ, ◌≤◌, length, take}
use Rattle.sheet.specs.Sheet.{Sheet, WellMade}
use Rattle.verdict.specs.Passes.{Passes}
use Rattle.verdict.specs.Verdict.{load_of, can_send}
use Rattle.rules.proofs.StepsLaws.{steps-take}
use Rattle.rules.specs.Model.{one_slot, past, after}
use Rattle.rules.specs.Curves.{Curves, WithinCapacity}
use Rattle.rules.proofs.CurvesLaws.{made-curves, passes-within}
use Rattle.rules.specs.Main.{Kept}
use Rattle.rules.proofs.MainLaws.{main_theorem, same_kept}
use Rattle.rules.specs.Base.{offers_of}

-- the past after the first u slots of a history
pub after-past : (sheet : Sheet) (history : List (List ℕ)) (u : ℕ) → u ≤ length history → after sheet (take u history) ≡ past sheet (offers_of history) u
unfolding after past
after-past sheet history = steps-take (one_slot sheet) [] (past sheet (offers_of history)) history (λ u. refl)

pub kept-within : (sheet : Sheet) → Curves sheet → WithinCapacity sheet → (history : List (List ℕ))
    → Kept sheet (offers_of history) (λ u. after sheet (take u history)) (length history)
kept-within sheet curves fits history =
    same_kept sheet (offers_of history) (λ u. after sheet (take u history)) (past sheet (offers_of history)) (length history) (after-past sheet history)
    (main_theorem sheet (offers_of history) curves fits (length history))

pub kept : (sheet : Sheet) → WellMade sheet → (slack w : ℕ) → Passes (load_of sheet) (can_send sheet.capacity) slack w → (history : List (List ℕ))
    → Kept sheet (offers_of history) (λ u. after sheet (take u history)) (length history)
kept sheet made slack w passes = kept-within sheet (made-curves sheet made) (passes-within sheet slack w passes)
