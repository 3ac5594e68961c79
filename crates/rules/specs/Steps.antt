-- One step after the other over a list. Assumes nothing.
use mathlib.Core.List.{List, [], ◌∷◌}

-- the first of the list first
unfoldable pub steps : {X Y : Type 0} → (X → Y → X) → X → List Y → X
steps step x [] = x
steps step x (y ∷ h) = steps step (step x y) h
