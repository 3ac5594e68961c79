-- What is printed, as lists of bytes. Assumes nothing.
use Rattle.std.specs.Prelude.{List, [], ◌∷◌, ℕ, Some}
use Rattle.std.specs.Fmt.{◌++?◌}
use Rattle.std.specs.declared.option.Option.{Option}

-- what values print, each with a space before it, where it is known what each prints
abbrev pub spaced : {A : Type 0} → (A → Option (List ℕ)) → List A → Option (List ℕ)
spaced output [] = Some []
spaced output (x ∷ xs) = (Some (32 ∷ []) ++? output x) ++? spaced output xs
