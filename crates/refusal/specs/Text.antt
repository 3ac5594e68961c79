-- A refusal as it is printed. Assumes nothing.
use Rattle.std.specs.Prelude.{List, ◌∷◌, ◌++◌, ℕ, codes}
use Rattle.std.specs.Fmt.{decimal}

-- refused NUMBER PLACE
abbrev pub refused_text : ℕ → ℕ → List ℕ
refused_text number place = codes "refused " ++ (decimal number ++ (32 ∷ decimal place))
