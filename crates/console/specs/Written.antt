-- What a writer holds after a page's text was written, or where that failed. Assumes nothing.
use Rattle.std.specs.Prelude.{ℕ, ◌≡◌, ◌⊎◌, List, [], ◌∷◌, take, Bool, true, false}
use Rattle.std.specs.Io.KnownBytes.{Appends, Keeps}
use Rattle.std.specs.declared.option.Option.{Option}

-- the writer took the start of some text, or all of it
abbrev pub AppendsSome : Option (List ℕ) → Option (List ℕ) → List ℕ → Type 0
AppendsSome old new text = (n : ℕ) × Appends old new (take n text)

-- the writer took the start of each of some texts, or all of it, one after the other
abbrev pub AppendsEach : Option (List ℕ) → Option (List ℕ) → List (List ℕ) → Type 0
AppendsEach old new [] = Keeps old new
AppendsEach old new (text ∷ rest) = (mid : Option (List ℕ)) × AppendsSome old mid text × AppendsEach mid new rest

-- after text was lost nothing is written; else the text is, or its start where the rest is lost
abbrev pub WritesOut : Option (List ℕ) → Option (List ℕ) → List ℕ → Bool → Bool → Type 0
WritesOut old new text true lost = (lost ≡ true) × Keeps old new
WritesOut old new text false true = AppendsSome old new text
WritesOut old new text false false = Appends old new text

-- the page's text is written, or stays in the page as it was
abbrev pub MakesRoom : Option (List ℕ) → Option (List ℕ) → List ℕ → Bool → List ℕ → Bool → Type 0
MakesRoom old new text lost text' lost' = (Keeps old new × (text' ≡ text) × (lost' ≡ lost)) ⊎ WritesOut old new text lost lost'
