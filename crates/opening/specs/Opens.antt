-- What moves in a session's block, as it is before slot 1. Assumes nothing.
use Rattle.std.specs.Prelude.{ℕ}
use Rattle.sheet.specs.Sheet.{Sheet, session}
use Rattle.history.specs.Image.{Moving, fresh}

-- before slot 1
abbrev pub moving : Sheet → ℕ → Moving
moving sheet i = fresh (session sheet i)
