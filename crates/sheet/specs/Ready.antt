-- What may be taken for granted once the sheet has been read: where its sessions lie, and that they are well made. Assumes nothing.
use Rattle.std.specs.Prelude.{◌≡◌, List, ℕ, ◌-◌, ◌<◌, length, get_or, take, drop}
use Rattle.sheet.specs.Limits.{most_sessions}
use Rattle.sheet.specs.Refusal.{none}
use Rattle.sheet.specs.Sheet.{WellMade}
use Rattle.sheet.specs.Bytes.{capacity_of, period_of, count_of, sheet_of}
use Rattle.sheet.specs.Reading.{reading}
use Rattle.sheet.specs.Starts.{start_of}

-- the sheet reads, and these are its numbers and its sessions' starts
pub record Ready (bytes starts : List ℕ) (count c P : ℕ) : Type 0 where
  pub reads : reading bytes ≡ none
  pub made : WellMade (sheet_of bytes)
  pub count-is : count ≡ count_of bytes
  pub capacity : c ≡ capacity_of bytes
  pub period : P ≡ period_of bytes
  pub sixteen : length starts ≡ most_sessions
  pub each : (i : ℕ) → i < count → get_or starts i 0 ≡ start_of bytes i

-- the bytes from a place on, as a slice's part has them
abbrev pub on_from : List ℕ → ℕ → List ℕ
on_from bytes at = take (length bytes - at) (drop at bytes)
