-- The verdict on a sheet in document 01's words: its load against c·t at every positive slot count, the three cases, and the delay figures beside them. Assumes nothing.
use Rattle.std.specs.Prelude.{◌≡◌, true, false, List, ℕ, ◌*◌, ltb, length, get_or}
use Rattle.refusal.specs.Numbers.{number_of}
use Rattle.curve.specs.declared.Slots.{Slots}
use Rattle.sheet.specs.Limits.{most_sessions}
use Rattle.sheet.specs.Refusal.{Refusal, none, refused}
use Rattle.sheet.specs.Sheet.{Sheet, session, session_count}
use Rattle.sheet.specs.Bytes.{sheet_of}
use Rattle.sheet.specs.Reading.{reading}
use Rattle.verdict.specs.Load.{load}
use Rattle.verdict.specs.Passes.{Passes, Fails}
use Rattle.verdict.specs.Figure.{figure}
use Rattle.verdict.specs.declared.Verdict.{Verdict}
use Rattle.verdict.specs.declared.Verdict.TheVariants.{Passed, Failed, Unreadable}

-- the sum of (b*S)(t) over all sessions
abbrev pub load_of : Sheet → ℕ → ℕ
load_of sheet t = load sheet.period (λ i. (session sheet i).envelope) (λ i. (session sheet i).service) (session_count sheet) t

-- what a link that sends up to c packets in every slot can send in t slots
abbrev pub can_send : ℕ → ℕ → ℕ
can_send c t = c * t

-- the figure of the session at an index, 0 past the last
unfoldable pub figure_of : Sheet → ℕ → ℕ
figure_of sheet i =
    elim (ltb i (session_count sheet)) [ true ↦ figure sheet.period (session sheet i).envelope (session sheet i).service | false ↦ 0 ]

-- the three cases, with 01's values: slack and the least t that gives it; the least failing t; refusal and place
pub data Case : Type 0 where
  passed : ℕ → ℕ → Case
  failed : ℕ → Case
  unreadable : ℕ → ℕ → Case

abbrev pub told : Verdict → Case
told (Passed slack t) = passed slack.0 t.0
told (Failed t) = failed t.0
told (Unreadable r) = unreadable (number_of r.cause) r.place

-- VERDICT: what each case says of the bytes, by the load against c·t. No slot count bounds it
abbrev pub Says : List ℕ → Case → Type 0
Says bytes (passed slack t) = (reading bytes ≡ none) × Passes (load_of (sheet_of bytes)) (can_send (sheet_of bytes).capacity) slack t
Says bytes (failed t) = (reading bytes ≡ none) × Fails (load_of (sheet_of bytes)) (can_send (sheet_of bytes).capacity) t
Says bytes (unreadable number place) = reading bytes ≡ refused number place

-- FIGURES: those of the sheet's sessions; of bytes that do not read, none
unfoldable pub figure_in : Refusal → List ℕ → ℕ → ℕ
figure_in none bytes i = figure_of (sheet_of bytes) i
figure_in (refused number place) bytes i = 0

-- sixteen figures, of which the i-th is this
pub record Figures (bytes : List ℕ) (figures : List Slots) : Type 0 where
  pub sixteen : length figures ≡ most_sessions
  pub each : (i : ℕ) → (get_or figures i (record { 0 = 0 })).0 ≡ figure_in (reading bytes) bytes i

-- what `judge` answers
pub record Judges (bytes : List ℕ) (verdict : Verdict) (figures : List Slots) : Type 0 where
  pub says : Says bytes (told verdict)
  pub figures_are : Figures bytes figures
