-- The answer to bytes as functions that compute: the verdict by a walk, the figures by their definition. They meet the contract of `judge` on all bytes,
-- so that an example's answer can be left to computing. Assumes nothing.
use Rattle.std.specs.Prelude.{◌≡◌, List, map, ◌⊎◌, ℕ, ◌+◌, ◌≤◌, ◌<◌, length}
use Rattle.std.proofs.Math.Path.{refl, sym, subst, ap}
use Rattle.std.proofs.Common.{◌∙◌, inl, inr, arith, le-ltb}
use Rattle.std.proofs.Math.ListN.{get_or, length-map, get_or-map, get_or-eq_default}
use Rattle.curve.proofs.OrderLaws.{le_or_lt}
use Rattle.refusal.specs.Numbers.{cause_of}
use Rattle.curve.specs.declared.Slots.{Slots}
use Rattle.sheet.specs.Limits.{most_sessions}
use Rattle.sheet.specs.Refusal.{Refusal, none, refused}
use Rattle.sheet.specs.Sheet.{Sheet, session, session_count, WellMade}
use Rattle.sheet.specs.Bytes.{sheet_of}
use Rattle.sheet.specs.Reading.{reading}
use Rattle.sheet.specs.Makes.{AllBytes}
use Rattle.sheet.proofs.MakesLaws.{makes}
use Rattle.sheet.proofs.Known.{reading-known}
use Rattle.verdict.specs.Bends.{Bends}
use Rattle.verdict.proofs.BendsLaws.{load-bends-past}
use Rattle.verdict.specs.Figure.{largest}
use Rattle.verdict.proofs.FigureLaws.{le-largest}
use Rattle.verdict.proofs.LinkLaws.{even-gains, even-most}
use Rattle.verdict.proofs.ReadyLaws.{made-tables}
use Rattle.verdict.specs.Verdict.{load_of, can_send, figure_of, figure_in, Case, passed, failed, unreadable, told, Says, Judges}
use Rattle.verdict.specs.declared.Verdict.{Verdict}
use Rattle.verdict.specs.declared.Verdict.TheVariants.{Passed, Failed, Unreadable}
use Rattle.rules.specs.Model.{listed}
use Rattle.rules.proofs.Facts.{listed_at, length-listed}
use Rattle.examples.specs.Walked.{Tells, walked, walked_tells}

-- the lengths of a session's two tables
abbrev tables_of : Sheet → ℕ → ℕ
tables_of sheet i = length (session sheet i).envelope.table + length (session sheet i).service.table

-- past this slot count no two tables of a session reach together
unfoldable pub reach : Sheet → ℕ
reach sheet = largest (tables_of sheet) (session_count sheet)

unfoldable pub case_of : Sheet → Case
case_of sheet = walked (load_of sheet) (can_send sheet.capacity) sheet.period (reach sheet)

case_tells : (sheet : Sheet) → WellMade sheet → Tells (load_of sheet) (can_send sheet.capacity) (case_of sheet)
unfolding case_of reach
case_tells sheet made =
    walked_tells (load_of sheet) (can_send sheet.capacity) _ sheet.period (reach sheet) made.some-period few bends (even-gains sheet.capacity sheet.period (reach sheet)) (even-most sheet.capacity (reach sheet))
  where
    both : (i : ℕ) → i < session_count sheet → tables_of sheet i ≤ reach sheet
    both i h = le-largest (tables_of sheet) (session_count sheet) i h

    few : sheet.period ≤ reach sheet
    few = omega (arith, both 0 made.some-session, (made.each 0 made.some-session).service.curve.long)

    bends : Bends (load_of sheet) sheet.period (reach sheet)
    bends =
        load-bends-past sheet.period (λ i. (session sheet i).envelope) (λ i. (session sheet i).service) (session_count sheet) made.some-period (made-tables sheet made) (reach sheet) both

-- by how the bytes read
unfoldable pub case_in : Refusal → List ℕ → Case
case_in none bytes = case_of (sheet_of bytes)
case_in (refused number place) bytes = unreadable number place

case-says : (bytes : List ℕ) → AllBytes bytes → Says bytes (case_in (reading bytes) bytes)
unfolding case_in
case-says bytes all = go (reading bytes) refl
  where
    read : reading bytes ≡ none → (v : Case) → Tells (load_of (sheet_of bytes)) (can_send (sheet_of bytes).capacity) v → Says bytes v
    read e (passed m w) h = (e, h)
    read e (failed w) h = (e, h)
    read e (unreadable number place) h = absurd h

    go : (o : Refusal) → reading bytes ≡ o → Says bytes (case_in o bytes)
    go none e = read e (case_of (sheet_of bytes)) (case_tells (sheet_of bytes) (makes bytes all e))
    go (refused number place) e = e

-- a number of slots
abbrev pub in_slots : ℕ → Slots
in_slots n = record { 0 = n }

-- a case as `judge` answers it
abbrev answered : Case → Verdict
answered (passed slack t) = Passed (record { 0 = slack }) (in_slots t)
answered (failed t) = Failed (in_slots t)
answered (unreadable number place) = Unreadable (record { cause = cause_of number; place = place })

told-answered : (bytes : List ℕ) (v : Case) → Says bytes v → told (answered v) ≡ v
told-answered bytes (passed slack t) h = refl
told-answered bytes (failed t) h = refl
told-answered bytes (unreadable number place) h = ap (λ n. unreadable n place) (reading-known bytes number place h)

unfoldable pub verdict_in : List ℕ → Verdict
verdict_in bytes = answered (case_in (reading bytes) bytes)

-- sixteen figures
unfoldable pub numbers_in : List ℕ → List ℕ
numbers_in bytes = listed (figure_in (reading bytes) bytes) most_sessions

unfoldable pub figures_in : List ℕ → List Slots
figures_in bytes = map in_slots (numbers_in bytes)

module _ (bytes : List ℕ) (all : AllBytes bytes) where
  -- past the sixteenth there are none
  figure-past : (i : ℕ) → most_sessions ≤ i → figure_in (reading bytes) bytes i ≡ 0
  unfolding figure_of figure_in
  figure-past i h = go (reading bytes) refl
    where
      go : (o : Refusal) → reading bytes ≡ o → figure_in o bytes i ≡ 0
      go none e = rw (le-ltb i (session_count (sheet_of bytes)) (omega (arith, (makes bytes all e).few)), figure_of)
      go (refused number place) e = refl

  count : length (numbers_in bytes) ≡ most_sessions
  unfolding numbers_in
  count = length-listed (figure_in (reading bytes) bytes) most_sessions

  number_at : (i : ℕ) → get_or (numbers_in bytes) i 0 ≡ figure_in (reading bytes) bytes i
  unfolding numbers_in
  number_at i = go (le_or_lt most_sessions i)
    where
      go : (most_sessions ≤ i) ⊎ (i < most_sessions) → get_or (numbers_in bytes) i 0 ≡ figure_in (reading bytes) bytes i
      go (inl h) = get_or-eq_default (numbers_in bytes) 0 {n = i} (omega (arith, count)) ∙ sym (figure-past i h)
      go (inr h) = listed_at (figure_in (reading bytes) bytes) most_sessions i h

  -- JUDGED: the contract of `judge` is met
  pub judged : Judges bytes (verdict_in bytes) (figures_in bytes)
  unfolding verdict_in figures_in
  judged =
      record {
        says = subst (Says bytes) (sym (told-answered bytes (case_in (reading bytes) bytes) (case-says bytes all))) (case-says bytes all);
        figures_are =
            record {
              sixteen = length-map (numbers_in bytes) in_slots ∙ count;
              each = λ i. ap (λ (s : Slots). s.0) (get_or-map in_slots (numbers_in bytes) i 0) ∙ number_at i;
            };
      }
