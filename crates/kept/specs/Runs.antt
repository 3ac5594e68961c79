-- The contracts of the calls, chained: before each slot the slice is the run after all slots before it, and each slot is the rules' next slot. Assumes nothing.
use Rattle.std.specs.Prelude.{◌≡◌, refl, ◌⊎◌, length, drop}
use Rattle.std.proofs.Common.{sym, ap, subst, ◌∙◌, inl, inr, arith, length-append}
use mathlib.Core.List.{List, [], ◌∷◌, ◌++◌}
use Prim.Native.Nat.{ℕ, zero, suc, ◌+◌, ◌≤◌, ◌<◌}
use Rattle.std.proofs.Math.Seq.{drop-append-add}
use Rattle.curve.proofs.OrderLaws.{le_or_lt}
use Rattle.sheet.specs.Sheet.{Sheet, WellMade}
use Rattle.sheet.specs.Bytes.{sheet_of}
use Rattle.sheet.specs.Makes.{AllBytes}
use Rattle.sheet.proofs.MakesLaws.{makes}
use Rattle.verdict.specs.Verdict.{Case, passed, failed, unreadable, Says}
use Rattle.verdict.proofs.OneVerdict.{some-verdict}
use Rattle.rules.specs.Steps.{steps}
use Rattle.rules.proofs.StepsLaws.{steps_snoc}
use Rattle.rules.specs.Model.{one_slot, past, after}
use Rattle.layout.specs.Layout.{run_numbers}
use Rattle.layout.specs.Sound.{most_slots}
use Rattle.history.specs.Run.{length_run}
use Rattle.history.specs.After.{run_with, run_after, IsRun}
use Rattle.opening.specs.Open.{opened, Opens}
use Rattle.opening.proofs.OpenLaws.{opened_or_refused, unchanged as not_opened}
use Rattle.run.specs.Slot.{sent}
use Rattle.run.specs.ByRules.{Done}
use Rattle.run.specs.Answered.{unchanged, Answered, answered}
use Rattle.kept.specs.Calls.{Between, none, slot, opening, Calls}

pub length-run_after : (sheet : Sheet) (history : List (List ℕ)) → length (run_after sheet history) ≡ run_numbers
unfolding run_after run_with
length-run_after sheet history = length_run sheet _ _

-- the history of the first u slots
unfoldable pub first_slots : (ℕ → List ℕ) → ℕ → List (List ℕ)
first_slots offers zero = []
first_slots offers (suc u) = first_slots offers u ++ (offers u ∷ [])

pub length-first : (offers : ℕ → List ℕ) (u : ℕ) → length (first_slots offers u) ≡ u
unfolding first_slots
length-first offers zero = refl
length-first offers (suc u) = omega (arith, length-append (first_slots offers u) (offers u ∷ []), length-first offers u)

pub first_past : (sheet : Sheet) (offers : ℕ → List ℕ) (u : ℕ) → after sheet (first_slots offers u) ≡ past sheet offers u
unfolding first_slots after past steps
first_past sheet offers zero = refl
first_past sheet offers (suc u) = steps_snoc (one_slot sheet) _ (first_slots offers u) (offers u) ∙ ap (λ p. one_slot sheet p (offers u)) (first_past sheet offers u)

-- a slice that is a run followed by what stands past it
is-run : (sheet : Sheet) (history : List (List ℕ)) (run rest : List ℕ) → run ≡ run_after sheet history ++ rest → IsRun sheet history run
is-run sheet history run rest e =
    let n : length (run_after sheet history) + 0 ≡ run_numbers = omega (arith, length-run_after sheet history) in
    let d : drop run_numbers run ≡ rest = ap (drop run_numbers) e ∙ (rw n at (drop-append-add (run_after sheet history) rest 0)) in
    e ∙ ap (λ (r : List ℕ). run_after sheet history ++ r) (sym d)

-- A REFUSED CALL CHANGES NOTHING, nor do many
pub between-same : (was is : List ℕ) → Between was is → is ≡ was
between-same was is none = refl
between-same was is (slot {found} b p) = (unchanged _ _ _ _ _ _ _ _ _ _ _ p).run_is ∙ between-same was found b
between-same was is (opening {found} b all o) = not_opened _ _ _ _ _ all o ∙ between-same was found b

-- what open answered, back to the verdict: the sheet passes, and the run is that before slot 1
record PassedBy (bytes start run : List ℕ) : Type 0 where
  slack : ℕ
  t : ℕ
  says : Says bytes (passed slack t)
  is : run ≡ run_after (sheet_of bytes) [] ++ drop run_numbers start

passed-by : (bytes start run : List ℕ) → AllBytes bytes → Opens bytes start run opened → PassedBy bytes start run
passed-by bytes start run all o = go (le_or_lt run_numbers (length start)) (some-verdict bytes all)
  where
    go : (run_numbers ≤ length start) ⊎ (length start < run_numbers) → ((v : Case) × Says bytes v) → PassedBy bytes start run
    go (inr h) v = absurd (opened_or_refused 13 0 (o.too_short h).0)
    go (inl h) (passed slack t, s) = record { slack = slack; t = t; says = s; is = (o.long-enough h (passed slack t) s).1 }
    go (inl h) (failed t, s) = absurd (opened_or_refused 12 t (o.long-enough h (failed t) s).0)
    go (inl h) (unreadable number place, s) = absurd (opened_or_refused number place (o.long-enough h (unreadable number place) s).0)

module _ (bytes : List ℕ) (n : ℕ) (c : Calls bytes n) where
  abbrev sheet : Sheet
  sheet = sheet_of bytes

  passes : PassedBy bytes c.start (c.left 0)
  passes = passed-by bytes c.start (c.left 0) c.bytes_are c.opens

  pub verdict : (slack : ℕ) × (t : ℕ) × Says bytes (passed slack t)
  verdict = (passes.slack, passes.t, passes.says)

  pub made : WellMade sheet
  made = makes bytes c.bytes_are passes.says.0

  abbrev pub history : ℕ → List (List ℕ)
  history = first_slots c.offers

  -- the slice that slot u left is the run after the first u slots, and so it stays through refused calls
  record Stands (u : ℕ) : Type 0 where
    most : u ≤ most_slots
    is : IsRun sheet (history u) (c.left u)

  stays : (u : ℕ) → Stands u → (run : List ℕ) → Between (c.left u) run → IsRun sheet (history u) run
  stays u s run b = subst (IsRun sheet (history u)) (sym (between-same (c.left u) run b)) s.is

  abbrev AnsweredAt : ℕ → Type 0
  AnsweredAt u = Answered (c.run u) (c.offers u) (c.outcomes u) (c.notes u) (c.tally u) (c.left (suc u)) (c.outcomes' u) (c.notes' u) (c.tally' u) sheet (history u) (c.sent_count u)

  -- EACH SLOT IS DONE, by the rules, where the slice is the run after those before it
  answered-at : (u : ℕ) → u < n → Stands u → AnsweredAt u
  answered-at u h s =
      answered (c.run u) (c.offers u) (c.outcomes u) (c.notes u) (c.tally u) (c.left (suc u)) (c.outcomes' u) (c.notes' u) (c.tally' u) sheet (history u) (c.sent_count u)
      made (omega (arith, length-first c.offers u, s.most)) (stays u s (c.run u) (c.between u h)) (c.slots u h)

  -- AND IT IS THAT RUN
  stands : (u : ℕ) → u ≤ n → Stands u
  unfolding first_slots
  stands zero h = record { most = omega arith; is = is-run sheet [] (c.left 0) (drop run_numbers c.start) passes.is }
  stands (suc u) h =
      let a = answered-at u h (stands u (omega arith)) in
      record {
        most = omega (arith, length-first c.offers u, a.left);
        is = is-run sheet (history (suc u)) (c.left (suc u)) (drop run_numbers (c.run u)) a.done.run_is;
      }

  pub runs : (u : ℕ) → u ≤ n → (run : List ℕ) → Between (c.left u) run → IsRun sheet (history u) run
  runs u h = stays u (stands u h)

  pub done : (u : ℕ) → u < n
      → Done sheet (history u) (c.run u) (c.offers u) (c.outcomes u) (c.notes u) (c.tally u) (c.left (suc u)) (c.outcomes' u) (c.notes' u) (c.tally' u) (sent (c.sent_count u))
  done u h = (answered-at u h (stands u (omega arith))).done

  -- no more than a million
  pub most : n ≤ most_slots
  most = (stands n (omega arith)).most
