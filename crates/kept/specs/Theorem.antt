-- THE THEOREM OF DEMAND 3: from bytes that the verdict passes, through the contracts of `open` and `slot` alone, to the packets that the slots noted. Assumes nothing.
use Rattle.std.specs.Prelude.{◌≡◌, ◌⊎◌, List, ℕ, ◌+◌, ◌-◌, ◌≤◌, ◌<◌, T, length, get_or}
use Rattle.std.proofs.Math.Path.{sym, ap}
use Rattle.std.proofs.Common.{subst, ◌∙◌, inl, inr}
use native.Mathlib.Omega.{arith}
use Rattle.curve.proofs.OrderLaws.{le_or_lt}
use Rattle.curve.proofs.LeastLaws.{least_cong}
use Rattle.curve.specs.Total.{total}
use Rattle.curve.specs.Delay.{come}
use Rattle.sheet.specs.Sheet.{Sheet, session, session_count}
use Rattle.sheet.specs.Bytes.{sheet_of}
use Rattle.verdict.specs.Verdict.{passed, Says}
use Rattle.rules.specs.Count.{count_all}
use Rattle.rules.specs.Model.{Past, service_of, of_session, waiting_of, takes, past, promised}
use Rattle.rules.specs.Curves.{WithinCapacity}
use Rattle.rules.proofs.CurvesLaws.{passes-within}
use Rattle.rules.proofs.Facts.{got, new_packet}
use Rattle.rules.proofs.Intake.{taken-split}
use Rattle.rules.specs.Main.{Kept as ModelKept}
use Rattle.rules.proofs.MainLaws.{main_theorem, taken-got}
use Rattle.rules.proofs.Which.{was_sent, still-waits}
use Rattle.layout.specs.Layout.{run_numbers}
use Rattle.opening.specs.Open.{Answer, opened, Opens}
use Rattle.kept.specs.Calls.{Calls, took_in}
use Rattle.kept.specs.Numbers.{place_of}
use Rattle.kept.specs.Promise.{taken, went, due_in, WasSent, Kept, Demand3}
use Rattle.kept.specs.Runs.{verdict, most}
use Rattle.kept.specs.Wrote.{sent_at, curves, took-is, over-is, no_room-is, taken_is, went-is, due-is, note_is}
use Rattle.kept.specs.Noted.{was_taken, in_order, once}

module _ (bytes : List ℕ) (n : ℕ) (c : Calls bytes n) where
  abbrev sheet : Sheet
  sheet = sheet_of bytes

  abbrev told : ℕ → List ℕ
  told = c.offers

  -- the past at the end of slot u, by the rules
  abbrev p : ℕ → Past
  p = past sheet told

  capacity : WithinCapacity sheet
  capacity =
      let v = verdict bytes n c in
      passes-within sheet v.0 v.1 v.2.1

  module _ (t : ℕ) (l : t ≤ n) where
    -- what the theorem over the rules says
    kept : ModelKept sheet told p t
    kept = main_theorem sheet told (curves bytes n c) capacity t

    -- 1. sent, or it would wait with a deadline that has come
    timely : (i u q : ℕ) → i < session_count sheet → u < t → 1 ≤ q → q ≤ got sheet told i u → T (come (new_packet sheet told i u q).due t)
        → total (got sheet told i) u + q ≤ count_all (of_session i) (p t).sent
    timely i u q k slot_is one m due = go (le_or_lt (total (got sheet told i) u + q) (count_all (of_session i) (p t).sent))
      where
        go : (total (got sheet told i) u + q ≤ count_all (of_session i) (p t).sent) ⊎ (count_all (of_session i) (p t).sent < total (got sheet told i) u + q)
            → total (got sheet told i) u + q ≤ count_all (of_session i) (p t).sent
        go (inl a) = a
        go (inr a) =
            let late = kept.no_late (new_packet sheet told i u q) (still-waits sheet told (curves bytes n c) i t k u q slot_is one m a) in
            absurd (subst T late due)

    on_time : (i u q : ℕ) → i < session_count sheet → u < t → 1 ≤ q → q ≤ took_in bytes n c i u → T (come (due_in bytes n c i u q) t)
        → WasSent bytes n c i (taken bytes n c i u + q) (due_in bytes n c i u q) t
    on_time i u q k slot_is one m due =
        let h : u < n = omega arith in
        let m' : q ≤ got sheet told i u = omega (arith, took-is bytes n c u h i k) in
        let w = was_sent sheet told (curves bytes n c) i t k u q slot_is one m' (timely i u q k slot_is one m' (subst (λ d. T (come d t)) (due-is bytes n c i k u q h) due)) in
        let a = place_of (sent_at bytes n c w.0) (new_packet sheet told i u q) w.2 in
        record {
          v = w.0;
          slot_is = w.1;
          j = a.0;
          noted = note_is bytes n c w.0 a.0 i u q (omega (arith, w.1)) h k one m' a.1;
        }

    served : (i : ℕ) → i < session_count sheet → promised (service_of sheet i) (taken bytes n c i) t ≤ went bytes n c i t
    unfolding promised
    served i k =
        omega (
          arith,
          kept.served i k,
          went-is bytes n c i k t l,
          least_cong (λ s. taken bytes n c i s + service_of sheet i (t - s)) _ t
              (λ s h. ap (λ x. x + service_of sheet i (t - s)) (taken_is bytes n c i k s (omega arith) ∙ sym (taken-got sheet told t i s k h))),
        )

    keeps : Kept bytes n c t
    unfolding got
    keeps = record {
      on_time = on_time;
      served = served;
      within = λ i s u k a b.
          omega (
            arith,
            kept.within i s u k a b,
            taken_is bytes n c i k u (omega arith),
            taken_is bytes n c i k s (omega arith),
            taken-got sheet told t i u k b,
            taken-got sheet told t i s k (omega arith),
          );
      conforming = λ i k ok u h. over-is bytes n c u (omega arith) i k ∙ kept.conforming i k ok u h;
      no_room = λ i u k h some.
          let d : u < n = omega arith in
          omega (
            arith,
            took-is bytes n c u d i k,
            taken_is bytes n c i k u (omega arith),
            went-is bytes n c i k u (omega arith),
            taken-split sheet told i u k,
            full i u k (kept.no_room i u k h (omega (arith, no_room-is bytes n c u d i k))),
          );
      was_taken = λ v j h. was_taken bytes n c v j (omega arith);
      once = λ v j w k h g. once bytes n c v j w k (omega arith) (omega arith);
      in_order = λ v j w k h g. in_order bytes n c v j w k (omega arith) (omega arith);
    }
      where
        full : (i u : ℕ) → i < session_count sheet → waiting_of (p u) i + takes sheet (p u) i (get_or (told u) i 0) ≡ (session sheet i).room → waiting_of (p u) i + got sheet told i u ≡ (session sheet i).room
        full i u k e = e

-- a sheet that passes is opened in every slice that is long enough
pub opens_if_passed : (bytes start run : List ℕ) (slack t : ℕ) (answer : Answer) → Says bytes (passed slack t) → run_numbers ≤ length start → Opens bytes start run answer → answer ≡ opened
opens_if_passed bytes start run slack t answer says long o = (o.long-enough long (passed slack t) says).0

-- DEMAND 3, for every run
pub demand_3 : (bytes : List ℕ) (n : ℕ) (c : Calls bytes n) → Demand3 bytes n c
demand_3 bytes n c = record { kept = keeps bytes n c; most = most bytes n c }
