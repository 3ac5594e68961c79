-- Laws of specs/Main.antt. THE MAIN THEOREM: what a sheet that passes promises at the end of every slot, of every run on it. Assumes nothing.
use Rattle.std.specs.Prelude.{◌≡◌, ℕ, suc, ◌≤◌, ◌<◌}
use mathlib.Core.List.{List}
use Rattle.std.proofs.Common.{arith}
use Rattle.curve.proofs.LeastLaws.{least_cong}
use Rattle.curve.specs.Total.{total}
use Rattle.curve.specs.Delay.{come}
use Rattle.sheet.specs.Sheet.{Sheet, session_count}
use Rattle.rules.proofs.CountLaws.{count_none}
use Rattle.rules.specs.Model.{Past, service_of, past, taken_by, promised}
use Rattle.rules.specs.Curves.{Curves, WithinCapacity}
use Rattle.rules.proofs.Facts.{got, total-got, envelope-kept}
use Rattle.rules.proofs.Intake.{none_over, full}
use Rattle.rules.proofs.Theorem.{on_time, promise}
use Rattle.rules.specs.Main.{Kept}

-- it speaks of the pasts alone
pub same_kept : (sheet : Sheet) (offers : ℕ → List ℕ) (p q : ℕ → Past) (t : ℕ) → ((u : ℕ) → u ≤ t → p u ≡ q u) → Kept sheet offers q t → Kept sheet offers p t
same_kept sheet offers p q t e k =
    record {
      no_late = rw (e t (omega arith)) k.no_late;
      served = rw (e t (omega arith)) k.served;
      within = rw (e t (omega arith)) k.within;
      conforming = λ i h c u l. rw (e u (omega arith)) (k.conforming i h c u l);
      no_room = λ i u h l. rw (e u (omega arith)) (k.no_room i u h l);
    }

module _ (sheet : Sheet) (told : ℕ → List ℕ) where
  pub taken-got : (t i s : ℕ) → i < session_count sheet → s ≤ t → taken_by (past sheet told t) i s ≡ total (got sheet told i) s
  unfolding taken_by
  taken-got t i s k l = total-got sheet told t i s k l

  promised-got : (t i : ℕ) → i < session_count sheet
      → promised (service_of sheet i) (taken_by (past sheet told t) i) t ≡ promised (service_of sheet i) (total (got sheet told i)) t
  unfolding promised
  promised-got t i k = least_cong _ _ t (λ s l. rw (taken-got t i s k l))

  pub main_theorem : Curves sheet → WithinCapacity sheet → (t : ℕ) → Kept sheet told (past sheet told) t
  main_theorem curves fits t =
      record {
        no_late = λ x m. count_none (λ y. come y.due t) x (past sheet told t).waiting (on_time sheet curves told fits t) m;
        served = λ i k. omega (arith, promised-got t i k, promise sheet curves told fits i t k);
        within = λ i s u k l n.
            omega (arith, taken-got t i s k (omega arith), taken-got t i u k n, envelope-kept sheet told curves i s u k l);
        conforming = λ i k c u l. none_over sheet told i u k (λ s m. c s (suc u) m l);
        no_room = λ i u k l. full sheet told i u k;
      }
