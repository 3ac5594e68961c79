-- What sending leaves of the run: its length, all its numbers but the blocks' sent counts, of which each step raises one by 1; and how many go. Assumes nothing.
use Rattle.std.specs.Prelude.{◌≡◌, refl, ◌≢◌, List, ℕ, zero, suc, ◌+◌, ◌≤◌, ◌<◌, length, get_or}
use Rattle.std.proofs.Common.{ap, ◌∙◌, arith}
use Rattle.std.proofs.Math.Decide.{ℕ_discrete}
use Rattle.std.proofs.Math.Seq.{get_or-set_same, get_or-set_other}
use Rattle.layout.specs.Layout.{block_at, sent_at}
use Rattle.send.specs.Choice.{taken_of, sent_of, Waits, chosen, chosen-waits}
use Rattle.send.specs.Send.{raised, length-raised, step_run-stay, step_run-go, step_count-stay, step_count-go, send_run, send_run-zero, send_run-suc, send_count, send_count-zero, send_count-suc}

-- one packet
module _ (run : List ℕ) (r : ℕ) where
  pub raised-other : (x : ℕ) → x ≢ block_at r + sent_at → get_or (raised run r) x 0 ≡ get_or run x 0
  unfolding raised
  raised-other x n = get_or-set_other run (block_at r + sent_at) x _ 0 n

  pub raised-here : block_at r + sent_at < length run → sent_of (raised run r) r ≡ sent_of run r + 1
  unfolding raised
  raised-here h = get_or-set_same run (block_at r + sent_at) _ 0 h

  pub raised-there : (i : ℕ) → i ≢ r → sent_of (raised run r) i ≡ sent_of run i
  raised-there i n = raised-other (block_at i + sent_at) (omega arith)

  pub raised-taken : (i : ℕ) → taken_of (raised run r) i ≡ taken_of run i
  raised-taken i = raised-other _ (omega arith)

module _ (run : List ℕ) (count : ℕ) where
  -- what each packet keeps, the sending keeps
  pub send-keeps : (Q : List ℕ → Type 0) → ((l : List ℕ) (r : ℕ) → Q l → r ≡ chosen l count → r < count → Waits l r → Q (raised l r)) → Q run → (c : ℕ) → Q (send_run run count c)
  send-keeps Q step q zero = rw (send_run-zero run count) q
  send-keeps Q step q (suc c) = go (send-keeps Q step q c) (ℕ_discrete (chosen (send_run run count c) count) count)
    where
      go : Q (send_run run count c) → Dec (chosen (send_run run count c) count ≡ count) → Q (send_run run count (suc c))
      go ih (yes e) = rw (send_run-suc run count c, step_run-stay (send_run run count c) count e) ih
      go ih (no n) =
          let w = chosen-waits (send_run run count c) count (chosen (send_run run count c) count) refl n in
          rw (send_run-suc run count c, step_run-go (send_run run count c) count n) (step (send_run run count c) (chosen (send_run run count c) count) ih refl w.0 w.1)

  pub length-send_run : (c : ℕ) → length (send_run run count c) ≡ length run
  length-send_run = send-keeps (λ l. length l ≡ length run) (λ l r q e h w. length-raised l r ∙ q) refl

  -- only the sent counts of the sessions change
  pub send_run-other : (x : ℕ) → ((i : ℕ) → i < count → x ≢ block_at i + sent_at) → (c : ℕ) → get_or (send_run run count c) x 0 ≡ get_or run x 0
  send_run-other x n = send-keeps (λ l. get_or l x 0 ≡ get_or run x 0) (λ l r q e h w. raised-other l r x (n r h) ∙ q) refl

  -- how many go
  pub send_count-most : (c : ℕ) → send_count run count c ≤ c
  send_count-most zero = omega (arith, send_count-zero run count)
  send_count-most (suc c) = go (send_count-most c) (ℕ_discrete (chosen (send_run run count c) count) count)
    where
      go : send_count run count c ≤ c → Dec (chosen (send_run run count c) count ≡ count) → send_count run count (suc c) ≤ suc c
      go ih (yes e) = omega (arith, send_count-suc run count c, step_count-stay (send_run run count c) count e (send_count run count c))
      go ih (no n) = omega (arith, send_count-suc run count c, step_count-go (send_run run count c) count n (send_count run count c))

  -- while packets wait, each step sends one
  pub send_count-all : (k : ℕ) → chosen (send_run run count k) count ≢ count → send_count run count k ≡ k
  send_count-all zero n = send_count-zero run count
  send_count-all (suc k) n = go (send_count-all k) (ℕ_discrete (chosen (send_run run count k) count) count)
    where
      go : (chosen (send_run run count k) count ≢ count → send_count run count k ≡ k) → Dec (chosen (send_run run count k) count ≡ count) → send_count run count (suc k) ≡ suc k
      go ih (yes e) = absurd (n (ap (λ (l : List ℕ). chosen l count) (send_run-suc run count k ∙ step_run-stay (send_run run count k) count e) ∙ e))
      go ih (no m) = omega (arith, send_count-suc run count k, step_count-go (send_run run count k) count m (send_count run count k), ih m)
