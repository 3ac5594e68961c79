-- Of a session's block, sending changes the sent count alone. Assumes nothing.
use Rattle.std.specs.Prelude.{◌≡◌, List, ℕ, ◌+◌, ◌≤◌, ◌<◌, length, get_or, set}
use Rattle.std.proofs.Common.{sym, ◌∙◌, arith, length-set, get_or-set_same, get_or-set_other, ext_get_or}
use Rattle.std.proofs.Math.Decide.{ℕ_discrete}
use Rattle.sheet.specs.Limits.{most_sessions}
use Rattle.layout.specs.Layout.{run_numbers, block_numbers, sent_at, block_at, block}
use Rattle.layout.specs.Part.{block-length, block-at}
use Rattle.send.specs.Choice.{sent_of}
use Rattle.send.specs.Send.{send_run}
use Rattle.send.specs.Sent.{length-send_run, send_run-other}

module _ (run : List ℕ) (count : ℕ) (size : run_numbers ≤ length run) (few : count ≤ most_sessions) (i : ℕ) (h : i < count) (c : ℕ) where
  -- the block of a session after the sending
  pub send_run-block : block (send_run run count c) i ≡ set (block run i) sent_at (sent_of (send_run run count c) i)
  send_run-block =
      let len = length-send_run run count c in
      let old = block-length run i size (omega arith) in
      let new = block-length (send_run run count c) i (omega arith) (omega arith) in
      let n = sent_of (send_run run count c) i in
      let both : length (block (send_run run count c) i) ≡ length (set (block run i) sent_at n) = simp length-set (omega arith) in
      ext_get_or 0 (block (send_run run count c) i) (set (block run i) sent_at n) both (λ x b. go x (omega arith) (ℕ_discrete x sent_at))
    where
      go : (x : ℕ) → x < block_numbers → Dec (x ≡ sent_at) → get_or (block (send_run run count c) i) x 0 ≡ get_or (set (block run i) sent_at (sent_of (send_run run count c) i)) x 0
      go x b (yes e) =
          let old = block-length run i size (omega arith) in
          rw e (block-at (send_run run count c) i sent_at (omega arith) ∙ sym (get_or-set_same (block run i) sent_at (sent_of (send_run run count c) i) 0 (omega arith)))
      go x b (no n) =
          block-at (send_run run count c) i x b ∙ send_run-other run count (block_at i + x) (λ j q. omega arith) c
          ∙ sym (block-at run i x b) ∙ sym (get_or-set_other (block run i) sent_at x (sent_of (send_run run count c) i) 0 n)
