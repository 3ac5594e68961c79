-- NEVER REFUSED, the theorem that goes with demand 3: on the run after fewer than a million slots, whatever was refused between them, a call of `slot` that is lent what it asks is
-- answered. Assumes nothing.
use Rattle.std.specs.Prelude.{◌≡◌, List, ℕ, ◌<◌}
use Rattle.std.proofs.Common.{sym, subst, arith}
use Rattle.sheet.specs.Bytes.{sheet_of}
use Rattle.layout.specs.Sound.{most_slots}
use Rattle.run.specs.Brought.{Within}
use Rattle.run.specs.ByRules.{tally_by}
use Rattle.run.specs.Slot.{sent}
use Rattle.kept.specs.Calls.{Calls}
use Rattle.kept.specs.Lent.{Lent}
use Rattle.kept.specs.Runs.{length-first, first_past, made, history, runs}

pub never-refused : (bytes : List ℕ) (n : ℕ) (c : Calls bytes n) → n < most_slots → (s : Lent bytes n c) → (k : ℕ) × (s.reply ≡ sent k)
never-refused bytes n c less s =
    let few = length-first c.offers n in
    let done =
    (s.slot.rules (sheet_of bytes) (made bytes n c) (history bytes n c n) (omega arith) (runs bytes n c n (omega arith) s.run s.between)).done
    (record { offered = s.offered; outcomes-fit = s.outcomes-fit; notes-fit = s.notes-fit })
    (omega arith)
    (subst (λ p. Within (tally_by (sheet_of bytes) p s.offers s.tally)) (sym (first_past (sheet_of bytes) c.offers n)) s.tally-fits) in
    (_, done.answers)
