-- Packet after packet, the run and the notes are those of the sending so far. Assumes nothing.
use Rattle.std.proofs.Common.{◌≡◌, ◌≢◌, ℕ, Option, Some, None, refl, sym, ap, ◌∙◌, length, arith}
use Rattle.send.specs.Choice.{Waits, Found, chosen, chosen-waits}
use Rattle.send.specs.Send.{sending_start, sending_more, sending_over, noted-is, length-note, length-raised}
use Rattle.send.proofs.send.Goals as goal
use Rattle.send.proofs.send.Goals.{In-Some}

pub loop-k-init : goal.loop-k-init
loop-k-init c = (refl, refl, sending_start _ _ _)

-- none was found
none-found : (count : ℕ) (found : Option ℕ) (r : ℕ) → Found count found r → ((i : ℕ) → found ≡ Some i → ⊥) → r ≡ count
none-found count None r f n = f
none-found count (Some i) r f n = absurd (n i refl)

pub returns-in_default : goal.returns-in_default
returns-in_default c =
    sending_over _ _ _ _ _ _ c.loop-k.invariant.2 _ _ (omega arith) refl (none-found _ _ _ c.pick.ensures c.in_default.not-Some)

-- a session was chosen, and one of its packets waits
found : (c : In-Some) → (chosen c.loop-k.run c.args.count ≢ c.args.count) × Waits c.loop-k.run c.in-Some.session
found c =
    let f = c.in-Some.ensures in
    let n : c.in-Some.session ≢ c.args.count = λ e. omega (arith, f.0) in
    (λ e. n (sym f.1 ∙ e), (chosen-waits c.loop-k.run c.args.count c.in-Some.session (sym f.1) n).1)

pub raise-packet-requires : goal.raise-packet-requires
raise-packet-requires c =
    let f = c.in-Some.ensures in
    (omega (arith, f.0), omega arith, (found (goal.at.raise-packet-requires c).In-Some).1)

pub loop-k-preserved : goal.loop-k-preserved
loop-k-preserved c =
    let f = c.in-Some.ensures in
    let up = c.raise-packet.ensures in
    let wrote = c.note.ensures in (
      ap length up.1 ∙ length-raised _ _ ∙ c.loop-k.invariant.0,
      ap length wrote ∙ length-note _ _ _ _ _ ∙ c.loop-k.invariant.1,
      sending_more _ _ _ _ _ _ c.loop-k.invariant.2 c.in-Some.session _ _ (sym f.1) (λ e. (found (goal.at.loop-k-preserved c).In-Some).0 (f.1 ∙ e)) up.1
          (wrote ∙ noted-is _ _ _ _ _ _ _ refl up.0 c.head_due-due.ensures),
    )
