-- What a session's block makes of the packets offered is what the rules make of them: taken in, over and no room. Assumes nothing.
use Rattle.std.specs.Prelude.{◌≡◌, List}
use Rattle.std.proofs.Math.Path.{refl, sym, ap₂}
use Rattle.std.proofs.Common.{ap, ◌∙◌, arith}
use Prim.Native.Nat.{ℕ, ◌-◌, ◌<◌, min}
use Rattle.std.proofs.Math.ListN.{get_or}
use Rattle.curve.specs.Total.{total}
use Rattle.curve.specs.Curve.{at}
use Rattle.sheet.specs.Sheet.{Sheet, WellMade, session, session_count}
use Rattle.rules.specs.Count.{count_all}
use Rattle.rules.specs.Model.{Past, envelope_of, took, of_session, waiting_of, headroom_of, over, takes, no_room, past}
use Rattle.rules.proofs.Facts.{got, slots, took-got, headroom-got}
use Rattle.rules.proofs.Intake.{taken-split}
use Rattle.rules.specs.Ahead.{ahead}
use Rattle.rules.proofs.AheadLaws.{headroom-ahead}
use Rattle.layout.specs.Layout.{room_at, taken_at, sent_at, envelope_ahead_at}
use Rattle.intake.specs.Share.{admitted, headroom_of as blockHeadroom, free_of, share_of}
use Rattle.intake.specs.declared.Share.{Share}
use Rattle.history.specs.Image.{Moving, block_of}
use Rattle.history.specs.Block.{Reads, block_reads}
use Rattle.history.specs.After.{moving_at, moving_of}
use Rattle.history.specs.Tables.{ahead-at, fitting, moving_cong}

-- the rules' share of an offer
abbrev pub share_by : Sheet → Past → ℕ → ℕ → Share
share_by sheet p i offered = record { taken = takes sheet p i offered; over = over sheet p i offered; no_room = no_room sheet p i offered }

-- those of a headroom and a free room
within : (o h x : ℕ) → x ≡ o - h → (min o h ≡ o - x) × (o - min o h ≡ x)
within o h x e = (omega arith, omega arith)

admitted-is : (o h f x y z : ℕ) → x ≡ o - h → y ≡ min (o - x) f → z ≡ o - x - y → admitted o h f ≡ record { taken = y; over = x; no_room = z }
admitted-is o h f x y z p q r =
    let w = within o h x p in
    let a : min (min o h) f ≡ y = ap (λ v. min v f) w.0 ∙ sym q in
    let c : min o h - min (min o h) f ≡ z = ap₂ ◌-◌ w.0 a ∙ sym r in
    rw (c, a, w.1)

module _ (sheet : Sheet) (told : ℕ → List ℕ) (made : WellMade sheet) (i t : ℕ) (h : i < session_count sheet) where
  -- the session, and what changes in its block, by the packets that it got
  abbrev moving_by : ℕ → Moving
  moving_by sent = moving_at sheet.period (session sheet i) (got sheet told i) sent t

  pub moving-got : moving_of sheet (past sheet told t) i ≡ moving_by (count_all (of_session i) (past sheet told t).sent)
  moving-got =
      let k = count_all (of_session i) (past sheet told t).sent in
      ap (moving_at sheet.period (session sheet i) (took (past sheet told t).taken i) k) (slots sheet told t)
      ∙ moving_cong (took (past sheet told t).taken i) (got sheet told i) t (λ u l. took-got sheet told t i u h l) sheet.period (session sheet i) k

  abbrev the_block : List ℕ
  the_block = block_of (session sheet i) (moving_by (count_all (of_session i) (past sheet told t).sent))

  reads : Reads (session sheet i) (moving_by (count_all (of_session i) (past sheet told t).sent)) the_block
  reads = block_reads (session sheet i) _ (fitting sheet.period (session sheet i) (made.each i h) (got sheet told i) _ t)

  -- HEADROOM
  headroom-is : blockHeadroom the_block ≡ headroom_of sheet (past sheet told t) i
  unfolding envelope_of
  headroom-is =
      let P = sheet.period in
      let E = (session sheet i).envelope in
      let long = (made.each i h).envelope.curve.long in
      let some = made.some-period in
      let one : get_or the_block envelope_ahead_at 0 ≡ ahead (at P E) (total (got sheet told i)) t 1 =
      reads.envelope_aheads 0 (omega arith) ∙ ahead-at P E (total (got sheet told i)) t 0 (omega arith) in
      ap₂ ◌-◌ one (reads.fields taken_at (omega arith)) ∙ sym (headroom-ahead (envelope_of sheet i) (got sheet told i) t) ∙ sym (headroom-got sheet told t i h)

  -- the room that is free
  free_is : free_of the_block ≡ (session sheet i).room - waiting_of (past sheet told t) i
  free_is =
      omega (
        arith,
        reads.fields room_at (omega arith),
        reads.fields taken_at (omega arith),
        reads.fields sent_at (omega arith),
        taken-split sheet told i t h,
      )

  -- THE SHARES ARE EXACT
  pub share_is : (offered : ℕ) → share_of the_block offered ≡ share_by sheet (past sheet told t) i offered
  unfolding over takes no_room
  share_is offered =
      ap₂ (admitted offered) headroom-is free_is
      ∙ admitted-is offered (headroom_of sheet (past sheet told t) i) ((session sheet i).room - waiting_of (past sheet told t) i) _ _ _ refl refl refl
