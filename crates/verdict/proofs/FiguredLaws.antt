-- Laws of specs/Figured.antt. What the program keeps while it works out the figures, so that each step of its loops is one lemma: the largest so far within a session, and the figures of the sessions done so far. Assumes nothing.
use Rattle.std.specs.Prelude.{◌≡◌, ◌⊎◌, List, ℕ, zero, suc, ◌+◌, ◌-◌, ◌≤◌, ◌<◌, max, get_or, set}
use Rattle.std.proofs.Common.{sym, ◌∙◌, inl, inr, arith, lt-ltb, le-ltb, length-set, get_or-set_same, get_or-set_other}
use Rattle.std.proofs.Math.Path.{ap}
use Rattle.std.proofs.Math.Decide.{ℕ_discrete}
use Rattle.std.proofs.Math.ListN.{length, get_or-eq_default}
use Rattle.std.proofs.lemmas.List.{length-replicate, get_or-replicate}
use Rattle.curve.proofs.OrderLaws.{le_or_lt}
use Rattle.curve.specs.Curve.{Curve, at}
use Rattle.curve.proofs.CurveLaws.{at_table}
use Rattle.curve.specs.Rises.{IsCurve}
use Rattle.curve.specs.Delay.{slot, delay}
use Rattle.curve.specs.declared.Slots.{Slots}
use Rattle.refusal.specs.Numbers.{number_of}
use Rattle.refusal.specs.declared.Refusal.{Refusal as Refused}
use Rattle.sheet.specs.Limits.{most_sessions}
use Rattle.sheet.specs.Refusal.{none, refused}
use Rattle.sheet.specs.Sheet.{Session, session, session_count, WellMadeCurve}
use Rattle.sheet.specs.Bytes.{count_of, period_of, sheet_of}
use Rattle.sheet.specs.Reading.{reading}
use Rattle.sheet.proofs.StartsLaws.{count-is}
use Rattle.sheet.specs.Ready.{Ready}
use Rattle.sheet.specs.Told.{SessionIn}
use Rattle.sheet.proofs.ToldLaws.{envelope_in}
use Rattle.sheet.specs.declared.fields.Session.{Session as SessionAt}
use Rattle.curve.specs.Drawn.{drawn}
use Rattle.verdict.specs.Ready.{Drawn}
use Rattle.verdict.specs.Figure.{lag, largest, figure}
use Rattle.verdict.proofs.FigureLaws.{largest-zero, largest-suc, lag-delay}
use Rattle.verdict.specs.Verdict.{figure_of, figure_in, Figures, Judges}
use Rattle.verdict.specs.declared.Verdict.TheVariants.{Unreadable}
use Rattle.verdict.specs.Figured.{Figured, figure_to, Done, no_slots, no_figures}

-- a curve's table values are small
pub table-most : (P : ℕ) (F : Curve) → WellMadeCurve P F → (x : ℕ) → 1 ≤ x → x ≤ length F.table → at P F x ≤ 500
table-most P F w zero h l = absurd (omega arith)
table-most P F w (suc i) h l = rw (at_table P F i l) (w.values i l)

module _ (P : ℕ) (b S : Curve) where
  pub figured_none : Figured P b S 1 0
  figured_none =
      record { from = omega arith; within = omega arith; is = sym (largest-zero (λ i. lag P S (at P b (suc i)) (suc i))) }

  -- position x, due at m
  pub figured_next : IsCurve P S → 1 ≤ S.rate → (x l m v : ℕ) → Figured P b S x l → x ≤ length b.table → delay P S (at P b x) ≡ slot m → v ≡ max l (m - x)
      → Figured P b S (x + 1) v
  figured_next good rate zero l m v f h e w = absurd (omega (arith, f.from))
  figured_next good rate (suc i) l m v f h e w =
      let g : ℕ → ℕ = λ i. lag P S (at P b (suc i)) (suc i) in
      let k : suc i + 1 - 1 ≡ suc i = omega arith in
      let z : suc i - 1 ≡ i = omega arith in
      record {
        from = omega arith;
        within = omega arith;
        is = rw k (w ∙ ap (λ y. max l y) (sym (lag-delay P S good rate (at P b (suc i)) (suc i) m (omega arith) e)) ∙ ap (λ y. max y (g i)) (f.is ∙ ap (largest g) z) ∙ sym (largest-suc g i));
      }

  -- past the last position
  pub figured_all : (x l : ℕ) → Figured P b S x l → length b.table < x → l ≡ figure P b S
  unfolding figure
  figured_all x l f h =
      let e : x - 1 ≡ length b.table = omega (arith, f.within) in
      f.is ∙ ap (largest (λ i. lag P S (at P b (suc i)) (suc i))) e

-- a session taken apart: what its parts promise, and how many positions its envelope has
module _ (P : ℕ) (s : SessionAt) (g : Drawn P s) where
  pub service-curve : IsCurve P (drawn s.service)
  service-curve = g.service.curve

  pub service-promises : 1 ≤ s.service.rate.0
  service-promises = g.promises

  pub few-positions : length (drawn s.envelope).table ≤ 64
  few-positions = g.envelope.short

  -- what the look-ups answer at position x
  pub answered : (x q m : ℕ) → q ≡ at P (drawn s.envelope) x → delay P (drawn s.service) q ≡ slot m → delay P (drawn s.service) (at P (drawn s.envelope) x) ≡ slot m
  answered x q m e d = ap (delay P (drawn s.service)) (sym e) ∙ d

  pub asked-little : (x q : ℕ) → 1 ≤ x → x ≤ length (drawn s.envelope).table → q ≡ at P (drawn s.envelope) x → q ≤ 500
  asked-little x q h l e = rw e (table-most P (drawn s.envelope) g.envelope x h l)

-- as many positions as the session's envelope has
pub positions : (session : Session) (s : SessionAt) → SessionIn session s → length (drawn s.envelope).table ≡ length session.envelope.table
positions session s lies = ap (λ (F : Curve). length F.table) (envelope_in session s lies)

figure-to : (bytes : List ℕ) (m j : ℕ) → j < m → figure_to bytes m j ≡ figure (period_of bytes) (session (sheet_of bytes) j).envelope (session (sheet_of bytes) j).service
unfolding figure_to
figure-to bytes m j h = rw (lt-ltb j m h, figure_to)

figure-past : (bytes : List ℕ) (m j : ℕ) → m ≤ j → figure_to bytes m j ≡ 0
unfolding figure_to
figure-past bytes m j h = rw (le-ltb j m h, figure_to)

sixteen-none : length no_figures ≡ most_sessions
sixteen-none = length-replicate most_sessions no_slots

each_none : (j : ℕ) → (get_or no_figures j no_slots).0 ≡ 0
each_none j = go (le_or_lt most_sessions j)
  where
    go : (most_sessions ≤ j) ⊎ (j < most_sessions) → (get_or no_figures j no_slots).0 ≡ 0
    go (inl h) = ap (λ s. s.0) (get_or-eq_default no_figures no_slots {n = j} (omega (arith, sixteen-none)))
    go (inr h) = ap (λ s. s.0) (get_or-replicate most_sessions j no_slots no_slots h)

module _ (bytes : List ℕ) where
  -- before the first
  pub done_none : Done bytes 0 no_figures
  done_none =
      record { within = omega arith; sixteen = sixteen-none; each = λ j. each_none j ∙ sym (figure-past bytes 0 j (omega arith)) }

  -- the figure of session i
  done-set : (i : ℕ) (figures : List Slots) (r : Slots) → Done bytes i figures → i < count_of bytes → count_of bytes ≤ most_sessions
      → r.0 ≡ figure (period_of bytes) (session (sheet_of bytes) i).envelope (session (sheet_of bytes) i).service
      → Done bytes (i + 1) (set figures i r)
  done-set i figures r d h few e =
      record {
        within = omega arith;
        sixteen = length-set figures i r ∙ d.sixteen;
        each = λ j. go j (ℕ_discrete j i) (le_or_lt (i + 1) j);
      }
    where
      go : (j : ℕ) → Dec (j ≡ i) → (i + 1 ≤ j) ⊎ (j < i + 1) → (get_or (set figures i r) j no_slots).0 ≡ figure_to bytes (i + 1) j
      go j (yes q) k =
          let w : i < length figures = omega (arith, d.sixteen) in
          rw q (ap (λ s. s.0) (get_or-set_same figures i r no_slots w) ∙ e ∙ sym (figure-to bytes (i + 1) i (omega arith)))
      go j (no q) (inl k) =
          ap (λ s. s.0) (get_or-set_other figures i j r no_slots q) ∙ d.each j ∙ figure-past bytes i j (omega arith) ∙ sym (figure-past bytes (i + 1) j k)
      go j (no q) (inr k) =
          ap (λ s. s.0) (get_or-set_other figures i j r no_slots q) ∙ d.each j ∙ figure-to bytes i j (omega arith) ∙ sym (figure-to bytes (i + 1) j k)

  -- past the last
  pub done_all : (i : ℕ) (figures : List Slots) → reading bytes ≡ none → Done bytes i figures → count_of bytes ≤ i → Figures bytes figures
  unfolding figure_in figure_of figure_to sheet_of
  done_all i figures e d h =
      let k : i ≡ session_count (sheet_of bytes) = omega (arith, d.within, count-is bytes) in
      record { sixteen = d.sixteen; each = λ j. d.each j ∙ ap (λ m. figure_to bytes m j) k ∙ ap (λ o. figure_in o bytes j) (sym e) }

-- of bytes that do not read, none
pub figures-none : (bytes : List ℕ) (number place : ℕ) → reading bytes ≡ refused number place → Figures bytes no_figures
unfolding figure_in
figures-none bytes number place e = record { sixteen = sixteen-none; each = λ j. each_none j ∙ ap (λ o. figure_in o bytes j) (sym e) }

-- so such bytes are judged
pub judges-unread : (bytes : List ℕ) (r : Refused) → reading bytes ≡ refused (number_of r.cause) r.place → Judges bytes (Unreadable r) no_figures
judges-unread bytes r e = record { says = e; figures_are = figures-none bytes _ _ e }

-- the figure of session i of a sheet that reads
module _ (bytes starts : List ℕ) (count c P : ℕ) (ready : Ready bytes starts count c P) (i : ℕ) (h : i < count) where
  pub done_next : (figures : List Slots) (r : Slots) → Done bytes i figures
      → r.0 ≡ figure P (session (sheet_of bytes) i).envelope (session (sheet_of bytes) i).service
      → Done bytes (i + 1) (set figures i r)
  done_next figures r d e =
      done-set bytes i figures r d (omega (arith, ready.count-is)) (omega (arith, ready.made.few, count-is bytes))
      (e ∙ ap (λ p. figure p (session (sheet_of bytes) i).envelope (session (sheet_of bytes) i).service) ready.period)
