-- The tables and the ring of a run after so many slots: how long they are, that each table holds what lies ahead of its curve, and which packet's deadline stands where. Assumes nothing.
use Rattle.std.specs.Prelude.{◌≡◌, ◌⊎◌, ◌≢◌, length, get_or}
use Rattle.std.proofs.Math.Path.{refl, sym, ap}
use Rattle.std.proofs.Common.{◌∙◌, inl, inr, arith, le-leb, eq-eqb, ne_eqb}
use Prim.Native.Nat.{ℕ, zero, suc, ◌+◌, ◌-◌, ◌%◌, ◌≤◌, ◌<◌}
use Rattle.std.proofs.Math.Decide.{ℕ_discrete}
use Rattle.std.proofs.lemmas.Bool.{lt-leb}
use Rattle.std.proofs.Math.Seq.{ext_get_or}
use Rattle.curve.proofs.OrderLaws.{le_or_lt}
use Rattle.curve.specs.Total.{total}
use Rattle.curve.proofs.TotalLaws.{total_cong, total_mono}
use Rattle.curve.proofs.LeastLaws.{least_cong}
use Rattle.curve.specs.Curve.{Curve, at}
use Rattle.curve.specs.Delay.{Due, slots_of, delay}
use Rattle.sheet.specs.Sheet.{Session, WellMadeSession}
use Rattle.rules.specs.Deadline.{deadline}
use Rattle.rules.proofs.DeadlineLaws.{deadline_cong}
use Rattle.rules.proofs.Facts.{listed_at, length-listed}
use Rattle.rules.specs.Ahead.{ahead, Holds}
use Rattle.layout.specs.Layout.{ring}
use Rattle.history.specs.Block.{Fitting}
use Rattle.history.specs.After.{ahead_table, due_of, last_at, ring_of, moving_at}

pub length-ahead : (P : ℕ) (F : Curve) (A : ℕ → ℕ) (t : ℕ) → length (ahead_table P F A t) ≡ length F.table
unfolding ahead_table
length-ahead P F A t = length-listed _ (length F.table)

pub ahead-at : (P : ℕ) (F : Curve) (A : ℕ → ℕ) (t j : ℕ) → j < length F.table → get_or (ahead_table P F A t) j 0 ≡ ahead (at P F) A t (suc j)
unfolding ahead_table
ahead-at P F A t j h = listed_at _ (length F.table) j h

pub table-holds : (P : ℕ) (F : Curve) (A : ℕ → ℕ) (t : ℕ) → Holds P F A t (ahead_table P F A t)
table-holds P F A t = record { size = length-ahead P F A t; entry = ahead-at P F A t }

pub length-ring : (D : ℕ → Due) (a : ℕ → ℕ) (t : ℕ) → length (ring_of D a t) ≡ ring
unfolding ring_of
length-ring D a t = length-listed _ ring

pub ring-at : (D : ℕ → Due) (a : ℕ → ℕ) (t j : ℕ) → j < ring → get_or (ring_of D a t) j 0 ≡ due_of D a (last_at (total a t) j) t
unfolding ring_of
ring-at D a t j h = listed_at _ ring j h

pub fitting : (P : ℕ) (s : Session) → WellMadeSession P s → (a : ℕ → ℕ) (sent t : ℕ) → Fitting s (moving_at P s a sent t)
fitting P s made a sent t =
    record {
      short = record { service = made.service.short; envelope = made.envelope.short };
      service-ahead = length-ahead P s.service (total a) t;
      envelope-ahead = length-ahead P s.envelope (total a) t;
      deadlines = length-ring (delay P s.service) a t;
    }

-- WHICH PACKET: one more packet takes its place, the others keep theirs
pub last-here : (A j : ℕ) → A % ring ≡ j → last_at (suc A) j ≡ suc A
unfolding last_at
last-here A j e = rw (eq-eqb (A % ring) j e, last_at)

pub last-other : (A j : ℕ) → A % ring ≢ j → last_at (suc A) j ≡ last_at A j
unfolding last_at
last-other A j n = rw (ne_eqb (A % ring) j n, last_at)

pub last-most : (A j : ℕ) → last_at A j ≤ A
unfolding last_at
last-most zero j = omega arith
last-most (suc A) j = go (ℕ_discrete (A % ring) j) (last-most A j)
  where
    go : Dec (A % ring ≡ j) → last_at A j ≤ A → last_at (suc A) j ≤ suc A
    go (yes e) ih = omega (arith, last-here A j e)
    go (no n) ih = omega (arith, last-other A j n)

-- of the last 256 packets each stands in its place
pub last-is : (A N : ℕ) → 1 ≤ N → N ≤ A → A < N + ring → last_at A ((N - 1) % ring) ≡ N
last-is zero N s h l = absurd (omega arith)
last-is (suc A) N s h l = go (ℕ_discrete (A % ring) ((N - 1) % ring)) (last-is A N s)
  where
    go : Dec (A % ring ≡ (N - 1) % ring) → (N ≤ A → A < N + ring → last_at A ((N - 1) % ring) ≡ N) → last_at (suc A) ((N - 1) % ring) ≡ N
    go (yes e) ih = omega (arith, last-here A ((N - 1) % ring) e)
    go (no n) ih = last-other A ((N - 1) % ring) n ∙ ih (lower (le_or_lt N A)) (omega arith)
      where
        lower : (N ≤ A) ⊎ (A < N) → N ≤ A
        lower (inl k) = k
        lower (inr k) =
            let e : A ≡ N - 1 = omega arith in
            absurd (n (ap (λ x. x % ring) e))

-- ITS DEADLINE: that of the slot that took it in, whatever comes later
module _ (D : ℕ → Due) (a : ℕ → ℕ) where
  pub due-old : (N u : ℕ) → N ≤ total a u → due_of D a N (suc u) ≡ due_of D a N u
  unfolding due_of
  due-old N u h = rw (le-leb N (total a u) h, due_of)

  pub due-new : (N u : ℕ) → total a u < N → due_of D a N (suc u) ≡ slots_of (deadline D a N (suc u))
  unfolding due_of
  due-new N u h = rw (lt-leb N (total a u) h, due_of)

  pub due-is : (N u t : ℕ) → total a u < N → N ≤ total a (suc u) → u < t → due_of D a N t ≡ slots_of (deadline D a N (suc u))
  due-is N u zero lo hi l = absurd (omega arith)
  due-is N u (suc t) lo hi l = go (le_or_lt t u) (due-is N u t lo hi)
    where
      go : (t ≤ u) ⊎ (u < t) → (u < t → due_of D a N t ≡ slots_of (deadline D a N (suc u))) → due_of D a N (suc t) ≡ slots_of (deadline D a N (suc u))
      go (inl k) ih =
          let e : t ≡ u = omega arith in
          ap (λ v. due_of D a N (suc v)) e ∙ due-new N u lo
      go (inr k) ih = due-old N t (omega (arith, total_mono a (suc u) t k)) ∙ ih k

-- the numbers depend on the slots so far alone
module _ (a b : ℕ → ℕ) (t : ℕ) (same : (j : ℕ) → j < t → a j ≡ b j) where
  due_cong : (D : ℕ → Due) (N u : ℕ) → u ≤ t → due_of D a N u ≡ due_of D b N u
  unfolding due_of
  due_cong D N zero l = refl
  due_cong D N (suc u) l = go (le_or_lt N (total a u)) (due_cong D N u (omega arith)) (total_cong a b u (λ j k. same j (omega arith)))
    where
      go : (N ≤ total a u) ⊎ (total a u < N) → due_of D a N u ≡ due_of D b N u → total a u ≡ total b u → due_of D a N (suc u) ≡ due_of D b N (suc u)
      go (inl k) ih e = due-old D a N u k ∙ ih ∙ sym (due-old D b N u (omega arith))
      go (inr k) ih e = due-new D a N u k ∙ ap slots_of (deadline_cong D a b N (suc u) (λ j i. same j (omega arith))) ∙ sym (due-new D b N u (omega arith))

  ahead_cong : (P : ℕ) (F : Curve) → ahead_table P F (total a) t ≡ ahead_table P F (total b) t
  unfolding ahead
  ahead_cong P F =
      let n = length-ahead P F (total a) t in
      ext_get_or 0 (ahead_table P F (total a) t) (ahead_table P F (total b) t) (n ∙ sym (length-ahead P F (total b) t))
      (λ j h. ahead-at P F (total a) t j (omega arith) ∙ least (suc j) ∙ sym (ahead-at P F (total b) t j (omega arith)))
    where
      least : (x : ℕ) → ahead (at P F) (total a) t x ≡ ahead (at P F) (total b) t x
      least x = least_cong _ _ t (λ s l. rw (total_cong a b s (λ j k. same j (omega arith))))

  ring_cong : (D : ℕ → Due) → ring_of D a t ≡ ring_of D b t
  ring_cong D =
      let n = length-ring D a t in
      ext_get_or 0 (ring_of D a t) (ring_of D b t) (n ∙ sym (length-ring D b t))
      (λ j h.
      ring-at D a t j (omega arith)
      ∙ ap (λ A. due_of D a (last_at A j) t) (total_cong a b t same)
      ∙ due_cong D (last_at (total b t) j) t (omega arith)
      ∙ sym (ring-at D b t j (omega arith)))

  pub moving_cong : (P : ℕ) (s : Session) (sent : ℕ) → moving_at P s a sent t ≡ moving_at P s b sent t
  moving_cong P s sent = rw (total_cong a b t same, ahead_cong P s.service, ahead_cong P s.envelope, ring_cong (delay P s.service))
