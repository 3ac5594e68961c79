-- Laws of specs/Window.antt. The values of the sessions' curves at 128 slot counts, as the search keeps them: session i has 256 places, a row of the envelope's values and a row of the service's. Assumes nothing.
use Rattle.std.specs.Prelude.{◌≡◌, refl, List, ◌⊎◌, ℕ, ◌+◌, ◌-◌, ◌*◌, ◌≤◌, ◌<◌, length, get_or, set}
use Rattle.std.proofs.Common.{ap, ◌∙◌, inl, inr, arith, length-set, get_or-set_same, get_or-set_other}
use Rattle.curve.proofs.OrderLaws.{le_or_lt}
use Rattle.curve.specs.Curve.{Curve, at}
use Rattle.curve.proofs.CurveLaws.{at_tail}
use Rattle.curve.specs.Lookup.{Sized}
use Rattle.sheet.specs.Sheet.{session}
use Rattle.sheet.specs.Bytes.{sheet_of}
use Rattle.verdict.specs.Window.{row_places, session_places, window_places, past_tables, Rowed, Window}

module _ (P : ℕ) (F : Curve) (end place : ℕ) (old : List ℕ) where
  pub rowed_none : length old ≡ window_places → Rowed P F end place 0 old old
  rowed_none e = record { places = e; each = λ j h. absurd (omega arith); others = λ k h. refl }

  -- one value more
  pub rowed_more : (n v : ℕ) (new : List ℕ) → n < row_places → place + row_places ≤ window_places → Rowed P F end place n old new → v ≡ at P F (end - n + (n - end))
      → Rowed P F end place (n + 1) old (set new (place + n) v)
  rowed_more n v new h fits w e =
      record {
        places = length-set new (place + n) v ∙ w.places;
        each = λ j b. go j b (le_or_lt n j);
        others = λ k o. get_or-set_other new (place + n) k v 0 (λ q. apart k o q) ∙ w.others k o;
      }
    where
      apart : (k : ℕ) → (k < place) ⊎ (place + row_places ≤ k) → k ≡ place + n → ⊥
      apart k (inl a) q = omega arith
      apart k (inr a) q = omega arith

      go : (j : ℕ) → j < n + 1 → (n ≤ j) ⊎ (j < n) → get_or (set new (place + n) v) (place + j) 0 ≡ at P F (end - j + (j - end))
      go j b (inr a) = get_or-set_other new (place + n) (place + j) v 0 (λ q. omega arith) ∙ w.each j a
      go j b (inl a) =
          let q : j ≡ n = omega arith in
          rw q (get_or-set_same new (place + n) v 0 (omega (arith, w.places)) ∙ e)

  -- past the tables a value is the one a period later, less the rate
  pub rowed_back : (n : ℕ) (new : List ℕ) → Sized P F → Rowed P F end place n old new → P ≤ n → n < row_places → past_tables ≤ end
      → get_or new (place + n - P) 0 ≡ at P F (end - n + (n - end)) + F.rate
  rowed_back n new z w h l far =
      let y = end - n in
      let short : length F.table ≤ 64 = z.short in
      let p : 1 ≤ P = z.period in
      let here : y + (n - end) ≡ y = omega arith in
      let there : end - (n - P) + (n - P - end) ≡ y + P = omega arith in
      let e : place + n - P ≡ place + (n - P) = omega arith in
      rw here (ap (λ k. get_or new k 0) e ∙ w.each (n - P) (omega arith) ∙ ap (at P F) there ∙ at_tail P F p y (omega arith))

  -- a row taken up where it stands, and back to what was there before
  pub rowed_here : (n : ℕ) (new : List ℕ) → Rowed P F end place n old new → Rowed P F end place n new new
  rowed_here n new w = record { places = w.places; each = w.each; others = λ k o. refl }

  pub rowed_since : (m n : ℕ) (mid new : List ℕ) → Rowed P F end place m old mid → Rowed P F end place n mid new → Rowed P F end place n old new
  rowed_since m n mid new w v = record { places = v.places; each = v.each; others = λ k o. v.others k o ∙ w.others k o }

-- the row of a curve by another name
pub rowed_as : (P : ℕ) (F G : Curve) (end place n : ℕ) (old new : List ℕ) → F ≡ G → Rowed P F end place n old new → Rowed P G end place n old new
rowed_as P F G end place n old new e w = record { places = w.places; each = λ j h. w.each j h ∙ ap (λ H. at P H (end - j + (j - end))) e; others = w.others }

module _ (bytes : List ℕ) (P end : ℕ) where
  pub window-none : (values : List ℕ) → length values ≡ window_places → Window bytes P end 0 values
  window-none values e = record { places = e; envelope = λ i j h k. absurd (omega arith); service = λ i j h k. absurd (omega arith) }

  -- one session more
  pub window_more : (i : ℕ) (old mid new : List ℕ) → Window bytes P end (session_places * i) old
      → Rowed P (session (sheet_of bytes) i).envelope end (session_places * i) row_places old mid
      → Rowed P (session (sheet_of bytes) i).service end (session_places * i + row_places) row_places mid new
      → Window bytes P end (session_places * (i + 1)) new
  window_more i old mid new w b S =
      record {
        places = S.places;
        envelope = λ k l a c. S.others (session_places * k + l) (inl (omega arith)) ∙ first k l a c (le_or_lt i k);
        service = λ k l a c. second k l a c (le_or_lt i k);
      }
    where
      first : (k l : ℕ) → l < row_places → session_places * k + l < session_places * (i + 1) → (i ≤ k) ⊎ (k < i) → get_or mid (session_places * k + l) 0 ≡ at P (session (sheet_of bytes) k).envelope (end - l + (l - end))
      first k l a c (inr d) = b.others (session_places * k + l) (inl (omega arith)) ∙ w.envelope k l a (omega arith)
      first k l a c (inl d) =
          let q : k ≡ i = omega arith in
          rw q (b.each l a)

      second : (k l : ℕ) → l < row_places → session_places * k + l < session_places * (i + 1) → (i ≤ k) ⊎ (k < i) → get_or new (session_places * k + l + row_places) 0 ≡ at P (session (sheet_of bytes) k).service (end - l + (l - end))
      second k l a c (inr d) = S.others (session_places * k + l + row_places) (inl (omega arith)) ∙ b.others (session_places * k + l + row_places) (inl (omega arith)) ∙ w.service k l a (omega arith)
      second k l a c (inl d) =
          let q : k ≡ i = omega arith in
          let e : session_places * i + l + row_places ≡ session_places * i + row_places + l = omega arith in
          rw q (ap (λ m. get_or new m 0) e ∙ S.each l a)
