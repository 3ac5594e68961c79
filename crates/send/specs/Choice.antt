-- The packet that goes next: of the first waiting packets of the sessions the one with the least deadline, ties to the lower session. An executable choice, its law, and that the law leaves one choice. Assumes nothing.
use Rattle.std.specs.Prelude.{◌≡◌, refl, ◌≢◌, Bool, true, false, ◌&&◌, ◌||◌, List, ℕ, zero, suc, ◌+◌, ◌%◌, ◌≤◌, ◌<◌, ltb, eqb, get_or, Option, Some, None}
use Rattle.std.proofs.Common.{sym, ap, ◌∙◌, true≢false, arith}
use Rattle.std.proofs.Math.Decide.{dec_lt, ℕ_discrete}
use borrow.Author.Tests.{lt-ltb, le-ltb, eq-eqb, ne_eqb}
use Rattle.layout.specs.Layout.{block_at, taken_at, sent_at, deadlines_at, ring}

-- how many packets of session i were taken in, and how many sent; those waiting are the numbers in between
abbrev pub taken_of : List ℕ → ℕ → ℕ
taken_of run i = get_or run (block_at i + taken_at) 0

abbrev pub sent_of : List ℕ → ℕ → ℕ
sent_of run i = get_or run (block_at i + sent_at) 0

abbrev pub Waits : List ℕ → ℕ → Type 0
Waits run i = sent_of run i < taken_of run i

-- by a test of it
pub idle : (run : List ℕ) (i : ℕ) (b : Bool) → (Waits run i → b ≡ true) → b ≡ false → taken_of run i ≤ sent_of run i
idle run i b t e = elim (dec_lt (sent_of run i) (taken_of run i)) [ yes w ↦ absurd (true≢false (sym (t w) ∙ e)) | no z ↦ omega arith ]

-- where the deadline of the first of them stands, and the deadline
abbrev pub head_at : List ℕ → ℕ → ℕ
head_at run i = block_at i + (deadlines_at + sent_of run i % ring)

abbrev pub head_due : List ℕ → ℕ → ℕ
head_due run i = get_or run (head_at run i) 0

-- session i goes before `best`, which is `count` where no session is found yet
unfoldable pub beats : List ℕ → ℕ → ℕ → ℕ → Bool
beats run count best i = ltb (sent_of run i) (taken_of run i) && (eqb best count || ltb (head_due run i) (head_due run best))

unfoldable pub better : List ℕ → ℕ → ℕ → ℕ → ℕ
better run count best i = elim (beats run count best i) [ true ↦ i | false ↦ best ]

-- the choice among the first j sessions
unfoldable pub chosen_to : List ℕ → ℕ → ℕ → ℕ
chosen_to run count zero = count
chosen_to run count (suc j) = better run count (chosen_to run count j) j

-- CHOICE: the session whose first waiting packet goes next, `count` where none waits
unfoldable pub chosen : List ℕ → ℕ → ℕ
chosen run count = chosen_to run count count

-- an option has a session below count, or it is none where the session is count
abbrev pub Found : ℕ → Option ℕ → ℕ → Type 0
Found count None r = r ≡ count
Found count (Some i) r = (i < count) × (r ≡ i)

pub chosen-to : (run : List ℕ) (count : ℕ) → chosen_to run count count ≡ chosen run count
unfolding chosen
chosen-to run count = refl

pub chosen_to-zero : (run : List ℕ) (count : ℕ) → chosen_to run count 0 ≡ count
unfolding chosen_to
chosen_to-zero run count = refl

pub chosen_to-suc : (run : List ℕ) (count j : ℕ) → chosen_to run count (j + 1) ≡ better run count (chosen_to run count j) j
unfolding chosen_to
chosen_to-suc run count j =
    let e : j + 1 ≡ suc j = omega arith in
    ap (chosen_to run count) e

module _ (run : List ℕ) (count best i : ℕ) where
  pub beats_idle : taken_of run i ≤ sent_of run i → beats run count best i ≡ false
  unfolding beats
  beats_idle h = rw (le-ltb (sent_of run i) (taken_of run i) h)

  pub beats-none : Waits run i → best ≡ count → beats run count best i ≡ true
  unfolding beats
  beats-none w e = rw (lt-ltb (sent_of run i) (taken_of run i) w, eq-eqb best count e)

  pub beats-earlier : Waits run i → best ≢ count → head_due run i < head_due run best → beats run count best i ≡ true
  unfolding beats
  beats-earlier w n h = rw (lt-ltb (sent_of run i) (taken_of run i) w, ne_eqb best count n, lt-ltb (head_due run i) (head_due run best) h)

  pub beats-later : Waits run i → best ≢ count → head_due run best ≤ head_due run i → beats run count best i ≡ false
  unfolding beats
  beats-later w n h = rw (lt-ltb (sent_of run i) (taken_of run i) w, ne_eqb best count n, le-ltb (head_due run i) (head_due run best) h)

  pub beats-due : Waits run i → best ≢ count → beats run count best i ≡ ltb (head_due run i) (head_due run best)
  unfolding beats
  beats-due w n = rw (lt-ltb (sent_of run i) (taken_of run i) w, ne_eqb best count n) refl

  pub better-new : beats run count best i ≡ true → better run count best i ≡ i
  unfolding better
  better-new e = rw (e, better)

  pub better-keep : beats run count best i ≡ false → better run count best i ≡ best
  unfolding better
  better-keep e = rw (e, better)

-- the choice among one more session, by the answer of the comparison
module _ (run : List ℕ) (count best i : ℕ) (b : Bool) (e : best ≡ chosen_to run count i) (f : b ≡ beats run count best i) where
  next : chosen_to run count (i + 1) ≡ better run count best i
  next = chosen_to-suc run count i ∙ ap (λ x. better run count x i) (sym e)

  pub chosen-new : b ≡ true → i ≡ chosen_to run count (i + 1)
  chosen-new t = sym (next ∙ better-new run count best i (sym f ∙ t))

  pub chosen-keep : b ≡ false → best ≡ chosen_to run count (i + 1)
  chosen-keep t = sym (next ∙ better-keep run count best i (sym f ∙ t))

-- what makes r the choice among the first j sessions
pub record Choice (run : List ℕ) (count j r : ℕ) : Type 0 where
  pub within : r ≤ count
  pub nothing : r ≡ count → (i : ℕ) → i < j → taken_of run i ≤ sent_of run i
  pub among : r ≢ count → r < j
  pub waits : r ≢ count → Waits run r
  pub least : r ≢ count → (i : ℕ) → i < j → Waits run i → head_due run r ≤ head_due run i
  pub first : r ≢ count → (i : ℕ) → i < r → Waits run i → head_due run r < head_due run i

abbrev pub Chosen : List ℕ → ℕ → ℕ → Type 0
Chosen run count r = Choice run count count r

module _ (run : List ℕ) (count j best : ℕ) (h : j < count) (c : Choice run count j best) where
  choice_skip : taken_of run j ≤ sent_of run j → Choice run count (suc j) best
  choice_skip z = record {
    within = c.within;
    nothing = λ e i q. elim (dec_lt i j) [ yes x ↦ c.nothing e i x | no x ↦ let f : i ≡ j = omega arith in rw f z ];
    among = λ n. omega (arith, c.among n);
    waits = c.waits;
    least = λ n i q w. elim (dec_lt i j) [ yes x ↦ c.least n i x w | no x ↦ let f : i ≡ j = omega arith in absurd (omega (arith, rw f at w)) ];
    first = c.first;
  }

  choice-keep : best ≢ count → head_due run best ≤ head_due run j → Choice run count (suc j) best
  choice-keep n d = record {
    within = c.within;
    nothing = λ e. absurd (n e);
    among = λ n. omega (arith, c.among n);
    waits = c.waits;
    least = λ n i q w. elim (dec_lt i j) [ yes x ↦ c.least n i x w | no x ↦ let f : i ≡ j = omega arith in rw f d ];
    first = c.first;
  }

  choice-one : Waits run j → best ≡ count → Choice run count (suc j) j
  choice-one w e = record {
    within = omega arith;
    nothing = λ f. absurd (omega arith);
    among = λ n. omega arith;
    waits = λ n. w;
    least = λ n i q v. elim (dec_lt i j) [ yes x ↦ absurd (omega (arith, c.nothing e i x)) | no x ↦ let f : i ≡ j = omega arith in rw f (omega arith) ];
    first = λ n i q v. absurd (omega (arith, c.nothing e i q));
  }

  choice-new : Waits run j → best ≢ count → head_due run j < head_due run best → Choice run count (suc j) j
  choice-new w n d = record {
    within = omega arith;
    nothing = λ f. absurd (omega arith);
    among = λ m. omega arith;
    waits = λ m. w;
    least = λ m i q v. elim (dec_lt i j) [ yes x ↦ omega (arith, c.least n i x v) | no x ↦ let f : i ≡ j = omega arith in rw f (omega arith) ];
    first = λ m i q v. omega (arith, c.least n i q v);
  }

  choice-more : Choice run count (suc j) (better run count best j)
  choice-more = go (dec_lt (sent_of run j) (taken_of run j)) (ℕ_discrete best count) (dec_lt (head_due run j) (head_due run best))
    where
      go : Dec (sent_of run j < taken_of run j) → Dec (best ≡ count) → Dec (head_due run j < head_due run best) → Choice run count (suc j) (better run count best j)
      go (no z) e d = rw (better-keep run count best j (beats_idle run count best j (omega arith))) (choice_skip (omega arith))
      go (yes w) (yes e) d = rw (better-new run count best j (beats-none run count best j w e)) (choice-one w e)
      go (yes w) (no n) (yes d) = rw (better-new run count best j (beats-earlier run count best j w n d)) (choice-new w n d)
      go (yes w) (no n) (no d) = rw (better-keep run count best j (beats-later run count best j w n (omega arith))) (choice-keep n (omega arith))

choice-to : (run : List ℕ) (count j : ℕ) → j ≤ count → Choice run count j (chosen_to run count j)
unfolding chosen_to
choice-to run count zero h = record {
  within = omega arith;
  nothing = λ e i q. absurd (omega arith);
  among = λ n. absurd (n refl);
  waits = λ n. absurd (n refl);
  least = λ n. absurd (n refl);
  first = λ n. absurd (n refl);
}
choice-to run count (suc j) h = choice-more run count j (chosen_to run count j) h (choice-to run count j (omega arith))

-- the choice does what it should
pub chosen-law : (run : List ℕ) (count : ℕ) → Chosen run count (chosen run count)
unfolding chosen
chosen-law run count = choice-to run count count (omega arith)

-- and nothing else does
pub chosen_unique : (run : List ℕ) (count a b : ℕ) → Chosen run count a → Chosen run count b → a ≡ b
chosen_unique run count a b x y = go (dec_lt a b) (dec_lt b a)
  where
    under : (a b : ℕ) → Chosen run count a → Chosen run count b → a < b → ⊥
    under a b x y h =
        let n : a ≢ count = λ e. omega (arith, y.within) in
        elim (ℕ_discrete b count) [
          | yes e ↦ omega (arith, y.nothing e a (omega arith), x.waits n)
          | no k ↦ omega (arith, y.first k a h (x.waits n), x.least n b (y.among k) (y.waits k))
        ]

    go : Dec (a < b) → Dec (b < a) → a ≡ b
    go (yes h) d = absurd (under a b x y h)
    go (no h) (yes k) = absurd (under b a y x k)
    go (no h) (no k) = omega arith

pub chosen_only : (run : List ℕ) (count r : ℕ) → Chosen run count r → r ≡ chosen run count
chosen_only run count r x = chosen_unique run count r (chosen run count) x (chosen-law run count)

pub chosen-waits : (run : List ℕ) (count r : ℕ) → r ≡ chosen run count → r ≢ count → (r < count) × Waits run r
chosen-waits run count r e n =
    let c : Chosen run count r = rw e (chosen-law run count) in
    (c.among n, c.waits n)
