-- Laws of specs/Core.antt. Why a sheet that passes keeps its promises, over functions of slots alone: the window lemma, the count lemma, and the theorem of the two. What a slot can
-- send, how far a deadline looks back and when a packet is due come in as hypotheses, so that other rules for them need no new proof. Assumes nothing.
use Rattle.std.specs.Prelude.{◌≡◌, ◌⊎◌, ◌≢◌, Bool, ℕ, zero, suc, ◌+◌, ◌-◌, ◌≤◌, ◌<◌, min, T}
use Rattle.std.proofs.Common.{inl, inr, arith}
use Rattle.std.proofs.Math.Decide.{ℕ_discrete}
use Rattle.curve.proofs.OrderLaws.{le_or_lt, le_suc_cases}
use Rattle.curve.proofs.LeastLaws.{le-least}
use Rattle.curve.specs.Total.{total}
use Rattle.curve.proofs.TotalLaws.{total_mono, total-le-add}
use Rattle.curve.specs.Conv.{conv}
use Rattle.rules.specs.Count.{count_to}
use Rattle.rules.proofs.CountLaws.{count_to_upper, count_to-lower}
use Rattle.rules.specs.Core.{Window, due_in}

pub window : (W G cap : ℕ → ℕ) → W 0 ≡ 0
    → ((t : ℕ) → (W (suc t) ≡ 0) ⊎ (W (suc t) + cap t + G t ≤ W t + G (suc t)))
    → (t : ℕ) → Window W G cap t
unfolding total
window W G cap start edf zero = record { s = 0; within = omega arith; clear = start; counted = omega arith; busy = λ u h k. absurd (omega arith) }
window W G cap start edf (suc t) = go (ℕ_discrete (W (suc t)) 0) (edf t) (window W G cap start edf t)
  where
    go : Dec (W (suc t) ≡ 0) → (W (suc t) ≡ 0) ⊎ (W (suc t) + cap t + G t ≤ W t + G (suc t)) → Window W G cap t → Window W G cap (suc t)
    go (yes e) k ih = record { s = suc t; within = omega arith; clear = e; counted = omega arith; busy = λ u h l. absurd (omega arith) }
    go (no n) (inl e) ih = absurd (n e)
    go (no n) (inr k) ih =
        record {
          s = ih.s;
          within = omega (arith, ih.within);
          clear = ih.clear;
          counted = omega (arith, ih.counted);
          busy = λ u h l e. elim (le_suc_cases u t l) [ inl m ↦ ih.busy u h m e | inr m ↦ n (rw m at e) ];
        }

-- if those taken in after slot s that are due have numbers up to m, they are at most m - A s many
pub due_upper : (a : ℕ → ℕ) (due : ℕ → ℕ → Bool) (s m : ℕ) → total a s ≤ m → (t : ℕ) → s ≤ t
    → ((u q : ℕ) → s ≤ u → u < t → 1 ≤ q → q ≤ a u → T (due u q) → total a u + q ≤ m)
    → due_in a due t + total a s ≤ due_in a due s + min (total a t) m
unfolding total due_in
due_upper a due zero m hm zero l h = omega arith
due_upper a due (suc s) m hm zero l h = absurd (omega arith)
due_upper a due s m hm (suc t) l h = go (le_suc_cases s t l)
    (λ k. due_upper a due s m hm t k (λ u q i j. h u q i (omega arith)))
    (λ k. count_to_upper (due t) (a t) (total a t) m (λ q. h t q k (omega arith)))
  where
    go : (s ≤ t) ⊎ (s ≡ suc t)
        → (s ≤ t → due_in a due t + total a s ≤ due_in a due s + min (total a t) m)
        → (s ≤ t → count_to (due t) (a t) + min (total a t) m ≤ min (total a t + a t) m)
        → due_in a due (suc t) + total a s ≤ due_in a due s + min (total a (suc t)) m
    go (inl k) ih c = omega (arith, ih k, c k)
    go (inr e) ih c =
        let hm' : total a (suc t) ≤ m = rw e at hm in
        rw e (omega arith)

-- if all with numbers up to m are due, they are as many
pub due-lower : (a : ℕ → ℕ) (due : ℕ → ℕ → Bool) (m t : ℕ)
    → ((u q : ℕ) → u < t → 1 ≤ q → q ≤ a u → total a u + q ≤ m → T (due u q))
    → min (total a t) m ≤ due_in a due t
unfolding total due_in
due-lower a due m zero h = omega arith
due-lower a due m (suc t) h =
    omega (
      arith,
      due-lower a due m t (λ u q i. h u q (omega arith)),
      count_to-lower (due t) (a t) (total a t) m (λ q. h t q (omega arith)),
    )

-- COUNT LEMMA. Those taken in after slot s and due by slot t are at most (b*S)(t-s).
pub few-due : (a b S : ℕ → ℕ) (due : ℕ → ℕ → Bool) (s t : ℕ) → s ≤ t
    → ((r : ℕ) → s ≤ r → r ≤ t → total a r ≤ total a s + b (r - s))
    → ((u q : ℕ) → s ≤ u → u < t → 1 ≤ q → q ≤ a u → T (due u q) → (r : ℕ) → s ≤ r → r ≤ u → total a u + q ≤ total a r + S (t - r))
    → due_in a due t ≤ due_in a due s + conv b S (t - s)
unfolding conv total
few-due a b S due s t l env law =
    omega (arith, due_upper a due s (total a s + conv b S (t - s)) (omega arith) t l bound)
  where
    at-r : (u q r : ℕ) → s ≤ u → u < t → 1 ≤ q → q ≤ a u → T (due u q) → r ≤ t - s
        → (s + r ≤ u) ⊎ (u < s + r) → total a u + q ≤ total a s + (b r + S (t - s - r))
    at-r u q r i j k m p n (inl h) =
        let e : s + r - s ≡ r = omega arith in
        let f : t - (s + r) ≡ t - s - r = omega arith in
        omega (arith, rw f at (law u q i j k m p (s + r) (omega arith) h), rw e at (env (s + r) (omega arith) (omega arith)))
    at-r u q r i j k m p n (inr h) =
        let e : s + r - s ≡ r = omega arith in
        omega (arith, total_mono a (suc u) (s + r) h, rw e at (env (s + r) (omega arith) (omega arith)))

    bound : (u q : ℕ) → s ≤ u → u < t → 1 ≤ q → q ≤ a u → T (due u q) → total a u + q ≤ total a s + conv b S (t - s)
    bound u q i j k m p =
        omega (
          arith,
          le-least (λ r. b r + S (t - s - r)) (t - s) (total a u + q - total a s)
              (λ r n. omega (arith, at-r u q r i j k m p n (le_or_lt (s + r) u))),
        )

-- THE THEOREM over functions. M sessions; W u packets due by t wait at the end of slot u; slot u+1 sends cap u packets.
-- `busy`: the slots after s, at whose ends some of those packets wait, send C(t-s) at least; `passes`: C bounds what the sessions can have due.
-- `clear`: the deadlines of slot u+1 look back as far as slot since u, at whose end none of those packets waited (with no reset: slot 0).
-- `edf`: what is due goes first. `env`: intake keeps to the envelopes. `law`: what is due by t is what the services owe by then.
pub none-late : (M : ℕ) (a b S : ℕ → ℕ → ℕ) (cap C W since : ℕ → ℕ) (due : ℕ → ℕ → ℕ → Bool) (t : ℕ)
    → ((s : ℕ) → s ≤ t → ((u : ℕ) → s < u → u ≤ t → W u ≢ 0) → total cap s + C (t - s) ≤ total cap t)
    → ((x : ℕ) → total (λ i. conv (b i) (S i) x) M ≤ C x)
    → W 0 ≡ 0
    → ((u : ℕ) → (since u ≤ u) × (W (since u) ≡ 0))
    → ((u : ℕ) → (W (suc u) ≡ 0) ⊎ (W (suc u) + cap u + total (λ i. due_in (a i) (due i) u) M ≤ W u + total (λ i. due_in (a i) (due i) (suc u)) M))
    → ((i s r : ℕ) → i < M → s ≤ r → total (a i) r ≤ total (a i) s + b i (r - s))
    → ((i u q : ℕ) → i < M → u < t → 1 ≤ q → q ≤ a i u → T (due i u q) → (r : ℕ) → since u ≤ r → r ≤ u → total (a i) u + q ≤ total (a i) r + S i (t - r))
    → W t ≡ 0
none-late M a b S cap C W since due t busy passes start clear edf env law = go (window W (λ u. total (λ i. due_in (a i) (due i) u) M) cap start edf t)
  where
    go : Window W (λ u. total (λ i. due_in (a i) (due i) u) M) cap t → W t ≡ 0
    go w =
        omega (
          arith,
          w.counted,
          busy w.s w.within w.busy,
          passes (t - w.s),
          total-le-add (λ i. due_in (a i) (due i) t) (λ i. due_in (a i) (due i) w.s) (λ i. conv (b i) (S i) (t - w.s)) M
              (λ i h. few-due (a i) (b i) (S i) (due i) w.s t w.within (λ r k l. env i w.s r h k)
              (λ u q k l m n p r x. law i u q h l m n p r (old u k l x))),
        )
      where
        -- the deadlines of a slot after s look back no further than s
        old : (u : ℕ) {r : ℕ} → w.s ≤ u → u < t → w.s ≤ r → since u ≤ r
        old u k l x =
            elim (le_or_lt (since u) w.s) [ inl y ↦ omega arith | inr y ↦ absurd (w.busy (since u) y (omega (arith, (clear u).0)) (clear u).1) ]
