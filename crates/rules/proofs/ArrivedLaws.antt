-- Laws of specs/Arrived.antt. Every packet that waits or was sent is one that its session took in, with the number and the deadline of that slot. So the laws of new packets are laws of all.
-- Assumes nothing.
use Rattle.std.specs.Prelude.{◌≡◌, ◌⊎◌}
use Rattle.std.proofs.Common.{◌∙◌, arith}
use Rattle.std.proofs.Math.Logic.{inl, inr}
use mathlib.Core.List.Memᴰ
use mathlib.Core.List.{List, [], ◌∷◌, Memᴰ}
use Prim.Native.Nat.{ℕ, zero, suc, ◌≤◌, ◌<◌}
use Rattle.sheet.specs.Sheet.{Sheet, session_count}
use Rattle.rules.proofs.PickLaws.{send-member}
use Rattle.rules.specs.Model.{Packet, took, up_to, joined, packet, arrivals, first, sends, one_slot, past}
use Rattle.rules.proofs.Facts.{got, new_packet, packet-got, slots, took-got}
use Rattle.rules.specs.Arrived.{together}

-- a member of f 1, .., f n
record Within {X : Type 0} (f : ℕ → X) (n : ℕ) (x : X) : Type 0 where
  q : ℕ
  some : 1 ≤ q
  most : q ≤ n
  is : x ≡ f q

in_up_to : {X : Type 0} (f : ℕ → X) (n : ℕ) (x : X) → Memᴰ x (up_to f n) → Within f n x
unfolding up_to
in_up_to f zero x m = absurd (Memᴰ.not-nil m)
in_up_to f (suc n) x m = go (in_up_to f n x) (Memᴰ.append_cases (up_to f n) m)
  where
    go : (Memᴰ x (up_to f n) → Within f n x) → Memᴰ x (up_to f n) ⊎ Memᴰ x (f (suc n) ∷ []) → Within f (suc n) x
    go ih (inl k) =
        let w = ih k in
        record { q = w.q; some = w.some; most = omega (arith, w.most); is = w.is }
    go ih (inr k) = record { q = suc n; some = omega arith; most = omega arith; is = Memᴰ.eq_of_singleton k }

-- and of f 0 ++ .. ++ f (n-1)
record Of {X : Type 0} (f : ℕ → List X) (n : ℕ) (x : X) : Type 0 where
  i : ℕ
  less : i < n
  there : Memᴰ x (f i)

in_joined : {X : Type 0} (f : ℕ → List X) (n : ℕ) (x : X) → Memᴰ x (joined f n) → Of f n x
unfolding joined
in_joined f zero x m = absurd (Memᴰ.not-nil m)
in_joined f (suc n) x m = go (in_joined f n x) (Memᴰ.append_cases (joined f n) m)
  where
    go : (Memᴰ x (joined f n) → Of f n x) → Memᴰ x (joined f n) ⊎ Memᴰ x (f n) → Of f (suc n) x
    go ih (inl k) =
        let w = ih k in
        record { i = w.i; less = omega (arith, w.less); there = w.there }
    go ih (inr k) = record { i = n; less = omega arith; there = k }

-- the q-th packet of session i taken in during slot u + 1
pub record New (sheet : Sheet) (told : ℕ → List ℕ) (u : ℕ) (x : Packet) : Type 0 where
  pub i : ℕ
  pub q : ℕ
  pub session : i < session_count sheet
  pub some : 1 ≤ q
  pub most : q ≤ got sheet told i u
  pub is : x ≡ new_packet sheet told i u q

-- taken in during one of the first t slots
pub record Arrived (sheet : Sheet) (told : ℕ → List ℕ) (t : ℕ) (x : Packet) : Type 0 where
  pub u : ℕ
  pub slot : u < t
  pub new : New sheet told u x

module _ (sheet : Sheet) (told : ℕ → List ℕ) where
  later-arrived : (t : ℕ) (x : Packet) → Arrived sheet told t x → Arrived sheet told (suc t) x
  later-arrived t x a = record { u = a.u; slot = omega (arith, a.slot); new = a.new }

  -- what arrives in slot u + 1 is new
  pub arrivals-new : (u : ℕ) (x : Packet) → Memᴰ x (arrivals sheet (took (past sheet told (suc u)).taken) u) → New sheet told u x
  unfolding arrivals
  arrivals-new u x m = go (in_joined _ (session_count sheet) x m)
    where
      go : Of (λ i. up_to (packet sheet (took (past sheet told (suc u)).taken i) u i) (took (past sheet told (suc u)).taken i u)) (session_count sheet) x
          → New sheet told u x
      go o =
          let w = in_up_to _ (took (past sheet told (suc u)).taken o.i u) x o.there in
          record {
            i = o.i;
            q = w.q;
            session = o.less;
            some = w.some;
            most = omega (arith, w.most, took-got sheet told (suc u) o.i u o.less (omega arith));
            is = w.is ∙ packet-got sheet told u o.i w.q o.less;
          }

  -- those that wait together in slot t + 1 waited before it or are new
  together_which : (t : ℕ) (x : Packet) → Memᴰ x (together sheet told t) → Memᴰ x (past sheet told t).waiting ⊎ New sheet told t x
  unfolding past one_slot
  together_which t x m =
      elim (Memᴰ.append_cases (past sheet told t).waiting (rw (slots sheet told t) at m)) [
        | inl k ↦ inl k
        | inr k ↦ inr (arrivals-new t x k)
      ]

  -- what slot t + 1 sent, and what it left, waited together
  pub sent-together : (t : ℕ) (x : Packet) → Memᴰ x (sends sheet (past sheet told t) (told t)).0 → Memᴰ x (together sheet told t)
  unfolding sends
  sent-together t x m = send-member first sheet.capacity _ x (inl m)

  pub left-together : (t : ℕ) (x : Packet) → Memᴰ x (sends sheet (past sheet told t) (told t)).1 → Memᴰ x (together sheet told t)
  unfolding sends
  left-together t x m = send-member first sheet.capacity _ x (inr m)

  -- what slot t + 1 had to choose from
  pub chosen : (t : ℕ) (x : Packet)
      → Memᴰ x (sends sheet (past sheet told t) (told t)).0 ⊎ Memᴰ x (sends sheet (past sheet told t) (told t)).1
      → Memᴰ x (past sheet told t).waiting ⊎ New sheet told t x
  chosen t x (inl m) = together_which t x (sent-together t x m)
  chosen t x (inr m) = together_which t x (left-together t x m)

  arrived : (t : ℕ) (x : Packet) → ((y : Packet) → Memᴰ y (past sheet told t).waiting → Arrived sheet told t y)
      → Memᴰ x (past sheet told t).waiting ⊎ New sheet told t x → Arrived sheet told (suc t) x
  arrived t x old (inl k) = later-arrived t x (old x k)
  arrived t x old (inr k) = record { u = t; slot = omega arith; new = k }

  -- what waits at the end of slot t
  pub waiting-arrived : (t : ℕ) (x : Packet) → Memᴰ x (past sheet told t).waiting → Arrived sheet told t x
  unfolding past one_slot
  waiting-arrived zero x m = absurd (Memᴰ.not-nil m)
  waiting-arrived (suc t) x m = arrived t x (waiting-arrived t) (chosen t x (inr m))

  -- what waits together in slot t + 1
  pub together-arrived : (t : ℕ) (x : Packet) → Memᴰ x (together sheet told t) → Arrived sheet told (suc t) x
  together-arrived t x m = arrived t x (waiting-arrived t) (together_which t x m)

  -- and what was sent in any slot up to t
  pub sent-arrived : (t : ℕ) (l : List Packet) (x : Packet) → Memᴰ l (past sheet told t).sent → Memᴰ x l → Arrived sheet told t x
  unfolding past one_slot
  sent-arrived zero l x k m = absurd (Memᴰ.not-nil k)
  sent-arrived (suc t) l x k m = go (λ j. sent-arrived t l x j m) (Memᴰ.append_cases (past sheet told t).sent k)
    where
      go : (Memᴰ l (past sheet told t).sent → Arrived sheet told t x)
          → Memᴰ l (past sheet told t).sent ⊎ Memᴰ l ((sends sheet (past sheet told t) (told t)).0 ∷ [])
          → Arrived sheet told (suc t) x
      go ih (inl j) = later-arrived t x (ih j)
      go ih (inr j) = arrived t x (waiting-arrived t) (chosen t x (inl (rw (Memᴰ.eq_of_singleton j) at m)))
