-- What it is to move bytes to the front of a block: the first of them stand there, and what is not written over yet is as it was. Assumes nothing.
use Rattle.std.specs.Prelude.{◌≡◌, refl, List, [], ◌∷◌, ◌++◌, ℕ, ◌+◌, ◌<◌, length, take, drop, set, get_or}
use Rattle.std.proofs.Common.{sym, ap, ◌∙◌, add-one, arith, length-set, length-drop, take-suc, take-suc-set, drop-set-lt, drop-drop, get_or-drop}

-- the first i of the bytes from `from` on are moved
pub record Moved (before : List ℕ) (from i : ℕ) (after : List ℕ) : Type 0 where
  pub front : take i after ≡ take i (drop from before)
  pub rest : drop i after ≡ drop i before
  pub as_long : length after ≡ length before

pub moved_none : (block : List ℕ) (from : ℕ) → Moved block from 0 block
moved_none block from = record { front = refl; rest = refl; as_long = refl }

-- the next byte is where it was
next-is : {before after : List ℕ} {from i : ℕ} → Moved before from i after → get_or after (from + i) 0 ≡ get_or (drop from before) i 0
next-is {before} {after} {from} {i} m =
    let e : from + i ≡ i + from = omega arith in
    ap (λ k. get_or after k 0) e ∙ sym (get_or-drop i after from 0) ∙ ap (λ l. get_or l from 0) m.rest ∙ get_or-drop i before from 0 ∙ ap (λ k. get_or before k 0) (sym e) ∙ sym (get_or-drop from before i 0)

pub moved_more : {before after : List ℕ} {from i : ℕ} → Moved before from i after → from + i < length before → Moved before from (i + 1) (set after i (get_or after (from + i) 0))
moved_more {before} {after} {from} {i} m h =
    let b = get_or after (from + i) 0 in
    let fits : i < length after = omega (arith, m.as_long) in
    let there : i < length (drop from before) = omega (arith, length-drop from before) in
    let step : drop (i + 1) (set after i b) ≡ drop (i + 1) before = drop-set-lt (i + 1) after i b (omega arith) ∙ sym (drop-drop 1 i after) ∙ ap (drop 1) m.rest ∙ drop-drop 1 i before in
    record {
      front = rw add-one (take-suc-set after i b fits ∙ ap (λ l. l ++ (b ∷ [])) m.front ∙ ap (λ x. take i (drop from before) ++ (x ∷ [])) (next-is m) ∙ sym (take-suc (drop from before) i 0 there));
      rest = step;
      as_long = simp length-set m.as_long;
    }
