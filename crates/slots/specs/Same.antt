-- Two slices that are of one length and alike from a place on, and a slice copied over another, number by number. Assumes nothing.
use Rattle.std.specs.Prelude.{◌≡◌, List, [], ◌∷◌, ◌++◌, ℕ, suc, ◌+◌, ◌≤◌, ◌<◌, length, get_or, set, take, drop}
use Rattle.std.proofs.Common.{sym, ap, ◌∙◌, append_assoc, arith, length-append, length-drop, take_at, take-suc, length-take-le, drop-drop}
use Rattle.std.proofs.lemmas.List.Edits.{sets-eq}
use Rattle.std.proofs.Math.Seq.{drop-append-add}

pub record SameFrom (a b : List ℕ) (from : ℕ) : Type 0 where
  pub size : length a ≡ length b
  pub each : (i : ℕ) → from ≤ i → i < length a → get_or a i 0 ≡ get_or b i 0

-- one number more
pub copied_more : (a b : List ℕ) (i : ℕ) → i < length a → i < length b → set (take i a ++ drop i b) i (get_or a i 0) ≡ take (i + 1) a ++ drop (i + 1) b
copied_more a b i h l =
    let p = take i a in
    let q = drop i b in
    let e : i + 1 ≡ suc i = omega arith in
    let n : length p ≡ i = length-take-le i a (omega arith) in
    let size : i + 1 ≤ length (p ++ q) = omega (arith, length-append p q, length-drop i b) in
    let rest : drop (i + 1) (p ++ q) ≡ drop (i + 1) b = ap (λ k. drop (k + 1) (p ++ q)) (sym n) ∙ drop-append-add p q 1 ∙ drop-drop 1 i b in
    let more : take (i + 1) a ≡ p ++ (get_or a i 0 ∷ []) = ap (λ k. take k a) e ∙ take-suc a i 0 h in
    sets-eq (get_or a i 0 ∷ []) (p ++ q) i size ∙ rw (take_at p q i n, rest, more, append_assoc)
