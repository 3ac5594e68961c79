-- Whether two slices are alike from a place on, by whether their parts from there on are one. Assumes nothing.
use Rattle.std.proofs.Common.{◌≡◌, List, ℕ, ◌+◌, ◌-◌, sym, ap, ◌∙◌, Bool, true, arith, length, take, drop, get_or, length-drop}
use Rattle.std.proofs.lemmas.List.{ext_get_or, get_or-drop, take_all}
use Rattle.std.specs.Bool.{Decides}
use Rattle.guard.specs.Tells.{Tells, apart}
use Rattle.slots.specs.Same.{SameFrom}

pub kept_told : (a b : List ℕ) (from most : ℕ) (r : Bool) → length a ≡ most → length b ≡ most → Decides r (take (most - from) (drop from a) ≡ take (most - from) (drop from b)) → Tells r (SameFrom a b from)
kept_told a b from most r m n told = (same, λ no s. apart (sym (told.1 (parts s)) ∙ no))
  where
    whole : (l : List ℕ) → length l ≡ most → take (most - from) (drop from l) ≡ drop from l
    whole l e = take_all (most - from) (drop from l) (omega (arith, length-drop from l))

    same : r ≡ true → SameFrom a b from
    same e = record {
      size = m ∙ sym n;
      each = λ i low high.
          let at : from + (i - from) ≡ i = omega arith in
          let one : drop from a ≡ drop from b = sym (whole a m) ∙ told.0 e ∙ whole b n in
          ap (λ k. get_or a k 0) (sym at) ∙ sym (get_or-drop from a (i - from) 0) ∙ ap (λ l. get_or l (i - from) 0) one ∙ get_or-drop from b (i - from) 0 ∙ ap (λ k. get_or b k 0) at;
    }

    parts : SameFrom a b from → take (most - from) (drop from a) ≡ take (most - from) (drop from b)
    parts s = whole a m ∙ ext_get_or 0 (drop from a) (drop from b) (length-drop from a ∙ ap (λ k. k - from) s.size ∙ sym (length-drop from b)) (λ i h. get_or-drop from a i 0 ∙ s.each (from + i) (omega arith) (omega (arith, h, length-drop from a)) ∙ sym (get_or-drop from b i 0)) ∙ sym (whole b n)
