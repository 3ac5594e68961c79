-- A text cut at the first byte that passes a test, and at each. Assumes nothing.
use Rattle.std.proofs.Common.{◌≡◌, sym, ap, ◌∙◌, Bool, List, [], ◌∷◌, ℕ, ◌+◌, ◌<◌, ◌≤◌, ◌⊎◌, Some, None, cond, ltb, length, take, drop, drop-drop, arith, lt-ltb, le-ltb, inl, inr, subst}
use Rattle.std.specs.List.{FoldsTo, after_first, before_first, position_or_len, slice_split}
use Rattle.std.specs.Option.{unwrap_or}
use Rattle.std.specs.declared.option.Option.{Option}
use Rattle.std.proofs.lemmas.Bool.{cases_lt}
use Rattle.std.proofs.lemmas.List.{take_all, drop_all}
use Rattle.std.proofs.lemmas.List.Splits.{slice_split_first, slice_split_none}
use Rattle.std.proofs.lemmas.List.Sums.{fails_before_first}

-- where the first byte that passes was looked for, the end of what comes before it
pub cut_at_first : (p : ℕ → Bool) (text : List ℕ) (r : Option ℕ) (end : ℕ) → r ≡ cond (ltb (position_or_len p text) (length text)) (Some (position_or_len p text)) None → end ≡ unwrap_or r (length text)
    → (take end text ≡ before_first p text) × (drop end text ≡ drop (position_or_len p text) text)
cut_at_first p text r end e u = go (cases_lt first (length text))
  where
    first : ℕ
    first = position_or_len p text

    go : (first < length text) ⊎ (length text ≤ first) → (take end text ≡ take first text) × (drop end text ≡ drop first text)
    go (inl h) =
        let found : r ≡ Some first = e ∙ ap (λ b. cond b (Some first) None) (lt-ltb first (length text) h) in
        let is : end ≡ first = u ∙ ap (λ o. unwrap_or o (length text)) found in
        (ap (λ k. take k text) is, ap (λ k. drop k text) is)
    go (inr h) =
        let none : r ≡ None = e ∙ ap (λ b. cond b (Some first) None) (le-ltb first (length text) h) in
        let is : end ≡ length text = u ∙ ap (λ o. unwrap_or o (length text)) none in
        let few : length text ≤ end = omega arith in
        (take_all end text few ∙ sym (take_all first text h), drop_all end text few ∙ sym (drop_all first text h))

-- what follows the byte at which a text was cut
pub after_cut : (p : ℕ → Bool) (text rest : List ℕ) → rest ≡ drop (position_or_len p text) text → drop 1 rest ≡ after_first p text
after_cut p text rest e = ap (λ l. drop 1 l) e ∙ drop-drop 1 (position_or_len p text) text

-- the first part is run, and then those of the rest: so all parts are. An empty part, as after the last cut, changes nothing.
pub parts_more : {S : Type 0} (R : S → List ℕ → S → Type 0) → ((s t : S) → R s [] t → t ≡ s) → (p : ℕ → Bool) (text first rest : List ℕ) → first ≡ before_first p text → rest ≡ after_first p text
    → (s t u : S) → R s first t → FoldsTo R t (slice_split p rest) u → FoldsTo R s (slice_split p text) u
parts_more {S} R passes p text first rest b a s t u ran more = go (cases_lt (position_or_len p text) (length text))
  where
    go : (position_or_len p text < length text) ⊎ (length text ≤ position_or_len p text) → FoldsTo R s (slice_split p text) u
    go (inl h) =
        let parts : slice_split p text ≡ first ∷ slice_split p rest = slice_split_first p text 0 h ∙ ap (λ l. l ∷ slice_split p (after_first p text)) (sym b) ∙ ap (λ l. first ∷ slice_split p l) (sym a) in
        subst (λ l. FoldsTo R s l u) (sym parts) (t, ran, more)
    go (inr h) =
        let one : slice_split p text ≡ first ∷ [] = slice_split_none p text (λ k d low. fails_before_first p text k d (omega arith)) ∙ ap (λ l. l ∷ []) (sym (b ∙ take_all (position_or_len p text) text h)) in
        let none : rest ≡ [] = a ∙ drop_all (position_or_len p text + 1) text (omega arith) in
        let end : FoldsTo R t (slice_split p []) u = subst (λ l. FoldsTo R t (slice_split p l) u) none more in
        let last : t ≡ u = sym (passes t end.0 end.1) ∙ end.2 in
        subst (λ l. FoldsTo R s l u) (sym one) (t, ran, last)
