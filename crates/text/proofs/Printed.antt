-- A value more is printed after those before it. Assumes nothing.
use Rattle.std.proofs.Common.{◌≡◌, List, [], ◌∷◌, ◌++◌, ℕ, ◌+◌, ◌<◌, None, Some, IfSome, refl, sym, ap, ◌∙◌, append_assoc, append-nil, length, take, get_or, subst}
use Rattle.std.specs.Prelude.{Ok, Err, OnOk}
use Rattle.std.specs.Result.{result_and}
use Rattle.std.specs.declared.result.Result.{Result}
use Rattle.std.proofs.lemmas.List.{take_more}
use Rattle.std.specs.Fmt.{◌++?◌}
use Rattle.std.specs.Io.KnownBytes.{Appends}
use Rattle.std.specs.declared.option.Option.{Option}
use Rattle.text.specs.Printed.{spaced}

join_assoc : (a b c : Option (List ℕ)) → (a ++? b) ++? c ≡ a ++? (b ++? c)
join_assoc None b c = refl
join_assoc (Some x) None c = refl
join_assoc (Some x) (Some y) None = refl
join_assoc (Some x) (Some y) (Some z) = ap Some (append_assoc x y z)

join_nil : (a : Option (List ℕ)) → a ++? Some [] ≡ a
join_nil None = refl
join_nil (Some x) = ap Some (append-nil x)

spaced_last : {A : Type 0} (output : A → Option (List ℕ)) (xs : List A) (x : A) → spaced output (xs ++ (x ∷ [])) ≡ spaced output xs ++? (Some (32 ∷ []) ++? output x)
spaced_last output [] x = join_nil (Some (32 ∷ []) ++? output x) ∙ sym (nil_join (Some (32 ∷ []) ++? output x))
  where
    nil_join : (a : Option (List ℕ)) → Some [] ++? a ≡ a
    nil_join None = refl
    nil_join (Some y) = refl
spaced_last output (y ∷ ys) x = ap (λ k. (Some (32 ∷ []) ++? output y) ++? k) (spaced_last output ys x) ∙ sym (join_assoc (Some (32 ∷ []) ++? output y) (spaced output ys) (Some (32 ∷ []) ++? output x))

written_more : (p q a b c : Option (List ℕ)) → IfSome p (Appends a b) → IfSome q (Appends b c) → IfSome (p ++? q) (Appends a c)
written_more None q a b c h k = tt
written_more (Some x) None a b c h k = tt
written_more (Some x) (Some y) None b c h k = tt
written_more (Some x) (Some y) (Some u) None c h k = absurd h
written_more (Some x) (Some y) (Some u) (Some v) None h k = absurd k
written_more (Some x) (Some y) (Some u) (Some v) (Some w) h k = k ∙ ap (λ l. l ++ y) h ∙ append_assoc u x y

pub spaced_more : {A : Type 0} (output : A → Option (List ℕ)) (xs : List A) (i : ℕ) (x : A) (a b c : Option (List ℕ)) → i < length xs → x ≡ get_or xs i x
    → IfSome (spaced output (take i xs)) (Appends a b) → IfSome (Some (32 ∷ []) ++? output x) (Appends b c) → IfSome (spaced output (take (i + 1) xs)) (Appends a c)
spaced_more output xs i x a b c low e h k =
    let one = take_more xs i x low ∙ ap (λ y. take i xs ++ (y ∷ [])) (sym e) in
    subst (λ s. IfSome s (Appends a c)) (sym (ap (spaced output) one ∙ spaced_last output (take i xs) x)) (written_more (spaced output (take i xs)) (Some (32 ∷ []) ++? output x) a b c h k)

-- the same where neither failed
pub spaced_on : {A E : Type 0} (output : A → Option (List ℕ)) (xs : List A) (i : ℕ) (x : A) (a b c : Option (List ℕ)) (done now : Result Unit E) → i < length xs → x ≡ get_or xs i x
    → OnOk done (IfSome (spaced output (take i xs)) (Appends a b)) → OnOk now (IfSome (Some (32 ∷ []) ++? output x) (Appends b c)) → OnOk (result_and done now) (IfSome (spaced output (take (i + 1) xs)) (Appends a c))
spaced_on output xs i x a b c (Ok u) (Ok v) low e h k = spaced_more output xs i x a b c low e h k
spaced_on output xs i x a b c (Ok u) (Err r) low e h k = tt
spaced_on output xs i x a b c (Err r) now low e h k = tt
