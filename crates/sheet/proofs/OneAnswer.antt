-- The reader's contract leaves one answer: two that both meet it for the same bytes are equal. Assumes nothing.
use Rattle.std.specs.Prelude.{◌≡◌, Result, Ok, Err, List, ℕ}
use Rattle.std.proofs.Common.{sym, ap, ◌∙◌, ext_get_or}
use Rattle.refusal.specs.Numbers.{number_of}
use Rattle.refusal.proofs.NumbersLaws.{number-one}
use Rattle.refusal.specs.declared.Refusal.{Refusal as Refused}
use Rattle.sheet.specs.Told.{told, starts_told, Reads}
use Rattle.sheet.proofs.ToldLaws.{read-refusal}
use Rattle.sheet.specs.declared.Reading.{Reading}

-- a refusal is known by its number and place
pub refused-one : (r s : Refused) → number_of r.cause ≡ number_of s.cause → r.place ≡ s.place → r ≡ s
refused-one r s n p =
    let c = number-one r.cause s.cause n in
    λ i. record { cause = c i; place = p i }

-- an outcome is known by what it tells, and by the starts beside it
pub told-one : (a b : Result Reading Refused) → told a ≡ told b → starts_told a ≡ starts_told b → a ≡ b
told-one (Ok r) (Ok s) e f =
    let ec : r.capacity.0 ≡ s.capacity.0 = cc in
    let ep : r.period.0 ≡ s.period.0 = cc in
    let em : r.count ≡ s.count = cc in
    λ i. Ok (record { capacity = record { 0 = ec i }; period = record { 0 = ep i }; count = em i; starts = f i })
told-one (Ok r) (Err n) e f = absurd (read-refusal _ _ _ _ _ e)
told-one (Err n) (Ok r) e f = absurd (read-refusal _ _ _ _ _ (sym e))
told-one (Err n) (Err m) e f =
    let en : number_of n.cause ≡ number_of m.cause = cc in
    let ep : n.place ≡ m.place = cc in
    ap Err (refused-one n m en ep)

-- ONE ANSWER
pub one_answer : (bytes : List ℕ) (r s : Result Reading Refused) → Reads bytes r → Reads bytes s → r ≡ s
one_answer bytes r s a b =
    told-one r s (a.outcome_is ∙ sym b.outcome_is) (ext_get_or 0 (starts_told r) (starts_told s) (a.sixteen ∙ sym b.sixteen) (λ j h. a.each j ∙ sym (b.each j)))
