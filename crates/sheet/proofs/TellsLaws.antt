-- Laws of specs/Tells.antt. What the reader's answer tells of the bytes, for those who call it: the reading's result, the sheet's numbers and its sessions' starts. Assumes nothing.
use Rattle.std.specs.Prelude.{◌≡◌, refl, Ok, Err, List, ℕ}
use Rattle.std.proofs.Common.{sym, ap, ◌∙◌, arith}
use Rattle.refusal.specs.Numbers.{number_of}
use Rattle.refusal.specs.declared.Refusal.{Refusal as Refused}
use Rattle.sheet.specs.Refusal.{Refusal, none, refused}
use Rattle.sheet.specs.Bytes.{capacity_of, period_of, count_of}
use Rattle.sheet.specs.Reading.{reading}
use Rattle.sheet.specs.Told.{read, refusal, answer_to, sessions_read, placed, Reads}
use Rattle.sheet.proofs.ToldLaws.{read-refusal}
use Rattle.sheet.proofs.WalkLaws.{placed-start}
use Rattle.sheet.specs.declared.Reading.{Reading}
use Rattle.sheet.specs.Tells.{ReadTells}

-- a refusal is the reading's
pub refused_tells : (bytes : List ℕ) (r : Refused) → Reads bytes (Err r) → reading bytes ≡ refused (number_of r.cause) r.place
unfolding answer_to
refused_tells bytes r w = go (reading bytes) refl
  where
    go : (o : Refusal) → reading bytes ≡ o → reading bytes ≡ refused (number_of r.cause) r.place
    go none e = absurd (read-refusal _ _ _ _ _ (sym (w.outcome_is ∙ ap (λ o. answer_to o bytes) e)))
    go (refused n l) e =
        let f : refusal (number_of r.cause) r.place ≡ refusal n l = w.outcome_is ∙ ap (λ o. answer_to o bytes) e in
        let a : number_of r.cause ≡ n = cc in
        let b : r.place ≡ l = cc in
        rw (a, b) e

pub read_tells : (bytes : List ℕ) (r : Reading) → Reads bytes (Ok r) → ReadTells bytes r.capacity.0 r.period.0 r.count r.starts
unfolding answer_to sessions_read
read_tells bytes r w = go (reading bytes) refl
  where
    go : (o : Refusal) → reading bytes ≡ o → ReadTells bytes r.capacity.0 r.period.0 r.count r.starts
    go (refused n l) e = absurd (read-refusal _ _ _ _ _ (w.outcome_is ∙ ap (λ o. answer_to o bytes) e))
    go none e =
        let f : read r.capacity.0 r.period.0 r.count ≡ read (capacity_of bytes) (period_of bytes) (count_of bytes) = w.outcome_is ∙ ap (λ o. answer_to o bytes) e in
        let k : r.count ≡ count_of bytes = cc in
        record {
          reads = e;
          capacity = cc;
          period-is = cc;
          count = k;
          each = λ i h. w.each i ∙ ap (λ s. placed bytes (sessions_read s) i) (ap (λ o. answer_to o bytes) e) ∙ placed-start bytes (count_of bytes) i (omega arith);
        }
