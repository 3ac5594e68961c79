-- How one call after another changes what a writer or a reader holds, where that is known. Assumes nothing.
use Rattle.std.specs.Prelude.{◌≡◌, refl, List, [], ◌++◌, ℕ, ◌+◌, ◌≤◌, None, Some, length, take, drop}
use Rattle.std.proofs.Common.{sym, ap, ◌∙◌, append_assoc, append-nil, arith, length-drop}
use Rattle.std.proofs.Math.Seq.{take-append-add, take-take, take-add}
use Rattle.std.proofs.lemmas.List.{length-take-le, take-append-le, drop-append-le, drop-drop, drop_all, take-append-drop}
use Rattle.std.specs.Io.KnownBytes.{Appends, Consumes, Keeps, ReadConsumes, WriteAppends}
use Rattle.std.specs.declared.option.Option.{Option}
use Rattle.std.specs.declared.result.Result.{Result}
use Rattle.std.specs.declared.result.Result.TheVariants.{Ok, Err}
use Rattle.console.specs.Got.{TakesTo}

pub appends_more : (a b c : Option (List ℕ)) (bs cs : List ℕ) → Appends a b bs → Appends b c cs → Appends a c (bs ++ cs)
appends_more None b c bs cs h k = tt
appends_more (Some xs) None c bs cs h k = absurd h
appends_more (Some xs) (Some ys) None bs cs h k = absurd k
appends_more (Some xs) (Some ys) (Some zs) bs cs h k = k ∙ ap (λ l. l ++ cs) h ∙ append_assoc xs bs cs

appends_none : (a : Option (List ℕ)) → Appends a a []
appends_none None = tt
appends_none (Some xs) = sym (append-nil xs)

-- the writer took the front of a text, and the rest is left
pub record Took (old new : Option (List ℕ)) (text rest : List ℕ) : Type 0 where
  pub done : ℕ
  pub within : done ≤ length text
  pub left : rest ≡ drop done text
  pub took : Appends old new (take done text)

pub took_none : (old : Option (List ℕ)) (text : List ℕ) → Took old old text text
took_none old text = record { done = 0; within = omega arith; left = refl; took = appends_none old }

-- the next write takes some of the rest
pub took_more : {a b c : Option (List ℕ)} {text rest : List ℕ} (n : ℕ) → Took a b text rest → n ≤ length rest → Appends b c (take n rest) → Took a c text (drop n rest)
took_more {a} {b} {c} {text} {rest} n t few more =
    let size = ap length t.left ∙ length-drop t.done text in
    record {
      done = t.done + n;
      within = omega (arith, size, t.within);
      left = rw t.left (drop-drop n t.done text);
      took = rw (take-add t.done n text, ← t.left) (appends_more a b c (take t.done text) (take n rest) t.took more);
    }

-- where nothing is left the writer took the whole text
pub took_all : {old new : Option (List ℕ)} {text rest : List ℕ} → Took old new text rest → length rest ≡ 0 → Appends old new text
took_all {old} {new} {text} {rest} t none =
    let size = ap length t.left ∙ length-drop t.done text in
    let whole : take t.done text ≡ text = sym (append-nil (take t.done text)) ∙ ap (λ l. take t.done text ++ l) (sym (drop_all t.done text (omega (arith, size)))) ∙ take-append-drop t.done text in
    rw whole at t.took

consumes_more : (a b c : Option (List ℕ)) (bs cs : List ℕ) → Consumes a b bs → Consumes b c cs → Consumes a c (bs ++ cs)
consumes_more None b c bs cs h k = tt
consumes_more (Some xs) None c bs cs h k = absurd h
consumes_more (Some xs) (Some ys) None bs cs h k = absurd k
consumes_more (Some xs) (Some ys) (Some zs) bs cs h k = h ∙ ap (λ l. bs ++ l) k ∙ sym (append_assoc bs cs zs)

-- the next read puts its bytes into a part that begins where the last one ended
pub takes_more : (a b c : Option (List ℕ)) (from done n : ℕ) (before into part rest : List ℕ) → TakesTo a b from done before into → Consumes b c (take n part) → from ≤ done → done ≤ length into → n ≤ length part → TakesTo a c from (done + n) before (take done into ++ (part ++ rest))
takes_more a b c from done n before into part rest t k low high few =
    let front : List ℕ = take done into in
    let size : length front ≡ done = length-take-le done into high in
    let e : take (done + n) (front ++ (part ++ rest)) ≡ front ++ take n part =
    ap (λ m. take (m + n) (front ++ (part ++ rest))) (sym size) ∙ take-append-add front (part ++ rest) n ∙ ap (λ l. front ++ l) (take-append-le n part rest few) in
    let d : drop from (take (done + n) (front ++ (part ++ rest))) ≡ drop from front ++ take n part = ap (λ l. drop from l) e ∙ drop-append-le from front (take n part) (omega arith) in
    (rw d (consumes_more a b c (drop from front) (take n part) t.0 k), take-append-le from front (part ++ rest) (omega arith) ∙ take-take from done into low ∙ t.1)

pub keeps : (a : Option (List ℕ)) → Keeps a a
keeps None = tt
keeps (Some xs) = refl

appends_kept : (a b c : Option (List ℕ)) (bs : List ℕ) → Appends a b bs → Keeps b c → Appends a c bs
appends_kept None b c bs h k = tt
appends_kept (Some xs) None c bs h k = absurd h
appends_kept (Some xs) (Some ys) None bs h k = absurd k
appends_kept (Some xs) (Some ys) (Some zs) bs h k = k ∙ h

-- a write that failed leaves things as they were
pub took_kept : {a b c : Option (List ℕ)} {text rest : List ℕ} → Took a b text rest → Keeps b c → Took a c text rest
took_kept {a} {b} {c} {text} {rest} t k = record { done = t.done; within = t.within; left = t.left; took = appends_kept a b c (take t.done text) t.took k }

pub keeps_on : (a b c : Option (List ℕ)) → Keeps a b → Keeps b c → Keeps a c
keeps_on None b c h k = tt
keeps_on (Some xs) None c h k = absurd h
keeps_on (Some xs) (Some ys) None h k = absurd k
keeps_on (Some xs) (Some ys) (Some zs) h k = k ∙ h

keeps_then : (a b c : Option (List ℕ)) (bs : List ℕ) → Keeps a b → Appends b c bs → Appends a c bs
keeps_then None b c bs h k = tt
keeps_then (Some xs) None c bs h k = absurd h
keeps_then (Some xs) (Some ys) None bs h k = absurd k
keeps_then (Some xs) (Some ys) (Some zs) bs h k = k ∙ ap (λ l. l ++ bs) h

-- a write after others that failed
pub wrote_after : {E : Type 0} (a b c : Option (List ℕ)) (r : Result ℕ E) (text : List ℕ) → Keeps a b → WriteAppends b c r text → WriteAppends a c r text
wrote_after a b c (Ok n) text k w = keeps_then a b c (take n text) k w
wrote_after a b c (Err e) text k w = keeps_on a b c k w

keeps_before : (a b c : Option (List ℕ)) (bs : List ℕ) → Keeps a b → Consumes b c bs → Consumes a c bs
keeps_before None b c bs h k = tt
keeps_before (Some xs) None c bs h k = absurd h
keeps_before (Some xs) (Some ys) None bs h k = absurd k
keeps_before (Some xs) (Some ys) (Some zs) bs h k = sym h ∙ k

-- a read after others that failed
pub brought_after : {E : Type 0} (a b c : Option (List ℕ)) (r : Result ℕ E) (into : List ℕ) → Keeps a b → ReadConsumes b c r into → ReadConsumes a c r into
brought_after a b c (Ok n) into k w = (keeps_before a b c (take n into) k w.0, w.1)
brought_after a b c (Err e) into k w = keeps_on a b c k w
