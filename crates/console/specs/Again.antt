-- Which failures of a call of the system may pass, so that it is made again, and what it is to make one again. Assumes nothing.
use Rattle.std.specs.Prelude.{◌≡◌, Bool, true, false, List}
use Rattle.std.specs.Borrow.{MutBor}
use Rattle.std.specs.List.{FoldsTo}
use Rattle.std.specs.declared.result.Result.{Result}
use Rattle.std.specs.declared.result.Result.TheVariants.{Err}
use Rattle.std.specs.declared.io.Error.{Error}
use Rattle.std.specs.declared.io.ErrorKind.{ErrorKind}
use Rattle.std.specs.declared.io.ErrorKind.TheVariants.{WouldBlock, Interrupted}

-- nothing was ready, or a signal came
abbrev pub may_pass : ErrorKind → Bool
may_pass WouldBlock = true
may_pass Interrupted = true
may_pass _ = false

-- a call that is lent two values answers r and leaves them so
abbrev pub CallsAt : {S B T : Type 0} → (MutBor S → MutBor B → T → MutBor S → MutBor B → Type 0) → S × B → T → S × B → Type 0
CallsAt {S} {B} post p r q = (x : MutBor S) × (z : MutBor B) × (y : MutBor S) × (w : MutBor B) × (x.now ≡ p.0) × (z.now ≡ p.1) × (y.now ≡ q.0) × (w.now ≡ q.1) × post x z r y w

-- the calls so far failed, and the last one answered so
pub record Retried {F T : Type 0} (step : F → Result T Error → F → Type 0) (old : F) (result : Result T Error) (new : F) : Type 0 where
  pub failures : List Error
  pub between : F
  pub failed : FoldsTo (λ p e q. step p (Err e) q) old failures between
  pub last : step between result new
