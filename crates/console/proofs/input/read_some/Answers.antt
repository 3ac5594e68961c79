-- What failed brought nothing. Assumes nothing.
use Rattle.std.proofs.Common.{rules}
use Rattle.std.specs.Io.KnownBytes.{Keeps}
use Rattle.std.proofs.lemmas.Fn.{chained_keeps}
use Rattle.console.proofs.Known.{keeps, keeps_on, brought_after}
use Rattle.console.proofs.input.read_some.Goals as goal

pub returns-clause-bytes : goal.returns-clause-bytes
returns-clause-bytes g c =
    let e = c.retry.ensures in
    let kept = chained_keeps _ (λ _ w. Keeps (g.R.Read.remaining c.args.input.now) (g.R.Read.remaining w.0)) (λ xs q x v j s. keeps_on _ _ _ j (search rules)) e.failures _ _ (keeps _) e.failed in
    let last = e.last in
    brought_after _ _ _ _ _ kept (search rules)
