-- What failed wrote nothing. Assumes nothing.
use Rattle.std.proofs.Common.{rules}
use Rattle.std.specs.Io.KnownBytes.{Keeps}
use Rattle.std.proofs.lemmas.Fn.{chained_keeps}
use Rattle.console.proofs.Known.{keeps, keeps_on, wrote_after}
use Rattle.console.proofs.output.write_some.Goals as goal

pub returns-clause-bytes : goal.returns-clause-bytes
returns-clause-bytes g c =
    let e = c.retry.ensures in
    let kept = chained_keeps _ (λ _ w. Keeps (g.W.Write.contents c.args.output.now) (g.W.Write.contents w.0)) (λ xs q x v j s. keeps_on _ _ _ j (search rules)) e.failures _ _ (keeps _) e.failed in
    let last = e.last in
    wrote_after _ _ _ _ _ kept (search rules)
