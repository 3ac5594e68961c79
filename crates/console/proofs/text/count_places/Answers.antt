-- The power of ten below the number says how many digits it has. Assumes nothing.
use Rattle.console.proofs.Digits.{places-by}
use Rattle.console.proofs.text.count_places.Goals as goal

pub returns-clause-value : goal.returns-clause-value
returns-clause-value c =
    let e = c.checked_ilog10.ensures in
    rw c.unwrap_or.ensures (places-by c.args.n c.checked_ilog10.result e.none e.power_le e.next_power_gt e.bound)
