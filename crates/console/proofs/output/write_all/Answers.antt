-- What a write takes comes after what was taken before. Assumes nothing.
use Rattle.std.proofs.lemmas.List.{take_rest}
use Rattle.console.proofs.Known.{took_more}
use Rattle.console.proofs.output.write_all.Goals as goal

pub loop-rest-preserved : goal.loop-rest-preserved
loop-rest-preserved g c =
    let put = c.in_ok-put.ensures in
    rw (take_rest c.loop-rest.rest.now c.in_ok-put.put) (took_more c.in_ok-put.put c.loop-rest.invariant put.bound put.bytes)
