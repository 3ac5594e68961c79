-- Where each session's record starts in the sheet's bytes, so that a session can be spoken of by its index alone. Assumes nothing.
use Rattle.std.specs.Prelude.{List, ℕ, zero, suc, ◌+◌, drop}
use Rattle.sheet.specs.Limits.{head_bytes}
use Rattle.sheet.specs.Bytes.{record_bytes}

-- the first starts after the head, each other where the one before it ends
unfoldable pub start_of : List ℕ → ℕ → ℕ
start_of bytes zero = head_bytes
start_of bytes (suc i) = start_of bytes i + record_bytes (drop (start_of bytes i) bytes)
