-- A fault that is counted has its cause.
use Rattle.std.proofs.Common.{◌≡◌, ◌≤◌, ℕ, arith}
use Rattle.std.specs.Prelude.{Err}
use Rattle.map_io.specs.Causes.{HasCause, one_more}

pub fault_counted : {T E : Type 0} (before now : ℕ) (fault : E) → now ≡ one_more before → before ≤ now → HasCause {T = T} before now (Err fault)
fault_counted before now fault is later = record { answered = tt; failed = omega (arith, is); later = later }
