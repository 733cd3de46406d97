-- No table is longer than a sequence can go.
-- Assumes nothing.
use Prim.Native.Nat.{◌≤◌}
use native.Mathlib.Omega.{arith}
use lib.ListN.{length}
use Rattle.sequences.specs.declared.call.Call.{Call}
use Rattle.sequences.specs.declared.call.Call.TheVariants.{SoftReset}
use Rattle.sequences.specs.Call.{moves_of}

pub table_fits : (c : Call) → length (moves_of c) ≤ 27
table_fits SoftReset = omega arith
table_fits c = omega arith
