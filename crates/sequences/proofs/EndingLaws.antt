-- Which ending has which number.
-- Assumes nothing.
use mathlib.Core.Path.{◌≡◌, refl}
use Rattle.words.specs.declared.transaction.Direction.TheVariants.{Tx, Rx}
use Rattle.words.specs.declared.transaction.LpspiError.TheVariants.{FrameSize, Fifo}
use Rattle.sequences.specs.Access.{Ending}
use Rattle.std.specs.Prelude.{Ok, Err}
use Rattle.sequences.specs.declared.access.RunError.TheVariants.{Driver, Stopped, Limits, ZeroClock, FifoExponent}
use Rattle.sequences.specs.Access.{number_of}

-- only Ok has the number 0
pub zero_is_ok : (e : Ending) → number_of e ≡ 0 → e ≡ Ok tt
zero_is_ok (Ok u) h = refl
zero_is_ok (Err (Driver FrameSize)) h = cc
zero_is_ok (Err (Driver (Fifo Tx))) h = cc
zero_is_ok (Err (Driver (Fifo Rx))) h = cc
zero_is_ok (Err Stopped) h = cc
zero_is_ok (Err Limits) h = cc
zero_is_ok (Err ZeroClock) h = cc
zero_is_ok (Err FifoExponent) h = cc
