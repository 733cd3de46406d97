-- w as a log shows it. Behind an unready poll another one begins at once, of the same side or of the other: a read of FSR, and right behind
-- it a read of SR ("R 5C" and "R 14" in a listing of `buslog`). Behind a ready poll TCR, TDR or RDR is accessed.
-- Assumes nothing.
use Rattle.std.specs.Prelude.{ℕ, zero, suc, ◌+◌, Bool, false, cond, List, eqb, get_or, drop}
use Rattle.manual.specs.declared.Register.TheVariants.{SR, FSR}
use Rattle.manual.specs.Manual.{offset_of}

-- 1 where an access begins a poll; `counts` tells whether the one before it read FSR
abbrev pub again : Bool → ℕ → ℕ
again counts code = cond (eqb code (offset_of SR)) (cond counts 1 0) 0

-- of n accesses, two places each
abbrev pub again_after : Bool → ℕ → List ℕ → ℕ
again_after counts zero log = 0
again_after counts (suc n) log = again counts (get_or log 0 0) + again_after (eqb (get_or log 0 0) (offset_of FSR)) n (drop 2 log)

abbrev pub polls_again : ℕ → List ℕ → ℕ
polls_again = again_after false
