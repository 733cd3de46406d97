-- `longer` meets its contract: the test is the definition's.
-- Assumes nothing.
use Rattle.std.proofs.lemmas.Bool.{lt-ltb, le-ltb}
use Rattle.words.specs.Longer.{longer}
use Rattle.words.proofs.longer.longer.Goals as goal

pub returns-then-write-read : goal.returns-then-write-read
unfolding longer
returns-then-write-read g c = simp (lt-ltb _ _ c.if-write-read.true)

pub returns-else-write-read : goal.returns-else-write-read
unfolding longer
returns-else-write-read g c = simp (le-ltb _ _ c.if-write-read.false)
