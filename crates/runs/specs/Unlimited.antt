-- "With no limit on accesses" (document 01, The bus): what a run comes to where only its machine and its script end it.
-- Assumes nothing.
use Rattle.std.specs.Prelude.{ℕ, true, List, ◌≡◌, length}
use Rattle.sequences.specs.declared.access.Access.{Access}
use Rattle.runs.specs.Run.{State, halted, run}

module _ {M : Type 0} (next : M → Access) (resume : M → ℕ → M) (words : List ℕ → ℕ → ℕ) (script : List ℕ) where
  -- some number of accesses leads from s to u, and in u no access can be made any more
  pub record Unlimited (s u : State M) : Type 0 where
    pub accesses : ℕ
    pub reached : run next resume words script accesses s ≡ u
    pub over : halted (next u.machine) u.used (length script) ≡ true
