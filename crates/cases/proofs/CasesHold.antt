-- The cases hold: one test over the whole list, which the checker computes, and a law that turns a passed test into equations.
-- Assumes nothing.
use Rattle.std.proofs.Common.{Bool, true, false, refl, List, [], ◌∷◌, ◌≡◌, ◌&&◌, T}
use Rattle.std.specs.Str.{bytes_eq}
use Rattle.std.proofs.lemmas.Slice.Eq.{bytes_eq-Decides}
use mir.Facts.{and_yes}
use Rattle.machine.specs.Transfer.{due_access, resumed}
use Rattle.runs.specs.Run.{times, step, after_access}
use Rattle.cases.specs.Cases.{Case, cases, Hold}

abbrev passed : List Case → Bool
passed [] = true
passed (c ∷ cs) = bytes_eq c.gives c.says && passed cs

so : (b : Bool) → T b → b ≡ true
so true h = refl
so false h = elim h [ ]

passed_hold : (cs : List Case) → T (passed cs) → Hold cs
passed_hold [] h = tt
passed_hold (c ∷ cs) h =
    let b = and_yes (bytes_eq c.gives c.says) (passed cs) h in ((bytes_eq-Decides c.gives c.says).0 (so (bytes_eq c.gives c.says) b.0), passed_hold cs b.1)

pub cases_hold : Hold cases
unfolding times step after_access due_access resumed
cases_hold = passed_hold cases tt
