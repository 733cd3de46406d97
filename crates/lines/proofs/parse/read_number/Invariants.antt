-- With the digits that are left, what was read is the whole number.
-- Assumes nothing.
use Rattle.std.proofs.Common.{◌^◌, ◌<◌, ◌≡◌, drop}
use Rattle.lines.specs.Text.{bind, numeral_from, numeral}
use Rattle.lines.specs.Grammar.{small}
use Rattle.lines.proofs.parse.read_number.Given as goal

abbrev pub invariant-loop-byte : goal.invariant-loop-byte
invariant-loop-byte l =
    (l.n < 2 ^ 32) × (bind (numeral_from l.base l.n (drop l.byte-index l.field)) small ≡ bind (numeral l.base l.field) small)
