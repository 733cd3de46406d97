-- What the code's answers stand for (private contracts cite it).
-- Assumes nothing.
use Rattle.std.specs.Prelude.{ℕ, List, Option}
use Rattle.words.specs.declared.width.Width.{Width}
use Rattle.lines.specs.declared.parse.Request.{Request}
use Rattle.lines.specs.declared.parse.Asked.{Asked}
use Rattle.lines.specs.Grammar.{Task, asked_with}

-- the task that a request asks for
abbrev pub requested : Request → Option Task
requested q = asked_with q.header q.write.now q.read.now q.script.now

-- the task of a width whose elements stand in lent buffers
abbrev pub task_of : {T : Type 0} → Width → (List T → List ℕ) → Asked T → Task
task_of w numbers q = record {
  header = record { width = w; order = q.order; budget = q.budget };
  write = numbers q.write.now;
  read = q.read;
  script = q.script.now;
}
