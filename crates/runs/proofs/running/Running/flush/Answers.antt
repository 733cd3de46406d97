-- `flush` meets its contract: the three reads of a turn, after each of which it may end.
-- Assumes nothing.
use Rattle.std.proofs.Common.{refl, sym, ◌∙◌}
use Rattle.std.specs.Prelude.{Ok, Err}
use Rattle.manual.specs.declared.Register.TheVariants.{SR, PARAM, FSR}
use Rattle.sequences.specs.declared.access.RunError.TheVariants.{FifoExponent}
use Rattle.machine.specs.declared.flush.Flush.TheVariants.{Status, Sizes, Counts, Ended}
use Rattle.runs.specs.Flushing.{first_error}
use Rattle.runs.proofs.DriveLaws.{kept_on}
use Rattle.runs.proofs.FlushLaws.{flush_read, flush_stops, flush_done, to_sizes, to_counts, end_kept}
use Rattle.runs.proofs.FlushLaws.{has_failed, still_busy, deep, none_left, some_left}
use Rattle.runs.proofs.running.Running.flush.Goals as goal

pub loop-status-preserved-then-is_busy : goal.loop-status-preserved-then-is_busy
loop-status-preserved-then-is_busy c =
    let l = c.loop-status in
    let k = c.read in (
      kept_on l.invariant.0 k.ensures.kept,
      λ old olds h.
          flush_read old olds Status Status SR c.in-Some.status l.self k.new.self k.ensures.kept c.in-Some.ensures.looked refl
          (still_busy c.in-Some.status (sym c.has_error.ensures ∙ c.if-has_error.false) (sym c.is_busy.ensures ∙ c.if-is_busy.true))
          (l.invariant.1 old olds h),
      l.invariant.2,
      c.in-Some.ensures.looked.1,
      end_kept l.self k.new.self _ l.invariant.4 k.ensures.kept,
    )

pub loop-status-preserved : goal.loop-status-preserved
loop-status-preserved c =
    let l = c.loop-status in
    let k = c.read in
    let p = c.read-in-loop-status in
    let q = c.read-in-loop-status-2 in
    let fits = sym (c.is_deep.ensures l.invariant.2) ∙ c.if-is_deep.false in (
      kept_on l.invariant.0 (kept_on k.ensures.kept (kept_on p.ensures.kept q.ensures.kept)),
      λ old olds h.
          flush_read old olds Counts Status FSR c.in-Some-read-2.counts p.new.self q.new.self q.ensures.kept
          c.in-Some-read-2.ensures.looked refl
          (some_left c.in-Some-read-2.counts (sym c.is_empty.ensures ∙ c.if-is_empty.false))
          (to_counts old olds c.in-Some-read.param k.new.self p.new.self p.ensures.kept c.in-Some-read.ensures.looked fits
          (to_sizes old olds c.in-Some.status l.self k.new.self k.ensures.kept c.in-Some.ensures.looked
          (sym c.has_error.ensures ∙ c.if-has_error.false) (sym c.is_busy.ensures ∙ c.if-is_busy.false) (l.invariant.1 old olds h))),
      fits,
      c.in-Some-read-2.ensures.looked.1,
      end_kept l.self q.new.self _ l.invariant.4 (kept_on k.ensures.kept (kept_on p.ensures.kept q.ensures.kept)),
    )

pub returns-in_default-clause-ended : goal.returns-in_default-clause-ended
returns-in_default-clause-ended c =
    let l = c.loop-status in
    let k = c.read in
    λ old olds h.
    flush_stops old olds Status SR l.self k.new.self k.ensures.kept c.in_default.ensures.looked refl (l.invariant.1 old olds h)

pub returns-then-has_error-clause-ended : goal.returns-then-has_error-clause-ended
returns-then-has_error-clause-ended c =
    let l = c.loop-status in
    let k = c.read in
    let v = c.in-Some.status in
    λ old olds h.
    flush_done old olds c.error_of.result (first_error v) k.new.self c.error_of.ensures
    (flush_read old olds Status (Ended (first_error v)) SR v l.self k.new.self k.ensures.kept c.in-Some.ensures.looked refl
    (has_failed v (sym c.has_error.ensures ∙ c.if-has_error.true)) (l.invariant.1 old olds h))

pub returns-in_default-read-clause-ended : goal.returns-in_default-read-clause-ended
returns-in_default-read-clause-ended c =
    let l = c.loop-status in
    let k = c.read in
    let p = c.read-in-loop-status in
    λ old olds h.
    flush_stops old olds Sizes PARAM k.new.self p.new.self p.ensures.kept c.in_default-read.ensures.looked refl
    (to_sizes old olds c.in-Some.status l.self k.new.self k.ensures.kept c.in-Some.ensures.looked
    (sym c.has_error.ensures ∙ c.if-has_error.false) (sym c.is_busy.ensures ∙ c.if-is_busy.false) (l.invariant.1 old olds h))

pub returns-then-is_deep-clause-ended : goal.returns-then-is_deep-clause-ended
returns-then-is_deep-clause-ended c =
    let l = c.loop-status in
    let k = c.read in
    let p = c.read-in-loop-status in
    λ old olds h.
    flush_done old olds (Err FifoExponent) (Err FifoExponent) p.new.self refl
    (flush_read old olds Sizes (Ended (Err FifoExponent)) PARAM c.in-Some-read.param k.new.self p.new.self p.ensures.kept
    c.in-Some-read.ensures.looked refl
    (deep c.in-Some-read.param (sym (c.is_deep.ensures l.invariant.2) ∙ c.if-is_deep.true))
    (to_sizes old olds c.in-Some.status l.self k.new.self k.ensures.kept c.in-Some.ensures.looked
    (sym c.has_error.ensures ∙ c.if-has_error.false) (sym c.is_busy.ensures ∙ c.if-is_busy.false) (l.invariant.1 old olds h)))

pub returns-in_default-read-2-clause-ended : goal.returns-in_default-read-2-clause-ended
returns-in_default-read-2-clause-ended c =
    let l = c.loop-status in
    let k = c.read in
    let p = c.read-in-loop-status in
    let q = c.read-in-loop-status-2 in
    λ old olds h.
    flush_stops old olds Counts FSR p.new.self q.new.self q.ensures.kept c.in_default-read-2.ensures.looked refl
    (to_counts old olds c.in-Some-read.param k.new.self p.new.self p.ensures.kept c.in-Some-read.ensures.looked
    (sym (c.is_deep.ensures l.invariant.2) ∙ c.if-is_deep.false)
    (to_sizes old olds c.in-Some.status l.self k.new.self k.ensures.kept c.in-Some.ensures.looked
    (sym c.has_error.ensures ∙ c.if-has_error.false) (sym c.is_busy.ensures ∙ c.if-is_busy.false) (l.invariant.1 old olds h)))

pub returns-then-is_empty-clause-ended : goal.returns-then-is_empty-clause-ended
returns-then-is_empty-clause-ended c =
    let l = c.loop-status in
    let k = c.read in
    let p = c.read-in-loop-status in
    let q = c.read-in-loop-status-2 in
    λ old olds h.
    flush_done old olds (Ok tt) (Ok tt) q.new.self refl
    (flush_read old olds Counts (Ended (Ok tt)) FSR c.in-Some-read-2.counts p.new.self q.new.self q.ensures.kept
    c.in-Some-read-2.ensures.looked refl
    (none_left c.in-Some-read-2.counts (sym c.is_empty.ensures ∙ c.if-is_empty.true))
    (to_counts old olds c.in-Some-read.param k.new.self p.new.self p.ensures.kept c.in-Some-read.ensures.looked
    (sym (c.is_deep.ensures l.invariant.2) ∙ c.if-is_deep.false)
    (to_sizes old olds c.in-Some.status l.self k.new.self k.ensures.kept c.in-Some.ensures.looked
    (sym c.has_error.ensures ∙ c.if-has_error.false) (sym c.is_busy.ensures ∙ c.if-is_busy.false) (l.invariant.1 old olds h))))
