-- A whole poll that neither fails nor stops short, answer by answer.
-- Assumes nothing.
use Prim.Native.Nat.{ℕ}
use mathlib.Core.Bool.{Bool, true, false, cond}
use mathlib.Core.Path.{◌≡◌, refl}
use Rattle.words.specs.declared.transaction.Direction.{Direction}
use Rattle.sequences.specs.Sequence.{too_deep}
use Rattle.machine.specs.declared.poll.Poll.TheVariants.{Status, Sizes, Counts}
use Rattle.machine.specs.declared.poll.Polled.{Polled}
use Rattle.machine.specs.declared.poll.Polled.TheVariants.{Failed, TooDeep, Next, Ready, Unready}
use Rattle.machine.specs.Poll.{failed, polled, poll_onward, whole}

-- the first two answers let it go on, and the third settles it
pub record Settled (d : Direction) (status param counts : ℕ) (x : Polled) : Type 0 where
  pub first : polled d Status status ≡ Next Sizes
  pub second : polled d Sizes param ≡ Next (Counts param)
  pub third : polled d (Counts param) counts ≡ x

module _ (d : Direction) (status param counts : ℕ) where
  settled : (x : Polled) → (Failed ≡ x → ⊥) → (TooDeep ≡ x → ⊥) → whole d status param counts ≡ x → Settled d status param counts x
  settled x n m = by_tests (failed d status) (too_deep param) refl refl
    where
      by_tests : (a b : Bool) → failed d status ≡ a → too_deep param ≡ b
          → poll_onward (cond a Failed (Next Sizes)) (poll_onward (cond b TooDeep (Next (Counts param))) (polled d (Counts param) counts)) ≡ x
          → Settled d status param counts x
      by_tests true b e f h = absurd (n h)
      by_tests false true e f h = absurd (m h)
      by_tests false false e f h = record { first = rw e; second = rw f; third = h }

  pub settled_ready : whole d status param counts ≡ Ready → Settled d status param counts Ready
  settled_ready =
      settled Ready
      (λ (e : Failed ≡ Ready). cc)
      (λ (e : TooDeep ≡ Ready). cc)

  pub settled_unready : whole d status param counts ≡ Unready → Settled d status param counts Unready
  settled_unready =
      settled Unready
      (λ (e : Failed ≡ Unready). cc)
      (λ (e : TooDeep ≡ Unready). cc)
