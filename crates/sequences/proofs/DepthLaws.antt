-- The bound in `depth_of` is idle: in `init`, in `set_watermark` and in `fifo_status` no exponent over 4 is ever asked for its depth,
-- whatever the registers answer.
-- Assumes nothing.
use Prim.Native.Nat.{ℕ, zero, suc, ◌^◌, ◌≤◌, min}
use native.Mathlib.Nat.{min-eq_left, pow-le-pow_right}
use lib.Pow.{pow_pos}
use mathlib.Core.Bool.{Bool, true, false, cond, ◌&&◌, ◌||◌}
use mathlib.Core.List.{List, [], ◌∷◌}
use mathlib.Core.Path.{◌≡◌, refl, sym, ap, subst}
use native.Mathlib.Omega.{arith}
use mir.Facts.{and_yes}
use lib.Dec.{T, ltb, eqb}
use lib.ListN.{get_or, set}
use borrow.Author.Tests.{ltb-false}
use Rattle.manual.specs.declared.Cr.TheVariants.{MEN}
use Rattle.manual.specs.declared.Field.TheVariants.{Cr}
use Rattle.manual.specs.declared.Register.TheVariants.{PARAM, FSR}
use Rattle.manual.specs.Manual.{read_field}
use Rattle.words.specs.declared.transaction.Direction.{Direction}
use Rattle.words.specs.declared.transaction.Direction.TheVariants.{Tx, Rx}
use Rattle.sequences.specs.declared.access.Access.TheVariants.{Read, Done}
use Rattle.std.specs.Prelude.{Err}
use Rattle.sequences.specs.declared.access.RunError.TheVariants.{FifoExponent}
use Rattle.sequences.specs.declared.call.Call.{Call}
use Rattle.sequences.specs.declared.call.Call.TheVariants.{Init, SetWatermark, GetFifoStatus}
use Rattle.sequences.specs.declared.driver.Lpspi.{Lpspi}
use Rattle.sequences.specs.declared.sequence.Move.{Move}
use Rattle.sequences.specs.declared.sequence.Move.TheVariants.{Keep, KeepClock, Look, Wait, WaitClock, Size, Sizes}
use Rattle.sequences.specs.declared.sequence.Move.TheVariants.{Arrived, Modify, Set, Write, Put, End}
use Rattle.sequences.specs.declared.sequence.Sequence.{Sequence}
use Rattle.sequences.specs.Sequence.{kept_of, keeping, onward, oversized, exponent_of, too_deep, depth_of, moved, move_at}
use Rattle.sequences.specs.Call.{moves_of, call_start, call_access, call_after}
use Rattle.sequences.proofs.ResetLaws.{answered}

abbrev same : Direction → Direction → Bool
same Tx Tx = true
same Tx Rx = false
same Rx Tx = false
same Rx Rx = true

same_is : (d e : Direction) → T (same d e) → e ≡ d
same_is Tx Tx h = refl
same_is Tx Rx h = absurd h
same_is Rx Tx h = absurd h
same_is Rx Rx h = refl

-- what passes the test of both directions has no exponent over 4
pub fits : (d : Direction) (param : ℕ) → too_deep param ≡ false → exponent_of d param ≤ 4
fits d param = by_tests d (ltb 4 (exponent_of Tx param)) (ltb 4 (exponent_of Rx param)) refl refl
  where
    by_tests : (d : Direction) (a b : Bool) → ltb 4 (exponent_of Tx param) ≡ a → ltb 4 (exponent_of Rx param) ≡ b → (a || b) ≡ false
        → exponent_of d param ≤ 4
    by_tests d true b e f h = cc
    by_tests d false true e f h = cc
    by_tests Tx false false e f h = ltb-false 4 (exponent_of Tx param) e
    by_tests Rx false false e f h = ltb-false 4 (exponent_of Rx param) f

module _ (d : Direction) where
  -- PARAM as it was kept has no exponent over 4 in that direction
  abbrev Small : Sequence → Type 0
  Small s = exponent_of d (kept_of PARAM s.kept) ≤ 4

  -- a move that keeps no register, but PARAM by its test of that direction
  abbrev tests : Move → Bool
  tests (Keep r) = false
  tests KeepClock = false
  tests (Look r) = true
  tests Wait = true
  tests (WaitClock c) = false
  tests (Size e) = same d e
  tests Sizes = true
  tests Arrived = false
  tests (Modify c) = true
  tests (Set c) = true
  tests (Write r w) = true
  tests (Put r) = true
  tests End = true

  abbrev all_test : List Move → Bool
  all_test [] = true
  all_test (m ∷ ms) = tests m && all_test ms

  test_at : (ms : List Move) (n : ℕ) → T (all_test ms) → T (tests (get_or ms n End))
  test_at [] n h = tt
  test_at (m ∷ ms) zero h = (and_yes (tests m) (all_test ms) h).0
  test_at (m ∷ ms) (suc n) h = test_at ms n (and_yes (tests m) (all_test ms) h).1

  kept_small : (kept : List ℕ) (v : ℕ) → exponent_of d v ≤ 4 → exponent_of d (kept_of PARAM kept) ≤ 4
      → exponent_of d (kept_of PARAM (set kept 0 v)) ≤ 4
  kept_small [] v l h = h
  kept_small (k ∷ ks) v l h = l

  size_small : (s : Sequence) (v : ℕ) → Small s → Small (moved (Size d) s v)
  size_small s v h = by_test (ltb 4 (exponent_of d v)) refl
    where
      by_test : (b : Bool) → ltb 4 (exponent_of d v) ≡ b → Small (cond b (oversized s) (onward (keeping PARAM v s)))
      by_test true e = h
      by_test false e = kept_small s.kept v (ltb-false 4 (exponent_of d v) e) h

  sizes_small : (s : Sequence) (v : ℕ) → Small s → Small (moved Sizes s v)
  sizes_small s v h = by_test (too_deep v) refl
    where
      by_test : (b : Bool) → too_deep v ≡ b → Small (cond b (oversized s) (onward (keeping PARAM v s)))
      by_test true e = h
      by_test false e = kept_small s.kept v (fits d v e) h

  moved_small : (m : Move) (s : Sequence) (v : ℕ) → T (tests m) → Small s → Small (moved m s v)
  moved_small (Keep r) s v t h = absurd t
  moved_small KeepClock s v t h = absurd t
  moved_small (Look r) s v t h = h
  moved_small Wait s v t h = by_test (eqb (read_field (Cr MEN) v) 1)
    where
      by_test : (b : Bool) → Small (cond b s (onward s))
      by_test true = h
      by_test false = h
  moved_small (WaitClock c) s v t h = absurd t
  moved_small (Size e) s v t h = subst (λ (x : Direction). Small (moved (Size x) s v)) (sym (same_is d e t)) (size_small s v h)
  moved_small Sizes s v t h = sizes_small s v h
  moved_small Arrived s v t h = absurd t
  moved_small (Modify c) s v t h = h
  moved_small (Set c) s v t h = h
  moved_small (Write r w) s v t h = h
  moved_small (Put r) s v t h = h
  moved_small End s v t h = h

  module _ (c : Call) (t : T (all_test (moves_of c))) where
    reached_small : (s : Sequence) (vs : List ℕ) → Small s → Small (answered (call_after c) s vs)
    unfolding call_after
    reached_small s [] h = h
    reached_small s (v ∷ vs) h =
        reached_small (call_after c s v) vs (moved_small (move_at (moves_of c) s.place) s v (test_at (moves_of c) s.place t) h)

-- the depth that is asked for is the manual's 2^e
pub true_depth : (d : Direction) (param : ℕ) → exponent_of d param ≤ 4 → depth_of d param ≡ 2 ^ exponent_of d param
true_depth d param l = ap (λ (n : ℕ). 2 ^ n) (min-eq_left l)

abbrev pub TrueDepth : Direction → Sequence → Type 0
TrueDepth d s = let param = kept_of PARAM s.kept in depth_of d param ≡ 2 ^ exponent_of d param

start_small : (d : Direction) (c : Call) (driver : Lpspi) → exponent_of d (kept_of PARAM (call_start c driver).kept) ≤ 4
start_small Tx c driver = omega arith
start_small Rx c driver = omega arith

reached_depth : (d : Direction) (c : Call) → T (all_test d (moves_of c)) → (driver : Lpspi) (vs : List ℕ)
    → TrueDepth d (answered (call_after c) (call_start c driver) vs)
reached_depth d c t driver vs =
    true_depth d (kept_of PARAM (answered (call_after c) (call_start c driver) vs).kept)
    (reached_small d c t (call_start c driver) vs (start_small d c driver))

-- NO OTHER DEPTH, after any answers: in `init` of the transmit FIFO, in `set_watermark` of the direction that it names, in `fifo_status`
-- of both
pub init_depth : (driver : Lpspi) (vs : List ℕ) → TrueDepth Tx (answered (call_after Init) (call_start Init driver) vs)
init_depth = reached_depth Tx Init tt

pub watermark_depth : (d : Direction) (watermark : ℕ) (driver : Lpspi) (vs : List ℕ)
    → TrueDepth d (answered (call_after (SetWatermark d watermark)) (call_start (SetWatermark d watermark) driver) vs)
watermark_depth Tx watermark = reached_depth Tx (SetWatermark Tx watermark) tt
watermark_depth Rx watermark = reached_depth Rx (SetWatermark Rx watermark) tt

pub status_depth : (d : Direction) (driver : Lpspi) (vs : List ℕ)
    → TrueDepth d (answered (call_after GetFifoStatus) (call_start GetFifoStatus driver) vs)
status_depth Tx = reached_depth Tx GetFifoStatus tt
status_depth Rx = reached_depth Rx GetFifoStatus tt

-- "AN EXPONENT OVER 4 IN EITHER FIELD IS ANSWERED 7 RIGHT AFTER THE PARAM READ .. in `fifo_status`"; else FSR is read
pub status_seven : (driver : Lpspi) (param : ℕ) → too_deep param ≡ true
    → call_access GetFifoStatus (call_after GetFifoStatus (call_start GetFifoStatus driver) param) ≡ Done (Err FifoExponent)
unfolding call_access call_after
status_seven driver param e = rw e refl

pub status_counts : (driver : Lpspi) (param : ℕ) → too_deep param ≡ false
    → call_access GetFifoStatus (call_after GetFifoStatus (call_start GetFifoStatus driver) param) ≡ Read FSR
unfolding call_access call_after
status_counts driver param e = rw e refl

-- what code asks of a depth
pub depth_some : (d : Direction) (param : ℕ) → 1 ≤ depth_of d param
depth_some d param = pow_pos (min (exponent_of d param) 4)

pub depth_most : (d : Direction) (param : ℕ) → depth_of d param ≤ 16
depth_most d param = pow-le-pow_right {n = 2} (omega arith) {i = min (exponent_of d param) 4} {j = 4} (omega arith)
