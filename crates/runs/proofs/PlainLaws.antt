-- Polls and the recovery read and write registers: no word of the transfer is sent or received there, and they do not end it.
-- Assumes nothing.
use Prim.Native.Nat.{ℕ, zero, suc, ◌≤◌}
use mathlib.Core.Bool.{Bool, true, false, cond}
use mathlib.Core.List.{List, [], ◌∷◌}
use mathlib.Core.Path.{◌≡◌, refl}
use native.Mathlib.Omega.{arith}
use lib.ListN.{get_or}
use Rattle.sequences.specs.declared.access.Access.{Access}
use Rattle.sequences.specs.declared.access.Access.TheVariants.{Read, Write, Send, Receive, Done}
use Rattle.machine.specs.declared.poll.Poll.{Poll}
use Rattle.machine.specs.declared.poll.Poll.TheVariants.{Status, Sizes, Counts}
use Rattle.sequences.specs.declared.sequence.Move.{Move}
use Rattle.sequences.specs.declared.sequence.Move.TheVariants.{Keep, KeepClock, Look, Wait, WaitClock, Size, Sizes as SizesMove, Arrived}
use Rattle.sequences.specs.declared.sequence.Move.TheVariants.{Modify, Set, Write as WriteMove, Put, End}
use Rattle.sequences.specs.declared.sequence.Sequence.{Sequence}
use Rattle.machine.specs.Poll.{poll_access}
use Rattle.sequences.specs.Sequence.{move_access}
use Rattle.sequences.specs.Recovery.{recovery, recovery_move, recovery_access}
use Rattle.runs.specs.Run.{received_after}

-- an access by number: 0 and 1 are plain reads and writes
abbrev pub kind : Access → ℕ
kind (Read r) = 0
kind (Write r v) = 1
kind (Send i) = 2
kind (Receive i) = 3
kind (Done e) = 4

pub plain_keeps : (a : Access) → kind a ≤ 1 → (v : ℕ) (rs : List ℕ) → received_after a v rs ≡ rs
plain_keeps (Read r) h v rs = refl
plain_keeps (Write r w) h v rs = refl
plain_keeps (Send i) h v rs = refl
plain_keeps (Receive i) h v rs = absurd (omega (arith, h))
plain_keeps (Done e) h v rs = refl

pub poll_plain : (p : Poll) → kind (poll_access p) ≤ 1
poll_plain Status = omega arith
poll_plain Sizes = omega arith
poll_plain (Counts x) = omega arith

-- the recovery does not end before its table does
abbrev is_end : Move → Bool
is_end (Keep k) = false
is_end KeepClock = false
is_end (Look k) = false
is_end Wait = false
is_end (WaitClock c) = false
is_end (Size k) = false
is_end SizesMove = false
is_end Arrived = false
is_end (Modify c) = false
is_end (Set c) = false
is_end (WriteMove k w) = false
is_end (Put k) = false
is_end End = true

move_plain : (m : Move) (s : Sequence) → is_end m ≡ false → kind (move_access m s) ≤ 1
move_plain (Keep k) s h = omega arith
move_plain KeepClock s h = omega arith
move_plain (Look k) s h = omega arith
move_plain Wait s h = omega arith
move_plain (WaitClock c) s h = omega arith
move_plain (Size k) s h = omega arith
move_plain SizesMove s h = omega arith
move_plain Arrived s h = omega arith
move_plain (Modify c) s h = omega arith
move_plain (Set c) s h = omega arith
move_plain (WriteMove k w) s h = omega arith
move_plain (Put k) s h = omega arith
move_plain End s h = absurd (let z : ◌≡◌ {A = ℕ} 0 1 = cc in omega arith)

abbrev has_end : List Move → Bool
has_end [] = false
has_end (m ∷ l) = cond (is_end m) true (has_end l)

no_end : (l : List Move) (d : Move) (i : ℕ) → has_end l ≡ false → is_end d ≡ false → is_end (get_or l i d) ≡ false
no_end [] d zero h e = e
no_end [] d (suc i) h e = e
no_end (m ∷ l) d zero h e = first (is_end m) (has_end l) h
  where
    first : (a b : Bool) → cond a true b ≡ false → a ≡ false
    first true b h = cc
    first false b h = refl
no_end (m ∷ l) d (suc i) h e = no_end l d i (rest (is_end m) (has_end l) h) e
  where
    rest : (a b : Bool) → cond a true b ≡ false → b ≡ false
    rest true b h = cc
    rest false b h = h

pub recovery_plain : (r : Sequence) → kind (recovery_access r) ≤ 1
recovery_plain r = move_plain (recovery_move r.place) r (no_end recovery (recovery_move 27) r.place refl refl)
