-- The recovery's accesses leave the transmit queue in order: reads, and writes that are not to TDR or TCR. One test over its table.
-- Assumes nothing.
use Prim.Native.Nat.{ℕ, zero, suc}
use mathlib.Core.Bool.{Bool, true, false, ◌&&◌}
use mathlib.Core.List.{List, [], ◌∷◌}
use mir.Facts.{and_yes}
use lib.Dec.{T}
use lib.ListN.{get_or}
use Rattle.manual.specs.declared.Register.TheVariants.{SR}
use Rattle.sequences.specs.declared.access.Access.{Access}
use Rattle.sequences.specs.declared.access.Access.TheVariants.{Read, Write, Send, Receive, Done}
use Rattle.sequences.specs.declared.sequence.Change.{Change}
use Rattle.sequences.specs.declared.sequence.Change.TheVariants.{Reset, Release, ClearFifos, ClearFifo, Enable, Restore, Controller}
use Rattle.sequences.specs.declared.sequence.Change.TheVariants.{HalfFull, Watermark, Sample, Peripheral, Polarity}
use Rattle.sequences.specs.declared.sequence.Move.{Move}
use Rattle.sequences.specs.declared.sequence.Move.TheVariants.{Keep, KeepClock, Look, Wait, WaitClock, Size, Sizes, Arrived}
use Rattle.sequences.specs.declared.sequence.Move.TheVariants.{Modify, Set, Write as WriteWord, Put, End}
use Rattle.sequences.specs.declared.sequence.Sequence.{Sequence}
use Rattle.sequences.specs.Recovery.{recovery, recovery_move, recovery_access}
use Rattle.sequences.specs.Sequence.{move_access, change_register}
use Rattle.sequences.specs.Status.{cleared, errors}
use Rattle.agreement.specs.declared.register.Role.{Role}
use Rattle.agreement.specs.declared.register.Role.TheVariants.{Sizes as sizes, Status as status, Counts as counts}
use Rattle.agreement.specs.declared.register.Role.TheVariants.{Control as control, Commands as commands}
use Rattle.agreement.specs.declared.register.Role.TheVariants.{Sends as sends, Receives as receives, Holds as holds}
use Rattle.agreement.specs.End.{role_of}

-- a write to a register of that role queues nothing
abbrev pub silent : Role → Bool
silent sizes = true
silent status = true
silent counts = true
silent control = true
silent commands = false
silent sends = false
silent receives = true
silent holds = true

-- an access that is due, queues nothing and receives nothing
abbrev pub quiet : Access → Bool
quiet (Read r) = true
quiet (Write r v) = silent (role_of r)
quiet (Send i) = false
quiet (Receive i) = false
quiet (Done x) = false

abbrev pub Quiet : Access → Type 0
Quiet a = T (quiet a)

quiet_move : Move → Bool
quiet_move (Keep r) = true
quiet_move KeepClock = true
quiet_move (Look r) = true
quiet_move Wait = true
quiet_move (WaitClock c) = true
quiet_move (Size d) = true
quiet_move Sizes = true
quiet_move Arrived = true
quiet_move (Modify c) = true
quiet_move (Set c) = true
quiet_move (WriteWord r v) = silent (role_of r)
quiet_move (Put r) = silent (role_of r)
quiet_move End = false

change_silent : (c : Change) → T (silent (role_of (change_register c)))
change_silent Reset = tt
change_silent Release = tt
change_silent ClearFifos = tt
change_silent (ClearFifo d) = tt
change_silent (Enable on) = tt
change_silent Restore = tt
change_silent Controller = tt
change_silent HalfFull = tt
change_silent (Watermark d w) = tt
change_silent (Sample p) = tt
change_silent (Peripheral on) = tt
change_silent (Polarity pcs p) = tt

move_quiet : (m : Move) (s : Sequence) → T (quiet_move m) → Quiet (move_access m s)
unfolding quiet_move
move_quiet (Keep r) s h = tt
move_quiet KeepClock s h = tt
move_quiet (Look r) s h = tt
move_quiet Wait s h = tt
move_quiet (WaitClock c) s h = tt
move_quiet (Size d) s h = tt
move_quiet Sizes s h = tt
move_quiet Arrived s h = tt
move_quiet (Modify c) s h = change_silent c
move_quiet (Set c) s h = change_silent c
move_quiet (WriteWord r v) s h = h
move_quiet (Put r) s h = h
move_quiet End s h = elim h [ ]

abbrev all_quiet : List Move → Bool
all_quiet [] = true
all_quiet (m ∷ ms) = quiet_move m && all_quiet ms

quiet_at : (ms : List Move) (d : Move) (i : ℕ) → T (all_quiet ms) → T (quiet_move d) → T (quiet_move (get_or ms i d))
quiet_at [] d i h hd = hd
quiet_at (m ∷ ms) d zero h hd = (and_yes (quiet_move m) (all_quiet ms) h).0
quiet_at (m ∷ ms) d (suc i) h hd = quiet_at ms d i (and_yes (quiet_move m) (all_quiet ms) h).1 hd

table_quiet : T (all_quiet recovery)
unfolding quiet_move
table_quiet = tt

last_quiet : T (quiet_move (WriteWord SR (cleared errors)))
unfolding quiet_move
last_quiet = tt

-- EVERY ACCESS OF THE RECOVERY
pub recovery_quiet : (s : Sequence) → Quiet (recovery_access s)
recovery_quiet s =
    move_quiet (recovery_move s.place) s (quiet_at recovery (WriteWord SR (cleared errors)) s.place table_quiet last_quiet)
