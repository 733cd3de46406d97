-- `soft_reset` and `recover_from_error`, as a call and inside a transfer.
-- Assumes nothing.
use Rattle.std.specs.Prelude.{ℕ, Bool, List, [], ◌∷◌, ◌++◌, leb, length, get_or}
use Rattle.manual.specs.declared.Register.TheVariants.{CR, SR, IER, DER, CFGR0, CFGR1, DMR0, DMR1, CCR, FCR}
use Rattle.sequences.specs.declared.access.Access.{Access}
use Rattle.sequences.specs.declared.sequence.Change.TheVariants.{Reset, Release, ClearFifos, Restore}
use Rattle.sequences.specs.declared.sequence.Move.{Move}
use Rattle.sequences.specs.declared.sequence.Move.TheVariants.{Keep, KeepClock, Wait, Write, Put}
use Rattle.sequences.specs.declared.sequence.Sequence.{Sequence}
use Rattle.sequences.specs.Sequence.{move_access, moved, modify}
use Rattle.sequences.specs.Status.{cleared, errors}

-- what `soft_reset` and `init` share: reset and disabled, then released; the FIFOs cleared
abbrev pub reset_moves : List Move
reset_moves = modify Reset ++ Wait ∷ modify Release ++ modify ClearFifos

-- `soft_reset`: registers and enabled state kept; the reset; registers and enabled state restored
abbrev pub soft_reset : List Move
soft_reset =
    Keep IER
    ∷ Keep DER
    ∷ Keep CFGR0
    ∷ Keep CFGR1
    ∷ Keep DMR0
    ∷ Keep DMR1
    ∷ KeepClock
    ∷ Keep FCR
    ∷ Keep CR
    ∷ reset_moves
    ++ Put IER
    ∷ Put DER
    ∷ Put CFGR0
    ∷ Put CFGR1
    ∷ Put DMR0
    ∷ Put DMR1
    ∷ Put CCR
    ∷ Put FCR
    ∷ modify Restore

-- `clear_status` writes its flags masked by 3F00
abbrev pub clear_status : ℕ → List Move
clear_status flags = Write SR (cleared flags) ∷ []

-- `recover_from_error`: `soft_reset`, then the error flags cleared
abbrev pub recovery : List Move
recovery = soft_reset ++ clear_status errors

-- INSIDE A TRANSFER

-- past its end the last move stands, so that a recovery always has an access due; it has ended before (`recovered`; machine `BoundLaws`)
abbrev pub recovery_move : ℕ → Move
recovery_move place = get_or recovery place (Write SR (cleared errors))

abbrev pub recovery_access : Sequence → Access
recovery_access s = move_access (recovery_move s.place) s

abbrev pub recovered : Sequence → Bool
recovered s = leb (length recovery) s.place

abbrev pub recovery_after : Sequence → ℕ → Sequence
recovery_after s v = moved (recovery_move s.place) s v
