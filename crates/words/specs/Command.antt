-- The command of a transfer (document 01, Commands): TCR's word.
-- Assumes nothing.
use Rattle.std.specs.Prelude.{ℕ, ◌+◌, ◌*◌, ◌-◌, ◌%◌, Bool, true, false, cond, not, ◌&&◌, leb, eqb, Result, Ok, Err}
use Rattle.words.specs.declared.order.BitOrder.{BitOrder}
use Rattle.words.specs.declared.order.BitOrder.TheVariants.{Msb, Lsb}
use Rattle.words.specs.declared.mode.Polarity.{Polarity}
use Rattle.words.specs.declared.mode.Polarity.TheVariants.{IdleLow, IdleHigh}
use Rattle.words.specs.declared.mode.Phase.{Phase}
use Rattle.words.specs.declared.mode.Phase.TheVariants.{CaptureOnFirstTransition, CaptureOnSecondTransition}
use Rattle.words.specs.declared.mode.Mode.{Mode}
use Rattle.words.specs.declared.mode.Pcs.{Pcs}
use Rattle.words.specs.declared.mode.Pcs.TheVariants.{Pcs0, Pcs1, Pcs2, Pcs3}
use Rattle.manual.specs.declared.Tcr.{Tcr as TcrField}
use Rattle.manual.specs.declared.Tcr.TheVariants.{FRAMESZ, TXMSK, RXMSK, CONTC, CONT, BYSW, LSBF, PCS, CPHA, CPOL}
use Rattle.manual.specs.declared.Field.TheVariants.{Tcr}
use Rattle.words.specs.declared.transaction.Direction.TheVariants.{Tx, Rx}
use Rattle.words.specs.declared.transaction.LpspiError.{LpspiError}
use Rattle.words.specs.declared.transaction.LpspiError.TheVariants.{FrameSize, Fifo}
use Rattle.words.specs.declared.transaction.Settings.{Settings}
use Rattle.words.specs.declared.transaction.Transaction.{Transaction}
use Rattle.words.specs.Answer.{Answer, ok, refused, frame_size_number, receive_error_number, transmit_error_number}
use Rattle.manual.specs.Manual.{set_field}

-- frame size f in bits is accepted if 8 ≤ f ≤ 4096 and f mod 32 is not 1
abbrev pub frame_accepted : ℕ → Bool
frame_accepted f = leb 8 f && leb f 4096 && not (eqb (f % 32) 1)

-- the command of a frame of f bits, with `set` done to its word: FRAMESZ is f − 1; with 1 there is no command
abbrev pub commanded : (ℕ → ℕ) → ℕ → Answer
commanded set f = cond (frame_accepted f) (ok (set (set_field (Tcr FRAMESZ) (f - 1) 0))) (refused frame_size_number)

-- `new`: every other field is 0
abbrev pub framed : ℕ → Answer
framed f = commanded (λ w. w) f

-- 1 FrameSize, 2 Fifo(Rx), 3 Fifo(Tx)
abbrev pub error_number : LpspiError → ℕ
error_number FrameSize = frame_size_number
error_number (Fifo Rx) = receive_error_number
error_number (Fifo Tx) = transmit_error_number

-- a command's word with 0, or the error's number
abbrev pub command_answer : Result Transaction LpspiError → Answer
command_answer (Ok t) = ok t.0
command_answer (Err e) = refused (error_number e)

-- the values of the fields: a flag; LSBF; PCS; CPOL; CPHA
abbrev pub flag_of : Bool → ℕ
flag_of true = 1
flag_of false = 0

abbrev pub lsbf_of : BitOrder → ℕ
lsbf_of Msb = 0
lsbf_of Lsb = 1

abbrev pub pcs_of : Pcs → ℕ
pcs_of Pcs0 = 0
pcs_of Pcs1 = 1
pcs_of Pcs2 = 2
pcs_of Pcs3 = 3

-- 1 idles high
abbrev pub cpol_of : Polarity → ℕ
cpol_of IdleLow = 0
cpol_of IdleHigh = 1

-- 1 captures on the second transition
abbrev pub cpha_of : Phase → ℕ
cpha_of CaptureOnFirstTransition = 0
cpha_of CaptureOnSecondTransition = 1

-- MODE_0 has CPOL and CPHA 0, MODE_3 both 1; in MODE_1 only CPHA is 1, in MODE_2 only CPOL (private contracts cite it)
abbrev pub mode_number : Mode → ℕ
mode_number m = 2 * cpol_of m.polarity + cpha_of m.phase

-- "Setters of `Transaction` change .. only their own field": what each makes of a command's word
abbrev pub set_flag : TcrField → Bool → ℕ → ℕ
set_flag f on w = set_field (Tcr f) (flag_of on) w

abbrev pub set_order : BitOrder → ℕ → ℕ
set_order o w = set_field (Tcr LSBF) (lsbf_of o) w

abbrev pub set_mode : Mode → ℕ → ℕ
set_mode m w = set_field (Tcr CPOL) (cpol_of m.polarity) (set_field (Tcr CPHA) (cpha_of m.phase) w)

abbrev pub set_pcs : Pcs → ℕ → ℕ
set_pcs p w = set_field (Tcr PCS) (pcs_of p) w

-- the command of a driver: its order, mode and chip select
abbrev pub bus_word : BitOrder → Mode → Pcs → ℕ → ℕ
bus_word o m p w = set_pcs p (set_mode m (set_order o w))

-- all that a command says but its frame size
abbrev pub settings_word : Settings → ℕ → ℕ
settings_word s w =
    set_flag CONTC s.continuing
    (set_flag CONT s.continuous
    (set_flag TXMSK s.transmit_mask
    (set_flag RXMSK s.receive_mask (set_flag BYSW s.byte_swap (bus_word s.order s.mode s.pcs w)))))
