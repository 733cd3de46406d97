-- A call as a sequence of moves, each one register access, and what a move does. `modify_reg!` is `modify`: a read (Look), then a write
-- with only the named fields changed (Modify). `write_reg!` of fields is Set, of a word Write.
-- Assumes nothing.
use Rattle.std.specs.Prelude.{ℕ, ◌+◌, ◌-◌, ◌/◌, ◌^◌, min, Bool, true, false, cond, not, ◌||◌, ltb, eqb, Ok}
use Rattle.std.specs.Prelude.{List, [], ◌∷◌, get_or, set, replicate}
use Rattle.manual.specs.declared.Ccr.TheVariants.{DBT, SCKDIV}
use Rattle.manual.specs.declared.Cfgr1.TheVariants.{MASTER, SAMPLE, PCSPOL}
use Rattle.manual.specs.declared.Cr.TheVariants.{MEN, RST, RTF, RRF}
use Rattle.manual.specs.declared.Fcr.TheVariants.{TXWATER, RXWATER}
use Rattle.manual.specs.declared.Param.TheVariants.{TXFIFO, RXFIFO}
use Rattle.manual.specs.declared.Rsr.TheVariants.{RXEMPTY}
use Rattle.manual.specs.declared.Field.{Field}
use Rattle.manual.specs.declared.Field.TheVariants.{Cr, Cfgr1, Ccr, Fcr, Param, Rsr}
use Rattle.manual.specs.declared.Register.{Register}
use Rattle.manual.specs.declared.Register.TheVariants.{PARAM, CR, SR, IER, DER, CFGR0, CFGR1, DMR0}
use Rattle.manual.specs.declared.Register.TheVariants.{DMR1, CCR, FCR, FSR, TCR, TDR, RSR, RDR}
use Rattle.manual.specs.Bits.{set_bits}
use Rattle.manual.specs.Manual.{read_field, set_field, Setting, set_all}
use Rattle.words.specs.declared.mode.Pcs.{Pcs}
use Rattle.words.specs.declared.transaction.Direction.{Direction}
use Rattle.words.specs.declared.transaction.Direction.TheVariants.{Tx, Rx}
use Rattle.words.specs.Command.{flag_of, pcs_of}
use Rattle.sequences.specs.declared.access.Access.{Access}
use Rattle.sequences.specs.declared.access.Access.TheVariants.{Read, Write as WriteWord, Done}
use Rattle.sequences.specs.declared.driver.CcrCache.{CcrCache}
use Rattle.sequences.specs.declared.driver.Lpspi.{Lpspi}
use Rattle.sequences.specs.declared.settings.PcsPolarity.{PcsPolarity}
use Rattle.sequences.specs.declared.sequence.Change.{Change}
use Rattle.sequences.specs.declared.sequence.Change.TheVariants.{Reset, Release, ClearFifos, ClearFifo, Enable, Restore}
use Rattle.sequences.specs.declared.sequence.Change.TheVariants.{Controller, HalfFull, Watermark, Sample, Peripheral, Polarity}
use Rattle.sequences.specs.declared.sequence.Move.{Move}
use Rattle.sequences.specs.declared.sequence.Move.TheVariants.{Keep, KeepClock, Look, Wait, WaitClock, Size, Sizes, Arrived}
use Rattle.sequences.specs.declared.sequence.Move.TheVariants.{Modify, Set, Write, Put, End}
use Rattle.sequences.specs.declared.sequence.Sequence.{Sequence}
use Rattle.sequences.specs.Driver.{with_clock}
use Rattle.sequences.specs.Settings.{sample_of, pcspol_of}

-- WHAT A SEQUENCE HOLDS

-- the place of a register among the kept ones
abbrev pub slot_of : Register → ℕ
slot_of PARAM = 0
slot_of CR = 1
slot_of SR = 2
slot_of IER = 3
slot_of DER = 4
slot_of CFGR0 = 5
slot_of CFGR1 = 6
slot_of DMR0 = 7
slot_of DMR1 = 8
slot_of CCR = 9
slot_of FCR = 10
slot_of FSR = 11
slot_of TCR = 12
slot_of TDR = 13
slot_of RSR = 14
slot_of RDR = 15

abbrev pub kept_of : Register → List ℕ → ℕ
kept_of r kept = get_or kept (slot_of r) 0

-- at the start nothing is kept or held
abbrev pub sequence_start : Lpspi → Sequence
sequence_start d = record { place = 0; held = 0; kept = replicate 16 0; oversize = false; driver = d }

-- one move on; no table has more than 27 moves (`CallLaws.table_fits`)
abbrev pub further : ℕ → ℕ
further place = cond (ltb place 27) (place + 1) place

abbrev pub onward : Sequence → Sequence
onward s = record s { place = further s.place }

abbrev pub holding : ℕ → Sequence → Sequence
holding v s = record s { held = v }

abbrev pub keeping : Register → ℕ → Sequence → Sequence
keeping r v s = record s { kept = set s.kept (slot_of r) v }

abbrev pub oversized : Sequence → Sequence
oversized s = record s { oversize = true }

abbrev pub driving : Lpspi → Sequence → Sequence
driving d s = record s { driver = d }

-- FIELDS

-- the FIFO exponent of a direction
abbrev pub exponent_of : Direction → ℕ → ℕ
exponent_of Tx param = read_field (Param TXFIFO) param
exponent_of Rx param = read_field (Param RXFIFO) param

-- "an exponent over 4 in either field"
abbrev pub too_deep : ℕ → Bool
too_deep param = ltb 4 (exponent_of Tx param) || ltb 4 (exponent_of Rx param)

-- the words of a direction's FIFO, 2^exponent, 16 at most; no exponent over 4 comes to be asked, since 7 refuses it (`DepthLaws`, and of
-- polls machine's `BoundLaws`)
abbrev pub depth_of : Direction → ℕ → ℕ
depth_of d param = 2 ^ min (exponent_of d param) 4

-- a watermark is at most the FIFO's depth less one
abbrev pub level_of : Direction → ℕ → ℕ → ℕ
level_of d watermark param = min watermark (depth_of d param - 1)

-- the field of a direction's watermark
abbrev pub water_of : Direction → Field
water_of Tx = Fcr TXWATER
water_of Rx = Fcr RXWATER

-- the bit that empties a direction's FIFO
abbrev pub fifo_reset : Direction → Field
fifo_reset Tx = Cr RTF
fifo_reset Rx = Cr RRF

-- PCSPOL with the bit of one chip select changed
abbrev pub polarized : Pcs → PcsPolarity → ℕ → ℕ
polarized pcs p pcspol = set_bits (pcs_of pcs) 1 (pcspol_of p) pcspol

-- CCR as `clock_configs` gives it: DBT and SCKDIV from the driver's cache
abbrev pub cached_in : CcrCache → ℕ → ℕ
cached_in c ccr = set_field (Ccr DBT) c.dbt (set_field (Ccr SCKDIV) c.sckdiv ccr)

-- WHAT IS CHANGED

-- the register of the fields
abbrev pub change_register : Change → Register
change_register Reset = CR
change_register Release = CR
change_register ClearFifos = CR
change_register (ClearFifo d) = CR
change_register (Enable on) = CR
change_register Restore = CR
change_register Controller = CFGR1
change_register HalfFull = FCR
change_register (Watermark d w) = FCR
change_register (Sample p) = CFGR1
change_register (Peripheral on) = CFGR1
change_register (Polarity pcs p) = CFGR1

-- the named fields and their values, where these registers were kept
abbrev pub settings_of : Change → List ℕ → List Setting
settings_of Reset kept = (Cr RST, 1) ∷ (Cr MEN, 0) ∷ []
settings_of Release kept = (Cr RST, 0) ∷ []
settings_of ClearFifos kept = (Cr RRF, 1) ∷ (Cr RTF, 1) ∷ []
settings_of (ClearFifo d) kept = (fifo_reset d, 1) ∷ []
settings_of (Enable on) kept = (Cr MEN, flag_of on) ∷ []
settings_of Restore kept = (Cr MEN, read_field (Cr MEN) (kept_of CR kept)) ∷ []
settings_of Controller kept = (Cfgr1 SAMPLE, 1) ∷ (Cfgr1 MASTER, 1) ∷ []
settings_of HalfFull kept = (Fcr TXWATER, depth_of Tx (kept_of PARAM kept) / 2) ∷ (Fcr RXWATER, 0) ∷ []
settings_of (Watermark d watermark) kept = (water_of d, level_of d watermark (kept_of PARAM kept)) ∷ []
settings_of (Sample p) kept = (Cfgr1 SAMPLE, sample_of p) ∷ []
settings_of (Peripheral on) kept = (Cfgr1 MASTER, flag_of (not on)) ∷ []
settings_of (Polarity pcs p) kept = (Cfgr1 PCSPOL, polarized pcs p (read_field (Cfgr1 PCSPOL) (kept_of CFGR1 kept))) ∷ []

-- a register's word with only these fields changed, each value masked to its field
abbrev pub changed : Change → List ℕ → ℕ → ℕ
changed c kept w = set_all (settings_of c kept) w

-- THE MOVES

-- the access that is due
abbrev pub move_access : Move → Sequence → Access
move_access (Keep r) s = Read r
move_access KeepClock s = Read CCR
move_access (Look r) s = Read r
move_access Wait s = Read CR
move_access (WaitClock c) s = Read CR
move_access (Size d) s = Read PARAM
move_access Sizes s = Read PARAM
move_access Arrived s = Read RSR
move_access (Modify c) s = WriteWord (change_register c) (changed c s.kept s.held)
move_access (Set c) s = WriteWord (change_register c) (changed c s.kept 0)
move_access (Write r w) s = WriteWord r w
move_access (Put r) s = WriteWord r (kept_of r s.kept)
move_access End s = Done (Ok tt)

-- The sequence after a move that was answered v.
-- KeepClock: `soft_reset` writes DBT and SCKDIV from the driver's cache.
-- WaitClock: the cache takes the new DBT and SCKDIV once MEN has read 0, before the check for the CCR write.
-- Size: 7 right after PARAM, where the direction's exponent is over 4. Sizes: the same, where either exponent is.
-- Arrived: RDR only if RXEMPTY is 0; otherwise the read of RDR is passed over.
abbrev pub moved : Move → Sequence → ℕ → Sequence
moved (Keep r) s v = onward (keeping r v s)
moved KeepClock s v = onward (keeping CCR (cached_in s.driver.cache v) s)
moved (Look r) s v = onward (holding v s)
moved Wait s v = cond (eqb (read_field (Cr MEN) v) 1) s (onward s)
moved (WaitClock c) s v = cond (eqb (read_field (Cr MEN) v) 1) s (onward (driving (with_clock c s.driver) s))
moved (Size d) s v = cond (ltb 4 (exponent_of d v)) (oversized s) (onward (keeping PARAM v s))
moved Sizes s v = cond (too_deep v) (oversized s) (onward (keeping PARAM v s))
moved Arrived s v = cond (eqb (read_field (Rsr RXEMPTY) v) 0) (onward (keeping RSR v s)) (onward (onward (keeping RSR v s)))
moved (Modify c) s v = onward s
moved (Set c) s v = onward s
moved (Write r w) s v = onward s
moved (Put r) s v = onward s
moved End s v = s

-- TABLES

-- `modify_reg!`
abbrev pub modify : Change → List Move
modify c = Look (change_register c) ∷ Modify c ∷ []

-- the move at a place; past the table, End
abbrev pub move_at : List Move → ℕ → Move
move_at moves place = get_or moves place End
