-- The table of the i.MX RT1060 Reference Manual, chapter LPSPI, as far as document 01 names it (SR: the flags of the Rust's `Status`;
-- RSR's SOF beside): each register's byte offset, and each field's lowest bit and width. Every definition that speaks of a field cites
-- this table.
-- Assumes nothing.
use Rattle.std.specs.Prelude.{ℕ, List, [], ◌∷◌}
use Rattle.manual.specs.declared.Register.{Register}
use Rattle.manual.specs.declared.Register.TheVariants.{PARAM, CR, SR, IER, DER, CFGR0, CFGR1, DMR0}
use Rattle.manual.specs.declared.Register.TheVariants.{DMR1, CCR, FCR, FSR, TCR, TDR, RSR, RDR}
use Rattle.manual.specs.declared.Param.{Param as ParamField}
use Rattle.manual.specs.declared.Param.TheVariants.{TXFIFO, RXFIFO}
use Rattle.manual.specs.declared.Cr.{Cr as CrField}
use Rattle.manual.specs.declared.Cr.TheVariants.{MEN, RST, RTF, RRF}
use Rattle.manual.specs.declared.Sr.{Sr as SrField}
use Rattle.manual.specs.declared.Sr.TheVariants.{TDF, RDF, WCF, FCF, TCF, TEF, REF, DMF, MBF}
use Rattle.manual.specs.declared.Cfgr1.{Cfgr1 as Cfgr1Field}
use Rattle.manual.specs.declared.Cfgr1.TheVariants.{MASTER, SAMPLE, PCSPOL}
use Rattle.manual.specs.declared.Ccr.{Ccr as CcrField}
use Rattle.manual.specs.declared.Ccr.TheVariants.{SCKDIV, DBT, PCSSCK, SCKPCS}
use Rattle.manual.specs.declared.Fcr.{Fcr as FcrField}
use Rattle.manual.specs.declared.Fcr.TheVariants.{TXWATER, RXWATER}
use Rattle.manual.specs.declared.Fsr.{Fsr as FsrField}
use Rattle.manual.specs.declared.Fsr.TheVariants.{TXCOUNT, RXCOUNT}
use Rattle.manual.specs.declared.Tcr.{Tcr as TcrField}
use Rattle.manual.specs.declared.Tcr.TheVariants.{FRAMESZ, TXMSK, RXMSK, CONTC, CONT, BYSW, LSBF, PCS, CPHA, CPOL}
use Rattle.manual.specs.declared.Rsr.{Rsr as RsrField}
use Rattle.manual.specs.declared.Rsr.TheVariants.{SOF, RXEMPTY}
use Rattle.manual.specs.declared.Field.{Field}
use Rattle.manual.specs.declared.Field.TheVariants.{Param, Cr, Sr, Cfgr1, Ccr, Fcr, Fsr, Tcr, Rsr}
use Rattle.manual.specs.Bits.{Bits, bits, get_bits, set_bits}

abbrev pub offset_of : Register → ℕ
offset_of PARAM = 0x04
offset_of CR = 0x10
offset_of SR = 0x14
offset_of IER = 0x18
offset_of DER = 0x1C
offset_of CFGR0 = 0x20
offset_of CFGR1 = 0x24
offset_of DMR0 = 0x30
offset_of DMR1 = 0x34
offset_of CCR = 0x40
offset_of FCR = 0x58
offset_of FSR = 0x5C
offset_of TCR = 0x60
offset_of TDR = 0x64
offset_of RSR = 0x70
offset_of RDR = 0x74

-- a field is its lowest bit and its width
abbrev pub param_bits : ParamField → Bits
param_bits TXFIFO = bits 0 8
param_bits RXFIFO = bits 8 8

abbrev pub cr_bits : CrField → Bits
cr_bits MEN = bits 0 1
cr_bits RST = bits 1 1
cr_bits RTF = bits 8 1
cr_bits RRF = bits 9 1

abbrev pub sr_bits : SrField → Bits
sr_bits TDF = bits 0 1
sr_bits RDF = bits 1 1
sr_bits WCF = bits 8 1
sr_bits FCF = bits 9 1
sr_bits TCF = bits 10 1
sr_bits TEF = bits 11 1
sr_bits REF = bits 12 1
sr_bits DMF = bits 13 1
sr_bits MBF = bits 24 1

abbrev pub cfgr1_bits : Cfgr1Field → Bits
cfgr1_bits MASTER = bits 0 1
cfgr1_bits SAMPLE = bits 1 1
cfgr1_bits PCSPOL = bits 8 4

abbrev pub ccr_bits : CcrField → Bits
ccr_bits SCKDIV = bits 0 8
ccr_bits DBT = bits 8 8
ccr_bits PCSSCK = bits 16 8
ccr_bits SCKPCS = bits 24 8

abbrev pub fcr_bits : FcrField → Bits
fcr_bits TXWATER = bits 0 4
fcr_bits RXWATER = bits 16 4

abbrev pub fsr_bits : FsrField → Bits
fsr_bits TXCOUNT = bits 0 5
fsr_bits RXCOUNT = bits 16 5

abbrev pub tcr_bits : TcrField → Bits
tcr_bits FRAMESZ = bits 0 12
tcr_bits TXMSK = bits 18 1
tcr_bits RXMSK = bits 19 1
tcr_bits CONTC = bits 20 1
tcr_bits CONT = bits 21 1
tcr_bits BYSW = bits 22 1
tcr_bits LSBF = bits 23 1
tcr_bits PCS = bits 24 2
tcr_bits CPHA = bits 30 1
tcr_bits CPOL = bits 31 1

abbrev pub rsr_bits : RsrField → Bits
rsr_bits SOF = bits 0 1
rsr_bits RXEMPTY = bits 1 1

abbrev pub bits_of : Field → Bits
bits_of (Param f) = param_bits f
bits_of (Cr f) = cr_bits f
bits_of (Sr f) = sr_bits f
bits_of (Cfgr1 f) = cfgr1_bits f
bits_of (Ccr f) = ccr_bits f
bits_of (Fcr f) = fcr_bits f
bits_of (Fsr f) = fsr_bits f
bits_of (Tcr f) = tcr_bits f
bits_of (Rsr f) = rsr_bits f

abbrev pub register_of : Field → Register
register_of (Param f) = PARAM
register_of (Cr f) = CR
register_of (Sr f) = SR
register_of (Cfgr1 f) = CFGR1
register_of (Ccr f) = CCR
register_of (Fcr f) = FCR
register_of (Fsr f) = FSR
register_of (Tcr f) = TCR
register_of (Rsr f) = RSR

-- a field's value in its register's word
abbrev pub read_field : Field → ℕ → ℕ
read_field f w = get_bits (bits_of f).position (bits_of f).width w

-- the word with only that field changed; the value is masked to the field
abbrev pub set_field : Field → ℕ → ℕ → ℕ
set_field f v w = set_bits (bits_of f).position (bits_of f).width v w

-- several fields set, the last one first in the list
abbrev pub Setting : Type 0
Setting = Field × ℕ

abbrev pub set_all : List Setting → ℕ → ℕ
set_all [] w = w
set_all (s ∷ ss) w = set_field s.0 s.1 (set_all ss w)
