-- Frame sizes that are accepted and those that are not; and a command reads back, field by field, as what was asked.
-- Assumes nothing.
use Prim.Native.Nat.{ℕ, ◌-◌, ◌%◌, ◌<◌, ◌≤◌}
use mathlib.Core.Bool.{Bool, true, false, cond, not, ◌&&◌}
use mathlib.Core.Path.{◌≡◌, refl, ap, ◌∙◌}
use native.Mathlib.Omega.{arith}
use borrow.Author.Tests.{leb-true, lt-leb}
use lib.Dec.{leb, eqb, lit<}
use mathlib.Core.List.{List, [], ◌∷◌}
use native.Mathlib.Nat.{mod-eq_of_lt}
use Rattle.manual.specs.declared.Tcr.TheVariants.{FRAMESZ, TXMSK, RXMSK, CONTC, CONT, BYSW, LSBF, PCS, CPHA, CPOL}
use Rattle.manual.specs.declared.Field.TheVariants.{Tcr}
use Rattle.manual.specs.Bits.{get_bits}
use Rattle.manual.specs.Manual.{read_field, set_field, Setting}
use Rattle.manual.proofs.ManualLaws.{read_all, kept_outside}
use Rattle.words.specs.declared.order.BitOrder.{BitOrder}
use Rattle.words.specs.declared.order.BitOrder.TheVariants.{Msb, Lsb}
use Rattle.words.specs.declared.mode.Polarity.{Polarity}
use Rattle.words.specs.declared.mode.Polarity.TheVariants.{IdleLow, IdleHigh}
use Rattle.words.specs.declared.mode.Phase.{Phase}
use Rattle.words.specs.declared.mode.Phase.TheVariants.{CaptureOnFirstTransition, CaptureOnSecondTransition}
use Rattle.words.specs.declared.mode.Mode.{Mode}
use Rattle.words.specs.declared.mode.Pcs.{Pcs}
use Rattle.words.specs.declared.mode.Pcs.TheVariants.{Pcs0, Pcs1, Pcs2, Pcs3}
use Rattle.words.specs.declared.transaction.Direction.TheVariants.{Tx, Rx}
use Rattle.words.specs.declared.transaction.LpspiError.{LpspiError}
use Rattle.words.specs.declared.transaction.LpspiError.TheVariants.{FrameSize, Fifo}
use Rattle.words.specs.declared.transaction.Transaction.{Transaction}
use Rattle.std.specs.Prelude.{Ok, Err}
use Rattle.words.specs.Answer.{Answer, ok, refused, frame_size_number}
use Rattle.words.specs.Command.{frame_accepted, framed, error_number, command_answer, flag_of, lsbf_of, pcs_of}
use Rattle.words.specs.declared.transaction.Settings.{Settings}
use Rattle.words.specs.Command.{cpha_of, cpol_of, commanded, set_flag, bus_word, settings_word}

all_three : (a b c : Bool) → (a && b && c) ≡ true → (a ≡ true) × (b ≡ true)
all_three true true c h = (refl, refl)
all_three true false c h = (refl, h)
all_three false b c h = (h, cc)

pub accepted_between : (f : ℕ) → frame_accepted f ≡ true → (8 ≤ f) × (f ≤ 4096)
accepted_between f h = let p = all_three (leb 8 f) (leb f 4096) (not (eqb (f % 32) 1)) h in (leb-true 8 f p.0, leb-true f 4096 p.1)

pub framed_accepted : (f : ℕ) → frame_accepted f ≡ true → ok (f - 1) ≡ framed f
framed_accepted f h = let b = accepted_between f h in rw h (ap ok (omega arith))

pub framed_refused : (f : ℕ) → frame_accepted f ≡ false → refused frame_size_number ≡ framed f
framed_refused f h = rw h

pub refused_long : (f : ℕ) → 4096 < f → frame_accepted f ≡ false
refused_long f h = none (leb 8 f) (leb f 4096) (not (eqb (f % 32) 1)) (lt-leb f 4096 h)
  where
    none : (a b c : Bool) → b ≡ false → (a && b && c) ≡ false
    none true false c e = refl
    none true true c e = cc
    none false b c e = refl

-- an answer taken apart, as `let .. else` does: the command and its word, or no command
pub accepted_word : (f : ℕ) (t : Transaction) → command_answer (Ok t) ≡ framed f
    → (frame_accepted f ≡ true) × (t.0 ≡ set_field (Tcr FRAMESZ) (f - 1) 0)
accepted_word f t h = by_test (frame_accepted f) h
  where
    by_test : (b : Bool) → ok t.0 ≡ cond b (ok (set_field (Tcr FRAMESZ) (f - 1) 0)) (refused frame_size_number)
        → (b ≡ true) × (t.0 ≡ set_field (Tcr FRAMESZ) (f - 1) 0)
    by_test true e = (refl, ap (λ (a : Answer). a.value) e)
    by_test false e = let z : ◌≡◌ {A = ℕ} 0 1 = ap (λ (a : Answer). a.number) e in absurd (omega arith)

pub refused_size : (f : ℕ) (e : LpspiError) → command_answer (Err e) ≡ framed f → frame_accepted f ≡ false
refused_size f e h = by_test (frame_accepted f) (some e) (ap (λ (a : Answer). a.number) h)
  where
    some : (e : LpspiError) → 0 < error_number e
    some FrameSize = lit< tt
    some (Fifo Rx) = lit< tt
    some (Fifo Tx) = lit< tt

    by_test : (b : Bool) {n : ℕ} → 0 < n → n ≡ (cond b (ok (set_field (Tcr FRAMESZ) (f - 1) 0)) (refused frame_size_number)).number → b ≡ false
    by_test true h e = absurd (omega arith)
    by_test false h e = refl

-- the ten fields of TCR in a word: the settings, and f bits a frame; the bits between them, 17..12 and 29..26, are 0
pub record CommandReads (w : ℕ) (s : Settings) (f : ℕ) : Type 0 where
  pub frame_size : read_field (Tcr FRAMESZ) w ≡ f - 1
  pub transmit_mask : read_field (Tcr TXMSK) w ≡ flag_of s.transmit_mask
  pub receive_mask : read_field (Tcr RXMSK) w ≡ flag_of s.receive_mask
  pub continuing : read_field (Tcr CONTC) w ≡ flag_of s.continuing
  pub continuous : read_field (Tcr CONT) w ≡ flag_of s.continuous
  pub byte_swap : read_field (Tcr BYSW) w ≡ flag_of s.byte_swap
  pub order : read_field (Tcr LSBF) w ≡ lsbf_of s.order
  pub pcs : read_field (Tcr PCS) w ≡ pcs_of s.pcs
  pub phase : read_field (Tcr CPHA) w ≡ cpha_of s.mode.phase
  pub polarity : read_field (Tcr CPOL) w ≡ cpol_of s.mode.polarity
  pub below : get_bits 12 6 w ≡ 0
  pub above : get_bits 26 4 w ≡ 0

flag_lt : (b : Bool) → flag_of b % 2 ≡ flag_of b
flag_lt true = refl
flag_lt false = refl

lsbf_lt : (o : BitOrder) → lsbf_of o % 2 ≡ lsbf_of o
lsbf_lt Msb = refl
lsbf_lt Lsb = refl

pcs_lt : (p : Pcs) → pcs_of p % 4 ≡ pcs_of p
pcs_lt Pcs0 = refl
pcs_lt Pcs1 = refl
pcs_lt Pcs2 = refl
pcs_lt Pcs3 = refl

cpha_lt : (p : Phase) → cpha_of p % 2 ≡ cpha_of p
cpha_lt CaptureOnFirstTransition = refl
cpha_lt CaptureOnSecondTransition = refl

cpol_lt : (p : Polarity) → cpol_of p % 2 ≡ cpol_of p
cpol_lt IdleLow = refl
cpol_lt IdleHigh = refl

-- what a driver's command sets, the last first
abbrev bus : BitOrder → Mode → Pcs → ℕ → List Setting
bus o m p f =
    (Tcr PCS, pcs_of p) ∷ (Tcr CPOL, cpol_of m.polarity) ∷ (Tcr CPHA, cpha_of m.phase) ∷ (Tcr LSBF, lsbf_of o) ∷ (Tcr FRAMESZ, f - 1) ∷ []

-- a driver's settings, and the masks of a transfer: RXMSK where it only sends, TXMSK where it only receives
abbrev pub driven : BitOrder → Mode → Pcs → Bool → Bool → Settings
driven o m p receive_mask transmit_mask = record {
  byte_swap = false;
  order = o;
  receive_mask = receive_mask;
  transmit_mask = transmit_mask;
  continuous = false;
  continuing = false;
  mode = m;
  pcs = p;
}

-- READ BACK: every field of an accepted command
module _ (f : ℕ) (h : frame_accepted f ≡ true) where
  size_lt : (f - 1) % 4096 ≡ f - 1
  size_lt = mod-eq_of_lt (let b = accepted_between f h in omega arith)

  pub command_reads : (s : Settings) → CommandReads (commanded (settings_word s) f).value s f
  command_reads s = rw h (record {
    frame_size = read_all (Tcr FRAMESZ) all 0 tt ∙ size_lt;
    transmit_mask = read_all (Tcr TXMSK) all 0 tt ∙ flag_lt s.transmit_mask;
    receive_mask = read_all (Tcr RXMSK) all 0 tt ∙ flag_lt s.receive_mask;
    continuing = read_all (Tcr CONTC) all 0 tt ∙ flag_lt s.continuing;
    continuous = read_all (Tcr CONT) all 0 tt ∙ flag_lt s.continuous;
    byte_swap = read_all (Tcr BYSW) all 0 tt ∙ flag_lt s.byte_swap;
    order = read_all (Tcr LSBF) all 0 tt ∙ lsbf_lt s.order;
    pcs = read_all (Tcr PCS) all 0 tt ∙ pcs_lt s.pcs;
    phase = read_all (Tcr CPHA) all 0 tt ∙ cpha_lt s.mode.phase;
    polarity = read_all (Tcr CPOL) all 0 tt ∙ cpol_lt s.mode.polarity;
    below = kept_outside 12 6 all 0 tt;
    above = kept_outside 26 4 all 0 tt;
  })
    where
      all : List Setting
      all =
          (Tcr CONTC, flag_of s.continuing) ∷ (Tcr CONT, flag_of s.continuous) ∷ (Tcr TXMSK, flag_of s.transmit_mask)
          ∷ (Tcr RXMSK, flag_of s.receive_mask) ∷ (Tcr BYSW, flag_of s.byte_swap) ∷ bus s.order s.mode s.pcs f

  module _ (o : BitOrder) (m : Mode) (p : Pcs) where
    -- of a driver's command: what it does not set is 0
    pub bus_reads : CommandReads (commanded (bus_word o m p) f).value (driven o m p false false) f
    bus_reads = rw h (record {
      frame_size = read_all (Tcr FRAMESZ) (bus o m p f) 0 tt ∙ size_lt;
      transmit_mask = read_all (Tcr TXMSK) (bus o m p f) 0 tt;
      receive_mask = read_all (Tcr RXMSK) (bus o m p f) 0 tt;
      continuing = read_all (Tcr CONTC) (bus o m p f) 0 tt;
      continuous = read_all (Tcr CONT) (bus o m p f) 0 tt;
      byte_swap = read_all (Tcr BYSW) (bus o m p f) 0 tt;
      order = read_all (Tcr LSBF) (bus o m p f) 0 tt ∙ lsbf_lt o;
      pcs = read_all (Tcr PCS) (bus o m p f) 0 tt ∙ pcs_lt p;
      phase = read_all (Tcr CPHA) (bus o m p f) 0 tt ∙ cpha_lt m.phase;
      polarity = read_all (Tcr CPOL) (bus o m p f) 0 tt ∙ cpol_lt m.polarity;
      below = kept_outside 12 6 (bus o m p f) 0 tt;
      above = kept_outside 26 4 (bus o m p f) 0 tt;
    })

    -- of `write_no_read`
    pub write_reads : CommandReads (commanded (λ w. set_flag RXMSK true (bus_word o m p w)) f).value (driven o m p true false) f
    write_reads = rw h (record {
      frame_size = read_all (Tcr FRAMESZ) ((Tcr RXMSK, 1) ∷ bus o m p f) 0 tt ∙ size_lt;
      transmit_mask = read_all (Tcr TXMSK) ((Tcr RXMSK, 1) ∷ bus o m p f) 0 tt;
      receive_mask = read_all (Tcr RXMSK) ((Tcr RXMSK, 1) ∷ bus o m p f) 0 tt;
      continuing = read_all (Tcr CONTC) ((Tcr RXMSK, 1) ∷ bus o m p f) 0 tt;
      continuous = read_all (Tcr CONT) ((Tcr RXMSK, 1) ∷ bus o m p f) 0 tt;
      byte_swap = read_all (Tcr BYSW) ((Tcr RXMSK, 1) ∷ bus o m p f) 0 tt;
      order = read_all (Tcr LSBF) ((Tcr RXMSK, 1) ∷ bus o m p f) 0 tt ∙ lsbf_lt o;
      pcs = read_all (Tcr PCS) ((Tcr RXMSK, 1) ∷ bus o m p f) 0 tt ∙ pcs_lt p;
      phase = read_all (Tcr CPHA) ((Tcr RXMSK, 1) ∷ bus o m p f) 0 tt ∙ cpha_lt m.phase;
      polarity = read_all (Tcr CPOL) ((Tcr RXMSK, 1) ∷ bus o m p f) 0 tt ∙ cpol_lt m.polarity;
      below = kept_outside 12 6 ((Tcr RXMSK, 1) ∷ bus o m p f) 0 tt;
      above = kept_outside 26 4 ((Tcr RXMSK, 1) ∷ bus o m p f) 0 tt;
    })

    -- of `read_no_write`
    pub read_reads : CommandReads (commanded (λ w. set_flag TXMSK true (bus_word o m p w)) f).value (driven o m p false true) f
    read_reads = rw h (record {
      frame_size = read_all (Tcr FRAMESZ) ((Tcr TXMSK, 1) ∷ bus o m p f) 0 tt ∙ size_lt;
      transmit_mask = read_all (Tcr TXMSK) ((Tcr TXMSK, 1) ∷ bus o m p f) 0 tt;
      receive_mask = read_all (Tcr RXMSK) ((Tcr TXMSK, 1) ∷ bus o m p f) 0 tt;
      continuing = read_all (Tcr CONTC) ((Tcr TXMSK, 1) ∷ bus o m p f) 0 tt;
      continuous = read_all (Tcr CONT) ((Tcr TXMSK, 1) ∷ bus o m p f) 0 tt;
      byte_swap = read_all (Tcr BYSW) ((Tcr TXMSK, 1) ∷ bus o m p f) 0 tt;
      order = read_all (Tcr LSBF) ((Tcr TXMSK, 1) ∷ bus o m p f) 0 tt ∙ lsbf_lt o;
      pcs = read_all (Tcr PCS) ((Tcr TXMSK, 1) ∷ bus o m p f) 0 tt ∙ pcs_lt p;
      phase = read_all (Tcr CPHA) ((Tcr TXMSK, 1) ∷ bus o m p f) 0 tt ∙ cpha_lt m.phase;
      polarity = read_all (Tcr CPOL) ((Tcr TXMSK, 1) ∷ bus o m p f) 0 tt ∙ cpol_lt m.polarity;
      below = kept_outside 12 6 ((Tcr TXMSK, 1) ∷ bus o m p f) 0 tt;
      above = kept_outside 26 4 ((Tcr TXMSK, 1) ∷ bus o m p f) 0 tt;
    })
