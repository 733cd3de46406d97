-- What polls and flush make of the registers of an end: SR's flags, PARAM's depth, FSR's counts.
-- Assumes nothing.
use Prim.Native.Nat.{ℕ, zero, suc, ◌^◌, ◌%◌, ◌<◌, ◌≤◌}
use mathlib.Core.Bool.{Bool, true, false}
use mathlib.Core.List.{List, [], ◌∷◌}
use mathlib.Core.Path.{◌≡◌, refl, ap, ◌∙◌}
use native.Mathlib.Nat.{mod-eq_of_lt}
use native.Mathlib.Omega.{arith}
use Rattle.std.proofs.Math.Pow.{pow_mono}
use lib.Dec.{eqb}
use lib.ListN.{length}
use borrow.Author.Tests.{le-ltb}
use Rattle.manual.specs.declared.Field.TheVariants.{Sr, Fsr, Param}
use Rattle.manual.specs.declared.Fsr.TheVariants.{TXCOUNT, RXCOUNT}
use Rattle.manual.specs.declared.Param.TheVariants.{TXFIFO, RXFIFO}
use Rattle.manual.specs.declared.Sr.TheVariants.{TEF, REF, MBF}
use Rattle.manual.specs.Manual.{read_field, Setting}
use Rattle.manual.proofs.ManualLaws.{read_all}
use Rattle.words.specs.Command.{flag_of}
use Rattle.words.specs.declared.transaction.Direction.{Direction}
use Rattle.words.specs.declared.transaction.Direction.TheVariants.{Tx, Rx}
use Rattle.sequences.specs.Sequence.{exponent_of, too_deep, depth_of}
use Rattle.sequences.proofs.DepthLaws.{true_depth}
use Rattle.agreement.specs.declared.register.Role.TheVariants.{Sizes as sizes, Status as status, Counts as counts}
use Rattle.agreement.specs.End.{Wire, shows_by}

-- a flag is read back from its bit
flag_back : (b : Bool) → eqb (flag_of b % 2 ^ 1) 1 ≡ b
flag_back true = refl
flag_back false = refl

module _ (e : ℕ) (busy : Bool) (w : Wire) where
  -- the transmit error flag is T, the receive error flag R, the busy flag what the step has
  abbrev flags : List Setting
  flags = (Sr TEF, flag_of w.t) ∷ (Sr REF, flag_of w.r) ∷ (Sr MBF, flag_of busy) ∷ []

  pub shows_t : (held : ℕ) → eqb (read_field (Sr TEF) (shows_by e busy w status held)) 1 ≡ w.t
  shows_t held = ap (λ (n : ℕ). eqb n 1) (read_all (Sr TEF) flags 0 tt) ∙ flag_back w.t

  pub shows_r : (held : ℕ) → eqb (read_field (Sr REF) (shows_by e busy w status held)) 1 ≡ w.r
  shows_r held = ap (λ (n : ℕ). eqb n 1) (read_all (Sr REF) flags 0 tt) ∙ flag_back w.r

  pub shows_busy : (held : ℕ) → eqb (read_field (Sr MBF) (shows_by e busy w status held)) 1 ≡ busy
  shows_busy held = ap (λ (n : ℕ). eqb n 1) (read_all (Sr MBF) flags 0 tt) ∙ flag_back busy

  -- both of PARAM's fields are the exponent
  shows_exponent : (d : Direction) (held : ℕ) → e ≤ 4 → exponent_of d (shows_by e busy w sizes held) ≡ e
  shows_exponent Tx held h =
      let l : e < 2 ^ 8 = omega arith in read_all (Param TXFIFO) ((Param RXFIFO, e) ∷ (Param TXFIFO, e) ∷ []) 0 tt ∙ mod-eq_of_lt l
  shows_exponent Rx held h =
      let l : e < 2 ^ 8 = omega arith in read_all (Param RXFIFO) ((Param RXFIFO, e) ∷ (Param TXFIFO, e) ∷ []) 0 tt ∙ mod-eq_of_lt l

  -- neither is over 4: no poll and no flush answers 7 over the bus
  pub shows_fit : (held : ℕ) → e ≤ 4 → too_deep (shows_by e busy w sizes held) ≡ false
  shows_fit held h = rw (shows_exponent Tx held h, shows_exponent Rx held h, le-ltb 4 e h) refl

  -- and the depth is the capacity
  pub shows_depth : (held : ℕ) → e ≤ 4 → depth_of Tx (shows_by e busy w sizes held) ≡ 2 ^ e
  shows_depth held h =
      let x = shows_exponent Tx held h in
      true_depth Tx (shows_by e busy w sizes held) (omega (arith, x)) ∙ ap (λ (n : ℕ). 2 ^ n) x

  -- FSR counts the queues, of at most 16 places each
  pub shows_transmit : (held : ℕ) → length w.transmit ≤ 16
      → read_field (Fsr TXCOUNT) (shows_by e busy w counts held) ≡ length w.transmit
  shows_transmit held h =
      let l : length w.transmit < 2 ^ 5 = omega arith in
      read_all (Fsr TXCOUNT) ((Fsr RXCOUNT, length w.receive) ∷ (Fsr TXCOUNT, length w.transmit) ∷ []) 0 tt ∙ mod-eq_of_lt l

  pub shows_receive : (held : ℕ) → length w.receive ≤ 16 → read_field (Fsr RXCOUNT) (shows_by e busy w counts held) ≡ length w.receive
  shows_receive held h =
      let l : length w.receive < 2 ^ 5 = omega arith in
      read_all (Fsr RXCOUNT) ((Fsr RXCOUNT, length w.receive) ∷ (Fsr TXCOUNT, length w.transmit) ∷ []) 0 tt ∙ mod-eq_of_lt l

pub below_capacity : (e : ℕ) → e < 2 ^ e
below_capacity zero = omega arith
below_capacity (suc e) = omega (arith, below_capacity e)

pub capacity_small : (e : ℕ) → e ≤ 4 → 2 ^ e ≤ 16
capacity_small e h = pow_mono h
