-- Demand 3 of what a host is left with by `lpspi_trial_*`: where the number is 0, the read buffers that it lent and both ends satisfy
-- `Agreement`; and what a host may conclude from the words of the states alone.
-- Assumes nothing.
use Prim.Native.Nat.{ℕ, ◌+◌, ◌-◌, ◌/◌, ◌<◌, ◌≤◌}
use mathlib.Core.Bool.{Bool, true, false, cond, ◌||◌}
use mathlib.Core.List.{List}
use mathlib.Core.Path.{◌≡◌, refl, sym, ap, ◌∙◌}
use native.Mathlib.Omega.{arith}
use lib.ListN.{length, get_or}
use Rattle.words.specs.declared.width.Width.{Width}
use Rattle.words.specs.declared.width.Width.TheVariants.{U8, U16, U32}
use Rattle.words.specs.Width.{width_bits}
use Rattle.words.proofs.LaidLaws.{laid_at}
use Rattle.words.proofs.WordLaws.{Elements}
use Rattle.agreement.specs.Start.{Start, unequal, unfit}
use Rattle.agreement.specs.Agreement.{Seen, OkTwice, Holds, Agreement}
use Rattle.agreement.specs.Codes.{events_of}
use Rattle.agreement.proofs.Demand3.{agreement}
use Rattle.bus.specs.Trial.{start_of, unpaired, TrialLeft, trial_of}
use Rattle.c_api.specs.HostBus.{board_of, state_words, commands_in, pair_words, state_left, HostTrial, trial_by}
use Rattle.c_api.proofs.AnswerLaws.{ok_of_numbers}
use Rattle.c_api.proofs.PairLaws.{word_gate, word_antenna, word_gate_commands, word_antenna_commands, length_both}

-- boards of one width that are not refused fit
fits_at : (w : Width) (b : Bool) → (unequal (width_bits w) (width_bits w) || b) ≡ false → b ≡ false
fits_at U8 b h = h
fits_at U16 b h = h
fits_at U32 b h = h

fits_by : (b : Bool) (x y : TrialLeft) → x.number ≡ 9 → (cond b x y).number ≡ 0 → b ≡ false
fits_by true x y e h = absurd (omega (arith, e, h))
fits_by false x y e h = refl

module _ (w : Width) (gate_driver antenna_driver inplace gate_exponent antenna_exponent : ℕ)
    (gate_read gate_write antenna_read antenna_write events state : List ℕ) where
  abbrev pub gate_start : Start
  gate_start = start_of (board_of w gate_driver inplace gate_exponent) gate_read gate_write

  abbrev pub antenna_start : Start
  antenna_start = start_of (board_of w antenna_driver (inplace / 2) antenna_exponent) antenna_read antenna_write

  abbrev pub left : HostTrial
  left = trial_by w gate_driver antenna_driver inplace gate_exponent antenna_exponent gate_read gate_write antenna_read antenna_write events state

  abbrev pub outcome : TrialLeft
  outcome =
      trial_of (width_bits w) (board_of w gate_driver inplace gate_exponent) (board_of w antenna_driver (inplace / 2) antenna_exponent)
      gate_read gate_write antenna_read antenna_write events

  small : (p : Bool) (reads writes : List ℕ) → Elements (width_bits w) reads → Elements (width_bits w) writes
      → Elements (width_bits w) (cond p reads writes)
  small true reads writes r s = r
  small false reads writes r s = s

  -- DEMAND 3, over the read buffers that the host lent
  pub host_agreement : Elements (width_bits w) gate_read → Elements (width_bits w) gate_write → Elements (width_bits w) antenna_read
      → Elements (width_bits w) antenna_write → left.number ≡ 0
      → Agreement gate_start antenna_start (events_of events) outcome.gate outcome.antenna left.gate_read left.antenna_read
  host_agreement gr gw ar aw zero_number =
      let taken : unpaired (width_bits w) gate_start antenna_start ≡ false =
      fits_by (unpaired (width_bits w) gate_start antenna_start) _ _ refl zero_number in
      rw taken
      (agreement gate_start antenna_start (fits_at w (unfit gate_start antenna_start) taken)
      (small gate_start.board.inplace gate_read gate_write gr gw)
      (small antenna_start.board.inplace antenna_read antenna_write ar aw) (events_of events))

  -- THE STATES: where the number is 0 and 136 words were lent, word i of the gate's 68 and of the antenna's
  module _ (room : 136 ≤ length state) (zero_number : left.number ≡ 0) where
    abbrev g : Seen
    g = outcome.gate

    abbrev a : Seen
    a = outcome.antenna

    state_at : (i : ℕ) → i < 138 → i < length state → get_or left.state i 0 ≡ get_or (pair_words g a) i 0
    state_at i l h =
        ap (λ (n : ℕ). get_or (state_left n g a state) i 0) zero_number
        ∙ laid_at (pair_words g a) state i (omega (arith, length_both g a)) h

    pub gate_state : (i : ℕ) → i < 68 → get_or left.state i 0 ≡ get_or (state_words g) i 0
    gate_state i l = state_at i (omega arith) (omega arith) ∙ sym (word_gate g a i l)

    pub antenna_state : (i : ℕ) → i < 68 → get_or left.state (68 + i) 0 ≡ get_or (state_words a) i 0
    antenna_state i l =
        let q : 68 + i - 68 ≡ i = omega arith in
        state_at (68 + i) (omega arith) (omega arith)
        ∙ sym (word_antenna g a (68 + i) (omega arith) (omega arith))
        ∙ ap (λ (n : ℕ). get_or (state_words a) n 0) q

    -- and where 138 were lent, the commands still queued
    pub gate_commands : 138 ≤ length state → get_or left.state 136 0 ≡ commands_in g.wire.transmit
    gate_commands h = state_at 136 (omega arith) (omega arith) ∙ sym (word_gate_commands g a 136 (omega arith) (omega arith))

    pub antenna_commands : 138 ≤ length state → get_or left.state 137 0 ≡ commands_in a.wire.transmit
    antenna_commands h = state_at 137 (omega arith) (omega arith) ∙ sym (word_antenna_commands g a 137 (omega arith) (omega arith))

    ok_of_state : (x : Seen) (at : ℕ → ℕ) → ((i : ℕ) → i < 68 → at i ≡ get_or (state_words x) i 0) → at 0 ≡ 0 → at 1 ≡ 0 → OkTwice x
    ok_of_state x at h t f = ok_of_numbers x (sym (h 0 (omega arith)) ∙ t) (sym (h 1 (omega arith)) ∙ f)

    -- Ok twice, as a host reads it: words 0 and 1 are 0, and 68 and 69. So what `Agreement` says of such ends, it says of these words
    pub gate_ok : get_or left.state 0 0 ≡ 0 → get_or left.state 1 0 ≡ 0 → OkTwice g
    gate_ok = ok_of_state g (λ i. get_or left.state i 0) gate_state

    pub antenna_ok : get_or left.state 68 0 ≡ 0 → get_or left.state 69 0 ≡ 0 → OkTwice a
    antenna_ok = ok_of_state a (λ i. get_or left.state (68 + i) 0) antenna_state

    -- WHAT A HOST MAY CONCLUDE from four answers 0: each read buffer has the other board's elements, or fillers
    pub host_holds : Elements (width_bits w) gate_read → Elements (width_bits w) gate_write → Elements (width_bits w) antenna_read
        → Elements (width_bits w) antenna_write → get_or left.state 0 0 ≡ 0 → get_or left.state 1 0 ≡ 0 → get_or left.state 68 0 ≡ 0
        → get_or left.state 69 0 ≡ 0 → Holds gate_start antenna_start left.gate_read × Holds antenna_start gate_start left.antenna_read
    host_holds gr gw ar aw gt gf at af =
        let d = host_agreement gr gw ar aw zero_number in
        (d.gate_holds (gate_ok gt gf) (antenna_ok at af), d.antenna_holds (gate_ok gt gf) (antenna_ok at af))
