-- The clock of a transfer (document 01, Clocks).
-- Assumes nothing.
use Rattle.std.specs.Prelude.{ℕ, ◌+◌, ◌*◌, ◌-◌, ◌/◌, ◌≤◌, min, max, cond, eqb, Result, Ok, Err}
use Rattle.manual.specs.declared.Ccr.TheVariants.{SCKDIV, DBT, PCSSCK, SCKPCS}
use Rattle.manual.specs.declared.Field.TheVariants.{Ccr}
use Rattle.words.specs.declared.clock.ClockConfigs.{ClockConfigs}
use Rattle.words.specs.declared.clock.ZeroClock.{ZeroClock}
use Rattle.words.specs.Answer.{zero_clock_number}
use Rattle.manual.specs.Manual.{read_field, set_field}

-- h = 1 + (source − 1) div (2 × clock), clamped to 3..128
abbrev pub half_divider : ℕ → ℕ → ℕ
half_divider source clock = max 3 (min 128 (1 + (source - 1) / (2 * clock)))

-- SCKDIV = 2(h − 1); DBT, PCSSCK, SCKPCS = h − 1
abbrev pub configs_of : ℕ → ClockConfigs
configs_of h = record { sckpcs = h - 1; pcssck = h - 1; dbt = h - 1; sckdiv = 2 * (h - 1) }

-- a result number, and the configuration that comes with 0; the others come with zeros
pub record ClockAnswer : Type 0 where
  pub number : ℕ
  pub configs : ClockConfigs

abbrev pub zero_clock : ClockAnswer
zero_clock = record { number = zero_clock_number; configs = record { sckpcs = 0; pcssck = 0; dbt = 0; sckdiv = 0 } }

abbrev pub clock_answer : Result ClockConfigs ZeroClock → ClockAnswer
clock_answer (Ok c) = record { number = 0; configs = c }
clock_answer (Err e) = zero_clock

-- 6 where source or wanted clock is 0
abbrev pub clocked : ℕ → ℕ → ClockAnswer
clocked source clock =
    cond (eqb source 0) zero_clock (cond (eqb clock 0) zero_clock (record { number = 0; configs = configs_of (half_divider source clock) }))

-- the word of CCR with these four fields
abbrev pub clock_word : ClockConfigs → ℕ
clock_word c =
    set_field (Ccr SCKPCS) c.sckpcs (set_field (Ccr PCSSCK) c.pcssck
    (set_field (Ccr DBT) c.dbt (set_field (Ccr SCKDIV) c.sckdiv 0)))

-- by the manual SCK is source / (SCKDIV + 2): it is at most the wanted clock when source is at most clock × (SCKDIV + 2), with no rounding
abbrev pub SckAtMost : ℕ → ℕ → ℕ → Type 0
SckAtMost source word clock = source ≤ clock * (read_field (Ccr SCKDIV) word + 2)
