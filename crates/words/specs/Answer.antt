-- Document 01's result numbers, and its number and value for each answer of this layer. A value is 0 where it was refused.
-- Assumes nothing.
use Rattle.std.specs.Prelude.{ℕ, Result, Ok, Err}
use Rattle.words.specs.declared.pack.TooManyElements.{TooManyElements}

-- a result number, and the value that comes with 0
pub record Answer : Type 0 where
  pub number : ℕ
  pub value : ℕ

abbrev pub ok : ℕ → Answer
ok v = record { number = 0; value = v }

abbrev pub refused : ℕ → Answer
refused n = record { number = n; value = 0 }

-- "Results by place of check"
abbrev pub frame_size_number : ℕ
frame_size_number = 1

abbrev pub receive_error_number : ℕ
receive_error_number = 2

abbrev pub transmit_error_number : ℕ
transmit_error_number = 3

abbrev pub zero_clock_number : ℕ
zero_clock_number = 6

abbrev pub too_many_number : ℕ
too_many_number = 8

abbrev pub pack_answer : Result ℕ TooManyElements → Answer
pack_answer (Ok w) = ok w
pack_answer (Err e) = refused too_many_number

abbrev pub unpack_number : Result Unit TooManyElements → ℕ
unpack_number (Ok u) = 0
unpack_number (Err e) = too_many_number
