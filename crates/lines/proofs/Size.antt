-- Head, foot and refusal have words and two numbers or one, of ten digits at most.
use Prim.Native.Nat.{ℕ, ◌≤◌}
use native.Mathlib.Omega.{arith}
use lib.ListN.{length, length-append}
use Rattle.text.proofs.Decimal.{decimal_length}
use Rattle.lines.specs.Lines.{head_line, foot_line, refusal_line}

pub head_size : (events lines : ℕ) → length (head_line events lines) ≤ 41
unfolding head_line
head_size events lines = simp length-append (omega (arith, decimal_length events, decimal_length lines))

pub foot_size : (findings : ℕ) → length (foot_line findings) ≤ 15
unfolding foot_line
foot_size findings = simp length-append (omega (arith, decimal_length findings))

pub refusal_size : (number at : ℕ) → length (refusal_line number at) ≤ 33
unfolding refusal_line
refusal_size number at = simp length-append (omega (arith, decimal_length number, decimal_length at))
