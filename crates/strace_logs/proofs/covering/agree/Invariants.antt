-- The arguments agree at the places so far.
use Rattle.std.proofs.Common.{◌≡◌, ◌<◌, ◌%◌, ◌^◌, ℕ}
use Rattle.std.specs.Prelude.{slice_index}
use Rattle.strace_logs.proofs.covering.agree.Given as goal

abbrev pub invariant-loop-place : goal.invariant-loop-place
invariant-loop-place l = (j : ℕ) → j < l.place → slice_index l.args j % 2 ^ slice_index l.bits j ≡ slice_index l.values j % 2 ^ slice_index l.bits j
