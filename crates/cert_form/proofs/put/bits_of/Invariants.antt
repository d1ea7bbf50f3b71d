use Rattle.std.proofs.Common.{◌≡◌, ◌-◌, drop}
use Rattle.cert_form.specs.Spelling.{stated_bits}
use Rattle.cert_form.proofs.put.bits_of.Given as goal

abbrev pub invariant-loop-i : goal.invariant-loop-i
invariant-loop-i l = l.bits ≡ stated_bits (drop (16 - l.i) l.scratch)
