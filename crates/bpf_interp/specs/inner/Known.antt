-- Which instructions need more of a record than its first two words.
use Rattle.std.specs.Prelude.{ℕ, Bool, false, nat_le, Option, Some}
use Rattle.bpf_insn.specs.declared.code.Operation.{Operation}
use Rattle.bpf_insn.specs.declared.code.Operation.TheVariants.{LoadWord}

-- the operation loads a word at byte 8 or later
abbrev pub loads_further : Option Operation → ℕ → Bool
loads_further (Some LoadWord) k = nat_le 8 k
loads_further op k = false
