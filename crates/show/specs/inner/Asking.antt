-- How the kernel asks a filter about a call: the steps, and its moments.
use Rattle.std.specs.Prelude.{ℕ, ◌≡◌, ◌<◌, List, None, length, map, replicate}
use Rattle.bpf_insn.specs.declared.instruction.Insn.{Insn}
use Rattle.bpf_insn.specs.Machine.{Registers, Step, Ends, Goes, ending, start}
use Rattle.bpf_insn.proofs.RunLaws.{counted}
use Rattle.show.specs.declared.answered.Next.{Next}
use Rattle.show.specs.declared.answered.Next.TheVariants.{Returns, Continues}
use Rattle.show.specs.Answered.{followed}

-- the registers: only A is ever written
abbrev pub holding : ℕ → Registers
holding a = record { a = a; x = 0; scratch = replicate 16 None }

abbrev pub step_of : Next → Step
step_of (Returns word) = Ends word
step_of (Continues skip a) = Goes skip (holding a)

-- so many instructions were followed, and the asking ends as what is left of it does
pub record IsAsked (p : List Insn) (r : List ℕ) (count pc : ℕ) (s : Registers) : Type 0 where
  pub within : pc < length p
  pub same : ending (map followed p) 0 start r ≡ counted count (ending (map followed p) pc s r)
