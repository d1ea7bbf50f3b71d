-- What the maker for profiles without conditions counts on.
use Rattle.std.specs.Prelude.{List}
use Rattle.bpf_insn.specs.declared.instruction.Insn.{Insn}
use Rattle.profile.specs.Policy.{Policy, IsProfile}
use Rattle.rule_compile.specs.Shape.{IsCallFilter, IsPlain}

-- the profile is one, no rule of it has a condition, and the filter has its shape
pub record IsMeant (policy : Policy) (p : List Insn) : Type 0 where
  pub profile : IsProfile policy
  pub plain : IsPlain policy
  pub shape : IsCallFilter policy p
