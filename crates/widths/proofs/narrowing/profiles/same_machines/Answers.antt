use Rattle.std.proofs.Common.{◌≡◌, true, List, sym, ◌∙◌, rules}
use Rattle.std.specs.Cmp.Lexicographic.{pointwise_decides}
use denote.Enum.Bare.{sameb, same_true, true_same}
use Rattle.machines.specs.declared.arch.Arch.{Arch}
use Rattle.machines.specs.contracts.arch.Arch as arch_contract
use Rattle.widths.proofs.narrowing.profiles.same_machines.Goals as goal

arch_decides : (a b : Arch) → (sameb arch_contract.the_type a b ≡ true → a ≡ b) × (a ≡ b → sameb arch_contract.the_type a b ≡ true)
arch_decides a b = (same_true arch_contract.the_type (search rules) a b, true_same arch_contract.the_type a b)

pub returns : goal.returns
returns c = λ t. (pointwise_decides arch_decides c.args.a.now c.args.b.now).0 (sym c.eq.ensures ∙ t)
