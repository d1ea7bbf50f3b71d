use Rattle.std.proofs.Common.{◌≡◌, true, sym, ◌∙◌, rules}
use Rattle.std.specs.Cmp.Lexicographic.{pointwise_decides}
use denote.Enum.Bare.{sameb, same_true, true_same}
use Rattle.machines.specs.declared.arch.Arch.{Arch}
use Rattle.machines.specs.contracts.arch.Arch as arch_contract
use Rattle.section.proofs.equal.are_same_machines.Goals as goal

arch_decides : (a b : Arch) → (sameb arch_contract.the_type a b ≡ true → a ≡ b) × (a ≡ b → sameb arch_contract.the_type a b ≡ true)
arch_decides a b = (same_true arch_contract.the_type (search rules) a b, true_same arch_contract.the_type a b)

pub returns : goal.returns
returns c =
    let decides = pointwise_decides arch_decides c.args.these.now c.args.others.now in
    (λ t. decides.0 (sym c.eq.ensures ∙ t), λ same. c.eq.ensures ∙ decides.1 same)
