-- How many nodes the paths of a filter of calls take.
use Rattle.std.specs.Prelude.{◌≡◌, ◌==◌, ◌&&◌, ℕ, zero, suc, ◌+◌, ◌-◌, ◌*◌, ◌/◌, nat_le, Bool, true, false, not, if◌then◌else◌}
use Rattle.std.specs.Prelude.{List, [], ◌∷◌, Some, max, bit_and, take}
use Rattle.machines.specs.declared.arch.Arch.{Arch}
use Rattle.machines.specs.Arch.{token_of}
use Rattle.bpf_insn.specs.declared.code.Operand.{Operand}
use Rattle.bpf_insn.specs.declared.code.Test.{Test}
use Rattle.bpf_insn.specs.declared.code.Operation.TheVariants.{LoadWord, ReturnK, Jump, Branch}
use Rattle.bpf_insn.specs.declared.instruction.Insn.{Insn}
use Rattle.bpf_insn.specs.Code.{operation_of}
use Rattle.cert_state.specs.declared.literal.Lit.{Lit}
use Rattle.cert_state.specs.declared.literal.Lit.TheVariants.{In, Bits, NotBits}
use Rattle.cert_state.specs.Literals.{index_of}
use Rattle.rule_compile.specs.Shape.{depth, has_token, tokens, weight}

-- ---- the calls of a machine that are possible

abbrev pub meets : Lit → ℕ → Bool
meets (In w lo hi) u = nat_le lo u && nat_le u hi
meets (Bits w m d) u = bit_and u m == d
meets (NotBits w m d) u = not (bit_and u m == d)

-- a literal of the number, or of the token, allows the call
abbrev pub permits : Lit → ℕ → ℕ → Bool
permits l token nr = meets l (if index_of l == 0 then nr else token)

abbrev pub allows : List Lit → ℕ → ℕ → Bool
allows [] token nr = true
allows (l ∷ ls) token nr = permits l token nr && allows ls token nr

-- how many numbers below n pass a test
unfoldable pub count_below : ℕ → (ℕ → Bool) → ℕ
count_below zero test = 0
count_below (suc n) test = (if test n then 1 else 0) + count_below n test

-- what is counted unless it is counted elsewhere
abbrev pub unless : Bool → ℕ → ℕ
unless true n = 0
unless false n = n

-- how many calls of the machines are possible, by their tokens and their numbers below n
unfoldable pub inside : ℕ → List Arch → List Lit → ℕ
inside n [] known = 0
inside n (arch ∷ archs) known =
    unless (has_token (token_of arch) archs) (count_below n (λ nr. allows known (token_of arch) nr)) + inside n archs known

-- no call meets both
abbrev pub Exclude : Lit → Lit → Type 0
Exclude l m = (token nr : ℕ) → permits l token nr ≡ true → permits m token nr ≡ true → ⊥

-- ---- what may be made from a place on

-- what the paths from a position cost, where so many calls are possible
abbrev pub path_cost : List Insn → ℕ → ℕ → ℕ
path_cost p pc calls = weight p pc + 2 * calls

-- What a return costs, if machines from one of the list on may still be told apart. A token that is told apart costs two nodes.
abbrev pub return_cost : List Arch → ℕ → ℕ → ℕ
return_cost machines at calls = 2 * (tokens machines - tokens (take at machines)) + 1 + 2 * calls

-- what a return of one machine costs: once the foreign numbers are apart, each further node has a call of its own
abbrev pub halves_cost : ℕ → ℕ → ℕ
halves_cost halvings calls = 1 + 2 * (calls + halvings / 10 - 1)

-- the costs of a position, by its instruction
pub record CostsAt (p : List Insn) (pc : ℕ) (i : Insn) : Type 0 where
  pub return : operation_of i.code ≡ Some ReturnK → weight p pc ≡ 5
  pub jump : operation_of i.code ≡ Some Jump → (weight p pc ≡ 1 + weight p (pc + 1 + i.k)) × (depth p pc ≡ depth p (pc + 1 + i.k))
  pub load : operation_of i.code ≡ Some LoadWord → (weight p pc ≡ 1 + weight p (pc + 1 + 0)) × (depth p pc ≡ depth p (pc + 1 + 0))
  pub fork : (test : Test) (c : Operand) → operation_of i.code ≡ Some (Branch test c)
      → (weight p pc ≡ 1 + (weight p (pc + 1 + i.jt) + weight p (pc + 1 + i.jf)))
      × (depth p pc ≡ 1 + max (depth p (pc + 1 + i.jt)) (depth p (pc + 1 + i.jf)))
