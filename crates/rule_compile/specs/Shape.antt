-- What may be counted on of the filter of a profile whose rules have no conditions.
use Rattle.std.specs.Prelude.{◌≡◌, ◌==◌, Bool, ℕ, zero, suc, ◌+◌, ◌<◌, ◌≤◌, ◌^◌, if◌then◌else◌, List, [], ◌∷◌, Option, Some, None, max}
use Rattle.std.specs.Prelude.{replicate, slice_index}
use Rattle.std.specs.List.{All, Any, list_any}
use Rattle.bpf_insn.specs.declared.code.Operation.{Operation}
use Rattle.bpf_insn.specs.declared.code.Operation.TheVariants.{ReturnK, Jump, Branch}
use Rattle.bpf_insn.specs.declared.instruction.Insn.{Insn}
use Rattle.bpf_insn.specs.Code.{operation_of}
use Rattle.bpf_insn.specs.Machine.{holds}
use Rattle.kernel_check.specs.Accepted.{IsAccepted}
use Rattle.machines.specs.declared.arch.Arch.{Arch}
use Rattle.machines.specs.Arch.{token_of}
use Rattle.machines.specs.Numbers.{HasCall}
use Rattle.profile.specs.declared.rules.Rule.{Rule}
use Rattle.profile.specs.Policy.{Policy, IsClear}
use Rattle.profile.specs.Said.{said}
use Rattle.rule_compile.specs.Moves.{Move, Ends, Goes, Forks, move_at}

-- ---- the profiles

-- each number of a table is below this, but for those of x32 and the private ones of ARM
abbrev pub above_all_numbers : ℕ
above_all_numbers = 512

-- no condition, and the number is a small one, as most numbers of tables are
abbrev pub IsPlainRule : Rule → Type 0
IsPlainRule rule = (rule.conds.items ≡ []) × (rule.nr < above_all_numbers)

-- one of the machines has the token
abbrev pub has_token : ℕ → List Arch → Bool
has_token token archs = list_any (λ arch. token_of arch == token) archs

-- how many tokens the machines have
abbrev pub tokens : List Arch → ℕ
tokens [] = 0
tokens (arch ∷ archs) = if has_token (token_of arch) archs then tokens archs else suc (tokens archs)

-- each small number with the token of one of the machines is one's own: x32 stands beside x86-64
abbrev pub AreSmallNative : List Arch → Type 0
AreSmallNative machines =
    All (λ arch. (nr : ℕ) → nr < above_all_numbers → Any (HasCall (token_of arch) nr) machines) machines

-- No rule has a condition, no number has two verdicts, and each small number is a listed machine's. The machines have two
-- tokens at most: a filter has room for the calls of so many.
pub record IsPlain (policy : Policy) : Type 0 where
  pub rules : All IsPlainRule policy.rules
  pub small : AreSmallNative policy.machines
  pub few : tokens policy.machines ≤ 2
  pub clear : IsClear policy.rules

-- ---- what a filter answers

-- the record of a call by its machine's token and its number, with no arguments
abbrev pub call : ℕ → ℕ → List ℕ
call token nr = nr ∷ token ∷ replicate 14 0

-- the answer to a record by the move at hand, where the rest of the filter answers from an instruction after it on
abbrev pub answer_by : Option Move → Insn → List ℕ → (ℕ → Option ℕ → Option ℕ) → Option ℕ
answer_by None i r rest = None
answer_by (Some (Ends word)) i r rest = Some word
answer_by (Some (Goes skip held)) i r rest = rest skip held
answer_by (Some (Forks test w)) i r rest = rest (if holds test (slice_index r w) i.k then i.jt else i.jf) (Some w)

-- the answer to a record from a position on, where A holds this word of the record or none
abbrev pub answer : List Insn → ℕ → Option ℕ → List ℕ → Option ℕ
answer [] pc held r = None
answer (i ∷ p) (suc pc) held r = answer p pc held r
answer (i ∷ p) zero held r = answer_by (move_at (operation_of i.code) i.k held) i r (λ skip now. answer p skip now r)

-- ---- how large the tree of its paths is

-- all nodes of the tree from a position on, a return counted five times
abbrev pub weight_by : Option Operation → Insn → (ℕ → ℕ) → ℕ
weight_by (Some ReturnK) i rest = 5
weight_by (Some Jump) i rest = 1 + rest i.k
weight_by (Some (Branch test operand)) i rest = 1 + (rest i.jt + rest i.jf)
weight_by _ i rest = 1 + rest 0

abbrev pub weight : List Insn → ℕ → ℕ
weight [] pc = 0
weight (i ∷ p) (suc pc) = weight p pc
weight (i ∷ p) zero = weight_by (operation_of i.code) i (λ skip. weight p skip)

-- the comparisons on the longest path from a position on
abbrev pub depth_by : Option Operation → Insn → (ℕ → ℕ) → ℕ
depth_by (Some ReturnK) i rest = 0
depth_by (Some Jump) i rest = rest i.k
depth_by (Some (Branch test operand)) i rest = 1 + max (rest i.jt) (rest i.jf)
depth_by _ i rest = rest 0

abbrev pub depth : List Insn → ℕ → ℕ
depth [] pc = 0
depth (i ∷ p) (suc pc) = depth p pc
depth (i ∷ p) zero = depth_by (operation_of i.code) i (λ skip. depth p skip)

-- The shape: the kernel accepts the filter, it answers each call what the profile says, and its paths are few and short.
pub record IsCallFilter (policy : Policy) (p : List Insn) : Type 0 where
  pub accepted : IsAccepted p
  pub answers : (token nr : ℕ) → token < 2 ^ 32 → nr < 2 ^ 32 → answer p 0 None (call token nr) ≡ Some (said policy (call token nr))
  pub few : weight p 0 ≤ 12000
  pub short : depth p 0 ≤ 490
