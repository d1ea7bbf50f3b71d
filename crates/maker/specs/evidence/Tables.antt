-- Profiles whose calls are those of the tables.
use Rattle.std.specs.Prelude.{◌≡◌, ◌≤◌, ◌&&◌, ℕ, nat_lt, Bool, true, List, [], ◌∷◌, Some}
use Rattle.std.specs.List.{All, Contains}
use Rattle.machines.specs.declared.arch.Arch.{Arch}
use Rattle.machines.specs.declared.arch.Arch.TheVariants.{X86_64, Aarch64, LinuxX86_64, LinuxX86, LinuxX32}
use Rattle.machines.specs.declared.arch.Arch.TheVariants.{LinuxAarch64, LinuxArm, LinuxRiscv64, LinuxPpc64le, LinuxLoongarch64}
use Rattle.machines.specs.declared.arch.Arch.TheVariants.{LinuxS390x, LinuxS390}
use Rattle.call_tables.specs.Tables.{table_of}
use Rattle.call_tables.specs.Table.{Table, name_in}
use Rattle.profile.specs.declared.rules.Rule.{Rule}
use Rattle.profile.specs.Policy.{Policy, IsProfile}
use Rattle.rule_compile.specs.Shape.{IsPlain, tokens}

-- each number of the machine's table is small: those of x32 have a bit that tells them from x86-64's, and ARM has private calls
abbrev pub HasSmallNumbers : Arch → Type 0
HasSmallNumbers X86_64 = Unit {0}
HasSmallNumbers Aarch64 = Unit {0}
HasSmallNumbers LinuxX86_64 = Unit {0}
HasSmallNumbers LinuxX86 = Unit {0}
HasSmallNumbers LinuxX32 = ⊥
HasSmallNumbers LinuxAarch64 = Unit {0}
HasSmallNumbers LinuxArm = ⊥
HasSmallNumbers LinuxRiscv64 = Unit {0}
HasSmallNumbers LinuxPpc64le = Unit {0}
HasSmallNumbers LinuxLoongarch64 = Unit {0}
HasSmallNumbers LinuxS390x = Unit {0}
HasSmallNumbers LinuxS390 = Unit {0}

-- the rule has no condition, and its number stands in the table of its machine, of which each number is small
abbrev pub IsTableRule : Rule → Type 0
IsTableRule rule =
    (rule.conds.items ≡ []) × HasSmallNumbers rule.arch × ((name : List ℕ) × (name_in (table_of rule.arch) rule.nr ≡ Some name))

-- x32 stands beside x86-64
abbrev pub IsX32Beside : List Arch → Type 0
IsX32Beside machines = Contains machines LinuxX32 → Contains machines LinuxX86_64

-- a profile of such rules is plain, if its machines have two tokens at most, and x32 stands beside x86-64
abbrev pub TableProfilesArePlain : Type 0
TableProfilesArePlain =
    (policy : Policy) → IsProfile policy → tokens policy.machines ≤ 2 → IsX32Beside policy.machines → All IsTableRule policy.rules
    → IsPlain policy

-- each number of the table is below a bound: a test that computes over a whole table
abbrev pub are_below : ℕ → Table → Bool
are_below n [] = true
are_below n (e ∷ es) = nat_lt e.1 n && are_below n es
