-- Which calls may be left aside.
use Rattle.std.specs.Prelude.{ℕ, ◌≡◌, ◌⊎◌, IsTrue, is_some, true}
use Rattle.std.specs.List.{Any}
use Rattle.machines.specs.declared.arch.Arch.{Arch}
use Rattle.machines.specs.declared.arch.Family.{Family}
use Rattle.machines.specs.Arch.{machines_of, token_of}
use Rattle.call_tables.specs.Tables.{table_of}
use Rattle.machines.specs.Machines.{x86_64_token}
use Rattle.machines.specs.Numbers.{from_to}
use Rattle.call_tables.specs.Table.{name_in}
use Rattle.compare.specs.declared.behind_runc.stub.calls.Calls.{Calls}
use Rattle.aside.specs.declared.leave.Leave.{Leave}

-- The calls of x32: they carry the token of x86-64, and the bit 0x40000000 in their number (the kernel's
-- arch/x86/include/uapi/asm/unistd.h, __X32_SYSCALL_BIT). From 0x80000000 on a number is no call.
abbrev pub x32_calls : Calls
x32_calls = record { token = x86_64_token; numbers = from_to 0x40000000 0x7fffffff }

-- the call of one number
abbrev pub call_of : ℕ → ℕ → Calls
call_of token nr = record { token = token; numbers = from_to nr nr }

-- the machine has this token, and its table a call of this number
abbrev pub Names : ℕ → ℕ → Arch → Type 0
Names token nr arch = (token_of arch ≡ token) × IsTrue (is_some (name_in (table_of arch) nr))

-- a machine of the family does
abbrev pub IsNamed : Family → ℕ → ℕ → Type 0
IsNamed family token nr = Any (Names token nr) (machines_of family)

-- a number that no table of the family has for its token
pub record IsUnnamed (family : Family) (calls : Calls) : Type 0 where
  pub token : ℕ
  pub number : ℕ
  pub one : calls ≡ call_of token number
  pub unnamed : IsNamed family token number → ⊥

-- all calls of x32, if these may be left aside; or such a number, if these may be
abbrev pub MayBeAside : Family → Leave → Calls → Type 0
MayBeAside family leave calls =
    ((leave.x32 ≡ true) × (calls ≡ x32_calls)) ⊎ ((leave.unnamed ≡ true) × IsUnnamed family calls)
