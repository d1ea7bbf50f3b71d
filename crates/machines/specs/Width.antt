-- How much of an argument is compared: what a kernel carries out. It presents whole registers, of 64 bits. Of calls of x86,
-- ARM and s390 it carries out the low halves, and of all others, x32's too, the whole.
use Rattle.std.specs.Prelude.{ℕ, ◌==◌, ◌||◌, ◌%◌, ◌^◌, Bool, if◌then◌else◌}
use Rattle.machines.specs.Machines.{x86_token, arm_token, s390_token}

-- the calls with the token are of a machine whose arguments have 32 bits
abbrev pub is_narrow : ℕ → Bool
is_narrow token = token == x86_token || token == arm_token || token == s390_token

-- what is compared of an argument: its low half where it is narrow
abbrev pub compared : Bool → ℕ → ℕ
compared narrow u = if narrow then u % 2 ^ 32 else u
