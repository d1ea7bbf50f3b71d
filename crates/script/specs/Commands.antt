-- The commands that a line may be.
use Rattle.std.specs.Prelude.{ℕ, List, Option}
use Rattle.machines.specs.declared.arch.Arch.{Arch}

-- a container by its id; a new one of a bundle by its name, a signal, or a call of one of its tasks, with a program beside it
pub data Command : Type 0 where
  Create : (id : List ℕ) (bundle : List ℕ) → Command
  Start : (id : List ℕ) → Command
  Delete : (id : List ℕ) → Command
  State : (id : List ℕ) → Command
  Kill : (id : List ℕ) (signal : ℕ) → Command
  Call : (id : List ℕ) (task : ℕ) (arch : Arch) (nr : ℕ) (args : List ℕ) (program : Option (List ℕ)) → Command
