-- Calls that logs show.
use Rattle.std.specs.Prelude.{ℕ, ◌≡◌, List, Option}
use Rattle.std.specs.List.{All}
use Rattle.machines.specs.declared.arch.Arch.{Arch}
use Rattle.strace_logs.specs.declared.calls.Seen.{Seen}
use Rattle.profile.specs.Policy.{Policy}
use Rattle.strace_logs.specs.declared.lists.Runtime.{Runtime}
use Rattle.strace_logs.specs.declared.lists.Otherwise.{Otherwise}
use Rattle.strace_logs.specs.Learned.{AllowsText, IsNamed, IsSeen}
use Rattle.strace_logs.specs.Wish.{rest_word}

-- a line of the texts tells each of the calls
abbrev pub AreSeen : Arch → List (List ℕ) → List Seen → Type 0
AreSeen native texts calls = All (λ call. IsSeen native texts call.arch call.nr) calls

-- The bytes are those of the text. The profile that it means allows each record, names no other calls than it may, and has the default that
-- was asked for.
pub record IsWeighed (native : Arch) (policy : Policy) (texts : List (List ℕ)) (runtime : Option Runtime) (otherwise : Otherwise)
    (text bytes : List ℕ) : Type 0 where
  pub same : bytes ≡ text
  pub allows : All (AllowsText native policy) texts
  pub named : All (IsNamed native texts runtime) policy.rules
  pub rest : policy.default_word ≡ rest_word otherwise
