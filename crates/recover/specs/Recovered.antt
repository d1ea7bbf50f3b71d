-- What a bundle is that was made of a filter.
use Rattle.std.specs.Prelude.{◌≡◌, ℕ, List, None}
use Rattle.machines.specs.declared.arch.Arch.{Arch}
use Rattle.bpf_insn.specs.Bytes.{insns_of, view_fault}
use Rattle.kernel_check.specs.Accepted.{IsAccepted}
use Rattle.profile.specs.Policy.{Policy}
use Rattle.cert_check.specs.Right.{IsRight}
use Rattle.maker.specs.Finding.{IsBundle}

-- The bundle means a profile. The bytes are a program that the kernel accepts, and which gives each record the verdict that the profile
-- says of it, and no other.
pub record IsRecovered (native : Arch) (bundle filter : List ℕ) : Type 0 where
  pub policy : Policy
  pub means : IsBundle native bundle policy
  pub program : view_fault filter ≡ None
  pub accepted : IsAccepted (insns_of filter)
  pub right : IsRight policy (insns_of filter)

-- no bundle's meaning is the filter's
abbrev pub IsUnsayable : Arch → List ℕ → Type 0
IsUnsayable native filter = (bundle : List ℕ) → ¬ IsRecovered native bundle filter
