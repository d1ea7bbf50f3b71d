-- What is meant is not refused, and is one profile.
use Rattle.std.specs.Prelude.{◌≡◌, ℕ, List, IsSome, codes}
use Rattle.serde_json.specs.Data.{Data}
use Rattle.machines.specs.declared.arch.Arch.{Arch}
use Rattle.machines.specs.declared.arch.Family.TheVariants.{Chosen, Whole}
use Rattle.machines.specs.Arch.{family_of}
use Rattle.profile.specs.Policy.{Policy}
use Rattle.profile_json.specs.declared.action.Action.{Action}
use Rattle.profile_json.specs.Keys as key
use Rattle.profile_json.specs.Fault.{Fault}
use Rattle.profile_json.specs.Lookup.{missing, holds, member, object, text, whole}
use Rattle.profile_json.specs.Names.{verdict_of}
use Rattle.profile_json.specs.Meaning.{IsText, IsSeccomp, RootMeans, NamesAction, VerdictMeans, KeysMean, CallsMean, Means}
use Rattle.profile_json.specs.Breaks.{Breaks}

-- a bundle that means a profile breaks no rule
abbrev pub MeaningIsUnbroken : Type 0
MeaningIsUnbroken = (bytes : List ℕ) (t : Data) (native : Arch) (p : Policy) (f : Fault) → IsText bytes t → Means t native p
    → Breaks bytes native f → ⊥

-- a bundle means one profile
abbrev pub MeaningIsOne : Type 0
MeaningIsOne = (t : Data) (native : Arch) (p q : Policy) → Means t native p → Means t native q → p ≡ q

-- The meaning before edition 1.1.0 and `defaultErrnoRet` were read: ERRNO and TRACE have data 1 by default.
pub record MeantBefore (t : Data) (native : Arch) (p : Policy) : Type 0 where
  pub root : IsSome (object t)
  pub version_is : member text key.oci_version t ≡ holds (codes "1.0.2")
  pub seccomp : Data
  pub seccomp_is : IsSeccomp t seccomp
  pub no_errno : member whole key.default_errno_ret seccomp ≡ missing
  pub action : Action
  pub action_is : NamesAction (family_of native) key.default_action seccomp action
  pub default_is : p.default_word ≡ verdict_of action 1
  pub calls : CallsMean seccomp native p

-- what a bundle meant then it means now
abbrev pub MeaningIsKept : Type 0
MeaningIsKept = (t : Data) (native : Arch) (p : Policy) → MeantBefore t native p → Means t native p

-- What root, action and keys mean to the machines of the chosen tables, they mean to those of whole tables. The latter
-- read more editions, actions and flags beside it.
pub record MeaningIsWidened : Type 0 where
  pub roots : (t s : Data) → RootMeans Chosen t s → RootMeans Whole t s
  pub verdicts : (action_key errno_key : List ℕ) (d : Data) (word : ℕ) → VerdictMeans Chosen action_key errno_key d word
      → VerdictMeans Whole action_key errno_key d word
  pub keys : (s : Data) → KeysMean Chosen s → KeysMean Whole s
