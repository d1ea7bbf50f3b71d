-- A text that was read for a native machine.
use Rattle.std.specs.Prelude.{◌≢◌, ℕ, List, Result, IfErr, IfOk, IfSome}
use Rattle.serde_json.specs.Data.{Data}
use Rattle.serde_json.specs.View.{view}
use Rattle.serde_json.specs.declared.value.Value.{Value}
use Rattle.machines.specs.declared.arch.Arch.{Arch}
use Rattle.profile_json.specs.ByEntry.{AreRulesOf}
use Rattle.profile_json.specs.Fault.{fault_of}
use Rattle.profile_json.specs.Meaning.{IsText, Means}
use Rattle.profile_json.specs.Place.{BreaksAt}
use Rattle.profile_json.specs.declared.bundle.Bundle.{Bundle}
use Rattle.profile_json.specs.declared.fault.ProfileError.{ProfileError}
use Rattle.profile_json.specs.declared.fault.ProfileError.TheVariants.{OutOfMemory}
use Rattle.profile_json.specs.declared.refusal.Refusal.{Refusal}

-- the bytes of a text, and the machine for which it is read
pub record TextFor : Type 0 where
  pub bytes : List ℕ
  pub native : Arch

-- the value that a text is, and its bundle, or why it is refused and where the fault stands
pub record IsReadAs (bytes : List ℕ) (native : Arch) (tree : Result Value ProfileError) (read : Result Bundle Refusal) : Type 0 where
  pub is_text : IfOk tree (λ value. IsText bytes (view value))
  pub is_none : IfErr tree (λ e. e ≢ OutOfMemory → (t : Data) → ¬ IsText bytes t)
  pub means : IfOk read (λ b. (t : Data) × IsText bytes t × Means t native b.profile)
  pub rules : IfOk read (λ b. AreRulesOf native bytes b.by_entry.rules.items b.by_entry.ends.items)
  pub breaks : IfErr read (λ r. IfSome (fault_of r.error) (BreaksAt bytes native r.place))
