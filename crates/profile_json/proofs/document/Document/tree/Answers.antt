use Rattle.std.proofs.Common.{ℕ, List, ◌≢◌, IfErr, ap, subst}
use Rattle.std.specs.Prelude.{Result}
use Rattle.serde_json.specs.Data.{Data}
use Rattle.serde_json.specs.declared.value.Value.{Value}
use Rattle.profile_json.specs.declared.fault.ProfileError.{ProfileError}
use Rattle.profile_json.specs.declared.fault.ProfileError.TheVariants.{OutOfMemory}
use Rattle.profile_json.specs.Document.{TextFor}
use Rattle.profile_json.specs.Meaning.{IsText}
use Rattle.profile_json.proofs.document.Document.tree.Goals as goal

pub returns-in-Err-clause-err : goal.returns-in-Err-clause-err
returns-in-Err-clause-err c =
    let is_none = subst (λ (r : Result Value ProfileError). IfErr r (λ e. e ≢ OutOfMemory → (t : Data) → ¬ IsText c.self.inside.bytes.items t))
    c.in-Err.is c.self.invariant.is_none in
    subst (λ (bytes : List ℕ). c.in-Err.error ≢ OutOfMemory → (t : Data) → ¬ IsText bytes t)
    (ap (λ (v : TextFor). v.bytes) c.self.view_is) is_none
