-- Texts to which parts are added.
use Rattle.std.proofs.Common.{◌≡◌, ℕ, List, [], ◌++◌, ap, ◌∙◌}
use Rattle.machines.specs.declared.arch.Family.{Family}
use Rattle.wording.specs.declared.reason.Reason.{Reason}

-- what is added to nothing is the whole
pub from_nothing : (new old : List ℕ) (tell : Family → Reason → List ℕ) (f g : Family) (r s : Reason)
    → new ≡ old ++ tell f r → old ≡ [] → f ≡ g → r ≡ s → new ≡ tell g s
from_nothing new old tell f g r s added nothing same why =
    added ∙ ap (λ o. o ++ tell f r) nothing ∙ ap (λ x. tell x r) same ∙ ap (tell g) why
