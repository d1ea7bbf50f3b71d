-- Unlike verdicts of a record.
use Rattle.std.proofs.Common.{◌≡◌, ◌≢◌, ℕ, List, sym, ◌∙◌, subst}
use Rattle.call_record.specs.Words.{IsRecord}
use Rattle.machines.specs.declared.arch.Family.{Family}
use Rattle.wording.specs.Phrases.{machine_with}
use Rattle.profile.specs.Policy.{Policy, Says}
use Rattle.compare.specs.Difference.{IsDifference, record_of}
use Rattle.compare.specs.declared.difference.Difference.{Difference}

-- unlike verdicts of a record are a difference on it
pub difference_is : (family : Family) (p q : Policy) (d : Difference) (r : List ℕ) (first second : ℕ) → record_of d ≡ r → IsRecord r
    → d.arch ≡ machine_with family d.token d.nr → d.first ≡ first → d.second ≡ second
    → Says p r first → Says q r second → first ≢ second → IsDifference family p q d
difference_is family p q d r first second same is machine first_is second_is says_first says_second unlike =
    record {
      is_record = subst IsRecord (sym same) is;
      machine = machine;
      says_first = subst (λ x. Says p x d.first) (sym same) (subst (Says p r) (sym first_is) says_first);
      says_second = subst (λ x. Says q x d.second) (sym same) (subst (Says q r) (sym second_is) says_second);
      unlike = λ e. unlike (sym first_is ∙ e ∙ second_is);
    }
