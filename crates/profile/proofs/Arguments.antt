-- What is compared of an argument: by the machine of its record, and the same in the fields of a record and in its words.
use Rattle.std.proofs.Common.{◌≡◌, ℕ, Bool, List, get_or, sym, ◌∙◌, ap, subst}
use Rattle.std.specs.List.{All}
use Rattle.std.proofs.lemmas.List.Elements.{All-weaker}
use Rattle.call_record.specs.Words.{word, argument, words_from}
use Rattle.call_record.proofs.RecordLemmas.{argument-words_from}
use Rattle.machines.specs.Arch.{token_of}
use Rattle.machines.specs.Width.{compared, is_narrow}
use Rattle.profile.specs.declared.conditions.Cond.{Cond}
use Rattle.profile.specs.declared.rules.Rule.{Rule}
use Rattle.profile.specs.Condition.{Meets}
use Rattle.profile.specs.Rule.{argument_of, is_narrow_rule}

-- of a record of the rule's machine the rule's width is compared
pub argument_of-rule : (rule : Rule) (r : List ℕ) (j : ℕ) → word r 1 ≡ token_of rule.arch
    → argument_of r j ≡ compared (is_narrow_rule rule) (argument r j)
argument_of-rule rule r j h = ap (λ (t : ℕ). compared (is_narrow t) (argument r j)) h

-- what the fields say, by the width of their machine, the words say
of_fields : (nr arch ip : ℕ) (us : List ℕ) (narrow : Bool) → is_narrow arch ≡ narrow → (j : ℕ)
    → argument_of (words_from nr arch ip us) j ≡ compared narrow (get_or us j 0)
of_fields nr arch ip us narrow h j =
    ap (compared (is_narrow arch)) (argument-words_from nr arch ip us j) ∙ ap (λ (b : Bool). compared b (get_or us j 0)) h

pub All-argument : (cs : List Cond) (nr arch ip : ℕ) (us : List ℕ) (narrow : Bool) → is_narrow arch ≡ narrow
    → All (λ c. Meets c (compared narrow (get_or us c.index 0))) cs → All (λ c. Meets c (argument_of (words_from nr arch ip us) c.index)) cs
All-argument cs nr arch ip us narrow h =
    All-weaker (λ c. Meets c (compared narrow (get_or us c.index 0))) (λ c. Meets c (argument_of (words_from nr arch ip us) c.index))
    (λ c m. subst (Meets c) (sym (of_fields nr arch ip us narrow h c.index)) m) cs

pub All-field : (cs : List Cond) (nr arch ip : ℕ) (us : List ℕ) (narrow : Bool) → is_narrow arch ≡ narrow
    → All (λ c. Meets c (argument_of (words_from nr arch ip us) c.index)) cs → All (λ c. Meets c (compared narrow (get_or us c.index 0))) cs
All-field cs nr arch ip us narrow h =
    All-weaker (λ c. Meets c (argument_of (words_from nr arch ip us) c.index)) (λ c. Meets c (compared narrow (get_or us c.index 0)))
    (λ c m. subst (Meets c) (of_fields nr arch ip us narrow h c.index) m) cs
