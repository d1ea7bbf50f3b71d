-- Which lines tell that words ask for no call.
use Rattle.std.proofs.Common.{◌≡◌, ℕ, List, [], ◌++◌, refl, sym, subst, ap, append-nil, ◌∙◌}
use Rattle.std.specs.Prelude.{Bool, true, false, Result, Ok, Err, IfOk, codes}
use denote.Ref.{Bor}
use Rattle.machines.specs.declared.arch.Arch.{Arch}
use Rattle.machines.specs.declared.arch.Family.{Family}
use Rattle.machines.specs.declared.arch.Family.TheVariants.{Chosen, Whole}
use Rattle.machines.specs.Arch.{family_of}
use Rattle.wording.specs.Told.{RefusesBy}
use Rattle.wording.specs.declared.told.Told.{Told}
use Rattle.call_words.specs.Wrong.{TellsWrong}
use Rattle.explain.specs.Asked.{are_bytes}
use Rattle.explain.specs.Refused.{Refuses, TellsWhyNot, is_reason, no_record, told_by}

module _ (family : Family) (TellsWhy : List ℕ → Type 0) (old new : List ℕ) where
  -- for the chosen lists nothing is added
  pub no_reason : Chosen ≡ family → (line : List ℕ) × is_reason family TellsWhy line × (old ≡ old ++ line)
  no_reason e = ([], subst (λ f. is_reason f TellsWhy []) e refl, sym (append-nil old))

  pub the_reason : {V E : Type 0} (r : Result V E) → Whole ≡ family
      → IfOk r (λ x. (line : List ℕ) × TellsWhy line × (new ≡ old ++ line))
      → IfOk r (λ x. (line : List ℕ) × is_reason family TellsWhy line × (new ≡ old ++ line))
  the_reason (Ok x) e (line, is, same) = (line, subst (λ f. is_reason f TellsWhy line) e is, same)
  the_reason (Err x) e h = tt

  pub one_reason : {V E : Type 0} (reason : List ℕ) (r : Result V E) → Whole ≡ family → IfOk r (λ x. new ≡ old ++ reason)
      → IfOk r (λ x. (line : List ℕ) × is_reason family (λ line. line ≡ reason) line × (new ≡ old ++ line))
  one_reason reason (Ok x) e same = (reason, subst (λ f. is_reason f (λ line. line ≡ reason) reason) e refl, same)
  one_reason reason (Err x) e h = tt

pub refuses : {E : Type 0} (native : Arch) (TellsWhy : List ℕ → Type 0) (old new : List ℕ) (r : Result Told E) → old ≡ codes "refused call"
    → (line : List ℕ) × is_reason (family_of native) TellsWhy line × (new ≡ old ++ line) → IfOk r (RefusesBy new)
    → IfOk r (Refuses native TellsWhy)
refuses native TellsWhy old new (Ok told) e (line, is, same) h = record {
  reason = line;
  is_one = is;
  tells = subst (λ l. RefusesBy l told) (same ∙ ap (λ o. o ++ line) e) h;
}
refuses native TellsWhy old new (Err x) e (line, is, same) h = tt

-- what is told of `record` and digits, and of other words
module _ {E : Type 0} (native : Arch) (given : List (Bor (List ℕ))) (r : Result Told E) where
  pub told_by_bytes : are_bytes given ≡ true → IfOk r (Refuses native (λ line. line ≡ no_record)) → IfOk r (Refuses native (TellsWhyNot native given))
  told_by_bytes e h = subst (λ (b : Bool). IfOk r (Refuses native (told_by b native given))) (sym e) h

  pub told_by_words : are_bytes given ≡ false → IfOk r (Refuses native (TellsWrong native given)) → IfOk r (Refuses native (TellsWhyNot native given))
  told_by_words e h = subst (λ (b : Bool). IfOk r (Refuses native (told_by b native given))) (sym e) h
