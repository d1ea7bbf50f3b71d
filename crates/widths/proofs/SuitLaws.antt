-- What each rule's arguments may be cut to.
use Rattle.std.proofs.Common.{◌≡◌, ℕ, zero, suc, ◌<◌, ◌⊎◌, Bool, true, false, inl, inr, List, [], ◌∷◌, refl, ap, sym, ◌∙◌, subst, arith}
use Rattle.std.specs.Prelude.{slice_index}
use Rattle.std.specs.List.{All}
use Rattle.std.proofs.lemmas.Bool.{cases_Bool}
use Rattle.machines.specs.Arch.{token_of}
use Rattle.widths.specs.Reads.{is_all_read, cut_bits}
use Rattle.profile.specs.declared.conditions.Cond.{Cond}
use Rattle.profile.specs.declared.rules.Rule.{Rule}
use Rattle.widths.specs.Cutting.{SuitsAt, Suits, IsCutPlan}
use Rattle.widths.specs.Cutting.SuitsAt.{read, narrow, masked}
use Rattle.widths.proofs.CutLaws.{all_from}
use Rattle.widths.proofs.WidthLaws.{cut_whole, cut_read}

-- six numbers by their places
pub six : (f : ℕ → ℕ) (a b c d e g : ℕ) → a ≡ f 0 → b ≡ f 1 → c ≡ f 2 → d ≡ f 3 → e ≡ f 4 → g ≡ f 5
    → (j : ℕ) → j < 6 → slice_index (a ∷ b ∷ c ∷ d ∷ e ∷ g ∷ []) j ≡ f j
six f a b c d e g p q r s t u zero lt = p
six f a b c d e g p q r s t u (suc zero) lt = q
six f a b c d e g p q r s t u (suc (suc zero)) lt = r
six f a b c d e g p q r s t u (suc (suc (suc zero))) lt = s
six f a b c d e g p q r s t u (suc (suc (suc (suc zero)))) lt = t
six f a b c d e g p q r s t u (suc (suc (suc (suc (suc zero))))) lt = u
six f a b c d e g p q r s t u (suc (suc (suc (suc (suc (suc j)))))) lt = absurd (omega (arith, lt))

suits_where : (token nr bits : ℕ) (c : Cond) → bits ≡ cut_bits token nr c.index → SuitsAt token nr bits c
suits_where token nr bits c is =
    elim (cases_Bool (is_all_read token nr c.index)) [
      | inl all ↦ narrow all (let e = is ∙ cut_whole token nr c.index all in omega (arith, e))
      | inr part ↦ read (is ∙ cut_read token nr c.index part)
    ]

pub cut_suits : (rule : Rule) (plan : List ℕ) → IsCutPlan (token_of rule.arch) rule.nr plan → Suits plan rule
cut_suits rule plan is =
    all_from (λ c. SuitsAt (token_of rule.arch) rule.nr (slice_index plan c.index) c) rule.conds.items
    (λ c has. suits_where (token_of rule.arch) rule.nr (slice_index plan c.index) c (is c.index c.in_range))
