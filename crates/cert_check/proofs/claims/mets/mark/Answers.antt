use Rattle.std.proofs.Common.{◌≡◌, ℕ, ◌+◌, ◌*◌, ◌<◌, Bool, true, List, length, sym, subst, ◌∙◌, inl, inr, ◌⊎◌, arith}
use Rattle.std.specs.Prelude.{◌↔◌, slice_index_or, slice_set}
use Rattle.std.proofs.lemmas.Bool.{cases_eq}
use Rattle.std.proofs.lemmas.List.{get_or-set_same, get_or-set_other}
use Rattle.cert_check.proofs.claims.mets.mark.Goals as goal

-- one condition is marked
set_one : (marked : List Bool) (rule own i j : ℕ) (d : Bool) → own < 6 → j < 6 → 6 * rule + own < length marked
    → (slice_index_or (slice_set marked (6 * rule + own) true) (6 * i + j) d ≡ true)
    ↔ ((slice_index_or marked (6 * i + j) d ≡ true) ⊎ ((i ≡ rule) × (j ≡ own)))
set_one marked rule own i j d small below within = elim (cases_eq (6 * i + j) (6 * rule + own)) [
  | inl same ↦ (
    λ _. inr (omega (arith, same, small, below), omega (arith, same, small, below)),
    λ _. subst (λ k. slice_index_or (slice_set marked (6 * rule + own) true) k d ≡ true) (sym same)
        (get_or-set_same marked (6 * rule + own) true d within),
  )
  | inr other ↦
      let e = get_or-set_other marked (6 * rule + own) (6 * i + j) true d other in (
        λ t. inl (sym e ∙ t),
        λ h. elim h [ inl t ↦ e ∙ t | inr same ↦ absurd (other (omega (arith, same.0, same.1))) ],
      )
]

pub returns : goal.returns
returns c = λ i j d below within.
    set_one c.args.marked.now c.args.place.0 c.args.place.1 i j d (omega arith) below (omega arith)
