use Rattle.std.proofs.Common.{◌≡◌, ◌<◌, ℕ, Bool, true, List, length, sym, subst, ◌∙◌, inl, inr, ◌⊎◌, arith}
use Rattle.std.specs.Prelude.{◌↔◌, slice_index_or, slice_set}
use Rattle.std.proofs.lemmas.Bool.{cases_eq}
use Rattle.std.proofs.lemmas.List.{get_or-set_same, get_or-set_other}
use Rattle.cert_check.proofs.claims.outs.mark.Goals as goal

-- one place is marked
set_one : (marked : List Bool) (place k : ℕ) (d : Bool) → place < length marked
    → (slice_index_or (slice_set marked place true) k d ≡ true) ↔ ((slice_index_or marked k d ≡ true) ⊎ (k ≡ place))
set_one marked place k d within = elim (cases_eq k place) [
  | inl same ↦ (
    λ _. inr same,
    λ _. subst (λ j. slice_index_or (slice_set marked place true) j d ≡ true) (sym same) (get_or-set_same marked place true d within),
  )
  | inr other ↦
      let e = get_or-set_other marked place k true d other in (
        λ t. inl (sym e ∙ t),
        λ h. elim h [ inl t ↦ e ∙ t | inr same ↦ absurd (other same) ],
      )
]

pub returns-then-place-lt8192 : goal.returns-then-place-lt8192
returns-then-place-lt8192 c = λ k d lt. set_one c.args.marked.now c.args.place k d (omega arith)

pub returns-else-place-lt8192 : goal.returns-else-place-lt8192
returns-else-place-lt8192 c = λ k d lt. (
  λ t. inl t,
  λ h. elim h [ inl t ↦ t | inr same ↦ absurd (omega (arith, same, lt, c.if-place-lt8192.false)) ],
)
