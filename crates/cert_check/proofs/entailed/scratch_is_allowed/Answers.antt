use Rattle.std.proofs.Common.{◌≡◌, ℕ, List, Some, inl, refl, sym, subst, ◌∙◌}
use Rattle.std.specs.Prelude.{slice_get}
use Rattle.std.proofs.lemmas.List.{get_or-replicate}
use Rattle.std.proofs.lemmas.Option.{get_or_from_slice_get, slice_get_within}
use Rattle.cert_state.specs.declared.literal.AVal.{AVal}
use Rattle.cert_state.specs.declared.literal.AVal.TheVariants.{Unknown}
use Rattle.cert_form.specs.Spelling.{nothing_stated}
use Rattle.cert_check.proofs.entailed.scratch_is_allowed.Goals as goal

-- where nothing is stated each value is unknown
nothing_there : (xs : List AVal) (j : ℕ) (v : AVal) → xs ≡ nothing_stated → slice_get xs j ≡ Some v → v ≡ Unknown
nothing_there xs j v none at =
    let here : slice_get nothing_stated j ≡ Some v = subst (λ (ys : List AVal). slice_get ys j ≡ Some v) none at in
    sym (get_or_from_slice_get nothing_stated j v v here) ∙ get_or-replicate 16 j Unknown v (slice_get_within nothing_stated j v here)

pub returns-then-not-may_state_scratch : goal.returns-then-not-may_state_scratch
returns-then-not-may_state_scratch c =
    (λ _ j v at. inl (nothing_there _ j v (c.if-not-may_state_scratch.ensures refl) at), λ _. refl)
