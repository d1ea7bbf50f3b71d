use Rattle.std.proofs.Common.{◌≡◌, ℕ, true, false, refl, sym, subst, inl, inr}
use Rattle.cert_state.specs.declared.literal.Lit.TheVariants.{NotBits}
use Rattle.cert_state.specs.Literals.{all_bits}
use Rattle.cert_state.specs.Entailment.{Entails}
use Rattle.cert_check.specs.inner.Asked.{known_of}
use Rattle.cert_check.proofs.judging.Agreement.listed_agrees.Goals as goal

pub returns-then-is_other : goal.returns-then-is_other
returns-then-is_other g c =
    let P : ℕ → Type 0 = λ token. Entails (known_of c.args.self.now) (NotBits 1 all_bits token) in
    (λ _. inl (subst P c.token.ensures (c.if-is_other.ensures.0 refl)), λ _. refl)

pub returns : goal.returns
returns g c =
    let P : ℕ → Type 0 = λ token. Entails (known_of c.args.self.now) (NotBits 1 all_bits token) in (
      λ t. inr (c.machine_agrees.ensures.0 t),
      λ h. elim h [
        | inl another ↦ absurd (let e : false ≡ true = c.if-is_other.ensures.1 (subst P (sym c.token.ensures) another) in cc)
        | inr agrees ↦ c.machine_agrees.ensures.1 agrees
      ],
    )
