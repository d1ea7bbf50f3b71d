use Rattle.std.proofs.Common.{◌≡◌, ℕ, true, false, List, sym, subst, ap, ◌∙◌, inl, inr}
use Rattle.machines.specs.declared.numbers.Numbers.{Numbers}
use Rattle.machines.specs.Numbers.{foreign_numbers}
use Rattle.cert_state.specs.declared.literal.Lit.TheVariants.{NotBits}
use Rattle.cert_state.specs.Literals.{all_bits}
use Rattle.cert_state.specs.Entailment.{Entails}
use Rattle.cert_check.specs.Agree.{IsAmong}
use Rattle.cert_check.specs.inner.Asked.{known_of}
use Rattle.cert_check.proofs.TestLaws.{not_so}
use Rattle.cert_check.proofs.judging.Agreement.rules_agreed.Goals as goal

pub returns : goal.returns
returns g c =
    let known = known_of c.args.self.now in
    let P : ℕ → Type 0 = λ token. Entails known (NotBits 1 all_bits token) in
    let A : List Numbers → Type 0 = IsAmong known in
    let same = c.foreign_numbers.ensures ∙ ap (λ machines. foreign_numbers machines c.args.arch) c.machines.ensures.machines in
    λ t. elim c.requires [
      | inl another ↦ absurd (let e : false ≡ true = c.if-is_other.ensures.1 (subst P (sym c.token.ensures) another) in cc)
      | inr agrees ↦ elim agrees.rules [
        | inl among ↦ absurd (not_so c.is_among.result t (c.is_among.ensures.1 (subst A (sym same) among)))
        | inr agree ↦ agree
      ]
    ]
