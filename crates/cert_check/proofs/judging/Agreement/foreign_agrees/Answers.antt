use Rattle.std.proofs.Common.{sym, subst, inl, inr}
use Rattle.std.specs.Prelude.{Any}
use Rattle.std.proofs.lemmas.Bool.{eqb-false}
use Rattle.machines.specs.declared.arch.Arch.{Arch}
use Rattle.machines.specs.Arch.{token_of}
use Rattle.cert_state.specs.declared.literal.Lit.TheVariants.{Bits}
use Rattle.cert_state.specs.Literals.{all_bits}
use Rattle.cert_state.specs.Entailment.{Entails}
use Rattle.cert_check.specs.inner.Asked.{known_of}
use Rattle.cert_check.proofs.judging.Agreement.foreign_agrees.Goals as goal

pub returns : goal.returns
returns g c =
    let known = known_of c.args.self.now in
    let P : Arch → Type 0 = λ a. Entails known (Bits 1 all_bits (token_of a)) in
    let same = c.machines.ensures.machines in (
      λ t. let some = subst (Any P) same (c.is_listed.ensures.0 t) in inl (some.1, (some.0, some.2, some.3), some.4),
      λ h. elim h [
        | inl (a, (k, inside, at), known_so) ↦ c.is_listed.ensures.1 (subst (Any P) (sym same) (k, a, inside, at, known_so))
        | inr e ↦ absurd (eqb-false c.args.self.now.word 0 (sym c.if-eq.ensures) e)
      ],
    )
