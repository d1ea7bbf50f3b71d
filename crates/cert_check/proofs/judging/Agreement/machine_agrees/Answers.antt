use Rattle.std.proofs.Common.{◌≡◌, true, false, List, refl, inl, inr, sym, ap, ◌∙◌, subst}
use Rattle.machines.specs.declared.numbers.Numbers.{Numbers}
use Rattle.machines.specs.Numbers.{foreign_numbers}
use Rattle.cert_check.specs.inner.Asked.{known_of}
use Rattle.cert_check.specs.Agree.{ForeignNumbersAgree, IsAmong}
use Rattle.cert_check.proofs.judging.Agreement.machine_agrees.Goals as goal

pub returns-then-not-foreign_numbers_agree : goal.returns-then-not-foreign_numbers_agree
returns-then-not-foreign_numbers_agree g c =
    let F : List Numbers → Type 0 = ForeignNumbersAgree (known_of c.args.self.now) c.args.self.now.word c.args.arch in
    let same = c.foreign_numbers-foreign.ensures ∙ ap (λ machines. foreign_numbers machines c.args.arch) c.machines.ensures.machines in (
      λ t. let e : false ≡ true = t in cc,
      λ h. let e : false ≡ true = c.if-not-foreign_numbers_agree.ensures.1 (subst F (sym same) h.foreign) in cc,
    )

pub returns-then-is_among : goal.returns-then-is_among
returns-then-is_among g c =
    let F : List Numbers → Type 0 = ForeignNumbersAgree (known_of c.args.self.now) c.args.self.now.word c.args.arch in
    let P : List Numbers → Type 0 = IsAmong (known_of c.args.self.now) in
    let same = c.foreign_numbers-foreign.ensures ∙ ap (λ machines. foreign_numbers machines c.args.arch) c.machines.ensures.machines in (
      λ _. record {
        foreign = subst F same (c.if-not-foreign_numbers_agree.ensures.0 refl);
        rules = inl (subst P same (c.if-is_among.ensures.0 refl));
      },
      λ _. refl,
    )

pub returns : goal.returns
returns g c =
    let F : List Numbers → Type 0 = ForeignNumbersAgree (known_of c.args.self.now) c.args.self.now.word c.args.arch in
    let P : List Numbers → Type 0 = IsAmong (known_of c.args.self.now) in
    let same = c.foreign_numbers-foreign.ensures ∙ ap (λ machines. foreign_numbers machines c.args.arch) c.machines.ensures.machines in (
      λ t. record {
        foreign = subst F same (c.if-not-foreign_numbers_agree.ensures.0 refl);
        rules = inr (c.rules_agree.ensures.0 t);
      },
      λ h. elim h.rules [
        | inl among ↦ absurd (let e : false ≡ true = c.if-is_among.ensures.1 (subst P (sym same) among) in cc)
        | inr agree ↦ c.rules_agree.ensures.1 agree
      ],
    )
