use Rattle.std.proofs.Common.{◌≡◌, true, false, List, refl, sym, ap, ◌∙◌, subst, arith}
use Rattle.machines.specs.declared.numbers.Numbers.{Numbers}
use Rattle.machines.specs.Numbers.{foreign_numbers}
use Rattle.cert_check.specs.Agree.{ForeignNumbersAgree}
use Rattle.cert_check.specs.inner.Asked.{known_of}
use Rattle.cert_check.proofs.SeveralLaws.{no_range}
use Rattle.cert_check.proofs.judging.Agreement.says_of_range.Goals as goal

pub are_said_of-requires : goal.are_said_of-requires
are_said_of-requires g c =
    let range = c.in-Some.ensures in
    (range.between c.in-Some.low range.least).1

pub returns-then-not-is_of : goal.returns-then-not-is_of
returns-then-not-is_of g c = (
  λ t. let e : false ≡ true = t in cc,
  λ h. let e : false ≡ true = c.if-not-is_of.ensures.1 h.is_of in cc,
)

pub returns-then-not-foreign_numbers_agree : goal.returns-then-not-foreign_numbers_agree
returns-then-not-foreign_numbers_agree g c =
    let F : List Numbers → Type 0 = ForeignNumbersAgree (known_of c.args.self.now) c.args.self.now.word c.args.arch in
    let same = c.foreign_numbers-foreign.ensures ∙ ap (λ machines. foreign_numbers machines c.args.arch) c.machines.ensures.machines in (
      λ t. let e : false ≡ true = t in cc,
      λ h. let e : false ≡ true = c.if-not-foreign_numbers_agree.ensures.1 (subst F (sym same) h.foreign) in cc,
    )

pub returns-in-Some : goal.returns-in-Some
returns-in-Some g c =
    let known = known_of c.args.self.now in
    let F : List Numbers → Type 0 = ForeignNumbersAgree known c.args.self.now.word c.args.arch in
    let same = c.foreign_numbers-foreign.ensures ∙ ap (λ machines. foreign_numbers machines c.args.arch) c.machines.ensures.machines in
    let range = c.in-Some.ensures in (
      λ t. record {
        is_of = c.if-not-is_of.ensures.0 refl;
        foreign = subst F same (c.if-not-foreign_numbers_agree.ensures.0 refl);
        low = c.in-Some.low;
        high = c.in-Some.high;
        range = range;
        each = c.are_said_of.ensures.0 t;
      },
      λ h. c.are_said_of.ensures.1 (λ nr from to.
          let lower = (h.range.between c.in-Some.low range.least).0 in
          let upper = (h.range.between c.in-Some.high range.greatest).1 in
          h.each nr (omega (arith, lower, from)) (omega (arith, upper, to))),
    )

pub returns-in-None : goal.returns-in-None
returns-in-None g c = (
  λ t. let e : false ≡ true = t in cc,
  λ h. absurd (no_range (known_of c.args.self.now) c.range.result c.in-None.is c.range.ensures h.low h.range.least),
)
