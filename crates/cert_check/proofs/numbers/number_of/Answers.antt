use Rattle.std.proofs.Common.{◌≡◌, Some, false, true, refl, sym, subst, arith, inl, inr}
use Rattle.std.specs.Prelude.{IfSome, slice_index_or, slice_set}
use Rattle.std.proofs.lemmas.Bool.{cases_eq}
use Rattle.std.proofs.lemmas.List.{get_or-set_same, get_or-set_other}
use Rattle.cert_check.specs.inner.Judged.{IsKnownNumber}
use Rattle.cert_check.proofs.numbers.number_of.Goals as goal

pub returns-clause-kept : goal.returns-clause-kept
returns-clause-kept g c =
    let known = g.S.State.known c.args.facts.now.state.now in
    let numbers = c.args.numbers.now in
    let nr = c.args.nr in
    let one = Some c.ask_number-number.result in
    λ n d lt. elim (cases_eq n nr) [
      | inl same ↦
          subst (λ k. IfSome (slice_index_or (slice_set numbers nr one) k d) (IsKnownNumber known k)) (sym same)
          (rw (get_or-set_same numbers nr one d (omega arith)) c.ask_number-number.ensures)
      | inr other ↦ rw (get_or-set_other numbers nr n one d other) (c.requires.asked n d lt)
    ]

pub returns-then-nr-least-clause-number : goal.returns-then-nr-least-clause-number
returns-then-nr-least-clause-number g c =
    let other = c.requires.range c.args.nr (omega arith) (inl (omega (arith, c.if-nr-least.true))) in (
      (λ t. let e : false ≡ true = t in cc, λ said. absurd (other.1 said)),
      (λ _. other.0, λ _. refl),
    )

pub returns-then-nr-greatest-clause-number : goal.returns-then-nr-greatest-clause-number
returns-then-nr-greatest-clause-number g c =
    let other = c.requires.range c.args.nr (omega arith) (inr (omega (arith, c.if-nr-greatest.true))) in (
      (λ t. let e : false ≡ true = t in cc, λ said. absurd (other.1 said)),
      (λ _. other.0, λ _. refl),
    )
