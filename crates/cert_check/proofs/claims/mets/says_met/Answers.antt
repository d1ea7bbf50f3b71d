use Rattle.std.proofs.Common.{◌≡◌, ℕ, List, true, false, refl, sym, subst, inl, inr, arith}
use Rattle.std.specs.Prelude.{Contains}
use Rattle.cert_form.specs.Views.{mets_from}
use Rattle.cert_check.proofs.OutsLaws.{cases, first, later}
use Rattle.cert_check.proofs.claims.mets.says_met.Goals as goal

pub loop-place-init : goal.loop-place-init
loop-place-init c =
    let Has : List (ℕ × ℕ) → Type 0 = λ places. Contains places (c.args.rule, c.args.own) in
    (subst Has c.first_met-at.ensures, subst Has (sym c.first_met-at.ensures))

pub loop-place-preserved : goal.loop-place-preserved
loop-place-preserved c =
    let all = mets_from c.args.node.now c.loop-place.at in
    let rest = mets_from c.args.node.now c.in-Some.next in
    let wanted : ℕ × ℕ = (c.args.rule, c.args.own) in (
      λ has. c.loop-place.invariant.0 (later c.in-Some.place all rest c.in-Some.ensures wanted has),
      λ has. elim (cases c.in-Some.place all rest c.in-Some.ensures wanted (c.loop-place.invariant.1 has)) [
        | inl is ↦ absurd (let e : false ≡ true = c.if-is_place.ensures.1 is in cc)
        | inr waits ↦ waits
      ],
    )

pub returns-then-is_place : goal.returns-then-is_place
returns-then-is_place c = (
  λ _. c.loop-place.invariant.0 (first c.in-Some.place _ _ c.in-Some.ensures (c.args.rule, c.args.own) (c.if-is_place.ensures.0 refl)),
  λ _. refl,
)

pub returns : goal.returns
returns c = (
  λ t. absurd (let e : false ≡ true = t in cc),
  λ has. absurd (omega (arith, (subst (λ xs. Contains xs (c.args.rule, c.args.own)) c.in_default.ensures (c.loop-place.invariant.1 has)).1)),
)
