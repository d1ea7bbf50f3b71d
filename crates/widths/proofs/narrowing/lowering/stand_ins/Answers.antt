use Rattle.std.proofs.Common.{◌≡◌, ◌+◌, ℕ, [], ◌∷◌, ◌++◌, List, take, sym, ◌∙◌, ap, subst, arith}
use Rattle.std.specs.List.{AllZip}
use Rattle.std.proofs.lemmas.List.{take_more}
use Rattle.machines.specs.Arch.{token_of}
use Rattle.profile.specs.declared.conditions.Cond.{Cond}
use Rattle.widths.specs.Lowered.{IsUnfitOrder, StandsFor}
use Rattle.widths.specs.Narrowed.{Has}
use Rattle.widths.proofs.LowerLaws.{one_more_stands}
use Rattle.widths.proofs.narrowing.lowering.stand_ins.Goals as goal

pub loop-cond-preserved : goal.loop-cond-preserved
loop-cond-preserved c =
    let rule = c.args.rule.now in
    let cs = rule.conds.items in
    let lent = c.as_slice-cond-items.result.now in
    let i = c.loop-cond.cond-index in
    let one = c.cond-item.result in
    let two = c.in-Some.stand_in in
    let stands : StandsFor (token_of rule.arch) rule.nr two one =
    subst (λ (token : ℕ). StandsFor token rule.nr two one) c.token-token.ensures c.in-Some.ensures.stands in
    let of-lent : take (i + 1) lent ≡ take i lent ++ one ∷ [] =
    take_more lent i one (omega (arith, c.loop-cond-test.true)) ∙ ap (λ (x : Cond). take i lent ++ x ∷ []) (sym c.cond-item.is) in
    let more : take (i + 1) cs ≡ take i cs ++ one ∷ [] =
    subst (λ (l : List Cond). take (i + 1) l ≡ take i l ++ one ∷ []) c.as_slice-cond-items.ensures.value of-lent in
    subst (λ (ds : List Cond). AllZip (StandsFor (token_of rule.arch) rule.nr) ds (take (i + 1) cs)) (sym c.push.ensures.items)
    (one_more_stands (token_of rule.arch) rule.nr i c.loop-cond.lower.items cs two one c.loop-cond.invariant more stands)

pub returns-in_default-clause-none : goal.returns-in_default-clause-none
returns-in_default-clause-none c =
    λ _.
    let rule = c.args.rule.now in
    let one = c.cond-item.result in
    let unfit : IsUnfitOrder (token_of rule.arch) rule.nr one =
    subst (λ (token : ℕ). IsUnfitOrder token rule.nr one) c.token-token.ensures (c.stand_in.ensures.none c.in_default.is) in
    subst (Has (IsUnfitOrder (token_of rule.arch) rule.nr)) c.as_slice-cond-items.ensures.value
    (one, (c.loop-cond.cond-index, c.loop-cond-test.true, sym c.cond-item.is), unfit)
