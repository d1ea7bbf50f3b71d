use Rattle.std.proofs.Common.{◌≡◌, ◌∷◌, ◌++◌, [], List, length, take, ◌<◌, ◌+◌, rules, arith, ap, subst, sym}
use Rattle.profile.specs.declared.conditions.Cond.{Cond}
use Rattle.differ.specs.inner.Branch.{Narrows}
use Rattle.differ.proofs.AlikeLaws.{one_more}
use Rattle.differ.proofs.BranchLaws.{narrows_skip}
use Rattle.differ.proofs.begun.still_open.Goals as goal
use Rattle.differ.proofs.begun.still_open.Goals.{then-is_open+in_ok-keep, else-is_open}

pub loop-cond-preserved : goal.loop-cond-preserved
loop-cond-preserved c =
    let xs : List Cond = c.args.conds.now in
    let i = c.loop-cond.cond-index in
    let x : Cond = c.cond-item.result in
    let lt : i < length xs = omega arith in
    let more : take (i + 1) xs ≡ take i xs ++ x ∷ [] = one_more xs i x lt c.cond-item.is in
    elim c.if-is_open.branch [
      | then-is_open+in_ok-keep w ↦
          let added : c.if-is_open.kept.items ≡ w.keep.new.kept.items = ap (λ k. k.items) w.kept-is in
          subst (λ ys. Narrows c.args.high c.args.rest ys c.if-is_open.kept.items) (sym more)
          (subst (λ ks. Narrows c.args.high c.args.rest (take i xs ++ x ∷ []) ks) (sym added)
          (w.in_ok-keep.ensures c.args.high c.args.rest (take i xs) c.loop-cond.invariant))
      | else-is_open w ↦
          let same : c.if-is_open.kept.items ≡ c.loop-cond.kept.items = search rules in
          subst (λ ys. Narrows c.args.high c.args.rest ys c.if-is_open.kept.items) (sym more)
          (subst (λ ks. Narrows c.args.high c.args.rest (take i xs ++ x ∷ []) ks) (sym same)
          (narrows_skip c.args.high c.args.rest (take i xs) c.loop-cond.kept.items x c.loop-cond.invariant
          (c.is_open.ensures w.if-is_open.false)))
    ]
