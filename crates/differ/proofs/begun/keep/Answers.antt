use Rattle.std.proofs.Common.{◌≡◌, ◌++◌, ◌∷◌, [], List, subst, sym}
use Rattle.std.specs.List.{Contains}
use Rattle.profile.specs.declared.conditions.Cond.{Cond}
use Rattle.differ.specs.inner.Branch.{Narrows}
use Rattle.differ.proofs.BranchLaws.{narrows_has, narrows_push}
use Rattle.differ.proofs.begun.keep.Goals as goal

pub returns-then-has : goal.returns-then-has
returns-then-has c = λ high rest conds n. narrows_has high rest conds c.args.kept.now.items c.args.cond.now n (subst (λ ks. Contains ks c.args.cond.now) c.deref.ensures.value (c.has.ensures c.if-has.true))

pub returns : goal.returns
returns c = λ high rest conds n.
    subst (λ (ks : List Cond). Narrows high rest (conds ++ c.args.cond.now ∷ []) ks) (sym c.in_ok-push.ensures.items)
    (narrows_push high rest conds c.args.kept.now.items c.args.cond.now n)
