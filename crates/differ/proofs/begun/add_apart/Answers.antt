use Rattle.std.proofs.Common.{◌≡◌, ◌<◌, ◌/◌, ◌^◌, ◌++◌, ◌∷◌, [], ℕ, List, length, get_or, false, true, Err, rules, arith, sym, subst}
use Rattle.std.proofs.lemmas.List.{take_all}
use Rattle.std.proofs.lemmas.List.Elements.{All-push, All-get_or}
use Rattle.differ.specs.Cells.{AreApart, IsMet}
use Rattle.differ.specs.inner.Branch.{AllBegin}
use Rattle.differ.proofs.AlikeLaws.{apart_push, come_added, come_met, met_more}
use Rattle.differ.proofs.BranchLaws.{full_added}
use Rattle.differ.proofs.begun.add_apart.Goals as goal
use Rattle.differ.proofs.begun.add_apart.Goals.{then-not-is_met+in_ok-add, else-not-is_met}

pub loop-number-preserved : goal.loop-number-preserved
loop-number-preserved c =
    let conds = c.args.conds.now in
    let xs : List ℕ = c.args.more.now in
    let i = c.loop-number.number-index in
    let old : List ℕ = c.loop-number.list.items in
    let new : List ℕ = c.if-not-is_met.list.items in
    let lt : i < length xs = omega arith in
    elim c.if-not-is_met.branch [
      | then-not-is_met+in_ok-add w ↦
          let added : new ≡ old ++ get_or xs i 0 ∷ [] = search rules in
          let unmet : IsMet conds old (get_or xs i 0) → ⊥ = λ m.
          let t : c.is_met.result ≡ true = c.is_met.ensures.1 (subst (λ ys. IsMet conds ys (get_or xs i 0)) (sym c.deref.ensures.value) m) in
          let f : c.is_met.result ≡ false = w.if-not-is_met.true in
          cc in
          record {
            begin = λ high rest a b.
                let P : ℕ → Type 0 = λ v. v / 2 ^ rest ≡ high in
                subst (λ ys. AllBegin high rest ys) (sym added)
                (All-push P old (get_or xs i 0) (c.loop-number.invariant.begin high rest a b) (All-get_or P xs i 0 lt b));
            stay = λ u m. subst (λ ys. IsMet conds ys u) (sym added) (met_more conds old (get_or xs i 0) u (c.loop-number.invariant.stay u m));
            come = λ u m. subst (λ ys. IsMet conds ys u) (sym added) (come_added conds xs old i u lt c.loop-number.invariant.come m);
            apart = λ a. subst (λ ys. AreApart conds ys) (sym added) (apart_push conds old (get_or xs i 0) (c.loop-number.invariant.apart a) unmet);
          }
      | else-not-is_met w ↦
          let same : new ≡ old = search rules in
          let met : IsMet conds old (get_or xs i 0) =
          subst (λ ys. IsMet conds ys (get_or xs i 0)) c.deref.ensures.value (c.is_met.ensures.0 w.if-not-is_met.false) in
          record {
            begin = λ high rest a b. subst (λ ys. AllBegin high rest ys) (sym same) (c.loop-number.invariant.begin high rest a b);
            stay = λ u m. subst (λ ys. IsMet conds ys u) (sym same) (c.loop-number.invariant.stay u m);
            come = λ u m. subst (λ ys. IsMet conds ys u) (sym same) (come_met conds xs old i u lt c.loop-number.invariant.come met m);
            apart = λ a. subst (λ ys. AreApart conds ys) (sym same) (c.loop-number.invariant.apart a);
          }
    ]

pub returns-clause-come : goal.returns-clause-come
returns-clause-come c = λ u m.
    c.loop-number.invariant.come u
    (subst (λ ys. IsMet c.args.conds.now ys u) (sym (take_all c.loop-number.number-index c.args.more.now (omega arith))) m)

pub returns-in_err-add-clause-full : goal.returns-in_err-add-clause-full
returns-in_err-add-clause-full c = λ high rest begin more apart.
    let is : c.from_residual.result ≡ Err c.in_err-add.field-0.0 = search rules in
    let conds = c.args.conds.now in
    let xs : List ℕ = c.args.more.now in
    let i = c.loop-number.number-index in
    let old : List ℕ = c.loop-number.list.items in
    let lt : i < length xs = omega arith in
    let unmet : IsMet conds old (get_or xs i 0) → ⊥ = λ m.
    let t : c.is_met.result ≡ true = c.is_met.ensures.1 (subst (λ ys. IsMet conds ys (get_or xs i 0)) (sym c.deref.ensures.value) m) in
    let f : c.is_met.result ≡ false = c.if-not-is_met.true in
    cc in
    rw is
    (full_added conds high rest old xs i c.in_err-add.field-0.0 lt c.in_err-add.ensures.room (c.loop-number.invariant.begin high rest begin more) more
    (c.loop-number.invariant.apart apart) unmet)
