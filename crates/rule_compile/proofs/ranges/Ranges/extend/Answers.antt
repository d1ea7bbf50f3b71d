use Rattle.std.proofs.Common.{◌≡◌, ℕ, ◌-◌, [], ◌∷◌, ◌++◌, ◌∙◌, ap, sym, arith, vec_len}
use Rattle.rule_compile.specs.declared.ranges.Range.{Range}
use Rattle.rule_compile.specs.inner.Numbers.{wider}
use Rattle.rule_compile.proofs.RangeLaws.{popped}
use Rattle.rule_compile.proofs.ranges.Ranges.extend.Goals as goal

pub returns-in-Some-clause-extended : goal.returns-in-Some-clause-extended
returns-in-Some-clause-extended c =
    let e = c.in-Some.ensures {u = tt} in
    let made : ℕ → Range = λ n. record { first = n; last = c.args.end - 1; leaf = c.args.leaf } in
    let back : c.pop.new.self.items ≡ e.front =
    popped c.args.self.now.ranges.items c.pop.new.self.items e.front e.last (vec_len c.args.self.now.ranges) (omega
    (arith, c.args.self.now.ranges.ok)) e.is c.pop.ensures.rest in
    wider c.if-end-self.false e.front e.last e.is e.alike
    (c.in_ok-push.ensures.items ∙ ap (λ xs. xs ++ made c.in-Some.first ∷ []) back ∙ ap (λ n. e.front ++ made n ∷ []) (sym e.begins))
