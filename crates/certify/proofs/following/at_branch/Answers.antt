use Rattle.std.proofs.Common.{◌<◌, ◌^◌, true, false, sym, subst, ap, ◌∙◌, rules}
use Rattle.std.specs.Prelude.{IfSome}
use Rattle.cert_state.specs.Literals.{AreValues, IsLit}
use Rattle.cert_state.specs.Sharp.{sharp_fact}
use Rattle.certify.specs.inner.Places.{known_at}
use Rattle.certify.proofs.LitLaws.{fact_lit, transfer_values}
use Rattle.certify.proofs.following.at_branch.Goals as goal

pub add_two-requires-clause-one : goal.add_two-requires-clause-one
add_two-requires-clause-one c =
    let i = c.args.insn in
    let s = c.args.from.regs in
    let small : i.k < 2 ^ 32 = search rules in (
      subst (λ o. IfSome o IsLit) (sym (c.fact.ensures ∙ ap (λ ls. sharp_fact ls s i true) c.known-known.ensures))
          (fact_lit (known_at c.args.paths.now.entries.items c.args.from) s i true c.requires.from.values small),
      subst AreValues (sym c.after-regs.ensures) (transfer_values s i c.requires.plain small c.requires.from.values),
    )

pub add_two-requires-clause-other : goal.add_two-requires-clause-other
add_two-requires-clause-other c =
    let i = c.args.insn in
    let s = c.args.from.regs in
    let small : i.k < 2 ^ 32 = search rules in (
      subst (λ o. IfSome o IsLit) (sym (c.fact-2.ensures ∙ ap (λ ls. sharp_fact ls s i false) c.known-known.ensures))
          (fact_lit (known_at c.args.paths.now.entries.items c.args.from) s i false c.requires.from.values small),
      subst AreValues (sym c.after-regs.ensures) (transfer_values s i c.requires.plain small c.requires.from.values),
    )
