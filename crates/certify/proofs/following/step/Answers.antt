use Rattle.std.proofs.Common.{◌<◌, ◌^◌, sym, subst, rules}
use Rattle.cert_state.specs.Literals.{AreValues}
use Rattle.certify.proofs.LitLaws.{transfer_values}
use Rattle.certify.proofs.following.step.Goals as goal

pub add-requires-clause-values : goal.add-requires-clause-values
add-requires-clause-values c =
    let i = c.args.insn in
    let small : i.k < 2 ^ 32 = search rules in
    subst AreValues (sym c.after-regs.ensures) (transfer_values c.args.from.regs i c.requires.plain small c.requires.from.values)
