use Rattle.std.proofs.Common.{sym, subst}
use Rattle.std.specs.Prelude.{◌↔◌, IsTrue}
use Rattle.profile.specs.declared.conditions.Op.{Op}
use Rattle.cert_check.specs.Agree.{IsYesBy}
use Rattle.cert_check.proofs.conditions.is_yes.Goals as goal

pub returns-in-Eq : goal.returns-in-Eq
returns-in-Eq g c =
    let cond = c.args.cond.now in
    let P : Op → Type 0 = λ op.
    IsTrue c.has_bits.result ↔ IsYesBy op c.args.narrow (g.K.Knowledge.known c.args.known.now) cond.index cond.value cond.datum in
    subst P (sym c.in-Eq.is) c.has_bits.ensures
