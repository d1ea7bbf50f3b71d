use Rattle.std.proofs.Common.{sym, subst}
use Rattle.std.specs.Prelude.{◌↔◌, IsTrue}
use Rattle.profile.specs.declared.conditions.Op.{Op}
use Rattle.cert_check.specs.Agree.{IsNoBy, IsYesBy}
use Rattle.cert_check.proofs.conditions.is_no.Goals as goal

pub returns-in-Eq : goal.returns-in-Eq
returns-in-Eq g c =
    let known = g.K.Knowledge.known c.args.known.now in
    let cond = c.args.cond.now in
    let P : Op → Type 0 = λ op.
    IsTrue c.only_lacks_bits.result ↔ (IsNoBy op c.args.narrow known cond.index cond.value cond.datum
    × (IsYesBy op c.args.narrow known cond.index cond.value cond.datum → ⊥)) in
    subst P (sym c.in-Eq.is) c.only_lacks_bits.ensures

pub returns-in-MaskedEq : goal.returns-in-MaskedEq
returns-in-MaskedEq g c =
    let known = g.K.Knowledge.known c.args.known.now in
    let cond = c.args.cond.now in
    let P : Op → Type 0 = λ op.
    IsTrue c.only_lacks_bits-in-MaskedEq.result ↔ (IsNoBy op c.args.narrow known cond.index cond.value cond.datum
    × (IsYesBy op c.args.narrow known cond.index cond.value cond.datum → ⊥)) in
    subst P (sym c.in-MaskedEq.is) c.only_lacks_bits-in-MaskedEq.ensures

pub returns-in-Ne : goal.returns-in-Ne
returns-in-Ne g c =
    let known = g.K.Knowledge.known c.args.known.now in
    let cond = c.args.cond.now in
    let P : Op → Type 0 = λ op.
    IsTrue c.only_has_bits.result ↔ (IsNoBy op c.args.narrow known cond.index cond.value cond.datum
    × (IsYesBy op c.args.narrow known cond.index cond.value cond.datum → ⊥)) in
    subst P (sym c.in-Ne.is) c.only_has_bits.ensures
