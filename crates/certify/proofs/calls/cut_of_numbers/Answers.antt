use Rattle.std.proofs.Common.{◌≡◌, List, true, false, sym, subst, ap, ◌∙◌, arith, inr, ⊎_elim}
use Rattle.std.specs.Prelude.{Any}
use Rattle.machines.specs.declared.arch.Arch.{Arch}
use Rattle.machines.specs.Numbers.{foreign_numbers}
use Rattle.cert_state.specs.declared.literal.Lit.TheVariants.{In}
use Rattle.certify.specs.inner.Apart.{IsMiddle}
use Rattle.certify.specs.inner.Leaf.{BeginsWithin}
use Rattle.certify.proofs.OpenLaws.{match_some}
use Rattle.certify.proofs.calls.cut_of_numbers.Goals as goal

pub returns-then-not-begins : goal.returns-then-not-begins
returns-then-not-begins c =
    let machine = c.in_ok-machine.machine in
    let are : c.foreign_numbers-foreign.result.now ≡ foreign_numbers c.args.profile.now.machines machine =
    c.foreign_numbers-foreign.ensures ∙ ap (λ (ms : List Arch). foreign_numbers ms machine) c.machines.ensures.machines in
    inr (
      machine,
      c.in_ok-machine.ensures,
      inr (
        c.if-high-ge-ABOVE_ALL_NUMBERS.true,
        λ any. let e : false ≡ true = c.if-not-begins.ensures.1 (subst (Any (BeginsWithin c.args.low c.args.high)) (sym are) any) in cc,
      ),
    )

pub returns : goal.returns
returns c =
    let machine = c.in_ok-machine.machine in
    let are : c.foreign_numbers-foreign.result.now ≡ foreign_numbers c.args.profile.now.machines machine =
    c.foreign_numbers-foreign.ensures ∙ ap (λ (ms : List Arch). foreign_numbers ms machine) c.machines.ensures.machines in
    let at = c.middle.result in
    match_some c.below.result _ _ _
    (λ e. ⊎_elim (λ past. omega (arith, past)) (λ zero. omega (arith, zero)) (c.below.ensures.none e))
    c.below.ensures.cut
    (λ cut is. record {
      arch = machine;
      machine = c.in_ok-machine.ensures;
      cut = at;
      middle = subst (λ all. IsMiddle all c.args.low c.args.high at) are (record {
        from = c.middle.ensures.from;
        upto = c.middle.ensures.to;
        foreign = c.middle.ensures.foreign;
        half = c.middle.ensures.half;
      });
      one_is = is.0 ∙ ap (λ n. In 0 0 n) (omega arith);
      other_is = is.1;
    })
