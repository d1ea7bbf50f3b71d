use Rattle.std.proofs.Common.{refl, subst}
use Rattle.cert_state.specs.declared.literal.AVal.{AVal}
use Rattle.cert_state.specs.declared.literal.Regs.{Regs}
use Rattle.cert_check.specs.Rules.{Allows}
use Rattle.cert_check.proofs.passage.Passage.carries.Goals as goal

pub returns : goal.returns
returns c =
    let way : Regs = c.args.self.now.way.now.regs in (
      λ t.
          let all = c.claims_follow.ensures.0 t in
          record {
            literals = all.literals;
            outs = all.outs;
            mets = all.mets;
            for_a = subst (λ (v : AVal). Allows v way.a) c.a.ensures (c.if-not-allows.ensures.0 refl);
            for_x = subst (λ (v : AVal). Allows v way.x) c.x.ensures (c.if-not-allows-2.ensures.0 refl);
            for_scratch = c.if-not-scratch_is_allowed.ensures.0 refl;
          },
      λ h. c.claims_follow.ensures.1 (record { literals = h.literals; outs = h.outs; mets = h.mets }),
    )
