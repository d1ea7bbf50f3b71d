use Rattle.std.proofs.Common.{◌⊎◌, All, Any, List, subst, sym}
use Rattle.machines.specs.declared.arch.Arch.{Arch}
use Rattle.machines.specs.Numbers.{HasCall}
use Rattle.profile.specs.declared.rules.Rule.{Rule}
use Rattle.compare.specs.Spared.{IsNoCall}
use Rattle.compare.specs.inner.Spans.{AreBeyond}
use Rattle.compare.proofs.behind_runc.spared.are_spared.Goals as goal

pub returns : goal.returns
returns c = (
  λ h. record {
    listed = subst (λ (ms : List Arch). Any (HasCall c.args.token c.args.numbers.first) ms ⊎ IsNoCall c.args.token c.args.numbers.first)
        c.machines.ensures.machines (c.is_listed.ensures.0 c.if-not-is_listed.false);
    beyond = subst (λ (rs : List Rule). All (AreBeyond c.args.token c.args.numbers) rs) c.rules.ensures.rules
        (c.are_beyond_all.ensures.0 h);
  },
  λ s. c.are_beyond_all.ensures.1
      (subst (λ (rs : List Rule). All (AreBeyond c.args.token c.args.numbers) rs) (sym c.rules.ensures.rules) s.beyond),
)
