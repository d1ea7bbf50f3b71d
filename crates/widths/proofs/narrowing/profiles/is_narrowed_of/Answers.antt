use Rattle.std.proofs.Common.{◌≡◌, List, sym, ◌∙◌, subst}
use Rattle.std.specs.List.{All, Contains}
use Rattle.profile.specs.declared.rules.Rule.{Rule}
use Rattle.widths.specs.Lowered.{with_rules}
use Rattle.widths.proofs.PolicyLaws.{narrowed_profile, same_narrowed}
use Rattle.widths.proofs.narrowing.profiles.is_narrowed_of.Goals as goal

pub returns : goal.returns
returns c =
    λ done.
    let p = with_rules c.args.profile.now c.args.own.now in
    let q = c.args.narrowed.now in
    let within : All (Contains q.rules) c.args.rules.now =
    subst (λ (l : List Rule). All (Contains l) c.args.rules.now) c.rules.ensures.rules (c.has_all.ensures c.if-not-has_all.false) in
    let all : All (Contains c.args.rules.now) q.rules =
    subst (λ (l : List Rule). All (Contains c.args.rules.now) l) c.rules-2.ensures.rules (c.has_all-2.ensures done) in
    let machines : q.machines ≡ p.machines =
    sym c.machines.ensures.machines ∙ c.same_machines.ensures c.if-not-same_machines.false ∙ c.machines-2.ensures.machines in
    let default : q.default_word ≡ p.default_word =
    sym c.default_word.ensures ∙ c.same_word.ensures c.if-not-same_word.false ∙ c.default_word-2.ensures in
    narrowed_profile p q machines default (same_narrowed p.rules c.args.rules.now q.rules c.requires within all)
