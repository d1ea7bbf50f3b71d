use Rattle.std.proofs.Common.{◌≡◌, ℕ, ◌++◌, ◌∷◌, [], Option, Some, ◌∙◌, ap, subst}
use Rattle.std.specs.BTreeMap.{Updates}
use Rattle.machines.specs.Arch.{token_of}
use Rattle.profile.specs.inner.Places.{call_cmp, latest_of}
use Rattle.profile.proofs.IndexLaws.{index_more}
use Rattle.profile.proofs.index.Index.push.Goals as goal

pub returns : goal.returns
returns c rules is =
    let old = c.args.self.now in
    let rule = c.args.rule.now in
    let before : c.in_ok-earlier.earlier ≡ latest_of old (token_of rule.arch) rule.nr =
    c.in_ok-earlier.ensures.old ∙ ap (λ (t : ℕ). latest_of old t rule.nr) c.token.ensures in
    index_more rules rule old _ c.len-place.result is (c.len-place.ensures ∙ old.earlier.ok.0)
    (subst (λ (t : ℕ). Updates call_cmp old.latest c.insert.new.self (t, rule.nr) (Some c.len-place.result)) c.token.ensures
    c.in_ok-earlier.ensures.updates)
    (c.in_ok-push.ensures.items ∙ ap (λ (o : Option ℕ). old.earlier.items ++ o ∷ []) before)
