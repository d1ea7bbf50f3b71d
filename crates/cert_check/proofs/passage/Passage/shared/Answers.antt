use Rattle.std.proofs.Common.{sym, subst}
use Rattle.std.specs.Prelude.{All, Contains}
use Rattle.std.proofs.lemmas.List.Elements.{All-nil}
use Rattle.cert_form.specs.declared.node.Claim.{Claim}
use Rattle.cert_form.specs.Views.{certificate_of, claims_of}
use Rattle.cert_check.specs.inner.Followed.{IsPlaced}
use Rattle.cert_check.proofs.SharedLaws.{are_shared, none_at_end}
use Rattle.cert_check.proofs.passage.Passage.shared.Goals as goal

pub returns-then-not-self : goal.returns-then-not-self
returns-then-not-self c =
    let Is : Claim → Type 0 = λ claim. Contains (claims_of c.args.self.now.node.now) claim × IsPlaced c.args.self.now.profile.now claim in
    subst (All Is) (sym (none_at_end (certificate_of c.args.self.now.there.now))) (All-nil Is)

pub returns : goal.returns
returns c =
    are_shared c.args.self.now.profile.now c.args.self.now.node.now c.args.self.now.there.now c.meeting.result c.args.self.now.same
    c.meeting.ensures.here (c.args.self.now.has_rules c.if-not-self.false)
