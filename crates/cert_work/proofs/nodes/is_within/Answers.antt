use Rattle.std.proofs.Common.{sym, subst}
use Rattle.cert_form.specs.Views.{nodes_of}
use Rattle.cert_work.specs.Work.{AreWithin}
use Rattle.cert_work.proofs.WorkLaws.{memory_ran_out, none_within}
use Rattle.cert_work.proofs.nodes.is_within.Goals as goal

pub returns-in-Err-clause-within : goal.returns-in-Err-clause-within
returns-in-Err-clause-within c =
    none_within c.args.profile.now c.args.cert.now c.in-Err.error c.unread.result c.unread.ensures.none c.in-Err.ensures.only

pub returns-in-Err-clause-memory : goal.returns-in-Err-clause-memory
returns-in-Err-clause-memory c =
    memory_ran_out c.args.cert.now c.in-Err.error c.unread.result c.unread.ensures.memory c.in-Err.ensures.fault

pub returns-clause-within : goal.returns-clause-within
returns-clause-within c =
    let ns = nodes_of c.in-Ok.view in
    let rules = c.args.profile.now.rules in (
      λ yes. λ ms spells. subst (AreWithin rules) (c.in-Ok.ensures.only ms spells)
          (subst (λ r. AreWithin r ns) c.rules.ensures.rules (c.are_within.ensures.0 yes)),
      λ within. c.are_within.ensures.1 (subst (λ r. AreWithin r ns) (sym c.rules.ensures.rules) (within ns c.in-Ok.ensures.found)),
    )
