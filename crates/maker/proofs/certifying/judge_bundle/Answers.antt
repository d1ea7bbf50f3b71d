use Rattle.std.proofs.Common.{subst}
use Rattle.profile.specs.Policy.{Policy}
use Rattle.maker.specs.Certified.{IsOwnFilter}
use Rattle.maker.proofs.EvidenceLaws.{own_read, profile_open}
use Rattle.maker.proofs.PlainLaws.{same_policy}
use Rattle.maker.proofs.certifying.judge_bundle.Goals as goal

pub returns-in-Ok-clause-found : goal.returns-in-Ok-clause-found
returns-in-Ok-clause-found c = c.judge_filter.ensures.found c.args.document.now.native c.args.document.now.bytes c.in-Ok.ensures.ok

pub returns-in-Ok-clause-own : goal.returns-in-Ok-clause-own
returns-in-Ok-clause-own c = λ policy own.
    let native = c.args.document.now.native in
    let bundle = c.args.document.now.bytes in
    let same = same_policy native bundle policy c.in-Ok.bundle.now.profile own.means c.in-Ok.ensures.ok in
    c.judge_filter.ensures.own native bundle (subst (λ (p : Policy). IsOwnFilter native bundle c.args.filter.now p) same own)

pub returns-in-Err-clause-found : goal.returns-in-Err-clause-found
returns-in-Err-clause-found c =
    profile_open c.args.document.now.native c.args.document.now.bytes c.args.filter.now c.in-Err.error c.from.result c.in-Err.ensures.err c.from.ensures

pub returns-in-Err-clause-own : goal.returns-in-Err-clause-own
returns-in-Err-clause-own c = λ policy own.
    own_read c.args.document.now.native c.args.document.now.bytes policy c.in-Err.error c.from.result own.means c.in-Err.ensures.err c.from.ensures
