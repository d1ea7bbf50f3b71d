use Rattle.std.proofs.Common.{sym, ◌∙◌}
use Rattle.explain.specs.Audit.{is_origin}
use Rattle.explain.proofs.OriginLaws.{any_map}
use Rattle.explain.proofs.audited.origins.has_origin.Goals as goal

pub returns : goal.returns
returns c = c.is_among.ensures ∙ sym (any_map (is_origin c.args.event.now c.args.process.now) c.args.origins.now)
