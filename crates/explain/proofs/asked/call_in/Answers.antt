use Rattle.std.proofs.Common.{◌∙◌, sym}
use Rattle.explain.proofs.AskedLaws.{asked_none}
use Rattle.explain.proofs.asked.call_in.Goals as goal

pub returns-clause-none : goal.returns-clause-none
returns-clause-none c =
    asked_none c.args.native c.args.arguments.now c.asked.result (sym c.are_bytes.ensures ∙ c.if-are_bytes.false) c.asked.ensures.none
