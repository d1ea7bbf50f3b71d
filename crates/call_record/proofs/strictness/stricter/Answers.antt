use Rattle.std.proofs.Common.{sym}
use Rattle.call_record.proofs.StrictestLemmas.{older_is_stricter, newer_allows, newer_stays}
use Rattle.call_record.proofs.strictness.stricter.Goals as goal

pub returns-then-is_stricter : goal.returns-then-is_stricter
returns-then-is_stricter c = sym (older_is_stricter c.args.newer c.args.older (cc))

pub returns-then-eq : goal.returns-then-eq
returns-then-eq c = sym (newer_allows c.args.newer c.args.older (cc) (cc))

pub returns-else-eq : goal.returns-else-eq
returns-else-eq c = sym (newer_stays c.args.newer c.args.older (cc) (cc))
