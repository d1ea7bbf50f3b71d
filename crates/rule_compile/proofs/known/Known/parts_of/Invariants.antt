use Rattle.std.specs.Prelude.{take}
use Rattle.rule_compile.specs.inner.Noted.{AreBySpans}
use Rattle.rule_compile.proofs.known.Known.parts_of.Given as goal

abbrev pub invariant-loop-span : goal.invariant-loop-span
invariant-loop-span l = AreBySpans l.questions (take l.span-index l.span-items) l.parts.items
