-- The prose of a command's page.
use Rattle.std.specs.Prelude.{ℕ, List}
use Rattle.command_line.specs.declared.prose.Command.{Command}
use Rattle.command_line.specs.declared.prose.Command.TheVariants.{Verdict, Check, Certify, Export, Run, Explain, Read, Lint, Compare}
use Rattle.command_line.specs.declared.prose.Command.TheVariants.{Adapt, Learn, Replay, Record, Assemble, Annotate, Draw, Recover}
use Rattle.command_line.specs.declared.prose.Command.TheVariants.{Join, Meet, Stack, Flatten, Review, Json, Manual, Version}
use Rattle.command_line.specs.declared.prose.TheConstants.{VERDICT, CHECK, CERTIFY, EXPORT, RUN, EXPLAIN, READ, LINT, COMPARE}
use Rattle.command_line.specs.declared.prose.TheConstants.{ADAPT, LEARN, REPLAY, RECORD, ASSEMBLE, ANNOTATE, DRAW, RECOVER}
use Rattle.command_line.specs.declared.prose.TheConstants.{JOIN, MEET, STACK, FLATTEN, REVIEW, JSON, MANUAL, VERSION}

unfoldable pub prose_text : Command → List ℕ
prose_text Verdict = VERDICT.now
prose_text Check = CHECK.now
prose_text Certify = CERTIFY.now
prose_text Export = EXPORT.now
prose_text Run = RUN.now
prose_text Explain = EXPLAIN.now
prose_text Read = READ.now
prose_text Lint = LINT.now
prose_text Compare = COMPARE.now
prose_text Adapt = ADAPT.now
prose_text Learn = LEARN.now
prose_text Replay = REPLAY.now
prose_text Record = RECORD.now
prose_text Assemble = ASSEMBLE.now
prose_text Annotate = ANNOTATE.now
prose_text Draw = DRAW.now
prose_text Recover = RECOVER.now
prose_text Join = JOIN.now
prose_text Meet = MEET.now
prose_text Stack = STACK.now
prose_text Flatten = FLATTEN.now
prose_text Review = REVIEW.now
prose_text Json = JSON.now
prose_text Manual = MANUAL.now
prose_text Version = VERSION.now
