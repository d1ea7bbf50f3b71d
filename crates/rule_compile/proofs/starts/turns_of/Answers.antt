use Rattle.std.proofs.Common.{◌<◌, ◌≤◌, length, rules, subst}
use Rattle.std.specs.List.{All}
use Rattle.std.proofs.lemmas.List.{take_all}
use Rattle.rule_compile.proofs.StartLaws.{Turns, turns_more}
use Rattle.rule_compile.proofs.starts.turns_of.Goals as goal

pub loop-open-preserved : goal.loop-open-preserved
loop-open-preserved c =
    let within : c.loop-open.open-index < length c.args.rules.now = search rules in
    record {
      words = c.in_ok-add_turns.ensures.words c.loop-open.invariant.words;
      zero = c.in_ok-add_turns.ensures.kept 0 c.loop-open.invariant.zero;
      turns = turns_more c.args.subject c.loop-open.turns.items c.add_turns.new.turns.items c.args.rules.now c.loop-open.open-index
          c.open-item.result within c.open-item.is c.in_ok-add_turns.ensures.kept c.in_ok-add_turns.ensures.turns c.loop-open.invariant.turns;
    }

pub returns-clause-turns : goal.returns-clause-turns
returns-clause-turns c =
    let ended : length c.args.rules.now ≤ c.loop-open.open-index = search rules in
    subst (All (Turns c.args.subject c.loop-open.turns.items)) (take_all c.loop-open.open-index c.args.rules.now ended) c.loop-open.invariant.turns
