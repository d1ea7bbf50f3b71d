use Rattle.std.proofs.Common.{◌≡◌, ◌++◌, ◌∷◌, [], ◌∙◌, ap, arith, length}
use Rattle.profile_json.proofs.RulesSteps.{said_step, ends_step, said_done, ends_done}
use Rattle.profile_json.proofs.rules.rules_of.Goals as goal

pub loop-entry-preserved : goal.loop-entry-preserved
loop-entry-preserved c =
    let is = c.in_ok-add_entry.ensures in
    let size : c.len.result ≡ length c.add_entry.new.rules.items = omega (arith, c.len.ensures, c.add_entry.new.rules.ok.0) in
    let counted : c.push.new.self.items ≡ c.loop-entry.ends.items ++ length c.add_entry.new.rules.items ∷ [] =
    c.in_ok-push.ensures.items ∙ ap (λ n. c.loop-entry.ends.items ++ n ∷ []) size in
    record {
      said = said_step c.args.machines.now c.loop-entry.list.items c.add_entry.new.rules.items c.args.entries.now c.loop-entry.entry-index
          c.entry-item.result _ c.loop-entry-test.true c.entry-item.is is c.loop-entry.invariant.said;
      ends = ends_step c.args.machines.now c.loop-entry.list.items c.add_entry.new.rules.items c.loop-entry.ends.items c.push.new.self.items
          c.args.entries.now c.loop-entry.entry-index c.entry-item.result _ c.loop-entry-test.true c.entry-item.is is counted
          c.loop-entry.invariant.ends;
    }

pub returns-clause-said : goal.returns-clause-said
returns-clause-said c =
    let all = c.loop-entry-test.false in
    said_done c.args.machines.now c.loop-entry.list.items c.args.entries.now c.loop-entry.entry-index _ (omega (arith, all))
    c.loop-entry.invariant.said

pub returns-clause-ends : goal.returns-clause-ends
returns-clause-ends c =
    let all = c.loop-entry-test.false in
    ends_done c.args.machines.now _ c.loop-entry.ends.items c.args.entries.now c.loop-entry.entry-index _ (omega (arith, all))
    c.loop-entry.invariant.ends
