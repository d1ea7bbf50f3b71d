use Rattle.std.proofs.Common.{ap, sym, ◌∙◌}
use Rattle.std.specs.Option.{option_map}
use Rattle.lifecycle.specs.declared.register.Numbered.{Numbered}
use Rattle.lifecycle.specs.Listed.{known_in, listed}
use Rattle.lifecycle.proofs.Places.{distinct_in, looked_up}
use Rattle.lifecycle.proofs.register.Register.get.Goals as goal

pub returns-in-None-clause-value : goal.returns-in-None-clause-value
unfolding listed
returns-in-None-clause-value c =
    let here = c.args.self.now in
    ap (option_map (λ (n : Numbered). n.entry)) c.in-None.ensures.value
    ∙ sym (looked_up (known_in here) here.order.items here.placed c.args.id.now)

pub returns-in-None-clause-distinct : goal.returns-in-None-clause-distinct
unfolding listed
returns-in-None-clause-distinct c = let here = c.args.self.now in distinct_in (known_in here) here.order.items 0 here.next here.rising

pub returns-in-Some-clause-value : goal.returns-in-Some-clause-value
unfolding listed
returns-in-Some-clause-value c =
    let here = c.args.self.now in
    ap (option_map (λ (n : Numbered). n.entry)) c.in-Some.ensures.value
    ∙ sym (looked_up (known_in here) here.order.items here.placed c.args.id.now)

pub returns-in-Some-clause-distinct : goal.returns-in-Some-clause-distinct
unfolding listed
returns-in-Some-clause-distinct c = let here = c.args.self.now in distinct_in (known_in here) here.order.items 0 here.next here.rising
