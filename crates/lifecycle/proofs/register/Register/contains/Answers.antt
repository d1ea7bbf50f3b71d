use Rattle.std.proofs.Common.{◌∙◌}
use Rattle.lifecycle.specs.Listed.{known_in, listed}
use Rattle.lifecycle.proofs.Places.{kept_is_listed}
use Rattle.lifecycle.proofs.register.Register.contains.Goals as goal

pub returns : goal.returns
unfolding listed
returns c =
    let here = c.args.self.now in
    c.contains_key.ensures ∙ kept_is_listed (known_in here) here.order.items here.placed c.args.id.now
