use Rattle.compare.specs.Hints.{decided}
use Rattle.compare.proofs.lint.hints.hint_of.Goals as goal

pub returns : goal.returns
returns c =
    let p = c.args.profile.now in
    let family = c.family.result in
    record {
      past = λ told.
          let one = c.is_past.ensures.some family p c.in_ok-found.ensures told in
          (p, c.requires, one.0, one.1);
      not_past = λ told. decided p c.requires (c.is_past.ensures.none family p c.in_ok-found.ensures told);
      stopped = λ told.
          let one = c.is_stopped.ensures.some family p c.in_ok-found.ensures told in
          (p, c.requires, one.0, one.1);
      not_stopped = λ told. decided p c.requires (c.is_stopped.ensures.none family p c.in_ok-found.ensures told);
    }
