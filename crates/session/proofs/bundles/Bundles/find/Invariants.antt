-- No bundle so far has the name.
use Rattle.std.proofs.Common.{◌≡◌, drop, map}
use Rattle.session.specs.Commands.{first_called, named}
use Rattle.session.specs.declared.bundles.Bundle.{Bundle}
use Rattle.session.proofs.bundles.Bundles.find.Given as goal

abbrev pub invariant-loop-i : goal.invariant-loop-i
invariant-loop-i l = record {
  found : first_called l.name (named l.self)
      ≡ first_called l.name (map (λ (b : Bundle). (b.name.now, b.checked)) (drop l.i l.self.list.now));
}
