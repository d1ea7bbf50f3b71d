use Rattle.std.proofs.Common.{rules, ◌≡◌, arith}
use Rattle.cert_form.specs.inner.Places.{IsNodeThere}
use Rattle.cert_form.specs.Reading.{version_of}
use Rattle.cert_form.proofs.ReadLaws.{chain_place-after}
use Rattle.cert_form.proofs.lent.NodeView.kind.Goals as goal

pub bounds-self-self-2 : goal.bounds-self-self-2
bounds-self-self-2 c =
    let other : version_of c.args.self.now.bytes.now ≡ 1 → ⊥ = search rules in
    let there : IsNodeThere c.args.self.now.bytes.now c.args.self.now.at = search rules in
    omega (arith, chain_place-after c.args.self.now.bytes.now c.args.self.now.at, there.chained other)
