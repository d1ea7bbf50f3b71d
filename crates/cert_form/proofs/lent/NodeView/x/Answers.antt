use Rattle.std.proofs.Common.{rules, ◌≡◌, ◌≤◌, ◌+◌, length, arith}
use Rattle.cert_form.specs.Reading.{version_of}
use Rattle.cert_form.specs.inner.Places.{IsNodeThere}
use Rattle.cert_form.proofs.ReadLaws.{chain_place-after}
use Rattle.cert_form.proofs.lent.NodeView.x.Goals as goal

pub overflow_add-self-2 : goal.overflow_add-self-2
overflow_add-self-2 c =
    let other : version_of c.args.self.now.bytes.now ≡ 1 → ⊥ = search rules in
    let there : IsNodeThere c.args.self.now.bytes.now c.args.self.now.at = search rules in
    let room : c.args.self.now.at + 20 ≤ length c.args.self.now.bytes.now =
    omega (arith, chain_place-after c.args.self.now.bytes.now c.args.self.now.at, there.chained other) in
    search rules

pub read_value-requires-2 : goal.read_value-requires-2
read_value-requires-2 c =
    let other : version_of c.args.self.now.bytes.now ≡ 1 → ⊥ = search rules in
    let there : IsNodeThere c.args.self.now.bytes.now c.args.self.now.at = search rules in
    let room : c.args.self.now.at + 20 ≤ length c.args.self.now.bytes.now =
    omega (arith, chain_place-after c.args.self.now.bytes.now c.args.self.now.at, there.chained other) in
    omega (arith, room)
