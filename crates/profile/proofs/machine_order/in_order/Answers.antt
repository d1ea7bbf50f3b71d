use Rattle.std.proofs.Common.{◌≡◌, true, false, ◌<◌, length, ◌∙◌, ap, arith}
use Rattle.std.specs.Prelude.{filter}
use Rattle.std.specs.List.{list_any}
use Rattle.std.proofs.lemmas.List.{take_all}
use Rattle.machines.specs.Arch.{same_arch}
use Rattle.profile.proofs.MachineLaws.{few, picks, passes}
use Rattle.profile.proofs.machine_order.in_order.Goals as goal
use Rattle.profile.proofs.machine_order.in_order.Goals.{then-lists, else-lists}

pub push-requires : goal.push-requires
push-requires c =
    let room : length c.loop-arch.listed.items < 10 =
    omega (arith, few c.args.family, ap length c.machines-arch-items.ensures, c.loop-arch.invariant.1, c.loop-arch-test.true) in
    (omega arith, room)

pub loop-arch-preserved : goal.loop-arch-preserved
loop-arch-preserved c =
    elim c.if-lists.branch [
      | then-lists w ↦
          rw w.listed-is
          (picks c.args.archs.now c.machines-arch-items.result.now c.loop-arch.listed.items w.push.new.self.items c.loop-arch.arch-index _
          c.loop-arch-test.true c.loop-arch.invariant (c.lists.ensures.0 w.if-lists.true) w.push.ensures.items)
      | else-lists w ↦
          rw w.listed-is
          (passes c.args.archs.now c.machines-arch-items.result.now c.loop-arch.listed.items c.loop-arch.listed.items c.loop-arch.arch-index
          _ c.loop-arch-test.true c.loop-arch.invariant
          (λ has. let hit : c.lists.result ≡ true = c.lists.ensures.1 has in let miss : c.lists.result ≡ false = w.if-lists.false in cc))
    ]

pub returns : goal.returns
returns c =
    c.loop-arch.invariant.0
    ∙ ap (filter (λ a. list_any (same_arch a) c.args.archs.now))
    (take_all c.loop-arch.arch-index c.machines-arch-items.result.now c.loop-arch-test.false ∙ c.machines-arch-items.ensures)
