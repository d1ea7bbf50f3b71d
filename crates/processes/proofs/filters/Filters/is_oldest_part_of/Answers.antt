use Rattle.std.proofs.Common.{◌≡◌, ◌-◌, length, arith}
use Rattle.processes.proofs.FilterLemmas.{oldest_part}
use Rattle.processes.proofs.filters.Filters.is_oldest_part_of.Goals as goal

pub returns : goal.returns
returns c =
    let old = c.self.inside.list.items in
    let new = c.newer.inside.list.items in
    let k : c.saturating_sub-spare.result ≡ length new - length old = omega arith in
    let v : c.self.inside.list.items ≡ c.args.self.now = c.self.view_is in
    let w : c.newer.inside.list.items ≡ c.args.newer.now = c.newer.view_is in
    rw (
      c.same_loads.ensures,
      c.deref.ensures.value,
      c.deref-2.ensures.value,
      ← v,
      ← w,
    ) (oldest_part old new c.saturating_sub-spare.result k)
