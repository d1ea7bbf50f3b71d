-- None before the index notifies.
use Rattle.std.proofs.Common.{◌≡◌, drop}
use Rattle.processes.specs.Stores.{notifier}
use Rattle.processes.specs.inner.Loads.{filters_of}
use Rattle.processes.proofs.filters.first_notifier.Given as goal

abbrev pub invariant-loop-filter : goal.invariant-loop-filter
invariant-loop-filter l = notifier l.rec (filters_of (drop l.filter-index l.list)) ≡ notifier l.rec (filters_of l.list)
