-- The world that a runtime stands for.
use Rattle.processes.specs.declared.kernel.Kernel.{Ghosts}
use Rattle.lifecycle.specs.declared.runtime.Runtime.{Runtime}
use Rattle.lifecycle.specs.Worlds.{World}
use Rattle.lifecycle.specs.Entries.{world_from}
use Rattle.lifecycle.specs.Listed.{listed}

-- its containers in order of creation, each with what the kernel has of it; first judges are what the programs give
unfoldable pub world_of : {K : Type 0} {kernel : Ghosts K} → Runtime K kernel → World
world_of {K} {kernel} r = world_from (kernel.processes r.kernel) (listed r.entries)
