-- The replies and the world are those of a run of the commands so far, and there is room for the other replies.
use Rattle.std.proofs.Common.{◌≡◌, ◌≤◌, length, take}
use Rattle.std.specs.Vec.{vec_capacity}
use Rattle.processes.specs.First.{by_program}
use Rattle.lifecycle.specs.Runs.{IsRun, commands_of}
use Rattle.lifecycle.specs.Views.{world_of}
use Rattle.lifecycle.proofs.runtime.Runtime.run.Given as goal

abbrev pub invariant-loop-command : goal.invariant-loop-command
invariant-loop-command g l = record {
  so_far : IsRun by_program (commands_of (take l.command-index l.commands)) (world_of l.fn.self) l.replies.items (world_of l.self);
  count : length l.replies.items ≡ l.command-index;
  room : length l.commands ≤ vec_capacity l.replies;
}
