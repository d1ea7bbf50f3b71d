use Rattle.std.proofs.Common.{sym, refl, arith, length-append, take, length}
use Rattle.processes.specs.First.{by_program, by_profile}
use Rattle.lifecycle.specs.Runs.{commands_of}
use Rattle.lifecycle.specs.Views.{world_of}
use Rattle.lifecycle.proofs.FilterLaws.{refused_in_run}
use Rattle.lifecycle.proofs.Runs.{alone, finished, next_grows, run_more}
use Rattle.lifecycle.proofs.runtime.Runtime.run.Goals as goal

pub loop-command-preserved : goal.loop-command-preserved
loop-command-preserved g c = record {
  so_far = rw c.push_reserved.ensures.items (run_more by_program c.args.commands.now c.loop-command.command-index c.command-item.result
      (world_of c.args.self.now) (world_of c.loop-command.self) (world_of c.carry_out.new.self) c.loop-command.replies.items c.in-Ok.reply
      c.loop-command-test.true (sym c.command-item.is) c.loop-command.invariant.so_far c.in-Ok.ensures.step);
  count = rw (c.push_reserved.ensures.items, length-append) (omega arith);
  room = omega arith;
}

pub returns-in-Err-clause-headline : goal.returns-in-Err-clause-headline
returns-in-Err-clause-headline g c =
    finished c.args.commands.now (length c.loop-command.replies.items) c.loop-command.command-index (world_of c.args.self.now) c.loop-command.replies.items
    (world_of c.loop-command.self) (world_of c.carry_out.new.self) c.loop-command.invariant.count c.in-Err.ensures.err c.loop-command.invariant.so_far

pub returns-in-Err-clause-alone : goal.returns-in-Err-clause-alone
returns-in-Err-clause-alone g c =
    let done = commands_of (take (length c.loop-command.replies.items) c.args.commands.now) in
    alone by_profile done (world_of c.args.self.now) c.loop-command.replies.items (world_of c.carry_out.new.self)
    (finished c.args.commands.now (length c.loop-command.replies.items) c.loop-command.command-index (world_of c.args.self.now) c.loop-command.replies.items
    (world_of c.loop-command.self) (world_of c.carry_out.new.self) c.loop-command.invariant.count c.in-Err.ensures.err c.loop-command.invariant.so_far)

pub returns-in-Err-clause-refused : goal.returns-in-Err-clause-refused
returns-in-Err-clause-refused g c =
    let done = commands_of (take (length c.loop-command.replies.items) c.args.commands.now) in
    refused_in_run done c.loop-command.replies.items (world_of c.args.self.now) (world_of c.carry_out.new.self)
    (finished c.args.commands.now (length c.loop-command.replies.items) c.loop-command.command-index (world_of c.args.self.now) c.loop-command.replies.items
    (world_of c.loop-command.self) (world_of c.carry_out.new.self) c.loop-command.invariant.count c.in-Err.ensures.err c.loop-command.invariant.so_far)

pub returns-clause-headline : goal.returns-clause-headline
returns-clause-headline g c =
    finished c.args.commands.now (length c.loop-command.replies.items) c.loop-command.command-index (world_of c.args.self.now) c.loop-command.replies.items
    (world_of c.loop-command.self) (world_of c.loop-command.self) c.loop-command.invariant.count refl c.loop-command.invariant.so_far

pub returns-clause-alone : goal.returns-clause-alone
returns-clause-alone g c =
    let done = commands_of (take (length c.loop-command.replies.items) c.args.commands.now) in
    alone by_profile done (world_of c.args.self.now) c.loop-command.replies.items (world_of c.loop-command.self)
    (finished c.args.commands.now (length c.loop-command.replies.items) c.loop-command.command-index (world_of c.args.self.now) c.loop-command.replies.items
    (world_of c.loop-command.self) (world_of c.loop-command.self) c.loop-command.invariant.count refl c.loop-command.invariant.so_far)

pub returns-clause-refused : goal.returns-clause-refused
returns-clause-refused g c =
    let done = commands_of (take (length c.loop-command.replies.items) c.args.commands.now) in
    refused_in_run done c.loop-command.replies.items (world_of c.args.self.now) (world_of c.loop-command.self)
    (finished c.args.commands.now (length c.loop-command.replies.items) c.loop-command.command-index (world_of c.args.self.now) c.loop-command.replies.items
    (world_of c.loop-command.self) (world_of c.loop-command.self) c.loop-command.invariant.count refl c.loop-command.invariant.so_far)

pub returns-in-Err-clause-growth : goal.returns-in-Err-clause-growth
returns-in-Err-clause-growth g c =
    next_grows c.args.commands.now c.loop-command.command-index c.command-item.result c.loop-command.replies.items
    (world_of c.loop-command.self)
    (world_of c.carry_out.new.self) c.loop-command.invariant.count c.loop-command-test.true (sym c.command-item.is) c.in-Err.ensures.err
    c.in-Err.ensures.growth
