use Rattle.std.proofs.Common.{Ok}
use Rattle.lifecycle.specs.Commands.{command_of}
use Rattle.lifecycle.specs.Views.{world_of}
use Rattle.lifecycle.proofs.Headline.{profiles_step}
use Rattle.lifecycle.proofs.runtime.Runtime.carry_out.Goals as goal

pub returns-in-Create-clause-headline : goal.returns-in-Create-clause-headline
returns-in-Create-clause-headline g c =
    profiles_step c.create.result (command_of c.args.command) (world_of c.args.self.now) (world_of c.create.new.self) (rw c.in-Create.is c.create.ensures.step)

pub returns-in-Start-clause-headline : goal.returns-in-Start-clause-headline
returns-in-Start-clause-headline g c =
    profiles_step c.start.result (command_of c.args.command) (world_of c.args.self.now) (world_of c.start.new.self) (rw c.in-Start.is c.start.ensures.step)

pub returns-in-Kill-clause-headline : goal.returns-in-Kill-clause-headline
returns-in-Kill-clause-headline g c =
    profiles_step (Ok c.kill.result) (command_of c.args.command) (world_of c.args.self.now) (world_of c.kill.new.self) (rw c.in-Kill.is c.kill.ensures)

pub returns-in-Delete-clause-headline : goal.returns-in-Delete-clause-headline
returns-in-Delete-clause-headline g c =
    profiles_step (Ok c.delete.result) (command_of c.args.command) (world_of c.args.self.now) (world_of c.delete.new.self) (rw c.in-Delete.is c.delete.ensures)

pub returns-in-State-clause-headline : goal.returns-in-State-clause-headline
returns-in-State-clause-headline g c =
    profiles_step (Ok c.state.result) (command_of c.args.command) (world_of c.args.self.now) (world_of c.args.self.now) (rw c.in-State.is c.state.ensures)

pub returns-in-Call-clause-headline : goal.returns-in-Call-clause-headline
returns-in-Call-clause-headline g c =
    profiles_step c.call.result (command_of c.args.command) (world_of c.args.self.now) (world_of c.call.new.self) (rw c.in-Call.is c.call.ensures.step)
