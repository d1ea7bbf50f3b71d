use Rattle.lifecycle.specs.Views.{world_of}
use Rattle.script.specs.Requests.{command_of}
use Rattle.session.specs.inner.Carried.{CarriesOut}
use Rattle.std.specs.Prelude.{Option, Ok}
use Rattle.std.proofs.Common.{subst}
use Rattle.lifecycle.specs.declared.command.Reply.{Reply}
use Rattle.session.proofs.EndLaws.{answered}
use Rattle.session.proofs.WantLaws.{program_fits}
use Rattle.session.proofs.answer.answer_line.Goals as goal

pub returns-in-Some-2-clause-done : goal.returns-in-Some-2-clause-done
returns-in-Some-2-clause-done g c =
    let bundles = c.args.session.now.bundles in
    let parted = c.parted-response.result in
    let asked = command_of c.in-Some.request in
    let w = world_of c.args.session.now.runtime in
    let w' = world_of c.carry_out.new.self.runtime in
    let done = subst (λ (r : Option Reply). CarriesOut bundles asked parted.1 w w' (Ok r)) c.in-Some-2.is c.in_ok-reply.ensures.done in
    answered g.S.Sink.held g.S.Sink.failures bundles c.args.line.now parted.0.now parted.1 c.args.number asked w w'
    c.args.sink.now c.write_reply.new.sink c.write_reply.result c.in-Some-2.reply c.id_named.result.now c.parted-response.ensures c.in-Some.ensures done
    c.id_named.ensures c.write_reply.ensures.written c.write_reply.ensures.len (λ none. c.write_reply.ensures.memory none)

pub carry_out-requires : goal.carry_out-requires
carry_out-requires g c =
    program_fits c.args.session.now.bundles.native c.parted-response.result.0.now (command_of c.in-Some.request) c.in-Some.ensures
