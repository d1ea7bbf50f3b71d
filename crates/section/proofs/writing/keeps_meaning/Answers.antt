use Rattle.profile_json.specs.Fault.{fault_of}
use Rattle.section.proofs.SectionLaws.{kept_by, kept_of_none}
use Rattle.section.proofs.writing.keeps_meaning.Goals as goal

pub returns-in-Ok : goal.returns-in-Ok
returns-in-Ok c =
    kept_by c.args.native c.args.first.now c.args.second.now c.in-Ok.read.profile c.in-Ok.ensures.ok c.means.result c.means.ensures

pub returns-in-Err : goal.returns-in-Err
returns-in-Err c =
    kept_of_none c.args.native c.args.first.now c.args.second.now (fault_of c.in-Err.error) c.in-Err.ensures.err c.unless_memory.result
    c.unless_memory.ensures
