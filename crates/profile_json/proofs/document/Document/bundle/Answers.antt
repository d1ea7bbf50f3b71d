use Rattle.std.proofs.Common.{rules}
use Rattle.profile_json.proofs.document.Document.bundle.Goals as goal

pub returns-in-Err-clause-err : goal.returns-in-Err-clause-err
returns-in-Err-clause-err c = c.cause_of.ensures c.args.self.now.bytes c.args.self.now.native (search rules)
