use Rattle.std.proofs.Common.{◌≡◌, ◌++◌, subst}
use Rattle.std.specs.Prelude.{IfOk, Option, string_bytes}
use Rattle.machines.specs.declared.arch.Arch.{Arch}
use Rattle.wording.specs.Phrases as spec
use Rattle.wording.proofs.calls.put_number.Goals as goal

pub returns-in-None : goal.returns-in-None
returns-in-None c =
    subst (λ (o : Option Arch). IfOk c.put_foreign.result (λ _. string_bytes c.put_foreign.new.text
    ≡ string_bytes c.args.text.now ++ spec.call_on o c.args.token c.args.nr)) c.in-None.ensures c.put_foreign.ensures
