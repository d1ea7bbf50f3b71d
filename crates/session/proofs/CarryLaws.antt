-- What a request's command names.
use Rattle.std.proofs.Common.{◌≡◌, ap, refl, sym}
use Rattle.std.specs.Prelude.{Option, Some, None}
use Rattle.std.specs.Option.{option_map}
use Rattle.std.proofs.lemmas.Option.{none-some, same_Some}
use Rattle.cert_check.specs.declared.checked.Checked.{Checked}
use Rattle.call_record.specs.declared.layout.Record.{Record}
use Rattle.processes.specs.Attached.{beside_of}
use Rattle.processes.specs.declared.outcome.Response.{Response}
use Rattle.lifecycle.specs.Commands.{Command, id_of}
use Rattle.lifecycle.specs.Commands as command
use Rattle.script.specs.Commands as script
use Rattle.session.specs.declared.bundles.Bundles.{Bundles}
use Rattle.session.specs.Commands.{Means, alone, first_called, named}
use Rattle.session.specs.inner.Carried.{id_in}

-- a command that stands alone
lone : (response : Option Response) (o : Option Command) (c : Command) → Some c ≡ alone response o → Some c ≡ o
lone None o c h = h
lone (Some response) o c h = absurd (none-some c (sym h))

one_name : (response : Option Response) (c d : Command) → Some c ≡ alone response (Some d) → id_of c ≡ id_of d
one_name response c d h = ap id_of (same_Some c d (lone response (Some d) c h))

-- a command names what the command of the script names
pub names : (bundles : Bundles) (asked : script.Command) (response : Option Response) (c : Command) → Means bundles asked response (Some c)
    → id_of c ≡ id_in asked
names bundles (script.Create id name) response c h = made (first_called name (named bundles)) (lone response _ c h) where
  made : (o : Option Checked) → Some c ≡ option_map (command.Create id) o → id_of c ≡ id
  made None e = absurd (none-some c (sym e))
  made (Some given) e = let same : c ≡ command.Create id given = same_Some _ _ e in ap id_of same
names bundles (script.Start id) response c h = one_name response c (command.Start id) h
names bundles (script.Delete id) response c h = one_name response c (command.Delete id) h
names bundles (script.State id) response c h = one_name response c (command.State id) h
names bundles (script.Kill id signal) response c h = one_name response c (command.Kill id signal) h
names bundles (script.Call id task arch nr args program) response c h = called h.0 h.2 where
  called : (r : Record) → Some c ≡ Some (command.Call id task r (beside_of program response)) → id_of c ≡ id
  called r e = let same : c ≡ command.Call id task r (beside_of program response) = same_Some _ _ e in ap id_of same

-- without a bundle of the name there is no command, whatever is said beside it
pub none_alone : (response : Option Response) → alone response None ≡ None
none_alone None = refl
none_alone (Some response) = refl
