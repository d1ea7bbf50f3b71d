-- Which command a line of a script is, with the bundles that there are.
use Rattle.std.specs.Prelude.{ℕ, ◌≡◌, List, [], ◌∷◌, Option, None, Some, map, if◌then◌else◌}
use Rattle.std.specs.Option.{option_map}
use Rattle.machines.specs.declared.arch.Arch.{Arch}
use Rattle.machines.specs.Arch.{family_of, token_of}
use Rattle.call_record.specs.declared.layout.Record.{Record}
use Rattle.cert_check.specs.declared.checked.Checked.{Checked}
use Rattle.processes.specs.Attached.{beside_of}
use Rattle.processes.specs.Views.{same_text}
use Rattle.processes.specs.declared.outcome.Response.{Response}
use Rattle.lifecycle.specs.Commands.{Command}
use Rattle.lifecycle.specs.Commands as command
use Rattle.script.specs.Commands as script
use Rattle.script.specs.Grammar.{LineIs}
use Rattle.session.specs.declared.bundles.Bundles.{Bundles}
use Rattle.session.specs.Responses.{Parted}

-- each name with its checked filter
abbrev pub named : Bundles → List (List ℕ × Checked)
named bundles = map (λ b. (b.name.now, b.checked)) bundles.list.now

-- the first that has the name
abbrev pub first_called : List ℕ → List (List ℕ × Checked) → Option Checked
first_called name [] = None
first_called name (b ∷ list) = if same_text name b.0 then Some b.1 else first_called name list

-- what a task presents: its call has this number and these arguments, and no address
pub record IsRecordOf (arch : Arch) (nr : ℕ) (args : List ℕ) (r : Record) : Type 0 where
  pub number : r.nr ≡ nr
  pub machine : r.arch ≡ token_of arch
  pub address : r.ip ≡ 0
  pub arguments : r.args ≡ args

-- a command beside which no response stands
abbrev pub alone : Option Response → Option Command → Option Command
alone None c = c
alone (Some response) c = None

-- What a command of a script means to a runtime, with the response beside it. With a bundle that is not there it means no
-- command, nor does any but a call with a response.
abbrev pub Means : Bundles → script.Command → Option Response → Option Command → Type 0
Means bundles (script.Create id name) response c =
    c ≡ alone response (option_map (command.Create id) (first_called name (named bundles)))
Means bundles (script.Start id) response c = c ≡ alone response (Some (command.Start id))
Means bundles (script.Delete id) response c = c ≡ alone response (Some (command.Delete id))
Means bundles (script.State id) response c = c ≡ alone response (Some (command.State id))
Means bundles (script.Kill id signal) response c = c ≡ alone response (Some (command.Kill id signal))
Means bundles (script.Call id task arch nr args program) response c =
    (r : Record) × IsRecordOf arch nr args r × (c ≡ Some (command.Call id task r (beside_of program response)))

-- what a line means: no command where it is none of a script
abbrev pub LineMeans : Bundles → Option script.Command → Option Response → Option Command → Type 0
LineMeans bundles None response c = c ≡ None
LineMeans bundles (Some asked) response c = Means bundles asked response c

-- a line is this command, or none: what stands in it before the response, if it says one, is a command of a script
pub record CommandIs (bundles : Bundles) (line : List ℕ) (c : Option Command) : Type 0 where
  pub call : List ℕ
  pub response : Option Response
  pub parts : Parted (family_of bundles.native) line call response
  pub asked : Option script.Command
  pub is : LineIs bundles.native call asked
  pub meant : LineMeans bundles asked response c

-- each line is what stands beside it
abbrev pub CommandsAre : Bundles → List (List ℕ) → List (Option Command) → Type 0
CommandsAre bundles [] [] = Unit {0}
CommandsAre bundles (line ∷ lines) (c ∷ cs) = CommandIs bundles line c × CommandsAre bundles lines cs
CommandsAre bundles lines cs = ⊥
