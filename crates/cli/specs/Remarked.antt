-- The lines on standard error behind a no or a refusal. They say what a file is that is read as a bundle, or at which place it is wrong.
use Rattle.std.specs.Prelude.{ℕ, ◌≡◌, ◌⊎◌, List, [], ◌∷◌, Option, Some, None, Result, Ok, Err, true, false, Bool, codes, take}
use Rattle.std.specs.Prelude.{if◌then◌else◌}
use Rattle.std.specs.Str.{bytes_eq}
use Rattle.machines.specs.declared.arch.Arch.{Arch}
use Rattle.command_line.specs.Lines.{Given}
use Rattle.command_line.specs.declared.prose.Command.{Command}
use Rattle.command_line.specs.declared.prose.Command.TheVariants.{Certify, Check, Compare, Explain, Export, Join, Learn}
use Rattle.command_line.specs.declared.prose.Command.TheVariants.{Lint, Meet, Read, Replay, Review, Run}
use Rattle.show.specs.Remarked.{IsRemarkOn}
use Rattle.texts.specs.Failures.{Failures}
use Rattle.cli.specs.Parts.{Parts, parts_of}
use Rattle.cli.specs.Stop.{Reports}
use Rattle.cli.specs.Widened.{from_in}
use Rattle.cli.specs.declared.stops.Stop.{Stop}
use Rattle.cli.specs.declared.stops.Stop.TheVariants.{Refused}

-- the profile that `learn` reads beside logs, if it does
abbrev pub profile_in : Option (List ℕ × List (List ℕ)) → Parts → List (List ℕ)
profile_in (Some from) p = take 1 p.from_three
profile_in None p = []

-- the names of the files that a command reads as bundles
abbrev pub bundle_names : Command → Parts → List (List ℕ)
bundle_names Certify p = take 1 p.from_two
bundle_names Check p = take 1 p.from_two
bundle_names Explain p = take 1 p.from_two
bundle_names Export p = take 1 p.from_two
bundle_names Lint p = take 1 p.from_two
bundle_names Read p = take 1 p.from_two
bundle_names Replay p = take 1 p.from_two
bundle_names Review p = if bytes_eq p.four (codes "html") then take 2 p.from_two else take 1 p.from_two
bundle_names Compare p = if bytes_eq p.four (codes "filters") then [] else take 2 p.from_two
bundle_names Join p = p.from_two
bundle_names Meet p = p.from_two
bundle_names Run p = p.from_two
bundle_names Learn p = profile_in (from_in p.from_two) p
bundle_names other p = []

module _ {E : Type 0} (held : E → Option (List ℕ)) (failures : E → Failures) where
  -- What is told of the bytes of a file of that name was written, as far as the sink took it. Or nothing was.
  abbrev pub MayRemark : Arch → List ℕ → E → E → Type 0
  MayRemark native name old new =
      (new ≡ old) ⊎ ((bytes : List ℕ) × (text : List ℕ) × IsRemarkOn native name bytes text × Reports held failures old new text)

  -- so of the file of each name, in order
  abbrev pub RemarksOn : Arch → List (List ℕ) → E → E → Type 0
  RemarksOn native [] old new = new ≡ old
  RemarksOn native (name ∷ names) old new = (between : E) × MayRemark native name old between × RemarksOn native names between new

  -- so of the bundles of a command
  abbrev pub RemarksOf : Given → E → E → Type 0
  RemarksOf given old new = RemarksOn (parts_of given.1).native (bundle_names given.0 (parts_of given.1)) old new

  -- such lines come where the answer is no, or that what was given is refused
  abbrev pub RemarksBy : Given → Result Bool Stop → E → E → Type 0
  RemarksBy given (Ok true) old new = new ≡ old
  RemarksBy given (Ok false) old new = RemarksOf given old new
  RemarksBy given (Err Refused) old new = RemarksOf given old new
  RemarksBy given (Err stop) old new = new ≡ old
