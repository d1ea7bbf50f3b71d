-- A script means one thing.
use Rattle.std.specs.Prelude.{ℕ, ◌≡◌, List, Option}
use Rattle.lifecycle.specs.Commands.{Command}
use Rattle.script.specs.Lines.{Parts, lines_of}
use Rattle.session.specs.declared.bundles.Bundles.{Bundles}
use Rattle.session.specs.Commands.{CommandsAre}

-- the lines of a text are these commands
pub record IsScript (bundles : Bundles) (text : List ℕ) (commands : List (Option Command)) : Type 0 where
  pub first : List ℕ
  pub more : List (List ℕ)
  pub parts : Parts text first more
  pub each : CommandsAre bundles (lines_of first more) commands

-- a text is one list of commands, and so has one answer
abbrev pub OneScript : Type 0
OneScript = (bundles : Bundles) (text : List ℕ) (a b : List (Option Command)) → IsScript bundles text a → IsScript bundles text b → a ≡ b
