-- The grammar by which clap reads arguments: the names of the commands, and behind each any arguments.
use Rattle.std.specs.Prelude.{◌≡◌, true, false, List, [], ◌∷◌, Some, codes}
use Rattle.std.specs.List.{fold}
use Rattle.clap.specs.Lexer.{usize_max}
use Rattle.clap.specs.Words.{App, Rule, Shape, app_of, new_app, new_rule, shape_of, with_subcommand}
use Rattle.clap.specs.Simple.{new_shape}
use Rattle.clap.specs.declared.builder.command.Command.{Command}
use Rattle.clap.specs.declared.builder.command.Command.TheViews.{out-Command as fields_of}
use Rattle.command_line.specs.Table.{Row, Text, rows}

-- as many arguments as there are
abbrev pub parts_rule : Rule
parts_rule = record (new_rule (codes "PARTS")) { range = Some (record { start_inclusive = 1; end_inclusive = usize_max }) }

abbrev pub leaf : Text → Shape
leaf name = record (new_shape name) { rules = parts_rule ∷ [] }

-- the program before its commands: it takes no name of a program, no help and no version
abbrev pub top : App
top = record (new_app (codes "ccell")) {
  top = record (new_shape (codes "ccell")) {
    no_binary_name = true;
    subcommand_required = true;
    disable_help_flag = true;
    disable_help_subcommand = true;
    disable_version_flag = true;
  };
}

abbrev pub with_name : App → Row → App
with_name app row = with_subcommand app (leaf row.name)

-- the program with these commands
abbrev pub grammar_of : List Row → App
grammar_of rows = fold with_name top rows

-- it is the command of that name
abbrev pub IsLeafOf : Text → Command → Type 0
IsLeafOf name command = (shape_of command ≡ leaf name) × ((fields_of command).has_globals ≡ false)

abbrev pub IsGrammarOf : List Row → Command → Type 0
IsGrammarOf rows command = (app_of command ≡ grammar_of rows) × ((fields_of command).has_globals ≡ false)
