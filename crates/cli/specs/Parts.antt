-- The arguments that stand for the parts of a command, by their places in its row.
use Rattle.std.specs.Prelude.{ℕ, ◌≡◌, List, [], ◌∷◌, Option, Some, None, drop, get_or, if◌then◌else◌, option_map, unwrap_or, codes}
use Rattle.std.specs.Str.{bytes_eq}
use Rattle.machines.specs.declared.arch.Arch.{Arch}
use Rattle.machines.specs.declared.arch.Arch.TheVariants.{LinuxX86_64}
use Rattle.machines.specs.Arch.{native_called}
use Rattle.command_line.specs.Lines.{texts}
use Rattle.command_line.specs.Table.{Text}
use Rattle.maker.specs.declared.export.form.Form.{Form}
use Rattle.maker.specs.declared.export.form.Form.TheVariants.{Raw, Listing, Certificate}
use Rattle.cli.specs.declared.parts.Parts.{Parts as Lent}

-- The machine of that name. The table takes no name that calls none.
abbrev pub native_of : Text → Arch
native_of name = unwrap_or (native_called name) LinuxX86_64

-- each of these names calls a machine
abbrev pub AreCalled : List Text → Type 0
AreCalled [] = Unit {0}
AreCalled (name ∷ names) = (native_called name ≡ Some (native_of name)) × AreCalled names

-- The form of that name. The table takes these two and `raw`.
abbrev pub form_of : Text → Form
form_of name =
    if bytes_eq name (codes "listing") then Listing
    else if bytes_eq name (codes "cert") then Certificate
    else Raw

-- the argument at a place, counted from 0; none is the empty text
abbrev pub part : ℕ → List Text → Text
part place arguments = get_or arguments place (codes "")

abbrev pub first : List Text → Option Text
first [] = None
first (argument ∷ others) = Some argument

-- The arguments in the order of the row: the machine that the first calls, and the first, if there is one. Then the first seven, all but
-- the first, and all but the first two.
pub record Parts : Type 0 where
  pub native : Arch
  pub first : Option Text
  pub one : Text
  pub two : Text
  pub three : Text
  pub four : Text
  pub five : Text
  pub six : Text
  pub seven : Text
  pub from_two : List Text
  pub from_three : List Text

abbrev pub parts_of : List Text → Parts
parts_of arguments = record {
  native = native_of (part 0 arguments);
  first = first arguments;
  one = part 0 arguments;
  two = part 1 arguments;
  three = part 2 arguments;
  four = part 3 arguments;
  five = part 4 arguments;
  six = part 5 arguments;
  seven = part 6 arguments;
  from_two = drop 1 arguments;
  from_three = drop 2 arguments;
}

-- the same, without where they lie in memory
abbrev pub read : Lent → Parts
read parts = record {
  native = parts.native;
  first = option_map (λ argument. argument.now) parts.first;
  one = parts.one.now;
  two = parts.two.now;
  three = parts.three.now;
  four = parts.four.now;
  five = parts.five.now;
  six = parts.six.now;
  seven = parts.seven.now;
  from_two = texts parts.from_two.now;
  from_three = texts parts.from_three.now;
}
