-- What a second profile allows beside a first one: whether a call is reported that it allows more, and one that it allows no more.
use Rattle.std.specs.Prelude.{Bool, true, false}
use Rattle.compare.specs.declared.sides.Sides.{Sides}
use Rattle.compare.specs.declared.sides.Sides.TheVariants.{Alike, NoMore, NoLess, MoreAndLess}

abbrev pub sides_of : Bool → Bool → Sides
sides_of true true = MoreAndLess
sides_of true false = NoLess
sides_of false true = NoMore
sides_of false false = Alike
