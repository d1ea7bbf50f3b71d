use Rattle.std.proofs.Common.{[], ◌∷◌, refl}
use Rattle.cli.proofs.adapting.made_of_file.Goals as goal

pub returns-in-Ok-made_as : goal.returns-in-Ok-made_as
returns-in-Ok-made_as g c = (
  c.in-Ok.text.items ∷ [],
  (c.in-Ok.ensures.ok, tt),
  record {
    lying = c.args.words.now;
    same = refl;
    is = record {
      wanted = c.args.wanted.now;
      asked = c.requires;
      made = c.in-Ok-made_as.ensures.made;
      kept = c.in-Ok-made_as.ensures.kept;
    };
  },
)
