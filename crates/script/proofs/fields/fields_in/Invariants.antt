-- The fields so far, and the text that is left.
use Rattle.std.proofs.Common.{◌≡◌, [], length}
use Rattle.std.specs.Prelude.{map}
use Rattle.std.specs.Str.{IsUtf8}
use Rattle.script.specs.inner.Reading.{fields_from, pieces}
use Rattle.script.proofs.fields.fields_in.Given as goal

abbrev pub invariant-field : goal.invariant-field
invariant-field l = record {
  found : fields_from [] (pieces l.text) ≡ fields_from (map (λ f. f.now) l.fields.items) (pieces l.rest);
  utf8 : IsUtf8 l.rest;
}

abbrev pub decreases-field : goal.decreases-field
decreases-field l = length l.rest
