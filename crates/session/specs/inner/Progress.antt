-- Where a script stands.
use Rattle.lifecycle.specs.Views.{world_of}
use Rattle.session.specs.declared.progress.Progress.{Progress}
use Rattle.session.specs.inner.Lines.{Standing}

abbrev pub standing_of : Progress → Standing
standing_of p = record { world = world_of p.session.runtime; kept = p.line.items; count = p.count; out = p.out }
