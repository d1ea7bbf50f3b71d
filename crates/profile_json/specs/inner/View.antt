-- What the reader's values say.
use Rattle.std.specs.Prelude.{map}
use Rattle.profile_json.specs.declared.entry.Entry.{Entry}
use Rattle.profile_json.specs.declared.contents.Contents.{Contents}
use Rattle.profile_json.specs.Parts.{EntryParts, cond_parts}
use Rattle.profile_json.specs.inner.Reading as spec

abbrev pub entry_parts : Entry → EntryParts
entry_parts e = record { names = map (λ n. n.now) e.names.items; conds = map cond_parts e.conds.items; word = e.word }

abbrev pub said_parts : Contents → spec.Said
said_parts s = record { default_word = s.default_word; archs = s.archs.items; entries = map entry_parts s.entries.items }
