-- The table of commands, and the words that may stand for a part.
use Rattle.std.specs.Prelude.{ℕ, List, [], ◌∷◌, map, codes}
use denote.Ref.{Bor}
use Rattle.command_line.specs.declared.meanings.Meaning.{Meaning}
use Rattle.command_line.specs.declared.meanings.Meaning.TheVariants.{Machine, Form, Certified, CertifiedToo, Judge}
use Rattle.command_line.specs.declared.meanings.Meaning.TheVariants.{ReadAs, ReviewedBoth, ShownAs, Recovered, RecoveredToo, Compared}
use Rattle.command_line.specs.declared.prose.Command.{Command}
use Rattle.command_line.specs.declared.table.TheConstants.{COMMANDS}

abbrev pub Text : Type 0
Text = List ℕ

-- a command of the table: its name, how many arguments it takes at least and at most, its parts, what it is for, and which one it is
pub record Row : Type 0 where
  pub name : Text
  pub least : ℕ
  pub most : ℕ
  pub parts : List Meaning
  pub purpose : Text
  pub command : Command

-- the same, without where the texts lie in memory
abbrev pub row : Bor Text × (ℕ × ℕ) × Bor (List (Bor Text × Meaning)) × Bor Text × Command → Row
row entry = record {
  name = entry.0.now;
  least = entry.1.0;
  most = entry.1.1;
  parts = map (λ part. part.1) entry.2.now;
  purpose = entry.3.now;
  command = entry.4;
}

-- the commands of the table, in its order
unfoldable pub rows : List Row
rows = map (λ entry. record {
  name = entry.0.now;
  least = entry.1.0;
  most = entry.1.1;
  parts = map (λ part. part.1) entry.2.now;
  purpose = entry.3.now;
  command = entry.4;
}) COMMANDS.now

-- the words that may stand for a part; where none is named, any
abbrev pub words_of : Meaning → List Text
words_of Machine =
    codes "linux-x86-64" ∷ codes "linux-aarch64" ∷ codes "linux-riscv64" ∷ codes "linux-ppc64le"
    ∷ codes "linux-loongarch64" ∷ codes "linux-s390x" ∷ codes "x86-64" ∷ codes "aarch64" ∷ []
words_of Form = codes "raw" ∷ codes "listing" ∷ codes "cert" ∷ []
words_of Judge =
    codes "verdict" ∷ codes "check" ∷ codes "certify" ∷ codes "explain" ∷ codes "read" ∷ codes "lint" ∷ codes "compare" ∷ codes "replay"
    ∷ codes "review" ∷ []
words_of Certified = codes "runc" ∷ codes "all" ∷ codes "calls" ∷ codes "without-x32" ∷ []
words_of CertifiedToo = codes "runc" ∷ codes "all" ∷ codes "calls" ∷ codes "without-x32" ∷ []
words_of ReadAs = codes "rules" ∷ []
words_of ReviewedBoth = codes "html" ∷ []
words_of ShownAs = codes "cost" ∷ []
words_of Recovered = codes "bundle" ∷ codes "runc" ∷ codes "calls" ∷ codes "without-x32" ∷ codes "others" ∷ []
words_of RecoveredToo = codes "bundle" ∷ codes "runc" ∷ codes "calls" ∷ codes "without-x32" ∷ codes "others" ∷ []
words_of Compared = codes "atmost" ∷ codes "filters" ∷ []
words_of other = []
