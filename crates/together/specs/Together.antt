-- What several profiles say of a record together.
use Rattle.std.specs.Prelude.{◌≡◌, ◌≢◌, ℕ, List, map}
use Rattle.call_record.specs.Record.{words}
use Rattle.call_record.specs.Words.{IsRecord}
use Rattle.profile.specs.Policy.{Policy}
use Rattle.profile.specs.Said.{said}
use Rattle.together.specs.Word.{word_of}
use Rattle.together.specs.declared.unlike.Unlike.{Unlike}
use Rattle.together.specs.declared.way.Way.{Way}

-- the verdict of each profile, in order
abbrev pub each_said : List Policy → List ℕ → List ℕ
each_said ps r = map (λ p. said p r) ps

-- that which counts of them
abbrev pub together : Way → List Policy → List ℕ → ℕ
together way ps r = word_of way (each_said ps r)

-- q says of each record what counts of what the profiles say
abbrev pub SaysTogether : Way → List Policy → Policy → Type 0
SaysTogether way ps q = (r : List ℕ) → IsRecord r → said q r ≡ together way ps r

-- a record of which q says another verdict: that verdict, and the one that counts
pub record IsUnlike (way : Way) (ps : List Policy) (q : Policy) (found : Unlike) : Type 0 where
  pub given : found.given ≡ said q (words found.call)
  pub wanted : found.wanted ≡ together way ps (words found.call)
  pub unlike : found.given ≢ found.wanted
