-- What the words of a line of a kernel's audit say of the line besides the fields that are read.
use Rattle.std.specs.Prelude.{ℕ, ◌==◌, ◌||◌, not, Bool, true, false, if◌then◌else◌}
use Rattle.std.specs.Prelude.{List, [], ◌∷◌, Option, Some, None, codes, is_some, length}
use Rattle.texts.specs.Splits.{behind}
use Rattle.explain.specs.declared.audited.signs.Signs.{Signs}
use Rattle.explain.specs.declared.audited.signs.Times.{Times}
use Rattle.explain.specs.declared.audited.signs.Times.TheVariants.{Never, Once, Often}

-- once more
abbrev pub more : Times → Times
more Never = Once
more Once = Often
more Often = Often

abbrev pub is_never : Times → Bool
is_never Never = true
is_never Once = false
is_never Often = false

abbrev pub is_often : Times → Bool
is_often Never = false
is_often Once = false
is_often Often = true

abbrev pub begins : List ℕ → List ℕ → Bool
begins key word = is_some (behind key word)

abbrev pub is_end : Option (List ℕ) → Bool
is_end None = false
is_end (Some rest) = length rest == 0

-- the word is this text
abbrev pub is_text : List ℕ → List ℕ → Bool
is_text text word = is_end (behind text word)

-- The word says that its line is the record of a filter's answer: so do a kernel by its number, and auditd and journald by a name.
abbrev pub is_mark : List ℕ → Bool
is_mark word = is_text (codes "type=1326") word || (is_text (codes "type=SECCOMP") word || is_text (codes "SECCOMP") word)

-- the word says that records were lost, or that lines were not printed
abbrev pub is_loss : List ℕ → Bool
is_loss word = begins (codes "audit_lost=") word || begins (codes "kauditd_printk_skb:") word

-- what is known of a line after one word more that is no mark and no signal
abbrev pub with_other : Signs → List ℕ → Signs
with_other signs word =
    if begins (codes "code=") word then record { marks = signs.marks; answers = more signs.answers; lost = signs.lost }
    else if is_loss word then record { marks = signs.marks; answers = signs.answers; lost = true }
    else signs

-- What is known of a line after one word more. A kernel writes `sig=` before the fields of an answer, and behind what a program chose.
abbrev pub with_word : Signs → List ℕ → Signs
with_word signs word =
    if is_mark word then record { marks = more signs.marks; answers = signs.answers; lost = signs.lost }
    else if begins (codes "sig=") word then record { marks = signs.marks; answers = Never; lost = signs.lost }
    else with_other signs word

abbrev pub signs_from : Signs → List (List ℕ) → Signs
signs_from signs [] = signs
signs_from signs (word ∷ words) = signs_from (with_word signs word) words

-- how often a word says that the line is a filter's record; how many answers stand behind the last signal; whether something was lost
abbrev pub signs_of : List (List ℕ) → Signs
signs_of words = signs_from (record { marks = Never; answers = Never; lost = false }) words

-- it has more than one record
abbrev pub is_doubled : Signs → Bool
is_doubled signs = is_often signs.marks || is_often signs.answers

abbrev pub is_marked : Signs → Bool
is_marked signs = not (is_never signs.marks)
