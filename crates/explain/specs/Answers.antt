-- What a profile may answer to a call, and what it never does.
use Rattle.std.specs.Prelude.{ℕ, ◌≡◌, ◌≢◌, ◌==◌, ◌&&◌, ◌||◌, not, length, Bool, false, if◌then◌else◌, List}
use Rattle.std.specs.List.{list_any}
use Rattle.call_record.specs.Verdict.{action, kill_thread}
use Rattle.call_record.specs.Words.{word}
use Rattle.machines.specs.Numbers.{has_call}
use Rattle.profile.specs.declared.rules.Rule.{Rule}
use Rattle.profile.specs.Policy.{Policy, Says}
use Rattle.explain.specs.Any.{is_of}

-- the rule is for this call, and gives this action: a kernel tells actions without their data
abbrev pub gives : ℕ → ℕ → ℕ → Rule → Bool
gives token nr a rule = is_of rule token nr && action rule.word == a

-- the rule is for this call whatever its arguments are
abbrev pub is_always : ℕ → ℕ → Rule → Bool
is_always token nr rule = is_of rule token nr && length rule.conds.items == 0

-- the action is the default's, and some record of the call may match no rule
abbrev pub default_may : Policy → ℕ → ℕ → ℕ → Bool
default_may p token nr a = action p.default_word == a && not (list_any (is_always token nr) p.rules)

-- The action is that of the default or of a rule for the call. Of a call of machines that are not listed it is KILL_THREAD.
abbrev pub may_answer : Policy → ℕ → ℕ → ℕ → Bool
may_answer p token nr a =
    if list_any (has_call token nr) p.machines
    then default_may p token nr a || list_any (gives token nr a) p.rules
    else a == kill_thread

-- no record of the call gets a verdict with this action
abbrev pub NeverAnswers : Policy → ℕ → ℕ → ℕ → Type 0
NeverAnswers p token nr a = (r : List ℕ) (v : ℕ) → word r 1 ≡ token → word r 0 ≡ nr → Says p r v → action v ≢ a

-- what a profile may not answer it never answers
abbrev pub WhatMayNotNeverDoes : Type 0
WhatMayNotNeverDoes = (p : Policy) (token nr a : ℕ) → may_answer p token nr a ≡ false → NeverAnswers p token nr a
