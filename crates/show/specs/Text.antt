-- The text of a profile. Each line ends in a line feed, and a space stands between its fields.
use Rattle.std.specs.Prelude.{ℕ, ◌≡◌, Bool, true, false, if◌then◌else◌, List, [], ◌∷◌, ◌++◌, length, codes}
use Rattle.std.specs.Fmt.{decimal, digits}
use Rattle.std.specs.List.{flat_map}
use Rattle.serde_json.specs.Data.{Data}
use Rattle.texts.specs.Lines.{line_feed}
use Rattle.machines.specs.declared.arch.Arch.{Arch}
use Rattle.machines.specs.Arch.{machine_name}
use Rattle.profile.specs.declared.conditions.Cond.{Cond}
use Rattle.profile.specs.declared.conditions.Op.{Op}
use Rattle.profile.specs.declared.conditions.Op.TheVariants.{Ne, Lt, Le, Eq, Ge, Gt, MaskedEq}
use Rattle.profile.specs.declared.rules.Rule.{Rule}
use Rattle.profile.specs.Policy.{Policy}
use Rattle.profile_json.specs.Meaning.{IsText, Means}

-- small letters, no leading zero
abbrev pub hexadecimal : ℕ → List ℕ
hexadecimal n = codes "0x" ++ digits 16 false n

-- a bundle's name of the operator, without SCMP_CMP_ before it
abbrev pub operator_name : Op → List ℕ
operator_name Ne = codes "NE"
operator_name Lt = codes "LT"
operator_name Le = codes "LE"
operator_name Eq = codes "EQ"
operator_name Ge = codes "GE"
operator_name Gt = codes "GT"
operator_name MaskedEq = codes "MASKED_EQ"

abbrev pub is_masked : Op → Bool
is_masked Ne = false
is_masked Lt = false
is_masked Le = false
is_masked Eq = false
is_masked Ge = false
is_masked Gt = false
is_masked MaskedEq = true

-- behind a space an argument, an operator and a number; or a mask, and the bits under it
abbrev pub condition_text : Cond → List ℕ
condition_text c =
    if is_masked c.op
    then codes " arg" ++ decimal c.index ++ codes " " ++ operator_name c.op ++ codes " " ++ hexadecimal c.value
    ++ codes " " ++ hexadecimal c.datum
    else codes " arg" ++ decimal c.index ++ codes " " ++ operator_name c.op ++ codes " " ++ hexadecimal c.value

-- the line of a rule: its machine, the number of its call, its verdict, and its conditions in order
abbrev pub rule_line : Rule → List ℕ
rule_line rule =
    machine_name rule.arch ++ codes " " ++ decimal rule.nr ++ codes " " ++ hexadecimal rule.word ++ flat_map condition_text rule.conds.items
    ++ line_feed ∷ []

abbrev pub native_line : Arch → List ℕ
native_line native = codes "native " ++ machine_name native ++ line_feed ∷ []

abbrev pub machines_line : List Arch → List ℕ
machines_line machines = codes "machines" ++ flat_map (λ arch. codes " " ++ machine_name arch) machines ++ line_feed ∷ []

-- the line of the verdict that no rule gives
abbrev pub default_line : ℕ → List ℕ
default_line word = codes "default " ++ hexadecimal word ++ line_feed ∷ []

-- the line of how many rules there are
abbrev pub count_line : ℕ → List ℕ
count_line count = codes "rules " ++ decimal count ++ line_feed ∷ []

-- the lines of a profile, of which each rule has one, in the order of the rules
abbrev pub text_of : Policy → List ℕ
text_of policy =
    codes "ccell-profile 1\n" ++ native_line policy.native ++ machines_line policy.machines ++ default_line policy.default_word
    ++ count_line (length policy.rules) ++ flat_map rule_line policy.rules

-- the bundle means a profile, and this is its text
pub record IsTextOf (native : Arch) (bundle text : List ℕ) : Type 0 where
  pub t : Data
  pub is_text : IsText bundle t
  pub policy : Policy
  pub means : Means t native policy
  pub written : text ≡ text_of policy
