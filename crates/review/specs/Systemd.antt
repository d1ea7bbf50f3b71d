-- systemd's groups of calls: which names a profile's machines have of each, and what the profile says of them.
use Rattle.std.specs.Prelude.{◌≡◌, Bool, if◌then◌else◌, List, [], ◌∷◌, ◌++◌, filter, is_some, map}
use Rattle.std.specs.List.{All, list_all, list_any}
use Rattle.std.specs.Str.{bytes_eq}
use Rattle.call_groups.specs.Groups.{Text, calls_of}
use Rattle.machines.specs.declared.arch.Arch.{Arch}
use Rattle.call_tables.specs.Tables.{table_of}
use Rattle.call_tables.specs.Table.{number_in}
use Rattle.profile.specs.Policy.{Policy}
use Rattle.review.specs.Asked.{asked_by, whole}
use Rattle.review.specs.Groups.{PartEntry}
use Rattle.review.specs.Judged.{AreJudged}
use Rattle.review.specs.Told.{is_open, is_refused}
use Rattle.review.specs.declared.judged.Judged.{Judged}
use Rattle.review.specs.declared.member.Member.{Member}
use Rattle.review.specs.declared.member.Standing.{Standing}
use Rattle.review.specs.declared.member.Standing.TheVariants.{Refused, Open, Undecided}
use Rattle.review.specs.declared.systemd.TheConstants.{NAMES}

-- the names of the groups, in the order of the table
unfoldable pub group_names : List Text
group_names = map (λ name. name.now) NAMES.now

-- ---- the calls of a group

-- a machine has a call of that name, or one of these has
abbrev pub has_on : Text → Arch → Bool
has_on name arch = is_some (number_in (table_of (whole arch)) name)

abbrev pub has : List Arch → Text → Bool
has machines name = list_any (has_on name) machines

abbrev pub none : List Text
none = []

-- names with a further one, unless it is there
abbrev pub with_name : List Text → Text → List Text
with_name names name = if list_any (bytes_eq name) names then names else names ++ name ∷ []

-- each name once, behind others
abbrev pub once_behind : List Text → List Text → List Text
once_behind found [] = found
once_behind found (name ∷ names) = once_behind (with_name found name) names

abbrev pub once : List Text → List Text
once names = once_behind [] names

-- the names of a group that one of the machines has, each once
abbrev pub members : List Arch → Text → List Text
members machines group = once (filter (has machines) (calls_of group))

-- ---- what a profile says of them

-- all records of a call: each argument is 0 under the mask 0
pub record IsAny (part : PartEntry) : Type 0 where
  pub index : part.1 ≡ 0
  pub mask : part.2 ≡ 0
  pub bits : part.3 ≡ 0

-- a record is let through on some machine; or none is on any; or that is not decided
abbrev pub standing_of : List Judged → Standing
standing_of list =
    if list_any (λ j. is_open j.answer) list then Open else if list_all (λ j. is_refused j.answer) list then Refused else Undecided

-- how a call stands, by the answers on each of the profile's machines that has it
pub record IsStanding (p : Policy) (m : Member) : Type 0 where
  pub part : PartEntry
  pub is_any : IsAny part
  pub judged : List Judged
  pub are_judged : AreJudged p (asked_by p.machines part m.name.now) judged
  pub standing : m.standing ≡ standing_of judged

-- so of each of these names, in order
pub record AreStanding (p : Policy) (names : List Text) (list : List Member) : Type 0 where
  pub of_all : map (λ m. m.name.now) list ≡ names
  pub are : All (IsStanding p) list
