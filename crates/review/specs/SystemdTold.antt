-- How it is told what a profile leaves open of systemd's groups.
use Rattle.std.specs.Prelude.{◌≡◌, nat_lt, Bool, true, false, if◌then◌else◌, List, [], ◌∷◌, ◌++◌, codes, filter, length, map}
use Rattle.std.specs.List.{flat_map, list_all, list_any}
use Rattle.call_groups.specs.Groups.{Text}
use Rattle.profile.specs.Policy.{Policy}
use Rattle.review.specs.Systemd.{AreStanding, members}
use Rattle.review.specs.declared.member.Member.{Member}
use Rattle.review.specs.declared.member.Standing.{Standing}
use Rattle.review.specs.declared.member.Standing.TheVariants.{Refused, Open, Undecided}

abbrev pub is_refused : Standing → Bool
is_refused Refused = true
is_refused Open = false
is_refused Undecided = false

abbrev pub is_open : Standing → Bool
is_open Refused = false
is_open Open = true
is_open Undecided = false

abbrev pub is_undecided : Standing → Bool
is_undecided Refused = false
is_undecided Open = false
is_undecided Undecided = true

-- ---- the state of a group

-- all of its calls are refused; or all are let through, or some are; or something is not decided
abbrev pub state_of : List Member → Text
state_of list =
    if list_all (λ m. is_refused m.standing) list then codes "refused"
    else if list_all (λ m. is_open m.standing) list then codes "open"
    else if list_any (λ m. is_open m.standing) list then codes "in part"
    else codes "undecided"

abbrev pub head_line : Text → List Member → Text
head_line group list = codes "group " ++ group ++ codes ": " ++ state_of list ++ codes "; systemd's group of this name\n"

-- ---- the calls

abbrev pub name_of : Member → Text
name_of m = m.name.now

abbrev pub refused_names : List Member → List Text
refused_names list = map name_of (filter (λ m. is_refused m.standing) list)

abbrev pub open_names : List Member → List Text
open_names list = map name_of (filter (λ m. is_open m.standing) list)

abbrev pub undecided_names : List Member → List Text
undecided_names list = map name_of (filter (λ m. is_undecided m.standing) list)

-- a name behind a comma
abbrev pub further : Text → Text
further name = codes ", " ++ name

-- a word and names; no names, no line
abbrev pub names_line : Text → List Text → Text
names_line word [] = []
names_line word (name ∷ names) = codes "  " ++ word ++ codes ": " ++ name ++ flat_map further names ++ codes "\n"

-- the calls that are refused, or those that are let through if these are no more
abbrev pub fewer_line : List Text → List Text → Text
fewer_line refused through =
    if nat_lt (length refused) (length through) then names_line (codes "refused") refused else names_line (codes "open") through

-- the lines of a group
abbrev pub group_text : Text → List Member → Text
group_text group list =
    head_line group list ++ (fewer_line (refused_names list) (open_names list) ++ names_line (codes "undecided") (undecided_names list))

-- ---- all groups

-- what the profile says of the calls of a group is told behind a text
pub record AddsSystemd (p : Policy) (group old new : Text) : Type 0 where
  pub list : List Member
  pub are : AreStanding p (members p.machines group) list
  pub is : new ≡ old ++ group_text group list

-- the text tells of these groups, one by one
pub data TellsSystemd (p : Policy) : List Text → Text → Type 0 where
  none : TellsSystemd p [] []
  more : (groups : List Text) (group old new : Text) → TellsSystemd p groups old → AddsSystemd p group old new
      → TellsSystemd p (groups ++ group ∷ []) new
