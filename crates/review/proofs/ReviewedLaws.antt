-- What is told of a bundle, by what is told of its parts.
use Rattle.std.proofs.Common.{ℕ, ◌≡◌, ◌+◌, ◌<◌, ◌≤◌, ◌++◌, ◌∷◌, [], List, length, get_or, map, take, ap, sym, ◌∙◌, subst, inl}
use Rattle.std.specs.Prelude.{◌≢◌, IfOk, IfSome, Result, Ok, Err, codes}
use Rattle.std.proofs.lemmas.List.{map-append, take_all, take_more}
use Rattle.std.proofs.lemmas.List.Elements.{All-push}
use Rattle.std.specs.List.{All}
use denote.Ref.{Bor}
use Rattle.call_groups.specs.Groups.{Text, now_of}
use Rattle.machines.specs.declared.arch.Arch.{Arch}
use Rattle.profile.specs.declared.rules.Rule.{Rule}
use Rattle.profile.specs.Policy.{Policy}
use Rattle.profile_json.specs.Breaks.{Breaks}
use Rattle.profile_json.specs.Fault.{fault_of, text_of}
use Rattle.profile_json.specs.declared.fault.ProfileError.{ProfileError}
use Rattle.profile_json.specs.declared.fault.ProfileError.TheVariants.{OutOfMemory}
use Rattle.wording.specs.Told.{RefusesBy}
use Rattle.wording.specs.declared.told.Told.{Told}
use Rattle.review.specs.Reviewed.{IsReviewed}
use Rattle.review.specs.Told as told
use Rattle.review.specs.Told.{AddsGroup, TellsGroups}
use Rattle.review.specs.Groups.{GroupEntry}
use Rattle.review.specs.Systemd.{AreStanding, IsStanding}
use Rattle.review.specs.SystemdTold as systemd
use Rattle.review.specs.SystemdTold.{AddsSystemd, TellsSystemd}
use Rattle.review.specs.declared.member.Member.{Member}

-- the bundle is refused
pub is_refused : {E : Type 0} (native : Arch) (bundle : List ℕ) (e : ProfileError) (r : Result Told E)
    → IfSome (fault_of e) (Breaks bundle native) → IfOk r (λ told. e ≢ OutOfMemory)
    → IfOk r (RefusesBy (codes "refused profile " ++ text_of e)) → IfOk r (IsReviewed native bundle)
is_refused native bundle e (Ok told) stands fault line = inl (record { error = e; is_fault = fault; stands = stands; tells = line })
is_refused native bundle e (Err x) stands fault line = line

-- ---- group by group

pub no_groups : (p : Policy) (rules : List Rule) (ends : List ℕ) (groups : List GroupEntry) (text : List ℕ) → text ≡ []
    → TellsGroups p rules ends (take 0 groups) text
no_groups p rules ends groups text empty = subst (λ (t : List ℕ). TellsGroups p rules ends [] t) (sym empty) told.none

pub groups_step : (p : Policy) (rules : List Rule) (ends : List ℕ) (groups : List GroupEntry) (i : ℕ) (d : GroupEntry) (old new : List ℕ)
    → i < length groups → TellsGroups p rules ends (take i groups) old → AddsGroup p rules ends (get_or groups i d) old new
    → TellsGroups p rules ends (take (i + 1) groups) new
groups_step p rules ends groups i d old new within before adds =
    subst (λ (gs : List GroupEntry). TellsGroups p rules ends gs new) (sym (take_more groups i d within))
    (told.more (take i groups) (get_or groups i d) old new before adds)

pub whole_told : (p : Policy) (rules : List Rule) (ends : List ℕ) (groups : List GroupEntry) (i : ℕ) (text : List ℕ) → length groups ≤ i
    → TellsGroups p rules ends (take i groups) text → TellsGroups p rules ends groups text
whole_told p rules ends groups i text end tells =
    subst (λ (gs : List GroupEntry). TellsGroups p rules ends gs text) (take_all i groups end) tells

-- ---- systemd's groups

pub no_systemd : (p : Policy) (groups : List (Bor Text)) (text : Text) → text ≡ [] → TellsSystemd p (map now_of (take 0 groups)) text
no_systemd p groups text empty = subst (λ (t : Text). TellsSystemd p [] t) (sym empty) systemd.none

pub systemd_step : (p : Policy) (groups : List (Bor Text)) (i : ℕ) (d : Bor Text) (old new : Text) → i < length groups
    → TellsSystemd p (map now_of (take i groups)) old → AddsSystemd p (get_or groups i d).now old new
    → TellsSystemd p (map now_of (take (i + 1) groups)) new
systemd_step p groups i d old new within before adds =
    subst (λ (gs : List Text). TellsSystemd p gs new)
    (sym (map-append now_of (take i groups) (get_or groups i d ∷ [])) ∙ ap (map now_of) (sym (take_more groups i d within)))
    (systemd.more (map now_of (take i groups)) (get_or groups i d).now old new before adds)

pub whole_systemd : (p : Policy) (groups : List (Bor Text)) (names : List Text) (i : ℕ) (text : Text) → length groups ≤ i
    → map now_of groups ≡ names → TellsSystemd p (map now_of (take i groups)) text → TellsSystemd p names text
whole_systemd p groups names i text end are tells =
    subst (λ (gs : List Text). TellsSystemd p gs text) (ap (map now_of) (take_all i groups end) ∙ are) tells

-- ---- how calls stand

pub standing_step : (p : Policy) (names : List (Bor Text)) (i : ℕ) (d : Bor Text) (list new : List Member) (m : Member) → i < length names
    → AreStanding p (map now_of (take i names)) list → m.name.now ≡ (get_or names i d).now → IsStanding p m → new ≡ list ++ m ∷ []
    → AreStanding p (map now_of (take (i + 1) names)) new
standing_step p names i d list new m within are name is added = record {
  of_all = ap (map (λ (x : Member). x.name.now)) added
      ∙ (map-append (λ (x : Member). x.name.now) list (m ∷ [])
      ∙ (ap (λ (l : List Text). l ++ m.name.now ∷ []) are.of_all
      ∙ (ap (λ (t : Text). map now_of (take i names) ++ t ∷ []) name
      ∙ (sym (map-append now_of (take i names) (get_or names i d ∷ [])) ∙ ap (map now_of) (sym (take_more names i d within))))));
  are = subst (λ (l : List Member). All (IsStanding p) l) (sym added) (All-push (IsStanding p) list m are.are is);
}
