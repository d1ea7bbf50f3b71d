-- Entries whose rules give unlike verdicts to one record.
use Rattle.std.proofs.Common.{◌≡◌, ◌≢◌, ℕ, suc, List, map, get_or, Option, Some, None, option_map, ◌+◌, drop, Bool, true, false}
use Rattle.std.proofs.Common.{Bor, inl, inr, refl, sym, ◌∙◌, ap, subst, arith}
use Rattle.std.specs.List.{Contains, Any}
use Rattle.std.proofs.lemmas.Option.{same_Some}
use Rattle.machines.specs.declared.arch.Arch.{Arch}
use Rattle.call_tables.specs.Tables.{table_of}
use Rattle.call_tables.specs.Table.{number_in, name_in}
use Rattle.machines.specs.Numbers.{HasCall, IsOwn}
use Rattle.call_tables.proofs.InverseLaws.{table_of-inverse}
use Rattle.call_tables.proofs.OwnLaws.{table_of-own}
use Rattle.call_record.specs.Words.{word}
use Rattle.profile.specs.Policy.{InOrder}
use Rattle.profile.proofs.MachineLaws.{has_call-one}
use Rattle.profile.specs.declared.rules.Rule.{Rule}
use Rattle.profile.specs.Rule.{Matches, Overlap, Clash}
use Rattle.profile_json.specs.Parts.{EntryParts, RuleParts, rule_parts}
use Rattle.profile_json.specs.Rules.{rule_of, rules_under, rules_of_entry}
use Rattle.profile_json.specs.Breaks.{ClashUnder}
use Rattle.profile_json.specs.inner.Clashes.{OverlapOn, NoClash}
use Rattle.profile_json.proofs.PartsLemmas.{rule_same}
use Rattle.profile_json.proofs.Lists.{contains_filter_map, contains_filter_map_back, contains_flat_back, now_split}

-- the rules of two entries for one call, where both are at hand
pub on_some : (x y : EntryParts) (name : List ℕ) (arch : Arch) (nr : ℕ) (a b : Rule) → Some nr ≡ number_in (table_of arch) name
    → rule_parts a ≡ rule_of x arch nr → rule_parts b ≡ rule_of y arch nr
    → (Overlap a b → OverlapOn x y name arch) × (OverlapOn x y name arch → Overlap a b)
on_some x y name arch nr a b at is_a is_b = (
  λ both. record { nr = nr; nr_is = sym at; first = a; first_is = is_a; second = b; second_is = is_b; both = both },
  λ (o : OverlapOn x y name arch). (
      let same : o.nr ≡ nr = same_Some o.nr nr (sym o.nr_is ∙ sym at) in
      let first : o.first ≡ a = rule_same o.first a (o.first_is ∙ ap (rule_of x arch) same ∙ sym is_a) in
      let second : o.second ≡ b = rule_same o.second b (o.second_is ∙ ap (rule_of y arch) same ∙ sym is_b) in
      let there : Overlap a o.second = subst (λ (r : Rule). Overlap r o.second) first o.both in
      subst (λ (r : Rule). Overlap a r) second there
      ),
)

pub on_none : (x y : EntryParts) (name : List ℕ) (arch : Arch) → None ≡ number_in (table_of arch) name → OverlapOn x y name arch → ⊥
on_none x y name arch at o = let no : None ≡ Some o.nr = at ∙ o.nr_is in cc

-- the rule that an entry has under a name on a machine
pub under : (machines : List Arch) (x : EntryParts) (name : List ℕ) (arch : Arch) (nr : ℕ) (r : RuleParts) → Contains machines arch
    → number_in (table_of arch) name ≡ Some nr → r ≡ rule_of x arch nr → Contains (rules_under machines x name) r
under machines x name arch nr r listed at is =
    contains_filter_map (λ a. option_map (rule_of x a) (number_in (table_of a) name)) machines arch r listed
    (ap (option_map (rule_of x arch)) at ∙ ap Some (sym is))

-- where a rule under a name comes from
pub record IsUnder (machines : List Arch) (x : EntryParts) (name : List ℕ) (r : RuleParts) : Type 0 where
  pub arch : Arch
  pub listed : Contains machines arch
  pub nr : ℕ
  pub nr_is : number_in (table_of arch) name ≡ Some nr
  pub is : r ≡ rule_of x arch nr

mapped : {A B : Type 0} (f : A → B) (o : Option A) (y : B) → option_map f o ≡ Some y → (x : A) × (o ≡ Some x) × (y ≡ f x)
mapped f None y h = cc
mapped f (Some x) y h = (x, refl, cc)

pub under_back : (machines : List Arch) (x : EntryParts) (name : List ℕ) (r : RuleParts) → Contains (rules_under machines x name) r
    → IsUnder machines x name r
under_back machines x name r h =
    let at = contains_filter_map_back (λ a. option_map (rule_of x a) (number_in (table_of a) name)) machines r h in
    let parts = mapped (rule_of x at.0) (number_in (table_of at.0) name) r at.2 in
    record { arch = at.0; listed = at.1; nr = parts.0; nr_is = parts.1; is = parts.2 }

-- what a search that finds an overlap has found
pub clash_under : (machines : List Arch) (x y : EntryParts) (name : List ℕ) → x.word ≢ y.word → Contains x.names name
    → Contains y.names name → Any (OverlapOn x y name) machines → ClashUnder machines x y name
clash_under machines x y name unlike in_x in_y any =
    let arch = any.1 in
    let o = any.4 in
    let listed : Contains machines arch = (any.0, any.2, any.3) in
    let words : o.first.word ≢ o.second.word =
    λ (same : o.first.word ≡ o.second.word). unlike
    (sym (ap (λ (p : RuleParts). p.word) o.first_is) ∙ same ∙ ap (λ (p : RuleParts). p.word) o.second_is) in
    record {
      in_first = in_x;
      in_second = in_y;
      first = o.first;
      first_is = under machines x name arch o.nr (rule_parts o.first) listed o.nr_is o.first_is;
      second = o.second;
      second_is = under machines y name arch o.nr (rule_parts o.second) listed o.nr_is o.second_is;
      clash = (words, o.both);
    }

-- a record that a rule under a name matches is a call of the rule's machine
call_of : (machines : List Arch) (x : EntryParts) (name : List ℕ) (rule : Rule) (r : List ℕ) → IsUnder machines x name (rule_parts rule)
    → Matches rule r → HasCall (word r 1) (word r 0) rule.arch
call_of machines x name rule r p m =
    let arch : rule.arch ≡ p.arch = ap (λ (s : RuleParts). s.arch) p.is in
    let nr : rule.nr ≡ p.nr = ap (λ (s : RuleParts). s.nr) p.is in
    let own : IsOwn p.arch p.nr = table_of-own p.arch name p.nr p.nr_is in
    (sym m.machine, subst (λ a. IsOwn a (word r 0)) (sym arch) (subst (IsOwn p.arch) (sym (m.number ∙ nr)) own))

-- rules that clash are of one call, and so of one name: a search over the names finds it
pub must_clash : (machines : List Arch) (x y : EntryParts) (a b : Rule) → InOrder machines → Contains (rules_of_entry machines x) (rule_parts a)
    → Contains (rules_of_entry machines y) (rule_parts b) → Clash a b → NoClash machines x y → ⊥
must_clash machines x y a b order in_x in_y clash none =
    let m = contains_flat_back (rules_under machines x) x.names (rule_parts a) in_x in
    let n = contains_flat_back (rules_under machines y) y.names (rule_parts b) in_y in
    let p : IsUnder machines x m.0 (rule_parts a) = under_back machines x m.0 (rule_parts a) m.2 in
    let q : IsUnder machines y n.0 (rule_parts b) = under_back machines y n.0 (rule_parts b) n.2 in
    let r = clash.1 in
    let one_nr : a.nr ≡ b.nr = sym r.2.number ∙ r.3.number in
    let arch_a : a.arch ≡ p.arch = ap (λ (s : RuleParts). s.arch) p.is in
    let arch_b : b.arch ≡ q.arch = ap (λ (s : RuleParts). s.arch) q.is in
    let one_arch : a.arch ≡ b.arch = has_call-one machines order a.arch b.arch (subst (Contains machines) (sym arch_a) p.listed)
    (subst (Contains machines) (sym arch_b) q.listed) (word r.0 1) (word r.0 0) (call_of machines x m.0 a r.0 p r.2)
    (call_of machines y n.0 b r.0 q r.3) in
    let nr_a : a.nr ≡ p.nr = ap (λ (s : RuleParts). s.nr) p.is in
    let nr_b : b.nr ≡ q.nr = ap (λ (s : RuleParts). s.nr) q.is in
    let archs : q.arch ≡ p.arch = sym arch_b ∙ sym one_arch ∙ arch_a in
    let nrs : q.nr ≡ p.nr = sym nr_b ∙ sym one_nr ∙ nr_a in
    let q_nr : number_in (table_of p.arch) n.0 ≡ Some p.nr = ap (λ s. number_in (table_of s) n.0) (sym archs) ∙ q.nr_is ∙ ap Some nrs in
    let m_is : name_in (table_of p.arch) p.nr ≡ Some m.0 = (table_of-inverse p.arch m.0 p.nr).0 p.nr_is in
    let n_is : name_in (table_of p.arch) p.nr ≡ Some n.0 = (table_of-inverse p.arch n.0 p.nr).0 q_nr in
    let names : n.0 ≡ m.0 = same_Some n.0 m.0 (sym n_is ∙ m_is) in
    let b_is : rule_parts b ≡ rule_of y p.arch p.nr = q.is ∙ ap (λ s. rule_of y s q.nr) archs ∙ ap (rule_of y p.arch) nrs in
    let o : OverlapOn x y m.0 p.arch = record
    { nr = p.nr; nr_is = p.nr_is; first = a; first_is = p.is; second = b; second_is = b_is; both = clash.1 } in
    let unlike : x.word ≢ y.word = λ (same : x.word ≡ y.word). clash.0
    (ap (λ (s : RuleParts). s.word) p.is ∙ same ∙ sym (ap (λ (s : RuleParts). s.word) q.is)) in
    none unlike m.0 m.1 (subst (λ s. Contains y.names s) names n.1) (p.listed.0, p.arch, p.listed.1, p.listed.2, o)

-- a name that clashes is not the one at i, where that one was tried, so it comes later
pub passed_step : (machines : List Arch) (x y : EntryParts) (ns names : List (Bor (List ℕ))) (i : ℕ) (d : Bor (List ℕ)) (name : List ℕ)
    (b : Bool) → ns ≡ names → b ≡ false
    → (Contains x.names (get_or ns i d).now × Any (OverlapOn x y (get_or ns i d).now) machines → b ≡ true)
    → Contains x.names name → Any (OverlapOn x y name) machines → Contains (map (λ n. n.now) (drop i names)) name
    → Contains (map (λ n. n.now) (drop (i + 1) names)) name
passed_step machines x y ns names i d name b same is tried in_x any at =
    elim (now_split names i d name at) [
      | inl here ↦
          let P : List ℕ → Type 0 = λ n. Contains x.names n × Any (OverlapOn x y n) machines in
          let this : (get_or ns i d).now ≡ name = ap (λ (ms : List (Bor (List ℕ))). (get_or ms i d).now) same ∙ here in
          let yes-true : b ≡ true = tried (subst P (sym this) (in_x, any)) in
          absurd (let no : true ≡ false = sym yes-true ∙ is in cc)
      | inr later ↦
          let next : suc i ≡ i + 1 = omega arith in
          subst (λ k. Contains (map (λ n. n.now) (drop k names)) name) next later
    ]
