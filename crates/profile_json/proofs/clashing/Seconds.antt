-- The second of two entries that clash, by the place of its rule.
use Rattle.std.proofs.Common.{◌≡◌, ℕ, ◌+◌, ◌<◌, ◌≤◌, List, length, map, get_or, Some, None, option_map, nat_lt, false, inl, inr, sym, ◌∙◌}
use Rattle.std.proofs.Common.{ap, subst, arith}
use Rattle.std.specs.List.{Contains, slice_get, position, position_from}
use Rattle.std.proofs.lemmas.List.{length-map}
use Rattle.std.proofs.lemmas.Option.{same_Some, slice_get-map, slice_get_within, slice_get-get_or}
use Rattle.std.proofs.lemmas.Iterator.Adapters.{position_from-zero}
use Rattle.std.proofs.lemmas.Bool.{cases_Bool, ltb-true, ltb-false}
use Rattle.std.proofs.lemmas.Bool.Decides.{nat_tests}
use Rattle.machines.specs.declared.arch.Arch.{Arch}
use Rattle.profile.specs.declared.rules.Rule.{Rule}
use Rattle.profile_json.specs.declared.entry.Entry.{Entry}
use Rattle.profile_json.specs.Parts.{EntryParts, RuleParts, rule_parts}
use Rattle.profile_json.specs.Rules.{rules_under, rules_of_entry, rules_of, ends_after}
use Rattle.profile_json.specs.inner.View.{entry_parts}
use Rattle.profile_json.specs.inner.Clashes.{NoClash, HasClash}
use Rattle.profile_json.proofs.Lists.{contains_flat_back}
use Rattle.profile_json.proofs.clashing.Clashing.{IsUnder, under_back, must_clash}
use Rattle.profile_json.proofs.clashing.Places.{IsEntryOf, entry_of_place}

-- each rule of an entry has its verdict
pub verdict_of_entry : (machines : List Arch) (e : EntryParts) (r : RuleParts) → Contains (rules_of_entry machines e) r → r.word ≡ e.word
verdict_of_entry machines e r h =
    let n = contains_flat_back (rules_under machines e) e.names r h in
    let is : IsUnder machines e n.0 r = under_back machines e n.0 r n.2 in
    ap (λ (p : RuleParts). p.word) is.is

-- the entry at k, which clashes with some entry before it
pub record IsSecond (machines : List Arch) (es : List EntryParts) (k : ℕ) : Type 0 where
  pub y : EntryParts
  pub y_at : slice_get es k ≡ Some y
  pub must : ((j : ℕ) → j < k → (x : EntryParts) → slice_get es j ≡ Some x → NoClash machines x y) → ⊥

rule_at : (machines : List Arch) (es : List EntryParts) (said : List Rule) (i : ℕ) (r : Rule) → map rule_parts said ≡ rules_of machines es
    → slice_get said i ≡ Some r → slice_get (rules_of machines es) i ≡ Some (rule_parts r)
rule_at machines es said i r is at = ap (λ rs. slice_get rs i) (sym is) ∙ slice_get-map rule_parts said i ∙ ap (option_map rule_parts) at

pub second_of : (machines : List Arch) (es : List EntryParts) (place : ℕ) → HasClash machines es place → (k : ℕ)
    × (position (λ end. nat_lt place end) (ends_after 0 machines es) ≡ Some k) × IsSecond machines es k
second_of machines es place h =
    let at = rule_at machines es h.said place h.second h.said_is h.second_at in
    let before = rule_at machines es h.said h.earlier h.first h.said_is h.first_at in
    let found = entry_of_place machines es 0 place 0 (rule_parts h.second) at in
    let is : IsEntryOf machines es 0 (0 + place) found.0 (rule_parts h.second) = found.2 in
    let k : ℕ = found.0 in
    let same : 0 + place ≡ place = omega arith in
    let here : position_from (λ end. nat_lt place end) 0 (ends_after 0 machines es) ≡ Some k =
    subst (λ p. position_from (λ end. nat_lt p end) 0 (ends_after 0 machines es) ≡ Some k) same (found.1 ∙ ap Some (omega arith)) in
    let first : position (λ end. nat_lt place end) (ends_after 0 machines es) ≡ Some k =
    position_from-zero (λ end. nat_lt place end) (ends_after 0 machines es) ∙ here in (
      k,
      first,
      record {
        y = is.entry;
        y_at = is.entry_at;
        must = λ none. elim (is.earlier h.earlier (rule_parts h.first) (let lt = h.before in omega (arith, lt)) before) [
          | inl same_entry ↦ h.clash.0 (verdict_of_entry machines is.entry (rule_parts h.first) same_entry
              ∙ sym (verdict_of_entry machines is.entry (rule_parts h.second) is.has))
          | inr lower ↦ must_clash machines lower.1 is.entry h.first h.second h.order lower.4 is.has h.clash (none lower.0 lower.2 lower.1 lower.3)
        ];
      },
    )

-- what is read of the entries
pub entry_read : (entries : List Entry) (i : ℕ) (e : Entry) → i < length entries → e ≡ get_or entries i e
    → slice_get (map entry_parts entries) i ≡ Some (entry_parts e)
entry_read entries i e lt is =
    slice_get-map entry_parts entries i ∙ ap (option_map entry_parts) (slice_get-get_or entries i e lt ∙ ap Some (sym is))

pub within : (entries : List Entry) (i : ℕ) (y : EntryParts) → slice_get (map entry_parts entries) i ≡ Some y → i < length entries
within entries i y at = let lt = slice_get_within (map entry_parts entries) i y at in omega (arith, lt, length-map entries entry_parts)

-- the place that the search for the rule's entry gives
pub chosen : (machines : List Arch) (es : List EntryParts) (ends : List ℕ) (place k : ℕ) → ends ≡ ends_after 0 machines es
    → HasClash machines es place → Some k ≡ position (λ end. nat_lt place end) ends → IsSecond machines es k
chosen machines es ends place k are h at =
    let s = second_of machines es place h in
    let same : s.0 ≡ k = same_Some s.0 k (sym s.1 ∙ ap (position (λ end. nat_lt place end)) (sym are) ∙ sym at) in
    subst (IsSecond machines es) same s.2

-- what is known of the later entry, once it is at hand
pub record IsLater (machines : List Arch) (entries : List Entry) (k : ℕ) (later : Entry) : Type 0 where
  pub second : IsSecond machines (map entry_parts entries) k
  pub inside : k < length entries
  pub at : slice_get (map entry_parts entries) k ≡ Some (entry_parts later)

pub later_of : (machines : List Arch) (entries : List Entry) (ends : List ℕ) (place k : ℕ) (later : Entry)
    → ends ≡ ends_after 0 machines (map entry_parts entries) → HasClash machines (map entry_parts entries) place
    → Some k ≡ position (λ end. nat_lt place end) ends → later ≡ get_or entries k later → IsLater machines entries k later
later_of machines entries ends place k later are h at is =
    let second = chosen machines (map entry_parts entries) ends place k are h at in
    let inside = within entries k second.y second.y_at in
    record { second = second; inside = inside; at = entry_read entries k later inside is }

pub none_chosen : (machines : List Arch) (es : List EntryParts) (ends : List ℕ) (place : ℕ) → ends ≡ ends_after 0 machines es
    → HasClash machines es place → None ≡ position (λ end. nat_lt place end) ends → ⊥
none_chosen machines es ends place are h at =
    let s = second_of machines es place h in
    let no : None ≡ Some s.0 = at ∙ ap (position (λ end. nat_lt place end)) are ∙ s.1 in
    cc

-- no entry below `first` clashes with the one at k, so k is not among those
pub before_second : (machines : List Arch) (es : List EntryParts) (k first : ℕ) (y : EntryParts) → IsSecond machines es k
    → slice_get es k ≡ Some y
    → ((j : ℕ) → j < first → (x : EntryParts) → slice_get es j ≡ Some x → NoClash machines x y) → first < k
before_second machines es k first y s at none =
    let same : y ≡ s.y = same_Some y s.y (sym at ∙ s.y_at) in
    elim (cases_Bool (nat_lt first k)) [
      | inl lower ↦ ltb-true first k lower
      | inr past ↦
          let le : k ≤ first = ltb-false first k past in
          absurd (s.must (λ j lt x x_at. subst (λ (z : EntryParts). NoClash machines x z) same (none j (omega (arith, le, lt)) x x_at)))
    ]

pub none_more : (machines : List Arch) (es : List EntryParts) (first : ℕ) (e y : EntryParts) → slice_get es first ≡ Some e
    → NoClash machines e y
    → ((j : ℕ) → j < first → (x : EntryParts) → slice_get es j ≡ Some x → NoClash machines x y) → (j : ℕ) → j < first + 1
    → (x : EntryParts) → slice_get es j ≡ Some x → NoClash machines x y
none_more machines es first e y at here before j lt x x_at =
    elim (cases_Bool (nat_lt j first)) [
      | inl lower ↦ before j (ltb-true j first lower) x x_at
      | inr past ↦
          let le : first ≤ j = ltb-false j first past in
          let place : j ≡ first = omega (arith, le, lt) in
          let same : e ≡ x = same_Some e x (sym at ∙ ap (slice_get es) (sym place) ∙ x_at) in
          subst (λ (z : EntryParts). NoClash machines z y) same here
    ]

pub past_all : (a b : ℕ) → a < b → false ≡ nat_lt a b → ⊥
past_all a b lt test = grind (arith, nat_tests)
