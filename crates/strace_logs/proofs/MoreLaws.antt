-- What a profile lets through whose rules are for calls that are named.
use Rattle.std.proofs.Common.{◌≡◌, ℕ, suc, true, false, ◌⊎◌, inl, inr, List, [], ◌∷◌, refl, ap, subst, ◌∙◌, arith}
use Rattle.std.specs.Prelude.{Option}
use Rattle.std.specs.List.{All, Contains}
use Rattle.std.proofs.lemmas.Bool.{cases_Bool}
use Rattle.std.proofs.lemmas.Bool.Decides.{not_from_Decides}
use Rattle.std.proofs.lemmas.List.Elements.{All-nil, All-cons, All-contains}
use Rattle.call_record.specs.Verdict.{Through}
use Rattle.machines.specs.declared.arch.Arch.{Arch}
use Rattle.call_tables.specs.Tables.{table_of}
use Rattle.call_tables.specs.Table.{name_in}
use Rattle.profile.specs.declared.rules.Rule.{Rule}
use Rattle.profile.specs.Rule.{Matches}
use Rattle.profile.specs.Policy.{Policy, IsNative}
use Rattle.profile.specs.Said as said
use Rattle.profile.proofs.SaidLaws.{Decides-is_native, Decides-matches}
use Rattle.strace_logs.specs.declared.lists.Runtime.{Runtime}
use Rattle.strace_logs.specs.Learned.{IsMeant, IsNamed, NoMore}

-- a rule of these matches the record, or none does
some_or_none : (rules : List Rule) (r : List ℕ)
    → ((rule : Rule) × Contains rules rule × Matches rule r) ⊎ All (λ rule. ¬ Matches rule r) rules
some_or_none [] r = inr (All-nil (λ rule. ¬ Matches rule r))
some_or_none (x ∷ xs) r = elim (cases_Bool (said.matches x r)) [
  | inl hit ↦ inl (x, (0, omega arith, refl), (Decides-matches x r).0 hit)
  | inr miss ↦ elim (some_or_none xs r) [
    | inl (rule, (k, below, is), m) ↦ inl (rule, (suc k, omega (arith, below), is), m)
    | inr none ↦ inr (All-cons (λ rule. ¬ Matches rule r) x xs (not_from_Decides _ (Decides-matches x r) miss) none)
  ]
]

-- a record that a named rule matches is meant
meant_by : (native : Arch) (texts : List (List ℕ)) (runtime : Option Runtime) (rule : Rule) (r : List ℕ) → IsNamed native texts runtime rule
    → Matches rule r → IsMeant native texts runtime r
meant_by native texts runtime rule r named m = record {
  arch = rule.arch;
  machine = m.machine;
  name = named.name;
  has = ap (λ (n : ℕ). name_in (table_of rule.arch) n) m.number ∙ named.has;
  why = named.why;
}

pub no_more : (native : Arch) (texts : List (List ℕ)) (runtime : Option Runtime) (p : Policy) → All (IsNamed native texts runtime) p.rules
    → NoMore native texts runtime p
no_more native texts runtime p named r v says through = elim (cases_Bool (said.is_native p r)) [
  | inl yes_it_is ↦
      let its : IsNative p r = (Decides-is_native p r).0 yes_it_is in
      elim (some_or_none p.rules r) [
        | inl (rule, has, m) ↦ inr (meant_by native texts runtime rule r (All-contains (IsNamed native texts runtime) p.rules rule named has) m)
        | inr none ↦ inl (says.unmatched its none)
      ]
  | inr alien ↦
      let zero_is : v ≡ 0 = says.foreign (not_from_Decides _ (Decides-is_native p r) alien) in
      let bad : false ≡ true = subst Through zero_is through in
      absurd (cc)
]
