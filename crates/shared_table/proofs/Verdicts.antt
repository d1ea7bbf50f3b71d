-- Verdicts of the filters on a way.
use Rattle.std.proofs.Common.{◌≡◌, ℕ, true, false, Option, Some, None, List, [], ◌∷◌, map, refl, ap, sym, ◌∙◌}
use Rattle.std.specs.Prelude.{◌==◌}
use Rattle.std.specs.List.{list_all}
use Rattle.std.proofs.lemmas.Bool.{and_parts}
use Rattle.bpf_insn.specs.declared.instruction.Insn.{Insn}
use Rattle.bpf_interp.specs.Fixed.{fixed_verdict, is_allow, is_fixed_allow}
use Rattle.bpf_interp.proofs.Known.{fixed_stays}
use Rattle.call_record.specs.declared.layout.Record.{Record}
use Rattle.call_record.specs.Verdict.{action, allow, strictest_of, user_notif}
use Rattle.call_record.proofs.StrictestLemmas.{strictest_of-alone}
use Rattle.processes.specs.Stores.{notifier}
use Rattle.processes.specs.Tasks.{Filter, program_judge}
use Rattle.shared_table.specs.Tree.{Way, all_allow, filters_on}

-- the verdicts of a way's filters
abbrev pub verdicts_on : Record → Way → List ℕ
verdicts_on r way = map (λ (f : Filter). f.judge.verdict r) (filters_on way)

allows_by : (p : List Insn) (r : Record) (o : Option ℕ) → fixed_verdict p r.arch r.nr ≡ o → is_allow o ≡ true
    → (action ((program_judge p).verdict r) == allow) ≡ true
allows_by p r None e h = absurd (cc)
allows_by p r (Some word) e h = rw (fixed_stays p r word e) h

allows : (p : List Insn) (r : Record) → is_fixed_allow p r.arch r.nr ≡ true → (action ((program_judge p).verdict r) == allow) ≡ true
allows p r h = allows_by p r (fixed_verdict p r.arch r.nr) refl h

each_allows : (r : Record) (way : Way) → all_allow r.arch way r.nr ≡ true → list_all (λ w. action w == allow) (verdicts_on r way) ≡ true
each_allows r [] h = refl
each_allows r (k ∷ way) h =
    let parts = and_parts (is_fixed_allow k.1 r.arch r.nr) (all_allow r.arch way r.nr) h in
    rw (allows k.1 r parts.0) (each_allows r way parts.1)

-- where each filter allows the call by its number alone, so do they all
pub allowed_at_once : (r : Record) (way : Way) → all_allow r.arch way r.nr ≡ true → allow ≡ strictest_of (verdicts_on r way)
unfolding strictest_of
allowed_at_once r way h = rw (each_allows r way h) refl

-- where no filter is left, the strictest verdict so far is that of all
pub ended : (r : Record) (way : Way) (word all : ℕ) → way ≡ [] → strictest_of (word ∷ verdicts_on r way) ≡ all
    → strictest_of (word ∷ allow ∷ []) ≡ all
ended r way word all none h = strictest_of-alone word ∙ ap (λ (w : Way). strictest_of (word ∷ verdicts_on r w)) (sym none) ∙ h

-- the filter at the front of a way notifies, or those behind it decide
pub notifier_here : (r : Record) (i : ℕ) (p : List Insn) (way : Way) → (action ((program_judge p).verdict r) == user_notif) ≡ true
    → notifier r (filters_on ((i, p) ∷ way)) ≡ Some i
notifier_here r i p way h = rw h refl

pub notifier_behind : (r : Record) (i : ℕ) (p : List Insn) (way : Way) → (action ((program_judge p).verdict r) == user_notif) ≡ false
    → notifier r (filters_on ((i, p) ∷ way)) ≡ notifier r (filters_on way)
notifier_behind r i p way h = rw h refl
