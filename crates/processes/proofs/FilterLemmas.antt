-- The filters that the code keeps, as the kernel's.
use Rattle.std.proofs.Common.{◌≡◌, ℕ, zero, suc, ◌+◌, ◌-◌, ◌≤◌, List, [], ◌∷◌, length, map, drop, take, reverse, refl, sym, ap, ◌∙◌, arith}
use Rattle.std.specs.Prelude.{fold, nat_eq}
use Rattle.std.specs.Cmp.Lexicographic.{pointwise}
use Rattle.std.proofs.lemmas.Grind.{reverse_onto}
use Rattle.std.proofs.lemmas.List.{take_all, length-drop}
use Rattle.std.proofs.lemmas.List.Sums.{fold-append, sum_by-cons}
use Rattle.call_record.specs.Verdict.{allow, strictest_of}
use Rattle.call_record.proofs.StrictestLemmas.{strictest_of-cons}
use Rattle.processes.specs.declared.filters.Loaded.{Loaded}
use Rattle.processes.specs.Kernel.{is_oldest_part}
use Rattle.processes.specs.Stores.{size_beside}
use Rattle.processes.specs.Tasks.{Filter}
use Rattle.processes.specs.inner.Loads.{filter_of, filters_of, loads_of, total_size}
use Rattle.call_record.specs.declared.layout.Record.{Record}

-- there are no more filters than instructions that they count for
pub few : (fs : List Loaded) → length fs ≤ total_size fs
few [] = omega arith
few (f ∷ fs) =
    let rest : length fs ≤ total_size fs = few fs in
    let e : total_size (f ∷ fs) ≡ length f.program + 4 + total_size fs = sum_by-cons (λ (g : Loaded). length g.program + 4) f fs in omega arith

-- the verdicts taken one after the other, from the oldest filter on
pub fold_verdicts : (word : Loaded → ℕ) (fs : List Loaded) → fold (λ older f. strictest_of (word f ∷ older ∷ [])) allow (reverse fs)
    ≡ strictest_of (map word fs)
unfolding strictest_of
fold_verdicts word [] = refl
fold_verdicts word (f ∷ fs) =
    ap (fold (λ older g. strictest_of (word g ∷ older ∷ [])) allow) (reverse_onto fs f [])
    ∙ (fold-append (λ older g. strictest_of (word g ∷ older ∷ [])) allow (reverse fs) (f ∷ [])
    ∙ (ap (λ older. strictest_of (word f ∷ older ∷ [])) (fold_verdicts word fs)
    ∙ sym (strictest_of-cons (word f) (map word fs))))

pub verdicts_seen : (r : Record) (fs : List Loaded) → map (λ f. (filter_of f).judge.verdict r) fs ≡ map (λ f. f.judge.verdict r) (filters_of fs)
verdicts_seen r [] = refl
verdicts_seen r (f ∷ fs) = ap (λ ws. (filter_of f).judge.verdict r ∷ ws) (verdicts_seen r fs)

drop_loads : (k : ℕ) (fs : List Loaded) → loads_of (drop k fs) ≡ drop k (loads_of fs)
drop_loads zero fs = refl
drop_loads (suc k) [] = refl
drop_loads (suc k) (f ∷ fs) = drop_loads k fs

how_many : (fs : List Loaded) → length (loads_of fs) ≡ length fs
how_many [] = refl
how_many (f ∷ fs) = let rest : length (loads_of fs) ≡ length fs = how_many fs in omega arith

-- the load numbers that are left of the newer are those of what is left
pub oldest_part : (older newer : List Loaded) (k : ℕ) → k ≡ length newer - length older
    → pointwise nat_eq (loads_of older) (loads_of (take (length newer - k) (drop k newer)))
    ≡ is_oldest_part (loads_of older) (loads_of newer)
oldest_part older newer k h =
    let a : length (loads_of newer) ≡ length newer = how_many newer in
    let b : length (loads_of older) ≡ length older = how_many older in
    let e : k ≡ length (loads_of newer) - length (loads_of older) = omega arith in
    let whole : take (length newer - k) (drop k newer)
    ≡ drop k newer = take_all (length newer - k) (drop k newer) (omega (arith, length-drop k newer)) in
    ap (λ loads. pointwise nat_eq (loads_of older) loads) (ap loads_of whole ∙ (drop_loads k newer ∙ ap (λ m. drop m (loads_of newer)) e))

-- what the store says of the filters is what the lists have
pub loads_seen : (fs : List Loaded) → map (λ f. f.load) (filters_of fs) ≡ loads_of fs
loads_seen [] = refl
loads_seen (f ∷ fs) = ap (λ ns. f.load ∷ ns) (loads_seen fs)

pub size_seen : (fs : List Loaded) → size_beside (filters_of fs) ≡ total_size fs
size_seen [] = refl
size_seen (f ∷ fs) =
    sum_by-cons (λ (g : Filter). g.judge.count + 4) (filter_of f) (filters_of fs)
    ∙ (ap (λ n. length f.program + 4 + n) (size_seen fs) ∙ sym (sum_by-cons (λ (g : Loaded). length g.program + 4) f fs))
