use Rattle.std.proofs.Common.{◌≡◌, ℕ, List, ◌∙◌, ◌∷◌, [], ap, subst, sym, vec_len}
use Rattle.std.specs.Prelude.{Some}
use Rattle.std.specs.List.{All}
use Rattle.std.proofs.lemmas.List.Elements.{All-nil}
use Rattle.machines.specs.declared.arch.Arch.{Arch}
use Rattle.profile.specs.Policy.{InOrder, Policy}
use Rattle.rule_compile.specs.declared.blocks.Blocks.{Blocks}
use Rattle.rule_compile.specs.inner.Noted.{AreCalls, IsKnownCall}
use Rattle.call_record.specs.Words.{IsRecord}
use Rattle.profile.specs.Said.{said}
use Rattle.bpf_insn.specs.declared.code.Operation.TheVariants.{LoadWord}
use Rattle.rule_compile.specs.Shape.{IsCallFilter}
use Rattle.rule_compile.specs.inner.Code.{insn_of, position}
use Rattle.rule_compile.specs.inner.Numbers.{IsListed}
use Rattle.rule_compile.specs.inner.Runs.{gives_from}
use Rattle.rule_compile.specs.inner.Stands.{TellsThese}
use Rattle.rule_compile.proofs.CallLaws.{apart_whole, each_listed, whole_front, whole_load, whole_one, whole_return}
use Rattle.rule_compile.specs.declared.label.Target.TheVariants.{Place}
use Rattle.rule_compile.specs.Steady.{Held, IsSteady, Nothing, Whole}
use Rattle.rule_compile.specs.inner.Steadily.{IsSteadyAt}
use Rattle.rule_compile.proofs.LoadLaws.{steady_none}
use Rattle.rule_compile.proofs.SteadyLaws.{steady_load}
use Rattle.rule_compile.proofs.TellsLaws.{on_any, on_ok, whole_loaded, whole_returns, written_none}
use Rattle.rule_compile.proofs.filter.filter.Goals as goal

pub returns-in-Place-clause-shape : goal.returns-in-Place-clause-shape
returns-in-Place-clause-shape c plain =
    let p = c.args.profile.now in
    let mid = c.tell_machines_apart.new.code in
    let to = c.in_ok-place.field-0 in
    let apart = apart_whole p c.machines-machines.result.now (vec_len c.args.blocks.now.blocks) c.args.code.now mid to
    c.machines-machines.ensures.machines c.requires.no_block c.requires.empty c.in_ok-place.ensures.apart in
    let order = c.machines-machines.ensures.is_profile.machines_in_order in
    let same = c.in_ok-begin_at-in-Place.ensures.same (whole_front p plain mid to apart order c.in-Place.place c.in-Place.is) in
    whole_load p plain mid to apart order c.in-Place.place c.load.new.self c.in-Place.is
    (c.in_ok-load-in-Place.ensures.written ∙ ap (λ code. insn_of LoadWord 4 ∷ code) same)

pub returns-clause-shape : goal.returns-clause-shape
returns-clause-shape c plain =
    let p = c.args.profile.now in
    let mid = c.tell_machines_apart.new.code in
    let to = c.in_ok-place.field-0 in
    let apart = apart_whole p c.machines-machines.result.now (vec_len c.args.blocks.now.blocks) c.args.code.now mid to
    c.machines-machines.ensures.machines c.requires.no_block c.requires.empty c.in_ok-place.ensures.apart in
    let order = c.machines-machines.ensures.is_profile.machines_in_order in
    let place = c.in_ok-place-in-Return.place in
    let new = c.near_return.new.self in
    let begun = c.begin_at-in-Return.new.self in
    let reached = c.in_ok-place-in-Return.ensures.reached in
    let filter : IsCallFilter p new = whole_return p plain mid to apart order c.in-Return.word place new c.in-Return.is reached in
    on_ok c.begin_at-in-Return.result (begun ≡ new) (IsCallFilter p begun)
    (c.begin_at-in-Return.ensures.same (whole_one p plain mid to apart order c.in-Return.word place new c.in-Return.is reached))
    (λ same. subst (IsCallFilter p) (sym same) filter)

pub returns-in-Place-clause-gives : goal.returns-in-Place-clause-gives
returns-in-Place-clause-gives c r is_r =
    let p = c.args.profile.now in
    let mid = c.tell_machines_apart.new.code in
    let to = c.in_ok-place.field-0 in
    let order = c.machines-machines.ensures.is_profile.machines_in_order in
    let clear = c.machines-machines.ensures.is_profile.clear in
    let none = written_none c.args.blocks.now.blocks.items c.args.code.now c.new-written.result.items c.new-written.ensures.items in
    let all = subst (All (IsListed p)) (sym c.machines-machines.ensures.machines) (each_listed p order) in
    let tells : TellsThese p p.machines mid to =
    subst (λ ms. TellsThese p ms mid to) c.machines-machines.ensures.machines (c.in_ok-place.ensures.tells all none) in
    whole_loaded p clear mid c.begin_at.new.self c.in-Place.place (subst (TellsThese p p.machines mid) c.in-Place.is tells)
    c.in_ok-begin_at-in-Place.ensures.runs c.load.new.self c.in_ok-load-in-Place.ensures.written r is_r

pub returns-clause-gives : goal.returns-clause-gives
returns-clause-gives c =
    let p = c.args.profile.now in
    let mid = c.tell_machines_apart.new.code in
    let to = c.in_ok-place.field-0 in
    let order = c.machines-machines.ensures.is_profile.machines_in_order in
    let clear = c.machines-machines.ensures.is_profile.clear in
    let none = written_none c.args.blocks.now.blocks.items c.args.code.now c.new-written.result.items c.new-written.ensures.items in
    let all = subst (All (IsListed p)) (sym c.machines-machines.ensures.machines) (each_listed p order) in
    let tells : TellsThese p p.machines mid to =
    subst (λ ms. TellsThese p ms mid to) c.machines-machines.ensures.machines (c.in_ok-place.ensures.tells all none) in
    let new = c.near_return.new.self in
    let begun = c.begin_at-in-Return.new.self in
    let place = c.in_ok-place-in-Return.place in
    on_ok c.begin_at-in-Return.result ((a : ℕ) (r : List ℕ) → gives_from begun 0 a r ≡ gives_from new (position new place) a r)
    ((r : List ℕ) → IsRecord r → gives_from begun 0 0 r ≡ Some (said p r)) c.begin_at-in-Return.ensures.runs
    (λ begins r is_r.
    whole_returns p clear mid new begun c.in-Return.word place (subst (TellsThese p p.machines mid) c.in-Return.is tells)
    c.in_ok-place-in-Return.ensures.reached begins r is_r)

pub returns-in-Place-clause-steady : goal.returns-in-Place-clause-steady
returns-in-Place-clause-steady c =
    let mid = c.tell_machines_apart.new.code in
    let begun = c.begin_at.new.self in
    let none = steady_none c.args.code.now c.new-written.result.items c.new-written.ensures.items in
    let at : IsSteadyAt mid (Place c.in-Place.place) Whole =
    subst (λ to. IsSteadyAt mid to Whole) c.in-Place.is (c.in_ok-place.ensures.tells_steadily none) in
    subst (λ code. IsSteady code 0 Nothing) (sym c.in_ok-load-in-Place.ensures.written)
    (steady_load 4 begun Nothing (c.in_ok-begin_at-in-Place.ensures.steady Whole at))

pub returns-clause-steady : goal.returns-clause-steady
returns-clause-steady c =
    let new = c.near_return.new.self in
    let begun = c.begin_at-in-Return.new.self in
    let place = c.in_ok-place-in-Return.place in
    on_ok c.begin_at-in-Return.result ((h : Held) → IsSteady new (position new place) h → IsSteady begun 0 h) (IsSteady begun 0 Nothing)
    c.begin_at-in-Return.ensures.steady (λ begins. begins Nothing (c.in_ok-place-in-Return.ensures.reached.steady Nothing tt))

-- the calls that are noted of all machines
all_calls : (p : Policy) (ms : List Arch) (order : InOrder p.machines) (old new : Blocks) → ms ≡ p.machines → old.calls.items ≡ []
    → (All (IsListed p) ms → AreCalls p old → AreCalls p new) → AreCalls p new
all_calls p ms order old new is none noted =
    noted (subst (All (IsListed p)) (sym is) (each_listed p order))
    (subst (All (IsKnownCall p old.blocks.items)) (sym none) (All-nil (IsKnownCall p old.blocks.items)))

pub returns-in-Place-clause-calls : goal.returns-in-Place-clause-calls
returns-in-Place-clause-calls c =
    all_calls c.args.profile.now c.machines-machines.result.now c.machines-machines.ensures.is_profile.machines_in_order c.args.blocks.now
    c.tell_machines_apart.new.blocks c.machines-machines.ensures.machines c.requires.no_call c.in_ok-place.ensures.calls

pub returns-clause-calls : goal.returns-clause-calls
returns-clause-calls c =
    let p = c.args.profile.now in
    let a = c.args.blocks.now in
    let b = c.tell_machines_apart.new.blocks in
    let all = all_calls p c.machines-machines.result.now c.machines-machines.ensures.is_profile.machines_in_order a
    b c.machines-machines.ensures.machines c.requires.no_call c.in_ok-place.ensures.calls in
    on_any c.begin_at-in-Return.result (AreCalls p b) all
