use Rattle.std.proofs.Common.{◌≡◌, ◌+◌, ◌<◌, ◌≤◌, Some, None, false, true, length, refl, sym, ◌∙◌, ap, arith}
use Rattle.std.specs.Prelude.{find, option_map}
use Rattle.std.proofs.lemmas.Option.{get_or_from_slice_get}
use Rattle.kernel_check.specs.Lent.{accepted_insns}
use Rattle.processes.specs.Kernel.{conflicts}
use Rattle.processes.specs.Table.{processes_of}
use Rattle.processes.specs.Stores.{size_beside}
use Rattle.processes.specs.Kept.{all_of, process_of}
use Rattle.processes.proofs.LoadLemmas.{is_not, is_so, load_big, load_conflict, load_group, load_own}
use Rattle.std.proofs.lemmas.Result.{IfOk-weaker}
use Rattle.processes.proofs.container.Container.load_program.Goals as goal

pub overflow_add-size : goal.overflow_add-size
overflow_add-size g c = omega arith

pub returns-then-size-gt-MOST_INSNS-clause-ok : goal.returns-then-size-gt-MOST_INSNS-clause-ok
returns-then-size-gt-MOST_INSNS-clause-ok g c = λ t h.
    let seen = g.S.Store.filters_of c.args.self.now.store in
    let caller : c.index-caller.result.now ≡ t = c.index-caller.ensures
    ∙ get_or_from_slice_get c.args.self.now.tasks.items c.args.at t c.index-caller.result.now h in
    let count : c.len.result ≡ length (accepted_insns c.args.program.now) = rw c.program.ensures.same at c.len.ensures.count in
    let size : c.size.result ≡ size_beside (seen t.filters) = rw caller at c.size.ensures.size in
    let big : 32768 < length (accepted_insns c.args.program.now) + size_beside (seen t.filters) = omega arith in
    sym (load_big c.args.how (accepted_insns c.args.program.now) (process_of seen t) (processes_of c.args.self.now) big)

pub add_filter-requires-clause-size : goal.add_filter-requires-clause-size
add_filter-requires-clause-size g c = λ t h.
    let seen = g.S.Store.filters_of c.args.self.now.store in
    let caller : c.index-caller.result.now ≡ t = c.index-caller.ensures
    ∙ get_or_from_slice_get c.args.self.now.tasks.items c.args.at t c.index-caller.result.now h in
    let count : c.len.result ≡ length (accepted_insns c.args.program.now) = rw c.program.ensures.same at c.len.ensures.count in
    let size : c.size.result ≡ size_beside (seen t.filters) = rw caller at c.size.ensures.size in
    omega arith

pub add_filter-requires-2-clause-size : goal.add_filter-requires-2-clause-size
add_filter-requires-2-clause-size g c = λ t h.
    let seen = g.S.Store.filters_of c.args.self.now.store in
    let caller : c.index-caller.result.now ≡ t = c.index-caller.ensures
    ∙ get_or_from_slice_get c.args.self.now.tasks.items c.args.at t c.index-caller.result.now h in
    let count : c.len.result ≡ length (accepted_insns c.args.program.now) = rw c.program.ensures.same at c.len.ensures.count in
    let size : c.size.result ≡ size_beside (seen t.filters) = rw caller at c.size.ensures.size in
    omega arith

pub returns-then-not-how-clause-ok : goal.returns-then-not-how-clause-ok
returns-then-not-how-clause-ok g c =
    let seen = g.S.Store.filters_of c.args.self.now.store in
    IfOk-weaker c.add_filter.result _ _
    (λ o kept t h.
    let caller : c.index-caller.result.now ≡ t = c.index-caller.ensures
    ∙ get_or_from_slice_get c.args.self.now.tasks.items c.args.at t c.index-caller.result.now h in
    let count : c.len.result ≡ length (accepted_insns c.args.program.now) = rw c.program.ensures.same at c.len.ensures.count in
    let size : c.size.result ≡ size_beside (seen t.filters) = rw caller at c.size.ensures.size in
    let small : length (accepted_insns c.args.program.now) + size_beside (seen t.filters) ≤ 32768 = omega arith in
    let less : g.S.Store.loads_of c.args.self.now.store < 4294967295 = omega (arith, c.loads.ensures) in
    let alone : c.args.how.for_all ≡ false = is_not c.args.how.for_all c.if-not-how.true in
    let ps = processes_of c.args.self.now in
    let program = accepted_insns c.args.program.now in
    kept t h (λ u. rw (c.from-number.ensures, caller, alone) refl)
    ∙ sym (load_own c.args.how program (process_of seen t) ps small less alone))
    c.add_filter.ensures.ok

pub returns-in-Some-clause-ok : goal.returns-in-Some-clause-ok
returns-in-Some-clause-ok g c = λ t h.
    let seen = g.S.Store.filters_of c.args.self.now.store in
    let caller : c.index-caller.result.now ≡ t = c.index-caller.ensures
    ∙ get_or_from_slice_get c.args.self.now.tasks.items c.args.at t c.index-caller.result.now h in
    let count : c.len.result ≡ length (accepted_insns c.args.program.now) = rw c.program.ensures.same at c.len.ensures.count in
    let size : c.size.result ≡ size_beside (seen t.filters) = rw caller at c.size.ensures.size in
    let small : length (accepted_insns c.args.program.now) + size_beside (seen t.filters) ≤ 32768 = omega arith in
    let less : g.S.Store.loads_of c.args.self.now.store < 4294967295 = omega (arith, c.loads.ensures) in
    let all : c.args.how.for_all ≡ true = is_so c.args.how.for_all c.if-not-how.false in
    let ps = processes_of c.args.self.now in
    let program = accepted_insns c.args.program.now in
    let found : option_map (λ u. u.number) (find (conflicts (process_of seen t)) (all_of seen c.args.self.now.tasks.items))
    ≡ Some c.in-Some.number =
    rw (caller, c.deref.ensures.value) at (sym c.first_conflict.ensures ∙ c.in-Some.is) in
    rw c.conflict_answer.ensures (sym (load_conflict c.args.how program (process_of seen t) ps c.in-Some.number small less all found))

pub returns-clause-ok : goal.returns-clause-ok
returns-clause-ok g c =
    let seen = g.S.Store.filters_of c.args.self.now.store in
    IfOk-weaker c.add_filter-2.result _ _
    (λ o kept t h.
    let caller : c.index-caller.result.now ≡ t = c.index-caller.ensures
    ∙ get_or_from_slice_get c.args.self.now.tasks.items c.args.at t c.index-caller.result.now h in
    let count : c.len.result ≡ length (accepted_insns c.args.program.now) = rw c.program.ensures.same at c.len.ensures.count in
    let size : c.size.result ≡ size_beside (seen t.filters) = rw caller at c.size.ensures.size in
    let small : length (accepted_insns c.args.program.now) + size_beside (seen t.filters) ≤ 32768 = omega arith in
    let less : g.S.Store.loads_of c.args.self.now.store < 4294967295 = omega (arith, c.loads.ensures) in
    let all : c.args.how.for_all ≡ true = is_so c.args.how.for_all c.if-not-how.false in
    let ps = processes_of c.args.self.now in
    let program = accepted_insns c.args.program.now in
    let none : option_map (λ u. u.number) (find (conflicts (process_of seen t)) (all_of seen c.args.self.now.tasks.items)) ≡ None =
    rw (caller, c.deref.ensures.value) at (sym c.first_conflict.ensures ∙ c.in_default.is) in
    kept t h (λ u. rw (c.from-group.ensures, caller, all) refl)
    ∙ sym (load_group c.args.how program (process_of seen t) ps small less all none))
    c.add_filter-2.ensures.ok
