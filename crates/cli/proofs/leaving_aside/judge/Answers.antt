use Rattle.std.proofs.Common.{◌≡◌, ◌⊎◌, List, [], inr, refl, subst, sym}
use Rattle.std.specs.Prelude.{Ok}
use Rattle.maker.specs.declared.evidence.evidence.Counterexample.{Counterexample}
use Rattle.maker.specs.declared.evidence.evidence.Evidence.TheVariants.{Refuting}
use Rattle.aside.specs.Judged.{stub_calls}
use Rattle.aside.specs.Told.{AreFoundBut}
use Rattle.cli.proofs.ButLaws.{found_only}
use Rattle.cli.proofs.leaving_aside.judge.Goals as goal

pub returns-in-Err-clause-written : goal.returns-in-Err-clause-written
returns-in-Err-clause-written g c = inr (refl, refl)

pub returns-in-Err-judge_but-clause-written : goal.returns-in-Err-judge_but-clause-written
returns-in-Err-judge_but-clause-written g c = inr (refl, refl)

pub returns-in-Err-stub_lines-clause-written : goal.returns-in-Err-stub_lines-clause-written
returns-in-Err-stub_lines-clause-written g c = inr (refl, refl)

pub returns-in-Err-all_of-clause-written : goal.returns-in-Err-all_of-clause-written
returns-in-Err-all_of-clause-written g c = inr (refl, refl)

pub returns-in-Err-write_found-clause-written : goal.returns-in-Err-write_found-clause-written
returns-in-Err-write_found-clause-written g c =
    let but = c.in-Ok-judge_but.but in
    let answered = c.in-Ok.behind.answered.items in
    let Found : List Counterexample → Type 0 =
    λ all. (all ≡ []) ⊎ ((found : Counterexample)
    × AreFoundBut c.args.document.now.native c.args.document.now.bytes c.args.filter.now (stub_calls but.judged.whole answered) but.aside.items found all) in
    (rw c.native-native.ensures at c.in-Err-write_found.ensures) c.args.document.now.bytes c.args.filter.now c.in-Ok.behind.rest.now answered c.args.leave c.in-Ok.ensures
    c.in-Ok-judge_but.ensures
    (subst Found (sym c.deref.ensures.value)
    (found_only c.args.document.now.native c.args.document.now.bytes c.args.filter.now (stub_calls but.judged.whole answered) but.aside.items
    (λ found. but.judged.evidence ≡ Ok (Refuting found)) c.in-Ok-all_of.all.items c.in-Ok-all_of.ensures))

pub returns-then-is_quiet-clause-written : goal.returns-then-is_quiet-clause-written
returns-then-is_quiet-clause-written g c =
    let but = c.in-Ok-judge_but.but in
    let answered = c.in-Ok.behind.answered.items in
    let Found : List Counterexample → Type 0 =
    λ all. (all ≡ []) ⊎ ((found : Counterexample)
    × AreFoundBut c.args.document.now.native c.args.document.now.bytes c.args.filter.now (stub_calls but.judged.whole answered) but.aside.items found all) in
    (rw c.native-native.ensures at c.in-Ok-write_found.ensures) c.args.document.now.bytes c.args.filter.now c.in-Ok.behind.rest.now answered c.args.leave c.in-Ok.ensures
    c.in-Ok-judge_but.ensures
    (subst Found (sym c.deref.ensures.value)
    (found_only c.args.document.now.native c.args.document.now.bytes c.args.filter.now (stub_calls but.judged.whole answered) but.aside.items
    (λ found. but.judged.evidence ≡ Ok (Refuting found)) c.in-Ok-all_of.all.items c.in-Ok-all_of.ensures))

pub returns-clause-written : goal.returns-clause-written
returns-clause-written g c =
    let but = c.in-Ok-judge_but.but in
    let answered = c.in-Ok.behind.answered.items in
    let Found : List Counterexample → Type 0 =
    λ all. (all ≡ []) ⊎ ((found : Counterexample)
    × AreFoundBut c.args.document.now.native c.args.document.now.bytes c.args.filter.now (stub_calls but.judged.whole answered) but.aside.items found all) in
    (rw c.native-native.ensures at c.in-Ok-write_found.ensures) c.args.document.now.bytes c.args.filter.now c.in-Ok.behind.rest.now answered c.args.leave c.in-Ok.ensures
    c.in-Ok-judge_but.ensures
    (subst Found (sym c.deref.ensures.value)
    (found_only c.args.document.now.native c.args.document.now.bytes c.args.filter.now (stub_calls but.judged.whole answered) but.aside.items
    (λ found. but.judged.evidence ≡ Ok (Refuting found)) c.in-Ok-all_of.all.items c.in-Ok-all_of.ensures))
