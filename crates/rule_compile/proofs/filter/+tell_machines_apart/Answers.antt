use Rattle.std.proofs.Common.{◌≡◌, ◌-◌, ◌∙◌, List, ap, drop, false, length, subst, sym, take, true, vec_len}
use Rattle.bpf_insn.specs.declared.code.Test.TheVariants.{Equal}
use Rattle.machines.specs.declared.arch.Arch.{Arch}
use Rattle.rule_compile.specs.declared.label.Exits.{Exits}
use Rattle.rule_compile.specs.declared.label.Target.TheVariants.{Place}
use Rattle.rule_compile.specs.declared.blocks.Blocks.{Blocks}
use Rattle.rule_compile.specs.Shape.{IsPlain, has_token}
use Rattle.rule_compile.specs.inner.Calls.{Apart, CallsOf}
use Rattle.rule_compile.specs.inner.Goes.{Branches}
use Rattle.rule_compile.proofs.CallLaws.{apart_branch, apart_shared, apart_skip, calls_count}
use Rattle.rule_compile.proofs.PlanLaws.{head_parts, listed_first, others_listed}
use Rattle.std.specs.List.{All}
use Rattle.std.proofs.lemmas.List.Elements.{All-head, All-tail}
use Rattle.rule_compile.specs.inner.Numbers.{IsListed}
use Rattle.rule_compile.specs.inner.Stands.{TellsThese}
use Rattle.rule_compile.specs.Steady.{Whole}
use Rattle.rule_compile.specs.inner.Steadily.{IsSteadyAt}
use Rattle.rule_compile.proofs.LoadLaws.{start_steady}
use Rattle.rule_compile.proofs.SteadyLaws.{are_steady_kept, steady_kept}
use Rattle.rule_compile.proofs.TellsLaws.{tells_branch, tells_shared, tells_skip, written_grows}
use Rattle.rule_compile.proofs.filter.+tell_machines_apart.Goals as goal

pub returns-then-has_token-clause-apart : goal.returns-then-has_token-clause-apart
returns-then-has_token-clause-apart t c =
    let p = c.args.profile.now in
    let old = c.args.code.now in
    let ms = c.args.machines.now in
    let archs : List Arch = take (length ms - 1) (drop 1 ms) in
    let count = vec_len c.args.blocks.now.blocks in
    let mid = c.tell_machines_apart.new.code in
    let shared : has_token c.token.result archs ≡ true = sym c.has_token.ensures ∙ c.if-has_token.true in
    subst (λ all. Apart p all count old mid c.in_ok-no.no) (sym (head_parts ms _ c.in-len1-up.len_at_least))
    (apart_shared p _ archs count old mid c.in_ok-no.no (subst (λ n. has_token n archs ≡ true) c.token.ensures shared)
    c.in_ok-no.ensures.apart)

pub returns-then-has_token-clause-tells : goal.returns-then-has_token-clause-tells
returns-then-has_token-clause-tells t c all wr =
    let p = c.args.profile.now in
    let ms = c.args.machines.now in
    let archs : List Arch = take (length ms - 1) (drop 1 ms) in
    let mid = c.tell_machines_apart.new.code in
    let parts = head_parts ms _ c.in-len1-up.len_at_least in
    let listed = subst (All (IsListed p)) parts all in
    let shared : has_token c.token.result archs ≡ true = sym c.has_token.ensures ∙ c.if-has_token.true in
    subst (λ all. TellsThese p all mid c.in_ok-no.no) (sym parts)
    (tells_shared p _ archs mid c.in_ok-no.no (subst (λ n. has_token n archs ≡ true) c.token.ensures shared)
    (c.in_ok-no.ensures.tells (All-tail (IsListed p) _ archs listed) wr))

pub returns-then-has_token-clause-calls : goal.returns-then-has_token-clause-calls
returns-then-has_token-clause-calls t c all noted =
    c.in_ok-no.ensures.calls (others_listed c.args.profile.now c.args.machines.now c.in-len1-up.len_at_least all) noted

pub returns-in-None-clause-apart : goal.returns-in-None-clause-apart
returns-in-None-clause-apart t c =
    let p = c.args.profile.now in
    let old = c.args.code.now in
    let ms = c.args.machines.now in
    let archs : List Arch = take (length ms - 1) (drop 1 ms) in
    let count = vec_len c.args.blocks.now.blocks in
    let same : IsPlain p → vec_len c.tell_machines_apart.new.blocks.blocks ≡ count = λ plain. ap (λ
    (blocks : Blocks). vec_len blocks.blocks) (c.in_ok-no.ensures.no_block plain) in
    let new_token : has_token c.token.result archs ≡ false = sym c.has_token.ensures ∙ c.if-has_token.false in
    subst (λ all. Apart p all count old c.calls_of.new.code c.in_ok-no.no) (sym (head_parts ms _ c.in-len1-up.len_at_least))
    (apart_skip p _ archs count old c.tell_machines_apart.new.code c.calls_of.new.code
    (λ others all. listed_first p _ others all) (subst (λ n. has_token n archs ≡ false) c.token.ensures new_token) c.in_ok-no.no
    c.in_ok-calls_of.field-0 c.in_ok-no.ensures.apart
    (calls_count p _ count _ c.tell_machines_apart.new.code c.calls_of.new.code c.in_ok-calls_of.field-0
    c.in_ok-calls_of.ensures.calls same) c.in-None.ensures)

pub returns-in_ok-start-in-Some-clause-apart : goal.returns-in_ok-start-in-Some-clause-apart
returns-in_ok-start-in-Some-clause-apart t c =
    let p = c.args.profile.now in
    let old = c.args.code.now in
    let ms = c.args.machines.now in
    let archs : List Arch = take (length ms - 1) (drop 1 ms) in
    let count = vec_len c.args.blocks.now.blocks in
    let same : IsPlain p → vec_len c.tell_machines_apart.new.blocks.blocks ≡ count = λ plain. ap (λ
    (blocks : Blocks). vec_len blocks.blocks) (c.in_ok-no.ensures.no_block plain) in
    let mid = c.tell_machines_apart.new.code in
    let top = c.calls_of.new.code in
    let new = c.branch-code.new.self in
    let exits : Exits = record { yes = c.in-Some.yes; no = c.in_ok-no.no } in
    let new_token : has_token c.token.result archs ≡ false = sym c.has_token.ensures ∙ c.if-has_token.false in
    subst (λ all. Apart p all count old new (Place c.in_ok-start-in-Some.start)) (sym (head_parts ms _ c.in-len1-up.len_at_least))
    (apart_branch p _ archs count old mid top (λ others all. listed_first p _ others all)
    (subst (λ n. has_token n archs ≡ false) c.token.ensures new_token) new exits c.in_ok-start-in-Some.start
    c.in_ok-no.ensures.apart
    (subst (CallsOf p _ count mid top) (sym c.in-Some.ensures)
    (calls_count p _ count _ mid top c.in_ok-calls_of.field-0 c.in_ok-calls_of.ensures.calls same))
    (subst (λ k. Branches top new Equal k exits) c.token-in-Some.ensures c.in_ok-start-in-Some.ensures.written)
    c.in_ok-start-in-Some.ensures.start)

pub returns-in-None-clause-tells : goal.returns-in-None-clause-tells
returns-in-None-clause-tells t c all wr =
    let p = c.args.profile.now in
    let ms = c.args.machines.now in
    let archs : List Arch = take (length ms - 1) (drop 1 ms) in
    let mid = c.tell_machines_apart.new.code in
    let top = c.calls_of.new.code in
    let parts = head_parts ms _ c.in-len1-up.len_at_least in
    let listed = subst (All (IsListed p)) parts all in
    let others = c.in_ok-no.ensures.tells (All-tail (IsListed p) _ archs listed) wr in
    let own = c.in_ok-calls_of.ensures.tells (All-head (IsListed p) _ archs listed) (c.in_ok-no.ensures.written wr) in
    subst (λ all. TellsThese p all top c.in_ok-no.no) (sym parts)
    (tells_skip p _ archs mid top c.in_ok-calls_of.ensures.calls.grows c.in_ok-no.no c.in_ok-calls_of.field-0 c.in_ok-no.ensures.apart.placed
    others own c.in-None.ensures)

pub returns-in_ok-start-in-Some-clause-tells : goal.returns-in_ok-start-in-Some-clause-tells
returns-in_ok-start-in-Some-clause-tells t c all wr =
    let p = c.args.profile.now in
    let ms = c.args.machines.now in
    let archs : List Arch = take (length ms - 1) (drop 1 ms) in
    let mid = c.tell_machines_apart.new.code in
    let top = c.calls_of.new.code in
    let new = c.branch-code.new.self in
    let exits : Exits = record { yes = c.in-Some.yes; no = c.in_ok-no.no } in
    let parts = head_parts ms _ c.in-len1-up.len_at_least in
    let listed = subst (All (IsListed p)) parts all in
    let others = c.in_ok-no.ensures.tells (All-tail (IsListed p) _ archs listed) wr in
    let own = c.in_ok-calls_of.ensures.tells (All-head (IsListed p) _ archs listed) (c.in_ok-no.ensures.written wr) in
    subst (λ all. TellsThese p all new (Place c.in_ok-start-in-Some.start)) (sym parts)
    (tells_branch p _ archs mid top c.in_ok-calls_of.ensures.calls.grows c.in_ok-no.no c.in_ok-calls_of.field-0
    c.in_ok-no.ensures.apart.placed others own new c.in-Some.yes c.in_ok-start-in-Some.start c.in-Some.ensures
    (subst (λ k. Branches top new Equal k exits) c.token-in-Some.ensures c.in_ok-start-in-Some.ensures.written)
    c.in_ok-start-in-Some.ensures.start)

pub returns-in_ok-start-in-Some-clause-written : goal.returns-in_ok-start-in-Some-clause-written
returns-in_ok-start-in-Some-clause-written t c wr =
    written_grows c.calls_of.new.blocks.blocks.items c.calls_of.new.code c.branch-code.new.self c.calls_of.new.written.items
    c.in_ok-start-in-Some.ensures.written.grows (c.in_ok-calls_of.ensures.written (c.in_ok-no.ensures.written wr))

pub returns-in_ok-start-in-Some-clause-steady : goal.returns-in_ok-start-in-Some-clause-steady
returns-in_ok-start-in-Some-clause-steady t c steady =
    are_steady_kept c.calls_of.new.code c.branch-code.new.self c.in_ok-start-in-Some.ensures.written.grows c.calls_of.new.written.items
    c.in_ok-calls_of.ensures.placed (c.in_ok-calls_of.ensures.steady (c.in_ok-no.ensures.steady steady))

pub returns-in-None-clause-tells_steadily : goal.returns-in-None-clause-tells_steadily
returns-in-None-clause-tells_steadily t c steady =
    steady_kept c.tell_machines_apart.new.code c.calls_of.new.code c.in_ok-calls_of.ensures.calls.grows c.in_ok-no.no
    c.in_ok-no.ensures.apart.placed Whole (c.in_ok-no.ensures.tells_steadily steady)

pub returns-in_ok-start-in-Some-clause-tells_steadily : goal.returns-in_ok-start-in-Some-clause-tells_steadily
returns-in_ok-start-in-Some-clause-tells_steadily t c steady =
    let mid = c.tell_machines_apart.new.code in
    let top = c.calls_of.new.code in
    let own = c.in_ok-calls_of.ensures.always (c.in_ok-no.ensures.steady steady) Whole in
    start_steady c.branch-code.new.self c.in_ok-start-in-Some.start c.in_ok-start-in-Some.ensures.start Whole
    (c.in_ok-start-in-Some.ensures.written.steady Whole tt
    (subst (λ to. IsSteadyAt top to Whole) (sym c.in-Some.ensures) own)
    (steady_kept mid top c.in_ok-calls_of.ensures.calls.grows c.in_ok-no.no c.in_ok-no.ensures.apart.placed Whole
    (c.in_ok-no.ensures.tells_steadily steady)))

pub returns-in-None-clause-calls : goal.returns-in-None-clause-calls
returns-in-None-clause-calls t c all noted =
    let p = c.args.profile.now in
    let ms = c.args.machines.now in
    let archs : List Arch = take (length ms - 1) (drop 1 ms) in
    let listed = subst (All (IsListed p)) (head_parts ms _ c.in-len1-up.len_at_least) all in
    c.in_ok-calls_of.ensures.noted (All-head (IsListed p) _ archs listed)
    (c.in_ok-no.ensures.calls (All-tail (IsListed p) _ archs listed) noted)

pub returns-in_ok-start-in-Some-clause-calls : goal.returns-in_ok-start-in-Some-clause-calls
returns-in_ok-start-in-Some-clause-calls t c all noted =
    let p = c.args.profile.now in
    let ms = c.args.machines.now in
    let archs : List Arch = take (length ms - 1) (drop 1 ms) in
    let listed = subst (All (IsListed p)) (head_parts ms _ c.in-len1-up.len_at_least) all in
    c.in_ok-calls_of.ensures.noted (All-head (IsListed p) _ archs listed)
    (c.in_ok-no.ensures.calls (All-tail (IsListed p) _ archs listed) noted)
